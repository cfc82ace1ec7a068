-- Printed names that are a name, `[`, digits and `]`.
use Rattle.std.proofs.Common.{◌≡◌, ◌∙◌, ◌≢◌, ℕ, zero, suc, ◌+◌, ◌-◌, ◌<◌, ◌≤◌, ◌&&◌, min, Bool, true, false, not, sym, refl, ap, arith, ⊎_elim, List, [], ◌∷◌, ◌++◌, length, take, drop, get_or, nat_le}
use Rattle.std.specs.Char.{is_ascii_digit}
use Rattle.std.specs.List.{list_all}
use Rattle.std.specs.Str.{all_ascii_digits, bytes_eq}
use Rattle.std.proofs.lemmas.Bool.Decides.{leb_tells, same_from_decides}
use Rattle.std.proofs.lemmas.List.{get_or-drop, get_or-take, length-append, length-drop, length-take, length-take-le, take-take, take_more}
use Rattle.std.proofs.Math.Seq.{get_or-append_seam, take-append_seam}
use Rattle.std.proofs.lemmas.Slice.Eq.{bytes_eq-Decides}
use Rattle.table_fields.specs.Records.{is_empty, is_number}
use Rattle.env_table.specs.Names.{is_bit_of, is_place}

-- the test of digits goes over all elements
pub digits_all : (text : List ℕ) → list_all is_ascii_digit text ≡ all_ascii_digits text
digits_all [] = refl
digits_all (byte ∷ text) = ap (λ b. is_ascii_digit byte && b) (digits_all text)

pub and_first : (a b : Bool) → (a && b) ≡ true → a ≡ true
and_first true b e = refl
and_first false b e = cc

pub and_second : (a b : Bool) → (a && b) ≡ true → b ≡ true
and_second true b e = e
and_second false b e = cc

-- a name and `[` stand at the beginning of a text
abbrev begins_with : List ℕ → List ℕ → Bool
begins_with text name = bytes_eq (take (length name + 1) text) (name ++ 91 ∷ [])

-- what follows them
abbrev behind : List ℕ → List ℕ → List ℕ
behind text name = drop (length name + 1) text

digit_at : (text : List ℕ) (i : ℕ) → all_ascii_digits text ≡ true → i < length text → is_ascii_digit (get_or text i 0) ≡ true
digit_at [] i e less = absurd (omega arith)
digit_at (byte ∷ text) zero e less = and_first (is_ascii_digit byte) (all_ascii_digits text) e
digit_at (byte ∷ text) (suc i) e less = digit_at text i (and_second (is_ascii_digit byte) (all_ascii_digits text) e) (omega arith)

no_digit : (byte : ℕ) → byte ≡ 91 → is_ascii_digit byte ≢ true
no_digit byte is e = let wrong : is_ascii_digit 91 ≡ true = ap is_ascii_digit (sym is) ∙ e in cc

-- no `[` stands in digits and `]`
no_open : (text : List ℕ) (i : ℕ) → is_place text ≡ true → i < length text → get_or text i 0 ≢ 91
no_open text i e less is = ⊎_elim at_end before (leb_tells (length text - 1) i)
  where
    front : List ℕ
    front = take (length text - 1) text

    ended : Bool
    ended = bytes_eq (drop (length text - 1) text) (93 ∷ [])

    digits : all_ascii_digits front ≡ true
    digits = and_second (not (is_empty front)) (all_ascii_digits front) (and_first (is_number front) ended e)

    last : drop (length text - 1) text ≡ 93 ∷ []
    last = (bytes_eq-Decides (drop (length text - 1) text) (93 ∷ [])).0 (and_second (is_number front) ended e)

    at_end : (nat_le (length text - 1) i ≡ true) × (length text - 1 ≤ i) → ⊥
    at_end (_, late) =
        let here : get_or (drop (length text - 1) text) 0 0 ≡ 93 = ap (λ (xs : List ℕ). get_or xs 0 0) last in
        let place : length text - 1 + 0 ≡ i = omega arith in
        let same : get_or (drop (length text - 1) text) 0 0 ≡ get_or text i 0 = get_or-drop (length text - 1) text 0 0 ∙ ap (λ n. get_or text n 0) place in
        omega (arith, here, same, is)

    before : (nat_le (length text - 1) i ≡ false) × (i < length text - 1) → ⊥
    before (_, early) =
        let few : length (take (length text - 1) text) ≡ length text - 1 = length-take-le (length text - 1) text (omega arith) in
        let digit = digit_at (take (length text - 1) text) i digits (omega (arith, few)) in
        no_digit (get_or (take (length text - 1) text) i 0) (get_or-take (length text - 1) text i 0 early ∙ is) digit

-- a name and `[` stand at the beginning of a text
begins : (text name : List ℕ) → bytes_eq (take (length name + 1) text) (name ++ 91 ∷ []) ≡ true
    → (length name < length text) × (get_or text (length name) 0 ≡ 91) × (name ≡ take (length name) text)
begins text name e =
    let same : take (length name + 1) text ≡ name ++ 91 ∷ [] = (bytes_eq-Decides (take (length name + 1) text) (name ++ 91 ∷ [])).0 e in
    let long : min (length name + 1) (length text) ≡ length name + 1 = sym (length-take (length name + 1) text) ∙ (ap length same ∙ length-append name (91 ∷ [])) in (
      omega (arith, long),
      sym (get_or-take (length name + 1) text (length name) 0 (omega arith)) ∙ (ap (λ xs. get_or xs (length name) 0) same ∙ get_or-append_seam name 91 [] 0),
      sym (sym (take-take (length name) (length name + 1) text (omega arith)) ∙ (ap (take (length name)) same ∙ take-append_seam name (91 ∷ []))),
    )

-- without a `[` nothing is a bit
pub no_bit : (text name : List ℕ) → ((i : ℕ) → i < length text → get_or text i 0 ≢ 91) → is_bit_of name text ≡ false
unfolding is_bit_of
no_bit text name none = go (is_bit_of name text) refl
  where
    go : (b : Bool) → is_bit_of name text ≡ b → b ≡ false
    go true is = let (there, opens, _) = begins text name (and_first (begins_with text name) (is_place (behind text name)) is) in absurd (none (length name) there opens)
    go false is = refl

-- where `[` stands last, the name before it is the one whose bit the text may be
last_open : (text name : List ℕ) (k : ℕ) → k < length text → get_or text k 0 ≡ 91 → ((i : ℕ) → k < i → i < length text → get_or text i 0 ≢ 91)
    → is_bit_of name text ≡ true → name ≡ take k text
unfolding is_bit_of
last_open text name k there opens after e =
    let (less, first, same) = begins text name (and_first (begins_with text name) (is_place (behind text name)) e) in
    let rest : is_place (drop (length name + 1) text) ≡ true = and_second (begins_with text name) (is_place (behind text name)) e in
    ⊎_elim
    (λ (_, low). ⊎_elim
    (λ (_, high). let at : length name ≡ k = omega arith in same ∙ ap (λ n. take n text) at)
    (λ (_, early).
    let long : length (drop (length name + 1) text) ≡ length text - (length name + 1) = length-drop (length name + 1) text in
    let place : length name + 1 + (k - (length name + 1)) ≡ k = omega arith in
    absurd (no_open (drop (length name + 1) text) (k - (length name + 1)) rest (omega (arith, long)) (get_or-drop (length name + 1) text (k - (length name + 1)) 0 ∙ (ap (λ n. get_or text n 0) place ∙ opens))))
    (leb_tells k (length name)))
    (λ (_, late). absurd (after (length name) late less first))
    (leb_tells (length name) k)

-- what stands in front of the last `[` is a name whose bit the text is, where a place follows it, and the only one
pub bit_where_open : (text name : List ℕ) (k : ℕ) → k < length text → get_or text k 0 ≡ 91 → ((i : ℕ) → k < i → i < length text → get_or text i 0 ≢ 91)
    → is_place (drop (k + 1) text) ≡ true → is_bit_of name text ≡ bytes_eq name (take k text)
unfolding is_bit_of
bit_where_open text name k there opens after placed =
    same_from_decides (is_bit_of name text) (bytes_eq name (take k text))
    (last_open text name k there opens after, λ same. is_bit (same)) (bytes_eq-Decides name (take k text))
  where
    is_bit : name ≡ take k text → is_bit_of name text ≡ true
    is_bit same =
        let at : length name ≡ k = ap length same ∙ length-take-le k text (omega arith) in
        let head : take (k + 1) text ≡ take k text ++ 91 ∷ [] = take_more text k 0 there ∙ ap (λ byte. take k text ++ byte ∷ []) opens in
        let begun : bytes_eq (take (length name + 1) text) (name ++ 91 ∷ []) ≡ true =
        (bytes_eq-Decides (take (length name + 1) text) (name ++ 91 ∷ [])).1 (ap (λ n. take (n + 1) text) at ∙ (head ∙ ap (λ xs. xs ++ 91 ∷ []) (sym same))) in
        let rest : is_place (drop (length name + 1) text) ≡ true = ap (λ n. is_place (drop (n + 1) text)) at ∙ placed in
        rw (begun) rest

-- where no place follows the last `[`, the text is no name's bit
pub no_bit_where_open : (text name : List ℕ) (k : ℕ) → k < length text → get_or text k 0 ≡ 91 → ((i : ℕ) → k < i → i < length text → get_or text i 0 ≢ 91)
    → is_place (drop (k + 1) text) ≡ false → is_bit_of name text ≡ false
unfolding is_bit_of
no_bit_where_open text name k there opens after placed = go (is_bit_of name text) refl
  where
    go : (b : Bool) → is_bit_of name text ≡ b → b ≡ false
    go true is =
        let same = last_open text name k there opens after is in
        let at : length name ≡ k = ap length same ∙ length-take-le k text (omega arith) in
        let rest : is_place (drop (length name + 1) text) ≡ true = and_second (begins_with text name) (is_place (behind text name)) is in
        let wrong : is_place (drop (k + 1) text) ≡ true = ap (λ n. is_place (drop (n + 1) text)) (sym at) ∙ rest in
        cc
    go false is = refl
