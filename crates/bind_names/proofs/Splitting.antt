-- The printed name of a vector's bit splits in one way: its index has no bracket.
use Rattle.std.proofs.Common.{◌≡◌, ◌≢◌, ℕ, ◌<◌, ◌^◌, ◌++◌, List, [], ◌∷◌, length, get_or, take, drop, refl, sym, ◌∙◌, ap, arith, lit<, append_assoc, decimal, length-append, take-append-drop}
use Rattle.std.specs.Str.Pattern.{SplitsAroundMatch, RFindsChar}
use Rattle.std.proofs.lemmas.List.{append_cancel_right}
use Rattle.std.proofs.Math.Seq.{get_or-append_seam}
use Rattle.std.proofs.lemmas.Fmt.{decimal_is_IsNumeral, decimal_injective}
use Rattle.std.proofs.lemmas.Str.Parse.{digit_at}
use Rattle.std.proofs.lemmas.Str.Pattern.{NoCharPasses-char, drop_at_char}

-- a byte stands nowhere in a text
abbrev pub Lacks : ℕ → List ℕ → Type 0
Lacks c xs = (i : ℕ) → i < length xs → get_or xs i 0 ≢ c

pub lacks_none : (c : ℕ) (x b y : List ℕ) → x ≡ b ++ (c ∷ y) → ¬ Lacks c x
lacks_none c x b y e lacks =
    let within : length b < length x = rw e (omega (arith, length-append b (c ∷ y))) in
    lacks (length b) within (rw e (get_or-append_seam b c y 0))

-- two texts with the same last bracket
pub same_last : (c : ℕ) (a b x y : List ℕ) → a ++ (c ∷ x) ≡ b ++ (c ∷ y) → Lacks c x → Lacks c y → (a ≡ b) × (x ≡ y)
same_last c [] [] x y e lx ly = (refl, cc)
same_last c [] (k ∷ b) x y e lx ly = let f : x ≡ b ++ (c ∷ y) = cc in absurd (lacks_none c x b y f lx)
same_last c (h ∷ a) [] x y e lx ly = let f : y ≡ a ++ (c ∷ x) = cc in absurd (lacks_none c y a x f ly)
same_last c (h ∷ a) (k ∷ b) x y e lx ly =
    let head : h ≡ k = cc in
    let rest : a ++ (c ∷ x) ≡ b ++ (c ∷ y) = cc in
    let both = same_last c a b x y rest lx ly in
    (let same : a ≡ b = both.0 in cc, both.1)

pub decimal_lacks : (n : ℕ) → n < 2 ^ 64 → Lacks 91 (decimal n)
decimal_lacks n small i within e =
    let digit = digit_at (decimal n) i (decimal_is_IsNumeral n small).0.1 within in
    omega (arith, digit, e)

-- what `rsplit_once` at the bracket gives
pub last_parts : (x name digits : List ℕ) → SplitsAroundMatch (RFindsChar 91) x name digits → (x ≡ name ++ (91 ∷ digits)) × Lacks 91 digits
last_parts x name digits (i, j, found, front, back, order, _, _) = (
  sym (take-append-drop i x) ∙ (ap (λ t. take i x ++ t) (drop_at_char 91 x i j found.1 (lit< tt)) ∙ rw (front, back) refl),
  rw back (λ k within. NoCharPasses-char 91 (drop j x) k found.0 (lit< tt) within),
)

-- the only way to split a printed name
pub only_split : (printed x name digits : List ℕ) → printed ≡ x ++ (93 ∷ []) → x ≡ name ++ (91 ∷ digits) → Lacks 91 digits
    → (n : List ℕ) (index : ℕ) → index < 2 ^ 64 → printed ≡ ((n ++ (91 ∷ [])) ++ decimal index) ++ (93 ∷ []) → (name ≡ n) × (digits ≡ decimal index)
only_split printed x name digits end split lacks n index small e =
    let inner : x ≡ (n ++ (91 ∷ [])) ++ decimal index = append_cancel_right x ((n ++ (91 ∷ [])) ++ decimal index) (93 ∷ []) (sym end ∙ e) in
    same_last 91 name n digits (decimal index) (sym split ∙ (inner ∙ append_assoc n (91 ∷ []) (decimal index))) lacks (decimal_lacks index small)

-- what comes before the last bracket holds one at its end
pub bracket_within : (x n d : List ℕ) → x ≡ (n ++ (91 ∷ [])) ++ d → ¬ Lacks 91 x
bracket_within x n d e lacks = lacks_none 91 x n d (e ∙ append_assoc n (91 ∷ []) d) lacks

-- what was split is the printed name
pub written : (printed x name digits : List ℕ) (index : ℕ) → printed ≡ x ++ (93 ∷ []) → x ≡ name ++ (91 ∷ digits) → digits ≡ decimal index
    → printed ≡ ((name ++ (91 ∷ [])) ++ decimal index) ++ (93 ∷ [])
written printed x name digits index end split is =
    end ∙ ap (λ t. t ++ (93 ∷ [])) (split ∙ (ap (λ d. name ++ (91 ∷ d)) is ∙ sym (append_assoc name (91 ∷ []) (decimal index))))

-- two bits with one printed name
pub same_written : (n m : List ℕ) (i j : ℕ) → i < 2 ^ 64 → j < 2 ^ 64
    → ((n ++ (91 ∷ [])) ++ decimal i) ++ (93 ∷ []) ≡ ((m ++ (91 ∷ [])) ++ decimal j) ++ (93 ∷ []) → (n ≡ m) × (i ≡ j)
same_written n m i j small_i small_j e =
    let both = only_split (((n ++ (91 ∷ [])) ++ decimal i) ++ (93 ∷ [])) ((n ++ (91 ∷ [])) ++ decimal i) n (decimal i) refl
    (append_assoc n (91 ∷ []) (decimal i)) (decimal_lacks i small_i) m j small_j e in
    (both.0, decimal_injective i j small_i small_j both.1)

-- a scalar is no bit of itself
pub longer : (n d : List ℕ) → n ≢ ((n ++ (91 ∷ [])) ++ d) ++ (93 ∷ [])
longer n d e =
    let f : length n ≡ length (((n ++ (91 ∷ [])) ++ d) ++ (93 ∷ [])) = ap length e in
    omega (arith, simp length-append at f)
