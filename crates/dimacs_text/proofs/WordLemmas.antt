-- The words of a line, and the lines of a text, one at a time.
use Rattle.std.proofs.Common.{◌≡◌, ◌∙◌, ◌<◌, ◌≤◌, ◌+◌, ◌-◌, ℕ, Bool, true, false, zero, suc, refl, sym, ap, ap₂, subst, arith, take, drop, List, [], ◌∷◌, ◌++◌, length, get_or, inl, inr}
use Rattle.std.specs.Prelude.{not}
use Rattle.std.specs.List.{filter}
use Rattle.dimacs_text.specs.Parts.{Part, front, parts, words, has_bytes, is_empty}
use Rattle.dimacs_text.proofs.PartLemmas.{parts_at, take_front, drop_out}

pub some_byte : (bs : List ℕ) → 0 < length bs → not (is_empty bs) ≡ true
some_byte [] lt = absurd (omega arith)
some_byte (b ∷ bs) lt = refl

no_byte : (bs : List ℕ) → length bs ≡ 0 → not (is_empty bs) ≡ false
no_byte [] none = refl
no_byte (b ∷ bs) none = absurd (omega arith)

pub kept : (q : Part) (qs : List Part) → has_bytes q ≡ true → filter has_bytes (q ∷ qs) ≡ q ∷ filter has_bytes qs
kept q qs e = rw e refl

left_out : (q : Part) (qs : List Part) → has_bytes q ≡ false → filter has_bytes (q ∷ qs) ≡ filter has_bytes qs
left_out q qs e = rw e refl

size : (p : ℕ → Bool) (at end : ℕ) (text : List ℕ) → end ≡ at + length (front p (drop at text)) → length (take (end - at) (drop at text)) ≡ end - at
size p at end text is =
    let same : end - at ≡ length (front p (drop at text)) = omega arith in
    ap (λ k. length (take k (drop at text))) same ∙ ap length (take_front p (drop at text)) ∙ sym same

-- a word that ends at `end`
pub one_word : (p : ℕ → Bool) (s at end : ℕ) (text : List ℕ) → at < length text → end ≡ at + length (front p (drop at text)) → at < end
    → words p (s + at) (drop at text) ≡ record { start = s + at; bytes = take (end - at) (drop at text) } ∷ words p (s + (end + 1)) (drop (end + 1) text)
one_word p s at end text lt is some =
    ap (filter has_bytes) (parts_at p s at end text lt is)
    ∙ kept (record { start = s + at; bytes = take (end - at) (drop at text) }) (parts p (s + (end + 1)) (drop (end + 1) text))
    (some_byte (take (end - at) (drop at text)) (let n = size p at end text is in omega arith))

-- no word before a byte that ends one
pub no_word : (p : ℕ → Bool) (s at end : ℕ) (text : List ℕ) → at < length text → end ≡ at + length (front p (drop at text)) → end ≤ at
    → words p (s + at) (drop at text) ≡ words p (s + (end + 1)) (drop (end + 1) text)
no_word p s at end text lt is none =
    ap (filter has_bytes) (parts_at p s at end text lt is)
    ∙ left_out (record { start = s + at; bytes = take (end - at) (drop at text) }) (parts p (s + (end + 1)) (drop (end + 1) text))
    (no_byte (take (end - at) (drop at text)) (let n = size p at end text is in omega arith))
