-- The parts of a text from a place on.
use Rattle.std.proofs.Common.{◌≡◌, ◌∙◌, ◌<◌, ◌≤◌, ◌+◌, ◌-◌, ℕ, Bool, true, false, zero, suc, refl, sym, ap, ap₂, subst, arith, take, drop, List, [], ◌∷◌, ◌++◌, length, get_or, drop-cons, add-one, length-drop, inl, inr, Some, None}
use Rattle.std.specs.Prelude.{if◌then◌else◌}
use Rattle.memchr.specs.Find.{IsFirstByte, is_byte}
use Rattle.std.specs.List.{filter}
use Rattle.std.proofs.Math.Seq.{take-length}
use Rattle.std.proofs.lemmas.Bool.{cases_Bool}
use Rattle.dimacs_text.specs.Parts.{Part, front, parts, words, with_byte, has_bytes, is_newline}

pub split_at : (xs : List ℕ) (i : ℕ) → i < length xs → drop i xs ≡ get_or xs i 0 ∷ drop (i + 1) xs
split_at xs i lt = rw (add-one, drop-cons xs i 0) refl

pub drop_out : {X : Type 0} (xs : List X) (i : ℕ) → length xs ≤ i → drop i xs ≡ []
drop_out [] zero le = refl
drop_out [] (suc i) le = refl
drop_out (x ∷ xs) zero le = absurd (omega arith)
drop_out (x ∷ xs) (suc i) le = drop_out xs i (omega arith)

pub take_front : (p : ℕ → Bool) (xs : List ℕ) → take (length (front p xs)) xs ≡ front p xs
take_front p [] = refl
take_front p (b ∷ bs) = elim (cases_Bool (p b)) [ inl e ↦ rw e refl | inr e ↦ rw e (ap (λ (l : List ℕ). b ∷ l) (take_front p bs)) ]

-- the first part, and the parts behind the byte that ends it
pub parts_first : (p : ℕ → Bool) (s x : ℕ) (xs : List ℕ)
    → parts p s (x ∷ xs) ≡ record { start = s; bytes = front p (x ∷ xs) } ∷ parts p (s + suc (length (front p (x ∷ xs)))) (drop (suc (length (front p (x ∷ xs)))) (x ∷ xs))
parts_first p s x [] = elim (cases_Bool (p x)) [ inl e ↦ rw e refl | inr e ↦ rw e refl ]
parts_first p s x (y ∷ ys) = elim (cases_Bool (p x)) [
  | inl e ↦ rw e refl
  | inr e ↦
      let next : s + 1 + suc (length (front p (y ∷ ys))) ≡ s + suc (suc (length (front p (y ∷ ys)))) = omega arith in
      rw e (ap (with_byte s x) (parts_first p (s + 1) y ys)
      ∙ ap (λ (k : ℕ). record { start = s; bytes = x ∷ front p (y ∷ ys) } ∷ parts p k (drop (suc (length (front p (y ∷ ys)))) (y ∷ ys))) next)
]

parts_of : (p : ℕ → Bool) (s : ℕ) (xs : List ℕ) → 0 < length xs
    → parts p s xs ≡ record { start = s; bytes = front p xs } ∷ parts p (s + suc (length (front p xs))) (drop (suc (length (front p xs))) xs)
parts_of p s [] lt = absurd (omega arith)
parts_of p s (x ∷ xs) lt = parts_first p s x xs

drop_drop : (i n : ℕ) (xs : List ℕ) → drop n (drop i xs) ≡ drop (i + n) xs
drop_drop zero n xs = ap (λ k. drop k xs) (let e : n ≡ 0 + n = omega arith in e)
drop_drop (suc i) n [] = drop_out {X = ℕ} [] n (omega arith) ∙ sym (drop_out {X = ℕ} [] (suc i + n) (omega arith))
drop_drop (suc i) n (x ∷ xs) = drop_drop i n xs ∙ ap (λ k. drop k (x ∷ xs)) (let e : suc (i + n) ≡ suc i + n = omega arith in e)

-- from a place on, the first part goes up to `end`
pub parts_at : (p : ℕ → Bool) (s at end : ℕ) (text : List ℕ) → at < length text → end ≡ at + length (front p (drop at text))
    → parts p (s + at) (drop at text) ≡ record { start = s + at; bytes = take (end - at) (drop at text) } ∷ parts p (s + (end + 1)) (drop (end + 1) text)
parts_at p s at end text lt is =
    let bytes : take (end - at) (drop at text) ≡ front p (drop at text) =
    ap (λ k. take k (drop at text)) (let e : end - at ≡ length (front p (drop at text)) = omega arith in e) ∙ take_front p (drop at text) in
    let here = parts_of p (s + at) (drop at text) (let size = length-drop at text in omega arith) in
    let place : s + at + suc (length (front p (drop at text))) ≡ s + (end + 1) = omega arith in
    let behind : drop (suc (length (front p (drop at text)))) (drop at text) ≡ drop (end + 1) text =
    drop_drop at (suc (length (front p (drop at text)))) text ∙ ap (λ k. drop k text) (let e : at + suc (length (front p (drop at text))) ≡ end + 1 = omega arith in e) in
    here ∙ ap₂ (λ (bs : List ℕ) (ps : List Part). record { start = s + at; bytes = bs } ∷ ps) (sym bytes)
    (ap (λ k. parts p k (drop (suc (length (front p (drop at text)))) (drop at text))) place ∙ ap (parts p (s + (end + 1))) behind)

-- `&text[at..]`, as goals show it
pub rest_is : (text : List ℕ) (at : ℕ) → take (length text - at) (drop at text) ≡ drop at text
rest_is text at =
    let count : length text - at ≡ length (drop at text) = sym (length-drop at text) in
    ap (λ n. take n (drop at text)) count ∙ take-length (drop at text)

front_stops : (p : ℕ → Bool) (xs : List ℕ) → front p (drop (length (front p xs)) xs) ≡ []
front_stops p [] = refl
front_stops p (b ∷ bs) = elim (cases_Bool (p b)) [ inl e ↦ rw e (rw e refl) | inr e ↦ rw e (front_stops p bs) ]

-- behind a front stands a byte that ends it, or nothing
pub front_ends : (p : ℕ → Bool) (at end : ℕ) (text : List ℕ) → end ≡ at + length (front p (drop at text)) → front p (drop end text) ≡ []
front_ends p at end text is =
    let behind : drop end text ≡ drop (length (front p (drop at text))) (drop at text) = ap (λ k. drop k text) is ∙ sym (drop_drop at (length (front p (drop at text))) text) in
    ap (front p) behind ∙ front_stops p (drop at text)

-- ---- newlines

front_to : (p : ℕ → Bool) (xs : List ℕ) (k : ℕ) → k ≤ length xs → ((j : ℕ) → j < k → p (get_or xs j 0) ≡ false) → (k < length xs → p (get_or xs k 0) ≡ true) → length (front p xs) ≡ k
front_to p [] k le before at = omega arith
front_to p (x ∷ xs) zero le before at = rw (at (omega arith)) refl
front_to p (x ∷ xs) (suc k) le before at =
    rw (before zero (omega arith)) (ap suc (front_to p xs k (omega arith) (λ j lt. before (suc j) (omega arith)) (λ lt. at (omega arith))))

not_so : (b : Bool) → (b ≡ true → ⊥) → b ≡ false
not_so b never = elim (cases_Bool b) [ inl e ↦ absurd (never e) | inr e ↦ e ]

-- the first newline ends the front, and where there is none it is all
pub newline_found : (at : ℕ) (text : List ℕ) (k : ℕ) → IsFirstByte (is_byte 10) (drop at text) (Some k) → at + k ≡ at + length (front is_newline (drop at text))
newline_found at text k found =
    let high = found.0.high in
    ap (λ n. at + n) (sym (front_to is_newline (drop at text) k (omega arith) (λ j lt. not_so _ (found.0.before j (omega arith) lt)) (λ lt. found.1)))

pub newline_missing : (at : ℕ) (text : List ℕ) → at ≤ length text → IsFirstByte (is_byte 10) (drop at text) None → length text ≡ at + length (front is_newline (drop at text))
newline_missing at text le none =
    let size = front_to is_newline (drop at text) (length (drop at text)) (omega arith) (λ j lt. not_so _ (none j (omega arith) lt)) (λ lt. absurd (omega arith)) in
    omega (arith, length-drop at text)
