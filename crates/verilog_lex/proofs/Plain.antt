-- A name is plain where its first byte begins one and the others go on to its end.
use Rattle.std.proofs.Common.{◌≡◌, ℕ, suc, ◌+◌, ◌≤◌, ◌<◌, Bool, true, false, not, List, [], ◌∷◌, length, refl, ap, arith, inl, inr, drop, get_or}
use Rattle.std.specs.Prelude.{◌&&◌}
use Rattle.std.specs.List.{list_all}
use Rattle.verilog_lex.specs.Bytes.{is_start, is_part, is_reserved, is_plain_name}
use Rattle.verilog_lex.specs.Scan.{front}
use Rattle.verilog_lex.proofs.Tools.{bool_cases, and_left, and_right}

front_low : (p : ℕ → Bool) (xs : List ℕ) → length (front p xs) ≤ length xs
front_low p [] = omega arith
front_low p (b ∷ bs) = elim (bool_cases (p b)) [ inl e ↦ rw e (let le = front_low p bs in omega arith) | inr e ↦ rw e (omega arith) ]

front_long : (p : ℕ → Bool) (xs : List ℕ) → length xs ≤ length (front p xs) → list_all p xs ≡ true
front_long p [] le = refl
front_long p (b ∷ bs) le = elim (bool_cases (p b)) [
  | inl e ↦ rw e (front_long p bs (on (rw e at le)))
  | inr e ↦ absurd (off (rw e at le))
] where
  on : length (b ∷ bs) ≤ length (b ∷ front p bs) → length bs ≤ length (front p bs)
  on h = omega arith

  off : length (b ∷ bs) ≤ 0 → ⊥
  off h = omega arith

front_all : (p : ℕ → Bool) (xs : List ℕ) → list_all p xs ≡ true → length (front p xs) ≡ length xs
front_all p [] e = refl
front_all p (b ∷ bs) e = rw (and_left (p b) _ e) (ap suc (front_all p bs (and_right (p b) _ e)))

some_not : (s a r : Bool) → a ≡ false → false ≡ ((s && a) && r)
some_not true a r e = rw e refl
some_not false a r e = refl

all_are : (s a r : Bool) → s ≡ true → a ≡ true → r ≡ ((s && a) && r)
all_are s a r e h = rw (e, h) refl

pub plain_short : (xs : List ℕ) (stop : ℕ) → is_start (get_or xs 0 0) ≡ true → stop ≡ 1 + length (front is_part (drop 1 xs)) → stop < length xs → false ≡ is_plain_name xs
plain_short [] stop s e lt = absurd cc
plain_short (b ∷ bs) stop s e lt = some_not (is_start b) (list_all is_part bs) (not (is_reserved (b ∷ bs))) (elim (bool_cases (list_all is_part bs)) [
  | inl all ↦ let n = front_all is_part bs all in absurd (omega arith)
  | inr none ↦ none
])

pub plain_whole : (xs : List ℕ) (stop : ℕ) (r : Bool) → is_start (get_or xs 0 0) ≡ true → stop ≡ 1 + length (front is_part (drop 1 xs)) → length xs ≤ stop → r ≡ is_reserved xs → not r ≡ is_plain_name xs
plain_whole [] stop r s e le k = absurd cc
plain_whole (b ∷ bs) stop r s e le k = rw k (all_are (is_start b) (list_all is_part bs) (not (is_reserved (b ∷ bs))) s (front_long is_part bs (omega arith)))
