-- Rows that are read one after another.
use Rattle.std.proofs.Common.{◌≡◌, ℕ, zero, suc, ◌+◌, ◌<◌, sym, ap, subst, arith, List, [], ◌∷◌, map, length, get_or, add-one, below_more, Result, Ok, Err, IfErr, IfOk, OnOk}

pub if_ok : {T E : Type 0} {P Q : T → Type 0} → (r : Result T E) → ((x : T) → P x → Q x) → IfOk r P → IfOk r Q
if_ok (Ok x) f p = f x p
if_ok (Err e) f p = p

pub on_ok : {T E : Type 0} {P Q : Type 0} → (r : Result T E) → (P → Q) → OnOk r P → OnOk r Q
on_ok (Ok x) f p = f p
on_ok (Err e) f p = p

pub if_err : {T E : Type 0} {P Q : E → Type 0} → (r : Result T E) → ((e : E) → P e → Q e) → IfErr r P → IfErr r Q
if_err (Ok x) f p = p
if_err (Err e) f p = f e p

-- the record that the program reads is that of the definitions
pub read_at : {X : Type 0} (f : X → List (List ℕ)) (xs : List X) (i : ℕ) (r : X) → i < length xs → r ≡ get_or xs i r → get_or (map f xs) i [] ≡ f r
read_at f [] i r less is = absurd (omega arith)
read_at f (x ∷ xs) zero r less is = ap f (sym is)
read_at f (x ∷ xs) (suc i) r less is = read_at f xs i r (omega arith) is

-- what holds up to a row, and of the row after it
pub below_suc : (P : ℕ → Type 0) (n : ℕ) → ((row : ℕ) → row < n + 1 → P row) → P (suc n) → (row : ℕ) → row < n + 1 + 1 → P row
below_suc P n below here row less = below_more P (n + 1) below (subst P (sym (add-one n)) here) row less
