-- Reading phrase after phrase, as a loop does.
use Rattle.std.proofs.Common.{◌≡◌, ℕ, zero, suc, ◌≤◌, ◌<◌, Bool, true, false, List, [], ◌∷◌, ◌++◌, length, Option, None, Result, Ok, Err, refl, sym, ap, ◌∙◌, append_assoc, arith, length-append}
use Rattle.std.proofs.lemmas.List.{append-nil}
use Rattle.verilog_tree.specs.declared.stop.Stop.{Stop}
use Rattle.verilog_tree.specs.declared.stop.Stop.TheVariants as stop
use Rattle.verilog_tree.specs.Reading.{◌>>=◌, first, put, many, with_front}
use Rattle.verilog_tree.specs.Words.{Word}
use Rattle.verilog_tree.specs.Giving.{Fails}
use Rattle.verilog_tree.proofs.Exact.{Exact, Leads}

-- what was read so far, and what is still read, are the total
pub record SoFar {T A : Type 0} (test : Option T → Bool) (read : List T → Result (A × List T) ℕ) (xs : List A) (rest : List T) (total : Result (List A × List T) ℕ) : Type 0 where
  pub steps : ℕ
  pub enough : length rest ≤ steps
  pub goes_on : with_front xs (many test read steps rest) ≡ total

regroup : {T A : Type 0} (xs : List A) (x : A) (r : Result (List A × List T) ℕ) → with_front xs (r >>= put x) ≡ with_front (xs ++ x ∷ []) r
regroup xs x (Ok r) = ap (λ (ys : List _). Ok (ys, r.1)) (sym (append_assoc xs (x ∷ []) r.0))
regroup xs x (Err e) = refl

pub so_far_step : {T A : Type 0} (test : Option T → Bool) (read : List T → Result (A × List T) ℕ) (xs : List A) (rest : List T) (total : Result (List A × List T) ℕ) (x : A) (after : List T)
    → test (first rest) ≡ true → read rest ≡ Ok (x, after) → length after < length rest → SoFar test read xs rest total → SoFar test read (xs ++ x ∷ []) after total
so_far_step {T} {A} test read xs rest total x after is e lt s = step s.steps s.enough s.goes_on where
  step : (n : ℕ) → length rest ≤ n → with_front xs (many test read n rest) ≡ total → SoFar test read (xs ++ x ∷ []) after total
  step zero le g = absurd (omega arith)
  step (suc n) le g =
      let one : many test read (suc n) rest ≡ (many test read n after >>= put x) = rw (is, e) refl in
      record { steps = n; enough = omega arith; goes_on = sym (ap (with_front xs) one ∙ regroup xs x (many test read n after)) ∙ g }

pub so_far_end : {T A : Type 0} (test : Option T → Bool) (read : List T → Result (A × List T) ℕ) (xs : List A) (rest : List T) (total : Result (List A × List T) ℕ)
    → test (first rest) ≡ false → SoFar test read xs rest total → total ≡ Ok (xs, rest)
so_far_end {T} {A} test read xs rest total is s = finish s.steps s.goes_on where
  finish : (n : ℕ) → with_front xs (many test read n rest) ≡ total → total ≡ Ok (xs, rest)
  finish zero g = sym g ∙ ap (λ (ys : List A). Ok (ys, rest)) (append-nil xs)
  finish (suc n) g =
      let one : many test read (suc n) rest ≡ Ok ([], rest) = rw is refl in
      sym g ∙ ap (with_front xs) one ∙ ap (λ (ys : List A). Ok (ys, rest)) (append-nil xs)

pub nonempty : {T : Type 0} (test : Option T → Bool) (rest : List T) → test None ≡ false → test (first rest) ≡ true → 0 < length rest
nonempty test [] n e = absurd cc
nonempty test (t ∷ ts) n e = omega arith

pub so_far_fail : {T A : Type 0} (test : Option T → Bool) (read : List T → Result (A × List T) ℕ) (xs : List A) (rest : List T) (total : Result (List A × List T) ℕ) (e : Stop)
    → test None ≡ false → test (first rest) ≡ true → Fails e (read rest) → SoFar test read xs rest total → Fails e total
so_far_fail test read xs rest total stop.Memory none is f s = tt
so_far_fail {T} {A} test read xs rest total (stop.Left k) none is f s = fail s.steps s.enough s.goes_on where
  fail : (n : ℕ) → length rest ≤ n → with_front xs (many test read n rest) ≡ total → total ≡ Err k
  fail zero le g = let l : 0 < length rest = nonempty test rest none is in absurd (omega arith)
  fail (suc n) le g =
      let one : many test read (suc n) rest ≡ Err k = rw (is, f) refl in
      sym g ∙ ap (with_front xs) one

-- a phrase that begins with a token takes one
pub shorter : {A : Type 0} (test : Option Word → Bool) (is : Bool) (S : A → List Word → Type 0) (read : List Word → Result (A × List Word) ℕ) (after : Option Word → Bool) → Exact S read after → Leads test is S → (ts : List Word) (a : A) (rest : List Word) → read ts ≡ Ok (a, rest) → length rest < length ts
shorter test is S read after ex leads ts a rest e =
    let f = ex.takes ts a rest e in
    let l = leads a f.front f.spelled in
    omega (arith, ap length f.parts, length-append f.front rest, ap length l.2)
