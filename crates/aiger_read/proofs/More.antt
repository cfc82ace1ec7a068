-- Reading many of one kind, each after those before it.
use Rattle.std.proofs.Common.{◌≡◌, ◌∙◌, ◌-◌, ◌+◌, ◌<◌, ◌≤◌, ℕ, suc, ap, arith, List, [], ◌∷◌, ◌++◌, Result, Ok, Err}
use Rattle.aiger_parts.specs.declared.fault.Stop.{Stop}
use Rattle.aiger_parts.specs.Reading.{◌>>=◌}
use Rattle.aiger_read.specs.Lines.{more_at}

module _ {A : Type 0} (one : List A → List ℕ → Result (A × List ℕ) Stop) where
  step_down : (count i : ℕ) → i < count → count - i ≡ suc (count - (i + 1))
  step_down count i lt = omega arith

  pub more_step : (count i : ℕ) (front : List A) (x : A) (bytes rest : List ℕ) → i < count → one front bytes ≡ Ok (x, rest) → more_at one (count - i) front bytes ≡ more_at one (count - (i + 1)) (front ++ x ∷ []) rest
  more_step count i front x bytes rest lt e =
      ap (λ (n : ℕ). more_at one n front bytes) (step_down count i lt) ∙ ap (λ (r : Result (A × List ℕ) Stop). r >>= λ y. more_at one (count - (i + 1)) (front ++ y.0 ∷ []) y.1) e

  pub more_fails : (count i : ℕ) (front : List A) (bytes : List ℕ) (stop : Stop) → i < count → one front bytes ≡ Err stop → more_at one (count - i) front bytes ≡ Err stop
  more_fails count i front bytes stop lt e =
      ap (λ (n : ℕ). more_at one n front bytes) (step_down count i lt) ∙ ap (λ (r : Result (A × List ℕ) Stop). r >>= λ y. more_at one (count - (i + 1)) (front ++ y.0 ∷ []) y.1) e

  pub more_done : (count i : ℕ) (front : List A) (bytes : List ℕ) → count ≤ i → more_at one (count - i) front bytes ≡ Ok (front, bytes)
  more_done count i front bytes le = ap (λ (n : ℕ). more_at one n front bytes) (none count i le) where
    none : (count i : ℕ) → count ≤ i → count - i ≡ 0
    none count i le = omega arith
