-- The lines of steps, one at a time.
use Rattle.std.proofs.Common.{◌≡◌, ◌∙◌, ◌≤◌, ◌+◌, ◌-◌, ℕ, zero, suc, sym, ap, ap₂, arith, take, List, [], ◌∷◌, ◌++◌, length, Option, Some, None, append_assoc, append-nil, add-zero}
use Rattle.std.specs.Prelude.{slice_get, option_map}
use Rattle.std.proofs.lemmas.Option.{slice_get-map}
use Rattle.rsfq_ids.specs.Formula.{Clause}
use Rattle.proof_arena.specs.Log.{LogStep, lits_of}
use Rattle.lrat_check.specs.Written.{step_line, step_lines}

both_parts : (step : Option LogStep) (lits : Clause) (hints : List ℕ) → option_map (λ (s : LogStep). s.lits) step ≡ Some lits → option_map (λ (s : LogStep). s.hints) step ≡ Some hints
    → step ≡ Some (record { lits = lits; hints = hints })
both_parts None lits hints one two = absurd cc
both_parts (Some s) lits hints one two =
    let first : s.lits ≡ lits = cc in
    let second : s.hints ≡ hints = cc in
    ap₂ (λ (l : Clause) (h : List ℕ). Some (record { lits = l; hints = h })) first second

-- the step whose clause and whose hints are these
pub step_at : (given : List Clause) (steps : List LogStep) (place k : ℕ) (lits : Clause) (hints : List ℕ) → place ≡ length given + k
    → slice_get (given ++ lits_of steps) place ≡ Some lits → option_map (λ (s : LogStep). s.hints) (slice_get steps k) ≡ Some hints
    → slice_get steps k ≡ Some (record { lits = lits; hints = hints })
step_at [] steps place k lits hints is one two =
    let same : place ≡ k = omega arith in
    both_parts (slice_get steps k) lits hints (sym (slice_get-map (λ (s : LogStep). s.lits) steps k) ∙ ap (slice_get (lits_of steps)) (sym same) ∙ one) two
step_at (c ∷ given) steps zero k lits hints is one two = absurd (omega arith)
step_at (c ∷ given) steps (suc place) k lits hints is one two = step_at given steps place k lits hints (omega arith) one two

pub lines_more : (id k : ℕ) (steps : List LogStep) (step : LogStep) → slice_get steps k ≡ Some step
    → step_lines id (take (suc k) steps) ≡ step_lines id (take k steps) ++ step_line (id + k) step
lines_more id k [] step is = absurd cc
lines_more id zero (s ∷ steps) step is =
    let same : s ≡ step = cc in
    append-nil (step_line id s) ∙ ap₂ step_line (sym (add-zero id)) same
lines_more id (suc k) (s ∷ steps) step is =
    let place : id + 1 + k ≡ id + suc k = omega arith in
    ap (λ (bytes : List ℕ). step_line id s ++ bytes) (lines_more (id + 1) k steps step is ∙ ap (λ n. step_lines (id + 1) (take k steps) ++ step_line n step) place)
    ∙ sym (append_assoc (step_line id s) (step_lines (id + 1) (take k steps)) (step_line (id + suc k) step))

-- bytes that hold the lines up to a step, and then its line
pub line_more : (old now next : List ℕ) (given : List Clause) (steps : List LogStep) (count place id : ℕ) (lits : Clause) (hints : List ℕ) → count ≡ length given → id ≡ place
    → count ≤ place → now ≡ old ++ step_lines (count + 1) (take (place - count) steps)
    → slice_get (given ++ lits_of steps) id ≡ Some lits → option_map (λ (s : LogStep). s.hints) (slice_get steps (id - length given)) ≡ Some hints
    → next ≡ now ++ step_line (place + 1) (record { lits = lits; hints = hints })
    → next ≡ old ++ step_lines (count + 1) (take (place + 1 - count) steps)
line_more old now next given steps count place id lits hints size same le is one two more =
    let step : LogStep = record { lits = lits; hints = hints } in
    let from : id ≡ length given + (place - count) = omega arith in
    let to : place - count ≡ id - length given = omega arith in
    let at : slice_get steps (place - count) ≡ Some step = step_at given steps id (place - count) lits hints from one (ap (λ n. option_map (λ (s : LogStep). s.hints) (slice_get steps n)) to ∙ two) in
    let number : place + 1 ≡ count + 1 + (place - count) = omega arith in
    let next_count : suc (place - count) ≡ place + 1 - count = omega arith in
    more ∙ ap₂ (λ (bytes : List ℕ) (n : ℕ). bytes ++ step_line n step) is number
    ∙ append_assoc old (step_lines (count + 1) (take (place - count) steps)) (step_line (count + 1 + (place - count)) step)
    ∙ ap (λ (bytes : List ℕ). old ++ bytes) (sym (lines_more (count + 1) (place - count) steps step at) ∙ ap (λ n. step_lines (count + 1) (take n steps)) next_count)
