use Rattle.std.proofs.Common.{◌≡◌, ℕ, ◌/◌, ◌++◌, ◌∷◌, [], length, subst, arith, Some}
use Rattle.std.specs.Prelude.{slice_set, vec_len}
use Rattle.aiger_order.specs.Numbers.{IsNumbering}
use Rattle.aiger_order.proofs.Numberings.{one_more}
use Rattle.aiger_order.proofs.numbering.Numbering.give.Goals as goal

pub returns-clause-numbers : goal.returns-clause-numbers
returns-clause-numbers c =
    let s = c.args.self.now in
    let v : ℕ = c.args.literal / 2 in
    let count : length s.names.items ≡ vec_len s.names = omega (arith, s.names.ok.0) in
    rw (c.in_ok-push.ensures.items, c.len-number.ensures)
    (subst (λ (n : ℕ). IsNumbering c.args.top (s.names.items ++ v ∷ []) (slice_set s.numbers.items v (Some n))) count
    (one_more c.args.top s.names.items s.numbers.items v c.requires.numbers c.requires.inside c.requires.fresh))
