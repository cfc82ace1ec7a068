use Rattle.std.proofs.Common.{ℕ, Option, IfNone, sym, subst}
use Rattle.bind_sites.specs.Scope.{SelectWidth}
use Rattle.bind_names.specs.Scoped.{sites_of}
use Rattle.bind_faults.proofs.OneWidth.{unknown_width, select_none}
use Rattle.bind_faults.proofs.widths.operand_width.Goals as goal

pub returns-in_err-range-clause-none : goal.returns-in_err-range-clause-none
returns-in_err-range-clause-none c =
    rw c.from_residual.ensures (unknown_width (sites_of c.args.scope.now) c.args.name.now c.args.wanted c.in_err-range.ensures.unknown)

pub returns-in-Some-clause-none : goal.returns-in-Some-clause-none
returns-in-Some-clause-none c =
    let all = sites_of c.args.scope.now in
    subst (λ (s : Option (ℕ × ℕ)). IfNone c.selected_width.result ((w : ℕ) → ¬ SelectWidth all c.args.name.now s w)) (sym c.in-Some.is)
    (select_none c.ranges_are_one.ensures all c.args.name.now c.in_ok-range.range c.in-Some.wanted c.selected_width.result c.requires.single c.in_ok-range.ensures.known c.selected_width.ensures.none)
