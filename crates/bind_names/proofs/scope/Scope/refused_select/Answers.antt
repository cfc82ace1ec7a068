use Rattle.bind_names.specs.Scoped.{sites_of}
use Rattle.bind_names.proofs.RangeFaults.{unknown_fits, select_fits}
use Rattle.bind_names.proofs.scope.Scope.refused_select.Goals as goal

pub returns-in_err-range-clause-none : goal.returns-in_err-range-clause-none
returns-in_err-range-clause-none c =
    rw c.from_residual-in_err-range.ensures (unknown_fits (sites_of c.args.self.now) c.args.operand.name.now c.args.operand.select c.in_err-range.ensures.unknown)

pub returns-else-is_outside-clause-none : goal.returns-else-is_outside-clause-none
returns-else-is_outside-clause-none c =
    select_fits (sites_of c.args.self.now) c.args.operand.name.now c.args.operand.select c.in_ok-wanted.wanted c.in_ok-range.range c.in_ok-wanted.was c.requires.single c.in_ok-range.ensures.known
    c.if-is_outside.ensures
