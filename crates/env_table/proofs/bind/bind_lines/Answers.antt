use Rattle.std.proofs.Common.{◌≡◌, arith, sym, subst, List, []}
use Rattle.std.proofs.lemmas.Grind.{common_steps}
use Rattle.env_table.specs.declared.env.EnvLine.{EnvLine}
use Rattle.env_table.specs.declared.uses.ClockBit.{ClockBit}
use Rattle.env_table.specs.Lines.{FitsUse}
use Rattle.env_table.specs.Binding.{IsCause, lines_fault}
use Rattle.env_table.specs.Bound.{AreSound}
use Rattle.env_table.proofs.BindFacts.{IsBoundUpTo, bound_all, bound_cause, bound_more, bound_none}
use Rattle.env_table.proofs.SoundFacts.{sound_more, sound_none}
use Rattle.env_table.proofs.bind.bind_lines.Goals as goal

pub loop-line-init : goal.loop-line-init
loop-line-init c =
    let empty : c.new.result.items ≡ [] = c.new.ensures.items in
    subst (λ (clocks : List ClockBit). IsBoundUpTo c.args.ports.now c.args.lines.now 0 c.in_ok-no_uses.field-0.items clocks × AreSound c.args.ports.now c.in_ok-no_uses.field-0.items clocks) (sym empty) (
      bound_none c.args.ports.now c.args.lines.now c.in_ok-no_uses.field-0.items c.in_ok-no_uses.ensures.length c.in_ok-no_uses.ensures.none,
      sound_none c.args.ports.now c.in_ok-no_uses.field-0.items c.in_ok-no_uses.ensures.length c.in_ok-no_uses.ensures.none,
    )

pub returns-in_err-add_line-clause-fault : goal.returns-in_err-add_line-clause-fault
returns-in_err-add_line-clause-fault c =
    let cause : IsCause (lines_fault c.args.ports.now [] c.args.lines.now) c.in_err-add_line.field-0.0 =
    bound_cause c.args.ports.now c.args.lines.now c.loop-line.line-index c.line-item.result c.loop-line.bound.uses.items c.loop-line.bound.clocks.items c.in_err-add_line.field-0.0
    c.loop-line.invariant.0 (omega arith) (sym c.line-item.is) c.in_err-add_line.ensures.fault in
    grind (arith, common_steps, cause)

pub loop-line-preserved : goal.loop-line-preserved
loop-line-preserved c =
    let fits = subst (λ (line : EnvLine). FitsUse line.used line.jitter) (sym c.line-item.is) (c.requires.times c.loop-line.line-index c.line-item.result (omega arith)) in (
      bound_more c.args.ports.now c.args.lines.now c.loop-line.line-index c.line-item.result c.loop-line.bound.uses.items c.add_line.new.bound.uses.items c.loop-line.bound.clocks.items c.add_line.new.bound.clocks.items
          c.loop-line.invariant.0 (omega arith) (sym c.line-item.is) c.in_ok-add_line.ensures.passed c.in_ok-add_line.ensures.length c.in_ok-add_line.ensures.uses c.in_ok-add_line.ensures.clocks,
      sound_more c.args.ports.now c.line-item.result c.loop-line.bound.uses.items c.add_line.new.bound.uses.items c.loop-line.bound.clocks.items c.add_line.new.bound.clocks.items
          c.loop-line.invariant.1 c.in_ok-add_line.ensures.passed fits c.in_ok-add_line.ensures.length c.in_ok-add_line.ensures.uses c.in_ok-add_line.ensures.clocks,
    )

pub returns-clause-passed : goal.returns-clause-passed
returns-clause-passed c = (bound_all c.args.ports.now c.args.lines.now c.loop-line.line-index c.loop-line.bound.uses.items c.loop-line.bound.clocks.items c.loop-line.invariant.0 (omega arith)).0

pub returns-clause-uses : goal.returns-clause-uses
returns-clause-uses c = (bound_all c.args.ports.now c.args.lines.now c.loop-line.line-index c.loop-line.bound.uses.items c.loop-line.bound.clocks.items c.loop-line.invariant.0 (omega arith)).1

pub returns-clause-clocks : goal.returns-clause-clocks
returns-clause-clocks c = (bound_all c.args.ports.now c.args.lines.now c.loop-line.line-index c.loop-line.bound.uses.items c.loop-line.bound.clocks.items c.loop-line.invariant.0 (omega arith)).2

pub returns-clause-sound : goal.returns-clause-sound
returns-clause-sound c = c.loop-line.invariant.1
