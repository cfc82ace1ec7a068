use Rattle.std.proofs.Common.{◌∙◌, arith}
use Rattle.proof_arena.specs.Table.{falses_of}
use Rattle.proof_arena.proofs.Readings.{deny_more, deny_done}
use Rattle.proof_arena.proofs.marks.Marks.deny.Goals as goal

pub loop-lit-preserved : goal.loop-lit-preserved
loop-lit-preserved c = record {
  falses = deny_more (falses_of c.args.self.now) (falses_of c.loop-lit.self) (falses_of c.make_false.new.self) c.args.lits.now c.loop-lit.lit-index
      c.lit-item.result c.loop-lit-test.true c.lit-item.is c.loop-lit.invariant.falses c.make_false.ensures.falses;
  size = c.make_false.ensures.size ∙ c.loop-lit.invariant.size;
}

pub returns-clause-falses : goal.returns-clause-falses
returns-clause-falses c =
    deny_done (falses_of c.args.self.now) (falses_of c.loop-lit.self) c.args.lits.now c.loop-lit.lit-index (omega arith) c.loop-lit.invariant.falses
