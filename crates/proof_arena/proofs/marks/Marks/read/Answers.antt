use Rattle.proof_arena.specs.Table.{falses_of}
use Rattle.proof_arena.proofs.Readings.{read_more}
use Rattle.proof_arena.proofs.marks.Marks.read.Goals as goal

pub loop-lit-preserved : goal.loop-lit-preserved
loop-lit-preserved c = read_more (falses_of c.args.self.now) c.args.clause.now c.loop-lit.lit-index c.lit-item.result c.loop-lit.said c.read_on-said.result
    c.loop-lit-test.true c.lit-item.is c.loop-lit.invariant c.read_on-said.ensures
