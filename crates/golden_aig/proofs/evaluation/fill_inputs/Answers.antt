use Rattle.std.proofs.Common.{length, drop}
use Rattle.golden_aig.proofs.Tables.{inputs_held}
use Rattle.golden_aig.proofs.evaluation.fill_inputs.Goals as goal

pub returns : goal.returns
returns c = rw c.copy_from_slice.ensures.after (inputs_held c.args.aig.now c.args.word.now (drop (length c.args.word.now) c.args.marks.now) c.requires.graph c.requires.word)
