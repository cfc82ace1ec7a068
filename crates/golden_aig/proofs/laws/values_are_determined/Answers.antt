use Rattle.golden_aig.proofs.Values.{determined}
use Rattle.golden_aig.proofs.laws.values_are_determined.Goals as goal

pub returns : goal.returns
returns c word = determined c.args.aig.now word c.requires
