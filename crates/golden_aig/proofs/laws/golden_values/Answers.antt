use Rattle.golden_aig.proofs.Values.{are_values}
use Rattle.golden_aig.proofs.laws.golden_values.Goals as goal

pub returns : goal.returns
returns c word = are_values c.args.aig.now word c.requires
