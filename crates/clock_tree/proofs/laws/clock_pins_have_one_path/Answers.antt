use Rattle.clock_tree.proofs.Whole.{one_path}
use Rattle.clock_tree.proofs.laws.clock_pins_have_one_path.Goals as goal

pub returns : goal.returns
returns c = one_path
