use Rattle.lane_forest.proofs.OneFault.{fault_one}
use Rattle.lane_forest.proofs.laws.lane_faults_are_one.Goals as goal

pub returns : goal.returns
returns c design order fits one other first second some more = fault_one design (c.circuits_are_wired.ensures design.table design.flat fits) order one other first second some more
