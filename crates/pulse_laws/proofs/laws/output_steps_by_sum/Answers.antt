use Rattle.pulse_laws.proofs.LawProofs.{output_steps_by_sum}
use Rattle.pulse_laws.proofs.laws.output_steps_by_sum.Goals as goal

pub returns : goal.returns
returns c = output_steps_by_sum
