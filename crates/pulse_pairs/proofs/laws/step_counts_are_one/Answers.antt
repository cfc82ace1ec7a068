use Rattle.pulse_pairs.proofs.Meetings.{step_counts_are_one}
use Rattle.pulse_pairs.proofs.laws.step_counts_are_one.Goals as goal

pub returns : goal.returns
returns c = step_counts_are_one
