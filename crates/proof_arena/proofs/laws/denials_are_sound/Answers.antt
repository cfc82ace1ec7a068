use Rattle.proof_arena.proofs.Sound.{none_among}
use Rattle.proof_arena.proofs.laws.denials_are_sound.Goals as goal

pub returns : goal.returns
returns c values lits none = none_among values lits none
