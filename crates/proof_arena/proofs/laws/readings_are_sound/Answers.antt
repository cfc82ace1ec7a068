use Rattle.proof_arena.proofs.Sound.{reading_told}
use Rattle.proof_arena.proofs.laws.readings_are_sound.Goals as goal

pub returns : goal.returns
returns c values falses clause is agrees = reading_told values falses clause is agrees
