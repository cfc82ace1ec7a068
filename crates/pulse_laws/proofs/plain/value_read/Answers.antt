use Rattle.pulse_laws.proofs.plain.value_read.Goals as goal

pub returns-in-None : goal.returns-in-None
returns-in-None c = λ net reads. absurd (c.in-None.ensures.none net reads)
