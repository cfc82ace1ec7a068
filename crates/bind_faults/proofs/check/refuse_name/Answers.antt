use Rattle.bind_faults.proofs.check.refuse_name.Goals as goal

pub returns-in-None : goal.returns-in-None
returns-in-None c = λ setting why s. c.in-None.ensures.none s.0 s.1
