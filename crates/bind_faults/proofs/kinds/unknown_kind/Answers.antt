use Rattle.bind_faults.proofs.kinds.unknown_kind.Goals as goal

pub returns-in-None : goal.returns-in-None
returns-in-None c = λ why s. c.in-None.ensures.none s.0 s.1
