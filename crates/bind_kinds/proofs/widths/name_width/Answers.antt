use Rattle.bind_kinds.proofs.widths.name_width.Goals as goal

pub returns-in-None : goal.returns-in-None
returns-in-None c = λ output range port. c.in-None.ensures.missed (output, range, port)
