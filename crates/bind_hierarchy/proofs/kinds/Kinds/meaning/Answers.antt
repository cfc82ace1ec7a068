use Rattle.std.proofs.Common.{◌≡◌, sym}
use Rattle.bind_hierarchy.proofs.Meanings.{means_module, means_cell, no_module, no_cell}
use Rattle.bind_hierarchy.proofs.kinds.Kinds.meaning.Goals as goal

pub returns-in-Some : goal.returns-in-Some
returns-in-Some c = λ modules table k. means_module modules table c.args.self.now k c.args.name.now c.in-Some.place (sym c.in-Some.ensures)

pub returns-in-Some-find : goal.returns-in-Some-find
returns-in-Some-find c = λ modules table k. means_cell modules table c.args.self.now k c.args.name.now c.in-Some-find.row (sym c.in-None.ensures) (sym c.in-Some-find.ensures)

pub returns-in-None-find : goal.returns-in-None-find
returns-in-None-find c = λ modules table k.
    (no_module modules table c.args.self.now k c.args.name.now (sym c.in-None.ensures), no_cell modules table c.args.self.now k c.args.name.now (sym c.in-None-find.ensures))
