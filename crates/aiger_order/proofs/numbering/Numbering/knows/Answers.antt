use Rattle.std.proofs.Common.{◌/◌, ◌<◌, length, refl, sym, arith, ◌∙◌}
use Rattle.std.proofs.lemmas.Option.{slice_get_read}
use Rattle.aiger_order.proofs.Numberings.{entry_tells}
use Rattle.aiger_order.proofs.numbering.Numbering.knows.Goals as goal

pub returns-clause-yes : goal.returns-clause-yes
returns-clause-yes c e =
    let numbers = c.args.self.now.numbers.items in
    let size = c.requires.numbers.size in
    let inside : c.args.literal / 2 < length numbers = omega (arith, c.requires.inside) in
    (entry_tells c.args.top c.args.self.now.names.items numbers (c.args.literal / 2) c.index.result.now c.requires.numbers (slice_get_read numbers (length numbers) (c.args.literal / 2) c.index.result.now refl inside c.index.ensures)).0 (sym c.is_some.ensures ∙ e)

pub returns-clause-no : goal.returns-clause-no
returns-clause-no c e =
    let numbers = c.args.self.now.numbers.items in
    let size = c.requires.numbers.size in
    let inside : c.args.literal / 2 < length numbers = omega (arith, c.requires.inside) in
    (entry_tells c.args.top c.args.self.now.names.items numbers (c.args.literal / 2) c.index.result.now c.requires.numbers (slice_get_read numbers (length numbers) (c.args.literal / 2) c.index.result.now refl inside c.index.ensures)).1 (sym c.is_some.ensures ∙ e)
