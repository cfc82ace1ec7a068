use Rattle.cell_table.proofs.RowFacts.{few_digits}
use Rattle.std.proofs.Common.{◌∙◌, sym}
use Rattle.cell_table.proofs.digits.read_function.Goals as goal

pub truth_of-requires-clause-few : goal.truth_of-requires-clause-few
truth_of-requires-clause-few c = few_digits c.args.kind c.args.inputs c.args.digits.now c.requires (sym c.fits_function.ensures ∙ c.if-not-fits_function.false)
