use Rattle.std.proofs.Common.{arith}
use Rattle.decimal_text.proofs.Numerals.{value_is, none_is, large_is}
use Rattle.decimal_text.proofs.read.read_number.Goals as goal

pub returns-in-Value-clause-number : goal.returns-in-Value-clause-number
returns-in-Value-clause-number c = value_is c.args.most c.in-Value.number c.args.field.now c.in-Value.ensures.0 c.in-Value.ensures.1 (omega (arith, c.in-Value.ensures.2, c.from.ensures))

pub returns-in-Malformed-clause-number : goal.returns-in-Malformed-clause-number
returns-in-Malformed-clause-number c = none_is c.args.most c.args.field.now c.in-Malformed.ensures
