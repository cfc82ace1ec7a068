use Rattle.std.proofs.Common.{◌≡◌, arith, ap, pos, w64, ◌∙◌}
use Rattle.std.specs.Str.Parse.{digits_value}
use Rattle.std.proofs.lemmas.Int.{to_z_pos}
use Rattle.table_fields.proofs.CheckFacts.{time_good, time_large, time_malformed, time_small}
use Rattle.table_fields.proofs.checks.read_time.Goals as goal

pub returns-in-Malformed-clause-fault : goal.returns-in-Malformed-clause-fault
returns-in-Malformed-clause-fault c = time_malformed c.args.column c.args.least c.args.field.now c.in-Malformed.ensures

pub returns-in-TooLarge-clause-fault : goal.returns-in-TooLarge-clause-fault
returns-in-TooLarge-clause-fault c = time_large c.args.column c.args.least c.args.field.now c.in-TooLarge.ensures.0 c.in-TooLarge.ensures.1

pub returns-then-number-least-clause-fault : goal.returns-then-number-least-clause-fault
returns-then-number-least-clause-fault c = time_small c.args.column c.args.least c.args.field.now c.in-Value.ensures.0 (omega (arith, c.in-Value.ensures.1))

pub returns-else-number-least-clause-time : goal.returns-else-number-least-clause-time
returns-else-number-least-clause-time c =
    let value : c.in-Value.number ≡ digits_value 10 c.args.field.now = c.in-Value.ensures.1 in
    (time_good c.args.column c.args.least c.args.field.now c.in-Value.ensures.0 (omega arith) (omega (arith, c.in-Value.ensures.2)), to_z_pos w64 c.in-Value.number (omega (arith, c.in-Value.ensures.2)) ∙ ap pos value)
