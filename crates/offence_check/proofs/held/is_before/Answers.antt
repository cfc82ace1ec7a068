use Rattle.std.proofs.Common.{rules}
use Rattle.offence_check.proofs.held.is_before.Goals as goal

pub returns-in-Strobe-held : goal.returns-in-Strobe-held
returns-in-Strobe-held c = let law = c.is_before_strobe.ensures c.args.table.now c.args.flat.now in search rules
