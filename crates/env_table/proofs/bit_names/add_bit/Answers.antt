use Rattle.std.proofs.Common.{arith}
use Rattle.std.proofs.lemmas.Grind.{text_groups}
use Rattle.env_table.proofs.bit_names.add_bit.Goals as goal

pub returns : goal.returns
returns c = grind (arith, text_groups)
