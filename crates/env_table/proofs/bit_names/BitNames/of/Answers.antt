use Rattle.std.proofs.Common.{arith}
use Rattle.std.proofs.lemmas.Grind.{common_steps}
use Rattle.std.specs.Str.{bytes_eq}
use Rattle.env_table.specs.Names.{is_bit_of}
use Rattle.env_table.proofs.PortFacts.{places_more, places_none}
use Rattle.env_table.proofs.bit_names.BitNames.of.Goals as goal

pub loop-place-init : goal.loop-place-init
loop-place-init c = record {
  printed = λ name. grind (arith, common_steps, places_none (bytes_eq name), c.new.ensures.empty);
  whole = λ name. grind (arith, common_steps, places_none (is_bit_of name), c.new-2.ensures.empty);
}

pub loop-place-preserved : goal.loop-place-preserved
loop-place-preserved c = record {
  printed = λ name. grind (arith, common_steps, places_more (bytes_eq name) c.args.ports.now c.loop-place.place c.index-ports-place.result, c.loop-place.invariant.printed name, c.in_ok-add_port.ensures.printed name);
  whole = λ name. grind (arith, common_steps, places_more (is_bit_of name) c.args.ports.now c.loop-place.place c.index-ports-place.result, c.loop-place.invariant.whole name, c.in_ok-add_port.ensures.whole name);
}
