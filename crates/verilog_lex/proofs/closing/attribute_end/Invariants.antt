use Rattle.std.proofs.Common.{◌≡◌, ◌≤◌, ◌+◌, ◌-◌, drop, length}
use Rattle.std.specs.Prelude.{option_map}
use Rattle.verilog_lex.specs.Scan.{quoted, close}
use Rattle.verilog_lex.specs.declared.closing.Quoting.TheVariants.{Outside}
use Rattle.verilog_lex.proofs.closing.attribute_end.Given as goal

abbrev pub invariant-more : goal.invariant-more
invariant-more l = record {
  within : l.from ≤ length l.text;
  same : option_map (λ n. l.at + n) (close 42 41 quoted Outside (drop l.at l.text)) ≡ option_map (λ n. l.from + n) (close 42 41 quoted l.place (drop l.from l.text));
}

abbrev pub decreases-more : goal.decreases-more
decreases-more l = length l.text - l.from
