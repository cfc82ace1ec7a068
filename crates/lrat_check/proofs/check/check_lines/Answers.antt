use Rattle.std.proofs.Common.{ap, sym, arith}
use Rattle.dimacs_text.specs.Parts.{lines}
use Rattle.lrat_check.specs.Check.{Known, lines_fault}
use Rattle.lrat_check.proofs.check.check_lines.Goals as goal

pub more-init : goal.more-init
more-init c = record {
  within = omega arith;
  count = omega arith;
  vars = c.in_ok-checker.ensures.known.0;
  near = c.in_ok-checker.ensures.near;
  rest = ap (λ (known : Known). lines_fault c.args.cnf.now.vars known 0 (lines 0 c.args.bytes.now)) (sym c.in_ok-checker.ensures.known.1);
}
