use Rattle.std.proofs.Common.{◌≡◌, ◌++◌, drop}
use Rattle.report.specs.Refused.{all_spaced}
use Rattle.report.proofs.line.Line.names.Given as goal

abbrev pub invariant-loop-name : goal.invariant-loop-name
invariant-loop-name l = l.self.bytes.items ++ all_spaced (drop l.name-index l.names) ≡ l.fn.self.bytes.items ++ all_spaced l.names
