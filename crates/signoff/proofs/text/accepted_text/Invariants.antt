use Rattle.std.proofs.Common.{◌≡◌, ◌++◌, drop}
use Rattle.std.specs.List.{flat_map}
use Rattle.signoff.specs.Text.{depth_line, accepted_text}
use Rattle.signoff.proofs.text.accepted_text.Given as goal

abbrev pub invariant-loop-found : goal.invariant-loop-found
invariant-loop-found l = l.text.items ++ flat_map (depth_line l.flat) (drop l.found-index l.depths) ≡ accepted_text l.flat l.depths
