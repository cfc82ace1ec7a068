use Rattle.std.proofs.Common.{◌≡◌, ◌<◌, ◌/◌, take, map, length}
use Rattle.std.specs.List.{All}
use Rattle.aiger_order.specs.Numbers.{file_literal}
use Rattle.aiger_order.proofs.renaming.renumber_all.Given as goal

abbrev pub invariant-loop-literal : goal.invariant-loop-literal
invariant-loop-literal l = record {
  same : map (file_literal l.numbering.names.items) l.renumbered ≡ take l.literal-index l.literals;
  within : All (λ literal. literal / 2 < length l.numbering.names.items) l.renumbered;
}
