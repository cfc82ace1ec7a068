use Rattle.std.proofs.Common.{take}
use Rattle.std.specs.List.{AllZip}
use Rattle.bind_kinds.proofs.Made.{IsMade}
use Rattle.bind_kinds.proofs.make.scopes_of.Given as goal

abbrev pub invariant-loop-sites : goal.invariant-loop-sites
invariant-loop-sites l = AllZip IsMade (take l.sites-index l.all) l.scopes.items
