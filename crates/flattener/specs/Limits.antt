-- The refusal of a limit that is passed.
use Rattle.flat_places.specs.declared.limits.SizeFault.{SizeFault}
use Rattle.flat_places.specs.declared.limits.SizeFault.TheVariants as limit
use Rattle.flattener.specs.declared.fault.FlatFault.{FlatFault}
use Rattle.flattener.specs.declared.fault.FlatFault.TheVariants.{NestingLimit, CellLimit, WireLimit, Memory}

-- a limit's refusal keeps its kind and its number
abbrev pub flat_fault : SizeFault → FlatFault
flat_fault (limit.Nesting count) = NestingLimit count
flat_fault (limit.Cells count) = CellLimit count
flat_fault (limit.Wires count) = WireLimit count
flat_fault limit.Memory = Memory
