-- What is refused has no circuit.
use Rattle.std.proofs.Common.{◌≢◌, List, Result, refl}
use Rattle.std.specs.Prelude.{IfErr}
use Rattle.std.proofs.lemmas.Result.{IfErr-weaker}
use Rattle.rsfq_ids.specs.declared.table.CellTable.{CellTable}
use Rattle.rsfq_ids.specs.declared.circuit.Flat.{Flat}
use Rattle.rsfq_ids.specs.declared.circuit.Driver.{Driver}
use Rattle.rsfq_ids.specs.declared.circuit.Reader.{Reader}
use Rattle.rsfq_ids.specs.WellFormed.{drivers_of, readers_of}
use Rattle.bind_forms.specs.declared.bound.Bound.{Bound}
use Rattle.flat_places.specs.declared.limits.SizeFault.{SizeFault}
use Rattle.flat_places.specs.declared.limits.SizeFault.TheVariants as limit
use Rattle.flat_places.specs.Sizes.{IsWithinLimits, PassesLimit}
use Rattle.flat_places.specs.Circuit.{IsCircuitOf}
use Rattle.flat_places.specs.Places.{Place}
use Rattle.flat_places.specs.Refusal.{HasOneDriver, IsFirstTwo, IsRing, IsNamedRing, IsFirstUndriven}
use Rattle.flat_places.specs.Whole.{IsShapeOf}
use Rattle.flattener.specs.declared.fault.FlatFault.{FlatFault}
use Rattle.flattener.specs.declared.fault.FlatFault.TheVariants.{NestingLimit, CellLimit, WireLimit, TwoDrivers, AliasLoop, NoDriver, Memory}
use Rattle.flattener.specs.Refused.{shape_of, IsSound, IsFlatFault}

-- what the laws on circuits say of a source
pub record Excludes (table : CellTable) (bound : Bound) : Type 0 where
  pub limits : (fault : SizeFault) → fault ≢ limit.Memory → PassesLimit bound fault → IsWithinLimits bound → ⊥
  pub two : (flat : Flat) (place : Place) (one other : Driver) → IsFirstTwo table bound (drivers_of table flat) place one other → HasOneDriver table bound place → ⊥
  pub rings : (ring : List Place) → IsNamedRing bound ring → IsRing bound ring
  pub undriven : (shape : Flat) → IsShapeOf bound shape → (by : Reader) → IsFirstUndriven table bound (readers_of table shape) by → (flat : Flat) → IsCircuitOf table bound flat → ⊥

pub excluded : (table : CellTable) (bound : Bound) → Excludes table bound → (why : FlatFault) → IsFlatFault table bound why → why ≢ Memory → (other : Flat) → IsSound table bound → IsCircuitOf table bound other → ⊥
excluded table bound laws (NestingLimit count) r known other sound circuit = laws.limits (limit.Nesting count) (λ e. cc) r sound.limits
excluded table bound laws (CellLimit count) r known other sound circuit = laws.limits (limit.Cells count) (λ e. cc) r sound.limits
excluded table bound laws (WireLimit count) r known other sound circuit = laws.limits (limit.Wires count) (λ e. cc) r sound.limits
excluded table bound laws (TwoDrivers wire first second) r known other sound circuit = let n = r.1 in laws.two (shape_of bound) n.place n.one n.other n.is_first (sound.once n.place)
excluded table bound laws (AliasLoop wires) r known other sound circuit = let n = r.2 in sound.open_ended n.ring (laws.rings n.ring n.is_named)
excluded table bound laws (NoDriver pin) r known other sound circuit = let n = r.1 in laws.undriven (shape_of bound) (record { ports = refl; cells = refl }) n.reader n.is_first other circuit
excluded table bound laws Memory r known other sound circuit = known refl

pub none_refused : (table : CellTable) (bound : Bound) → Excludes table bound → (result : Result Flat FlatFault) → IfErr result (IsFlatFault table bound) →
    IfErr result (λ why. why ≢ Memory → (other : Flat) → IsSound table bound → IsCircuitOf table bound other → ⊥)
none_refused table bound laws result = IfErr-weaker result (IsFlatFault table bound) (λ why. why ≢ Memory → (other : Flat) → IsSound table bound → IsCircuitOf table bound other → ⊥) (excluded table bound laws)
