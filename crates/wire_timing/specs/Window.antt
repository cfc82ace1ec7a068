-- Which window offence is the first, and how its delays are chosen.
use Rattle.std.specs.Prelude.{◌≡◌, ◌⊎◌, ℕ, ◌<◌, ℤ, pos, ◌-ℤ◌, ◌≤ℤ◌, List, ◌∷◌}
use Rattle.std.specs.List.{AllZip}
use Rattle.rsfq_ids.specs.declared.id.NetId.{NetId}
use Rattle.rsfq_ids.specs.declared.id.PinId.{PinId}
use Rattle.rsfq_ids.specs.declared.id.PortId.{PortId}
use Rattle.rsfq_ids.specs.declared.circuit.Strobe.{Strobe}
use Rattle.rsfq_ids.specs.declared.circuit.PortUse.TheVariants as port_use
use Rattle.rsfq_ids.specs.declared.circuit.Reader.TheVariants as reader
use Rattle.rsfq_ids.specs.declared.offence.PathArc.{PathArc}
use Rattle.rsfq_ids.specs.declared.offence.PathPick.{PathPick}
use Rattle.rsfq_ids.specs.declared.offence.Against.{Against}
use Rattle.rsfq_ids.specs.declared.offence.Against.TheVariants as against
use Rattle.rsfq_ids.specs.declared.offence.Offence.TheVariants as offence
use Rattle.rsfq_ids.specs.declared.offence.RuleFault.{RuleFault}
use Rattle.rsfq_ids.specs.declared.offence.RuleFault.TheVariants as rule_fault
use Rattle.rsfq_ids.specs.Design.{Design}
use Rattle.rsfq_ids.specs.Circuit.{IsPin}
use Rattle.rsfq_ids.specs.Bench.{IsUsed}
use Rattle.rsfq_ids.specs.Path.{IsDelay, pick_time, strobe_at}
use Rattle.rsfq_ids.specs.Offence.{OffenceExists}

-- no pulse that ends at this pin comes in a zone
abbrev pub HasNoWindowAt : Design → PinId → Type 0
HasNoWindowAt design pin = (pulse : PathPick) (held : Against) → ¬ OffenceExists design (offence.Window pin pulse held)

-- the least delay, and the greatest delay, that an arc may take
pub record IsLeastDelay (design : Design) (through : PathArc) (delay : ℤ) : Type 0 where
  pub may : IsDelay design through delay
  pub least : (other : ℤ) → IsDelay design through other → delay ≤ℤ other

pub record IsGreatestDelay (design : Design) (through : PathArc) (delay : ℤ) : Type 0 where
  pub may : IsDelay design through delay
  pub greatest : (other : ℤ) → IsDelay design through other → other ≤ℤ delay

-- Delays raised from their least in order from the source: each arc has its greatest delay, or all later ones have their least.
abbrev pub AreRaisedInOrder : Design → List PathArc → List ℤ → Type 0
AreRaisedInOrder design (first ∷ arcs) (delay ∷ delays) =
    (IsGreatestDelay design first delay ⊎ AllZip (IsLeastDelay design) arcs delays) × AreRaisedInOrder design arcs delays
AreRaisedInOrder design arcs delays = Unit {0}

-- by how many numbers a pulse is above a strobe
abbrev pub numbers_apart : PathPick → ℕ → ℤ
numbers_apart pulse number = pos pulse.number -ℤ pos number

-- by how much a pulse is later than a strobe
abbrev pub difference : Design → Strobe → PathPick → ℕ → ℤ
difference design strobe pulse number = pick_time design.bench pulse -ℤ strobe_at design.bench strobe number

-- The window offence that is printed of an output: with the least distance of numbers, one of which is 0; of these with the least
-- difference; and with this difference the delays raised in order.
pub record IsFirstAt (design : Design) (pin : PinId) (pulse : PathPick) (number : ℕ) : Type 0 where
  pub output : PortId
  pub net : NetId
  pub strobe : Strobe
  pub place : IsPin design.flat pin (reader.Port output) net
  pub used : IsUsed design.bench output (port_use.Strobed strobe)
  pub exists : OffenceExists design (offence.Window pin pulse (against.Strobe number))
  pub zero : (pulse.number ≡ 0) ⊎ (number ≡ 0)
  pub least_apart : (other : PathPick) (n : ℕ) → OffenceExists design (offence.Window pin other (against.Strobe n)) → numbers_apart pulse number ≤ℤ numbers_apart other n
  pub least_difference : (other : PathPick) (n : ℕ) → OffenceExists design (offence.Window pin other (against.Strobe n)) → numbers_apart pulse number ≡ numbers_apart other n →
      difference design strobe pulse number ≤ℤ difference design strobe other n
  pub raised : AreRaisedInOrder design pulse.arcs pulse.delays

-- The first window offence of a circuit in which each pin has one path, as JTLs make it: no pin before its own has one. Pins are numbered so that those of output bits stand in port order.
pub record IsFirstWindow (design : Design) (pin : PinId) (pulse : PathPick) (number : ℕ) : Type 0 where
  pub earlier : (before : PinId) → before < pin → HasNoWindowAt design before
  pub here : IsFirstAt design pin pulse number

-- Why there is no Ok: the first window offence, or want of memory.
abbrev pub IsWindowFault : Design → RuleFault → Type 0
IsWindowFault design (rule_fault.Offends (offence.Window pin pulse (against.Strobe number))) = IsFirstWindow design pin pulse number
IsWindowFault design (rule_fault.Offends other) = ⊥
IsWindowFault design rule_fault.Memory = Unit {0}

-- The same at one pin alone.
abbrev pub IsPinFault : Design → PinId → RuleFault → Type 0
IsPinFault design at (rule_fault.Offends (offence.Window pin pulse (against.Strobe number))) = (pin ≡ at) × IsFirstAt design at pulse number
IsPinFault design at (rule_fault.Offends other) = ⊥
IsPinFault design at rule_fault.Memory = Unit {0}
