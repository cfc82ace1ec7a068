-- The parts of the law together.
use Rattle.std.proofs.Common.{◌≤◌}
use Rattle.std.specs.List.{All}
use Rattle.rsfq_ids.specs.declared.limits.TheConstants.{WIDTH_LIMIT}
use Rattle.bind_forms.specs.declared.bound.BoundPort.{BoundPort}
use Rattle.bind_forms.specs.declared.bound.BoundWire.{BoundWire}
use Rattle.bind_forms.specs.declared.bound.BoundModule.{BoundModule}
use Rattle.bind_forms.specs.Bits.{width_of}
use Rattle.bind_forms.specs.WellFormed.{IsRange, IsAssign, IsInstance, IsModule}
use Rattle.bind_laws.specs.Laws.{PortsAreNarrow, RangesAreSmall, AssignsFit, InstancesFit, OrdersLeaveNoRing, PortBitsAreDistinct, BoundIsWellFormed}
use Rattle.bind_laws.proofs.Lists.{all_got, got_all}
use Rattle.bind_laws.proofs.Owners.{source_of, bound_at}

pub bound_is_well_formed : PortsAreNarrow → RangesAreSmall → AssignsFit → InstancesFit → OrdersLeaveNoRing → PortBitsAreDistinct → BoundIsWellFormed
bound_is_well_formed narrow small assigns instances ranks distinct setting bound order binds none spelled is =
    let top = bound_at setting bound binds bound.top binds.top binds.top_place in
    record {
      modules = all_got (IsModule setting.table bound) bound.modules (λ k owner e.
          let s = source_of setting bound binds k owner e in
          record {
            ports = got_all (λ (m : BoundModule). All (λ (port : BoundPort). width_of port.range ≤ WIDTH_LIMIT) m.ports) bound.modules k owner (narrow setting bound binds none) e;
            others = s.2.binds.others;
            wires = s.2.binds.wires;
            ranges = got_all (λ (m : BoundModule). All (λ (wire : BoundWire). IsRange wire.range) m.wires) bound.modules k owner (small setting bound binds spelled) e;
            assigns = got_all (λ (m : BoundModule). All (IsAssign m.wires) m.assigns) bound.modules k owner (assigns setting bound binds none) e;
            instances = got_all (λ (m : BoundModule). All (IsInstance setting.table bound m.wires) m.instances) bound.modules k owner (instances setting bound binds none) e;
          });
      no_ring = ranks setting bound order binds is;
      top = top.0;
      top_there = top.1;
      names = distinct setting bound top.0 binds none spelled top.1;
    }
