-- Ranges of vectors, the bits of wires by their places and printed names, and those of ports.
use Rattle.std.specs.Prelude.{ℕ, List}
use Rattle.std.specs.List.{flat_map}
use Rattle.bind_forms.specs.declared.bound.BoundPort.{BoundPort}
pub use Rattle.bind_sites.specs.Selects.{width_of, index_at, bit_name, bit_names}

-- the printed names of the bits of ports, in port order
abbrev pub port_bit_names : List BoundPort → List (List ℕ)
port_bit_names ports = flat_map (λ port. bit_names port.name port.range) ports
