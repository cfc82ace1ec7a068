-- Maps from names to port bits.
use Rattle.std.specs.Prelude.{◌≡◌, ℕ, List, [], Vec}
use Rattle.std.specs.Borrow.{Bor}
use Rattle.std.specs.BTreeMap.{BTreeMap, get_by}
use Rattle.std.specs.Option.{option_map_or}
use Rattle.std.specs.Ordering.{nat_cmp}
use Rattle.std.specs.Cmp.Lexicographic.{slice_cmp}
use Rattle.std.specs.Str.{bytes_eq}
use Rattle.rsfq_ids.specs.declared.id.PortId.{PortId}
use Rattle.rsfq_ids.specs.declared.circuit.PortBit.{PortBit}
use Rattle.env_table.specs.declared.bit_names.BitNames.{BitNames}
use Rattle.env_table.specs.Names.{is_bit_of, places_of}

-- the bits that a name has in a map
abbrev pub group_of : {Y : Type 0} → BTreeMap (Bor (List ℕ)) (Vec PortId Y) → List ℕ → List PortId
group_of groups name = option_map_or (λ bits. bits.items) (get_by (λ key. slice_cmp nat_cmp name key.now) groups) []

-- the maps hold the bits of each name
pub record AreNamesOf (ports : List PortBit) (names : BitNames) : Type 0 where
  pub printed : (name : List ℕ) → group_of names.printed name ≡ places_of (bytes_eq name) ports
  pub whole : (name : List ℕ) → group_of names.whole name ≡ places_of (is_bit_of name) ports
