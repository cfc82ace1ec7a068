-- What is written out for a whole design.
use Rattle.std.proofs.Common.{◌≡◌, ◌∙◌, ◌+◌, ℕ, map, None, ap, arith}
use Rattle.flat_aliases.specs.declared.link.Link.{Link}
use Rattle.rsfq_ids.specs.declared.table.CellTable.{CellTable}
use Rattle.bind_forms.specs.declared.bound.Bound.{Bound}
use Rattle.bind_forms.specs.WellFormed.{IsBound}
use Rattle.flat_places.specs.Hierarchy.{wires_of, bits_of, bit_count, IsDeeper}
use Rattle.flat_places.specs.Hops.{Hop, hops_in}
use Rattle.flat_places.specs.Bits.{offsets_from}
use Rattle.flat_places.specs.Numbered.{number_from, numbered_hop}
use Rattle.flat_places.specs.Whole.{number_of, whole_piece}
use Rattle.flat_places.proofs.Lists.{map_same}
use Rattle.flat_places.proofs.Sizes.{inside_size}
use Rattle.flat_places.proofs.Linked.{inside_links}

pub whole_places : (table : CellTable) (bound : Bound) → IsBound table bound → (IsDeeper bound 64 bound.top → ⊥) → (whole_piece table bound).places ≡ bit_count bound 64 bound.top
whole_places table bound is deep = inside_size table bound is 64 bound.top deep None (offsets_from 0 (wires_of bound bound.top)) (0 + bits_of (wires_of bound bound.top))

pub whole_links : (table : CellTable) (bound : Bound) → IsBound table bound → (IsDeeper bound 64 bound.top → ⊥) →
    (whole_piece table bound).links ≡ map (λ hop. record { from = number_of bound hop.from; to = number_of bound hop.to }) (hops_in bound 64 bound.top)
whole_links table bound is deep =
    inside_links table bound is 64 bound.top deep None 0
    ∙ map_same (numbered_hop bound 64 bound.top 0) (λ (hop : Hop). let l : Link = record { from = number_of bound hop.from; to = number_of bound hop.to } in l) (hops_in bound 64 bound.top) (λ hop.
    let f : number_from bound 64 bound.top 0 hop.from ≡ number_of bound hop.from = omega arith in
    let t : number_from bound 64 bound.top 0 hop.to ≡ number_of bound hop.to = omega arith in
    ap (λ (n : ℕ). let l : Link = record { from = n; to = number_from bound 64 bound.top 0 hop.to } in l) f ∙ ap (λ (n : ℕ). let l : Link = record { from = number_of bound hop.from; to = n } in l) t)
