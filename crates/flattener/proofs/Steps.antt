-- The steps of the walk over a bound source.
use Rattle.std.proofs.Common.{◌≡◌, ◌∙◌, ◌+◌, ◌-◌, ◌<◌, ◌≤◌, ℕ, zero, suc, List, ◌∷◌, ◌++◌, drop, length, get_or, Option, Some, false, sym, ap, subst, arith, add-one, drop-cons, length-append}
use Rattle.std.specs.Prelude.{slice_get, unwrap_or, option_to_list}
use Rattle.std.specs.Option.{option_map}
use Rattle.std.specs.List.{flat_map}
use Rattle.rsfq_ids.specs.declared.table.CellTable.{CellTable}
use Rattle.flat_aliases.specs.declared.link.Link.{Link}
use Rattle.bind_forms.specs.declared.bound.BoundInstance.{BoundInstance}
use Rattle.bind_forms.specs.declared.bound.BoundModule.{BoundModule}
use Rattle.bind_forms.specs.declared.bound.Bound.{Bound}
use Rattle.flat_places.specs.declared.size.Size.{Size}
use Rattle.flat_places.specs.Assigns.{different}
use Rattle.flat_places.specs.Bits.{assign_links}
use Rattle.flat_places.specs.Pieces.{Piece, empty, joined, only_places, only_links, instance_piece, pieces_from, inside_piece, instance_at}
use Rattle.flattener.specs.Walk.{HasRoom}
use Rattle.flattener.specs.Solid.{is_solid, solid_places}
use Rattle.flattener.proofs.Joining.{joined_assoc}
use Rattle.flattener.proofs.Picking.{picked, all_solid}

-- what is inside a module: the links of its assigns, and then its instances
pub inside_more : (table : CellTable) (bound : Bound) (levels at : ℕ) (path : Option (List ℕ)) (offsets : List ℕ) (base : ℕ) (owner : BoundModule) → 1 ≤ levels → slice_get bound.modules at ≡ Some owner →
    inside_piece table bound levels at path offsets base ≡ joined (only_links (flat_map (assign_links offsets) (different owner.assigns))) (pieces_from (instance_at table bound levels path offsets) base owner.instances)
unfolding inside_piece
inside_more table bound zero at path offsets base owner low there = absurd (omega arith)
inside_more table bound (suc levels) at path offsets base owner low there =
    let same : levels ≡ suc levels - 1 = omega arith in
    ap (λ (o : Option BoundModule). unwrap_or (option_map (λ (owner : BoundModule).
    joined (only_links (flat_map (assign_links offsets) (different owner.assigns)))
    (pieces_from (λ from instance. instance_piece table bound (inside_piece table bound levels) path offsets from instance.name instance.links instance.kind) base owner.instances)) o) empty) there
    ∙ ap (λ (n : ℕ). joined (only_links (flat_map (assign_links offsets) (different owner.assigns)))
    (pieces_from (λ from instance. instance_piece table bound (inside_piece table bound n) path offsets from instance.name instance.links instance.kind) base owner.instances)) same

-- ---- instances one after another

next_piece : (one : ℕ → BoundInstance → Piece) (base : ℕ) (xs : List BoundInstance) (places : List ℕ) (i : ℕ) (x : BoundInstance) → i < length places → slice_get xs (get_or places i 0) ≡ Some x →
    pieces_from one base (picked xs (drop i places)) ≡ joined (one base x) (pieces_from one (base + (one base x).places) (picked xs (drop (i + 1) places)))
next_piece one base xs places i x low there =
    ap (λ (ps : List ℕ). pieces_from one base (picked xs ps)) (drop-cons places i 0 low)
    ∙ ap (λ (k : ℕ). pieces_from one base (picked xs (get_or places i 0 ∷ drop k places))) (sym (add-one i))
    ∙ ap (λ (o : Option BoundInstance). pieces_from one base (option_to_list o ++ picked xs (drop (i + 1) places))) there

-- the links of assigns were added, and all instances that hold something are left
pub started : (table : CellTable) (bound : Bound) (levels at : ℕ) (path : Option (List ℕ)) (offsets : List ℕ) (owner : BoundModule) (sizes : List Size) (before assigned : Piece) (items : List BoundInstance) (places : List ℕ) → 1 ≤ levels → slice_get bound.modules at ≡ Some owner →
    assigned ≡ joined before (only_links (flat_map (assign_links offsets) (different owner.assigns))) → items ≡ owner.instances → places ≡ solid_places sizes owner.instances →
    ((k : ℕ) (x : BoundInstance) → slice_get owner.instances k ≡ Some x → is_solid sizes x.kind ≡ false → (base : ℕ) → instance_at table bound levels path offsets base x ≡ empty) →
    joined assigned (pieces_from (instance_at table bound levels path offsets) assigned.places (picked items (drop 0 places))) ≡ joined before (inside_piece table bound levels at path offsets before.places)
started table bound levels at path offsets owner sizes before assigned items places low there e is listed hollow =
    let one = instance_at table bound levels path offsets in
    let links = flat_map (assign_links offsets) (different owner.assigns) in
    let p = ap (λ (v : Piece). v.places) e in
    let same : assigned.places ≡ before.places = omega (arith, p) in
    ap (λ (xs : List BoundInstance). joined assigned (pieces_from one assigned.places (picked xs places))) is
    ∙ ap (λ (ps : List ℕ). joined assigned (pieces_from one assigned.places (picked owner.instances ps))) listed
    ∙ ap (joined assigned) (sym (all_solid one sizes owner.instances hollow assigned.places))
    ∙ ap (λ (n : ℕ). joined assigned (pieces_from one n owner.instances)) same
    ∙ ap (λ (v : Piece). joined v (pieces_from one before.places owner.instances)) e
    ∙ joined_assoc before (only_links links) (pieces_from one before.places owner.instances)
    ∙ ap (joined before) (sym (inside_more table bound levels at path offsets before.places owner low there))

-- the next instance was added
pub instance_step : (one : ℕ → BoundInstance → Piece) (xs : List BoundInstance) (places : List ℕ) (i : ℕ) (x : BoundInstance) (before after whole : Piece) → i < length places → slice_get xs (get_or places i 0) ≡ Some x → after ≡ joined before (one before.places x) →
    joined before (pieces_from one before.places (picked xs (drop i places))) ≡ whole → joined after (pieces_from one after.places (picked xs (drop (i + 1) places))) ≡ whole
instance_step one xs places i x before after whole low there e inv =
    ap (λ (v : Piece). joined v (pieces_from one v.places (picked xs (drop (i + 1) places)))) e
    ∙ joined_assoc before (one before.places x) (pieces_from one (before.places + (one before.places x).places) (picked xs (drop (i + 1) places)))
    ∙ ap (joined before) (sym (next_piece one before.places xs places i x low there))
    ∙ inv

room_first : (a b c : Piece) → HasRoom (joined a (joined b c)) → HasRoom (joined a b)
room_first a b c room =
    let places = room.0 in
    let cells = room.1 in
    let one = length-append a.cells b.cells in
    let two = length-append b.cells c.cells in
    let three = length-append a.cells (b.cells ++ c.cells) in
    (omega (arith, places), omega (arith, cells, one, two, three))

-- there is room for the next instance
pub instance_room : (one : ℕ → BoundInstance → Piece) (xs : List BoundInstance) (places : List ℕ) (i : ℕ) (x : BoundInstance) (before whole : Piece) → i < length places → slice_get xs (get_or places i 0) ≡ Some x →
    joined before (pieces_from one before.places (picked xs (drop i places))) ≡ whole → HasRoom whole → HasRoom (joined before (one before.places x))
instance_room one xs places i x before whole low there inv room =
    room_first before (one before.places x) (pieces_from one (before.places + (one before.places x).places) (picked xs (drop (i + 1) places)))
    (subst HasRoom (sym inv ∙ ap (joined before) (next_piece one before.places xs places i x low there)) room)

-- ---- an instance of a module

-- places and links were added, and then what is inside
pub module_step : (before placed linked : Piece) (places : ℕ) (links : List Link) (inside : ℕ → Piece) → placed ≡ joined before (only_places places) → linked ≡ joined placed (only_links links) →
    joined linked (inside linked.places) ≡ joined before (joined (only_places places) (joined (only_links links) (inside (before.places + places))))
module_step before placed linked places links inside e f =
    let p = ap (λ (v : Piece). v.places) e in
    let q = ap (λ (v : Piece). v.places) f in
    let same : linked.places ≡ before.places + places = omega (arith, p, q) in
    ap (λ (n : ℕ). joined linked (inside n)) same
    ∙ ap (λ (v : Piece). joined v (inside (before.places + places))) (f ∙ ap (λ (v : Piece). joined v (only_links links)) e)
    ∙ joined_assoc (joined before (only_places places)) (only_links links) (inside (before.places + places))
    ∙ joined_assoc before (only_places places) (joined (only_links links) (inside (before.places + places)))
