use Rattle.std.proofs.Common.{◌≡◌, ◌∙◌, ◌+◌, ◌*◌, ◌<◌, ℕ, List, length, get_or, Some, false, refl, sym, ap, subst, arith}
use Rattle.std.specs.Prelude.{slice_get}
use Rattle.std.specs.List.{All, flat_map}
use Rattle.std.specs.Option.{option_copied}
use Rattle.std.proofs.lemmas.Option.{slice_get_read, slice_get_within, slice_get-get_or}
use Rattle.rsfq_ids.specs.WellFormed.{IsRow}
use Rattle.bind_forms.specs.declared.bound.BoundAssign.{BoundAssign}
use Rattle.bind_forms.specs.declared.bound.BoundInstance.{BoundInstance}
use Rattle.bind_forms.specs.declared.bound.BoundKind.{BoundKind}
use Rattle.bind_forms.specs.declared.bound.BoundLink.{BoundLink}
use Rattle.bind_forms.specs.declared.bound.BoundModule.{BoundModule}
use Rattle.bind_forms.specs.declared.bound.BoundPort.{BoundPort}
use Rattle.bind_forms.specs.declared.bound.BoundWire.{BoundWire}
use Rattle.bind_forms.specs.WellFormed.{IsModule, IsInstance}
use Rattle.flat_places.specs.declared.size.Size.{Size}
use Rattle.flat_places.specs.Hierarchy.{module_of, bits_of, wires_of}
use Rattle.flat_places.specs.Assigns.{new_places, different}
use Rattle.flat_places.specs.Bits.{offsets_from, assign_links}
use Rattle.flat_places.specs.Paths.{longer}
use Rattle.flat_places.specs.Pieces.{Piece, joined, only_places, only_links, cell_piece, links_of_link, instance_at}
use Rattle.flat_names.proofs.Lists.{read_from, read_at}
use Rattle.flat_names.proofs.Modules.{some_level, one_less, module_there}
use Rattle.flattener.specs.Wiring.{AreNumbered, IsNumberedLink}
use Rattle.flattener.specs.Walk.{HasRoom}
use Rattle.flattener.specs.Solid.{solid_places}
use Rattle.flattener.specs.Written.{piece_of}
use Rattle.flattener.proofs.Lists.{ok_along}
use Rattle.flattener.proofs.Numbering.{parts_numbered, offsets_on}
use Rattle.flattener.proofs.Picking.{place_below, kept_at}
use Rattle.flattener.proofs.Steps.{instance_step, instance_room, started}
use Rattle.flattener.proofs.Pathless.{path_free}
use Rattle.flattener.proofs.Instances.{few_pins, links_numbered, row_there, cell_at, passed_over, wires_room, module_links, module_goes}
use Rattle.flattener.proofs.wiring.+wire_up.Goals as goal
use Rattle.flat_places.proofs.Joined.{all_got}
use Rattle.flat_places.proofs.Modules.{instances_at, wires_at}

pub wire_instance-add_cell-requires-clause-links : goal.wire_instance-add_cell-requires-clause-links
wire_instance-add_cell-requires-clause-links t c =
    subst (λ (ls : List BoundLink). All (λ (link : BoundLink). AreNumbered c.args.offsets.now link.parts) ls) (sym c.as_slice-links.ensures) (links_numbered c.args.walk.source.cells.now c.args.walk.source.bound.now c.args.offsets.now c.args.instance.now c.requires.instance)

pub wire_instance-add_cell-requires-clause-pins : goal.wire_instance-add_cell-requires-clause-pins
wire_instance-add_cell-requires-clause-pins t c =
    let row = c.index-as_slice-number.result in
    let found = row_there c.args.walk.source.cells.now c.args.walk.source.bound.now c.requires.instance.wires c.args.instance.now c.in-Cell.number c.requires.instance.is_instance c.in-Cell.is in
    few_pins row (all_got IsRow c.args.walk.source.cells.now.rows c.in-Cell.number row c.requires.walk.source.table.rows
    (read_at c.args.walk.source.cells.now.rows c.as_slice.result.now c.in-Cell.number found.0 row found.1 c.as_slice.ensures c.index-as_slice-number.is))

pub wire_instance-bounds-walk-at : goal.wire_instance-bounds-walk-at
wire_instance-bounds-walk-at t c =
    let found = module_there c.args.walk.source.cells.now c.args.walk.source.bound.now c.requires.instance.wires c.args.instance.now c.in-Module.at c.requires.instance.is_instance c.in-Module.is in
    let low = slice_get_within c.args.walk.source.bound.now.modules c.in-Module.at found.0 found.1 in
    let count = c.requires.walk.source.sizes.count in
    omega (arith, low, count)

pub wire_instance-place_wires-requires : goal.wire_instance-place_wires-requires
wire_instance-place_wires-requires t c =
    let found = module_there c.args.walk.source.cells.now c.args.walk.source.bound.now c.requires.instance.wires c.args.instance.now c.in-Module.at c.requires.instance.is_instance c.in-Module.is in
    let owner = c.index-as_slice-at.result in
    let there = read_at c.args.walk.source.bound.now.modules c.as_slice-in-Module.result.now c.in-Module.at found.0 owner found.1 c.as_slice-in-Module.ensures c.index-as_slice-at.is in
    subst (λ (ws : List BoundWire). c.args.wiring.now.places + bits_of ws < 4294967296) (sym c.as_slice-in-Module-2.ensures)
    (wires_room c.args.walk.source.cells.now c.args.walk.source.bound.now c.args.levels (option_copied c.args.path) c.args.offsets.now (piece_of c.args.wiring.now) c.args.instance.now c.in-Module.at owner c.in-Module.is there c.requires.room)

pub wire_instance-add_links-requires : goal.wire_instance-add_links-requires
wire_instance-add_links-requires t c =
    let found = module_there c.args.walk.source.cells.now c.args.walk.source.bound.now c.requires.instance.wires c.args.instance.now c.in-Module.at c.requires.instance.is_instance c.in-Module.is in
    let owner = c.index-as_slice-at.result in
    let there = read_at c.args.walk.source.bound.now.modules c.as_slice-in-Module.result.now c.in-Module.at found.0 owner found.1 c.as_slice-in-Module.ensures c.index-as_slice-at.is in
    let begins : c.as_slice-in-Module-4.result.now ≡ offsets_from c.args.wiring.now.places owner.wires = c.as_slice-in-Module-4.ensures.value ∙ c.in_ok-inner-in-Module.ensures.offsets ∙ ap (offsets_from c.args.wiring.now.places) c.as_slice-in-Module-2.ensures in
    let small = wires_room c.args.walk.source.cells.now c.args.walk.source.bound.now c.args.levels (option_copied c.args.path) c.args.offsets.now (piece_of c.args.wiring.now) c.args.instance.now c.in-Module.at owner c.in-Module.is there c.requires.room in
    let fits = module_links c.args.walk.source.cells.now c.args.walk.source.bound.now c.args.offsets.now c.as_slice-in-Module-4.result.now c.args.instance.now c.in-Module.at owner c.requires.walk.source.is_bound c.requires.instance c.in-Module.is there
    (record { base = c.args.wiring.now.places; listed = begins; small = small }) in
    subst (λ (ls : List BoundLink). All (IsNumberedLink c.as_slice-in-Module-3.result.now c.as_slice-in-Module-4.result.now c.args.offsets.now) ls) (sym c.as_slice-links.ensures)
    (subst (λ (ps : List BoundPort). All (IsNumberedLink ps c.as_slice-in-Module-4.result.now c.args.offsets.now) c.args.instance.now.links) (sym c.as_slice-in-Module-3.ensures) fits)

pub wire_instance-overflow_sub-levels : goal.wire_instance-overflow_sub-levels
wire_instance-overflow_sub-levels t c = (c.requires.deep c.in-Module.at (ap (λ (k : BoundKind). module_of k) c.in-Module.is)).0

pub wire_instance-wire_up-requires : goal.wire_instance-wire_up-requires
wire_instance-wire_up-requires t c =
    let found = module_there c.args.walk.source.cells.now c.args.walk.source.bound.now c.requires.instance.wires c.args.instance.now c.in-Module.at c.requires.instance.is_instance c.in-Module.is in
    let owner = c.index-as_slice-at.result in
    let there = read_at c.args.walk.source.bound.now.modules c.as_slice-in-Module.result.now c.in-Module.at found.0 owner found.1 c.as_slice-in-Module.ensures c.index-as_slice-at.is in
    let begins : c.as_slice-in-Module-4.result.now ≡ offsets_from c.args.wiring.now.places owner.wires = c.as_slice-in-Module-4.ensures.value ∙ c.in_ok-inner-in-Module.ensures.offsets ∙ ap (offsets_from c.args.wiring.now.places) c.as_slice-in-Module-2.ensures in
    let small = wires_room c.args.walk.source.cells.now c.args.walk.source.bound.now c.args.levels (option_copied c.args.path) c.args.offsets.now (piece_of c.args.wiring.now) c.args.instance.now c.in-Module.at owner c.in-Module.is there c.requires.room in
    let sizes = c.args.walk.source.sizes.now in
    let size : Size = get_or sizes c.in-Module.at (record { deep = false; cells = 0; bits = 0 }) in
    let within = slice_get_within c.args.walk.source.bound.now.modules c.in-Module.at owner there in
    let count = c.requires.walk.source.sizes.count in
    let low : c.in-Module.at < length sizes = omega (arith, within, count) in
    let named = path_free c.args.walk.source.cells.now c.args.walk.source.bound.now c.args.levels c.in-Module.at sizes size c.as_str-in-Module-2.result.now (longer (option_copied c.args.path) c.args.instance.now.name) c.requires.walk.source.sizes
    (slice_get-get_or sizes c.in-Module.at (record { deep = false; cells = 0; bits = 0 }) low) c.requires.levels
    (λ some. c.as_str-in-Module-2.ensures ∙ c.in_ok-path-in-Module.ensures some ∙ ap (longer (option_copied c.args.path)) c.as_str-in-Module.ensures) in
    let inner : c.as_slice-in-Module-5.result.now ≡ c.as_slice-in-Module-4.result.now = c.as_slice-in-Module-5.ensures.value ∙ sym c.as_slice-in-Module-4.ensures.value in
    let placed : piece_of c.place_wires.new.self ≡ joined (piece_of c.args.wiring.now) (only_places (bits_of owner.wires)) = c.in_ok-inner-in-Module.ensures.places ∙ ap (λ (ws : List BoundWire). joined (piece_of c.args.wiring.now) (only_places (bits_of ws))) c.as_slice-in-Module-2.ensures in
    let linked : piece_of c.add_links.new.self ≡ joined (piece_of c.place_wires.new.self) (only_links (flat_map (links_of_link owner.ports c.as_slice-in-Module-5.result.now c.args.offsets.now) c.args.instance.now.links)) =
    c.in_ok-add_links-in-Module.ensures
    ∙ ap (λ (ps : List BoundPort). joined (piece_of c.place_wires.new.self) (only_links (flat_map (links_of_link ps c.as_slice-in-Module-4.result.now c.args.offsets.now) c.as_slice-links.result.now))) c.as_slice-in-Module-3.ensures
    ∙ ap (λ (os : List ℕ). joined (piece_of c.place_wires.new.self) (only_links (flat_map (links_of_link owner.ports os c.args.offsets.now) c.as_slice-links.result.now))) (sym inner)
    ∙ ap (λ (ls : List BoundLink). joined (piece_of c.place_wires.new.self) (only_links (flat_map (links_of_link owner.ports c.as_slice-in-Module-5.result.now c.args.offsets.now) ls))) c.as_slice-links.ensures in
    let goes = module_goes c.args.walk.source.cells.now c.args.walk.source.bound.now c.args.levels (option_copied c.args.path) c.args.offsets.now c.args.instance.now c.in-Module.at owner (piece_of c.args.wiring.now) (piece_of c.place_wires.new.self)
    (piece_of c.add_links.new.self) c.as_slice-in-Module-5.result.now c.as_str-in-Module-2.result.now c.in-Module.is there named (inner ∙ begins) placed linked in
    let deep = c.requires.deep c.in-Module.at (ap (λ (k : BoundKind). module_of k) c.in-Module.is) in
    let low = deep.0 in
    let high = c.requires.levels in
    let measure : 2 * c.args.levels ≡ t = c.decreases in (
      omega (arith, measure, low),
      (
        c.requires.walk,
        (
          slice_get_within c.args.walk.source.bound.now.modules c.in-Module.at owner there,
          (
            omega (arith, high),
            (
              deep.1,
              (
                record { base = c.args.wiring.now.places; listed = inner ∙ begins ∙ ap (offsets_from c.args.wiring.now.places) (sym (wires_at c.args.walk.source.bound.now c.in-Module.at owner there)); small = subst (λ (ws : List BoundWire). c.args.wiring.now.places + bits_of ws < 4294967296) (sym (wires_at c.args.walk.source.bound.now c.in-Module.at owner there)) small },
                subst HasRoom (sym goes) c.requires.room,
              ),
            ),
          ),
        ),
      ),
    )

pub wire_instance-returns-in_ok-path-in-Cell : goal.wire_instance-returns-in_ok-path-in-Cell
wire_instance-returns-in_ok-path-in-Cell t c =
    let found = row_there c.args.walk.source.cells.now c.args.walk.source.bound.now c.requires.instance.wires c.args.instance.now c.in-Cell.number c.requires.instance.is_instance c.in-Cell.is in
    let row = c.index-as_slice-number.result in
    let there = read_at c.args.walk.source.cells.now.rows c.as_slice.result.now c.in-Cell.number found.0 row found.1 c.as_slice.ensures c.index-as_slice-number.is in
    let piece = λ (name : List ℕ) (links : List BoundLink). joined (piece_of c.args.wiring.now) (cell_piece name c.in-Cell.number row links c.args.offsets.now) in
    ok_along (λ (p : Piece). piece_of c.add_cell.new.self ≡ p)
    (ap (λ (name : List ℕ). piece name c.as_slice-links.result.now) (c.in_ok-path-in-Cell.ensures ∙ ap (longer (option_copied c.args.path)) c.as_str.ensures)
    ∙ ap (λ (links : List BoundLink). piece (longer (option_copied c.args.path) c.args.instance.now.name) links) c.as_slice-links.ensures
    ∙ ap (joined (piece_of c.args.wiring.now)) (sym (cell_at c.args.walk.source.cells.now c.args.walk.source.bound.now c.args.levels (option_copied c.args.path) c.args.offsets.now c.args.wiring.now.places c.args.instance.now c.in-Cell.number row c.in-Cell.is there)))
    c.add_cell.result c.add_cell.ensures

pub wire_instance-returns-in_ok-path-in-Module : goal.wire_instance-returns-in_ok-path-in-Module
wire_instance-returns-in_ok-path-in-Module t c =
    let found = module_there c.args.walk.source.cells.now c.args.walk.source.bound.now c.requires.instance.wires c.args.instance.now c.in-Module.at c.requires.instance.is_instance c.in-Module.is in
    let owner = c.index-as_slice-at.result in
    let there = read_at c.args.walk.source.bound.now.modules c.as_slice-in-Module.result.now c.in-Module.at found.0 owner found.1 c.as_slice-in-Module.ensures c.index-as_slice-at.is in
    let begins : c.as_slice-in-Module-4.result.now ≡ offsets_from c.args.wiring.now.places owner.wires = c.as_slice-in-Module-4.ensures.value ∙ c.in_ok-inner-in-Module.ensures.offsets ∙ ap (offsets_from c.args.wiring.now.places) c.as_slice-in-Module-2.ensures in
    let small = wires_room c.args.walk.source.cells.now c.args.walk.source.bound.now c.args.levels (option_copied c.args.path) c.args.offsets.now (piece_of c.args.wiring.now) c.args.instance.now c.in-Module.at owner c.in-Module.is there c.requires.room in
    let sizes = c.args.walk.source.sizes.now in
    let size : Size = get_or sizes c.in-Module.at (record { deep = false; cells = 0; bits = 0 }) in
    let within = slice_get_within c.args.walk.source.bound.now.modules c.in-Module.at owner there in
    let count = c.requires.walk.source.sizes.count in
    let low : c.in-Module.at < length sizes = omega (arith, within, count) in
    let named = path_free c.args.walk.source.cells.now c.args.walk.source.bound.now c.args.levels c.in-Module.at sizes size c.as_str-in-Module-2.result.now (longer (option_copied c.args.path) c.args.instance.now.name) c.requires.walk.source.sizes
    (slice_get-get_or sizes c.in-Module.at (record { deep = false; cells = 0; bits = 0 }) low) c.requires.levels
    (λ some. c.as_str-in-Module-2.ensures ∙ c.in_ok-path-in-Module.ensures some ∙ ap (longer (option_copied c.args.path)) c.as_str-in-Module.ensures) in
    let inner : c.as_slice-in-Module-5.result.now ≡ c.as_slice-in-Module-4.result.now = c.as_slice-in-Module-5.ensures.value ∙ sym c.as_slice-in-Module-4.ensures.value in
    let placed : piece_of c.place_wires.new.self ≡ joined (piece_of c.args.wiring.now) (only_places (bits_of owner.wires)) = c.in_ok-inner-in-Module.ensures.places ∙ ap (λ (ws : List BoundWire). joined (piece_of c.args.wiring.now) (only_places (bits_of ws))) c.as_slice-in-Module-2.ensures in
    let linked : piece_of c.add_links.new.self ≡ joined (piece_of c.place_wires.new.self) (only_links (flat_map (links_of_link owner.ports c.as_slice-in-Module-5.result.now c.args.offsets.now) c.args.instance.now.links)) =
    c.in_ok-add_links-in-Module.ensures
    ∙ ap (λ (ps : List BoundPort). joined (piece_of c.place_wires.new.self) (only_links (flat_map (links_of_link ps c.as_slice-in-Module-4.result.now c.args.offsets.now) c.as_slice-links.result.now))) c.as_slice-in-Module-3.ensures
    ∙ ap (λ (os : List ℕ). joined (piece_of c.place_wires.new.self) (only_links (flat_map (links_of_link owner.ports os c.args.offsets.now) c.as_slice-links.result.now))) (sym inner)
    ∙ ap (λ (ls : List BoundLink). joined (piece_of c.place_wires.new.self) (only_links (flat_map (links_of_link owner.ports c.as_slice-in-Module-5.result.now c.args.offsets.now) ls))) c.as_slice-links.ensures in
    let goes = module_goes c.args.walk.source.cells.now c.args.walk.source.bound.now c.args.levels (option_copied c.args.path) c.args.offsets.now c.args.instance.now c.in-Module.at owner (piece_of c.args.wiring.now) (piece_of c.place_wires.new.self)
    (piece_of c.add_links.new.self) c.as_slice-in-Module-5.result.now c.as_str-in-Module-2.result.now c.in-Module.is there named (inner ∙ begins) placed linked in
    ok_along (λ (p : Piece). piece_of c.wire_up.new.wiring ≡ p) goes c.wire_up.result c.wire_up.ensures

pub wire_up-add_assigns-requires-clause-parts : goal.wire_up-add_assigns-requires-clause-parts
wire_up-add_assigns-requires-clause-parts t c =
    let owner = c.index-as_slice-at.result in
    let there = slice_get_read c.args.walk.source.bound.now.modules (length c.args.walk.source.bound.now.modules) c.args.at owner refl c.requires.there (read_from c.args.walk.source.bound.now.modules c.as_slice.result.now c.args.at owner c.as_slice.ensures c.index-as_slice-at.is) in
    let m = all_got (IsModule c.args.walk.source.cells.now c.args.walk.source.bound.now) c.args.walk.source.bound.now.modules c.args.at owner c.requires.walk.source.is_bound.modules there in
    let placed = offsets_on c.args.offsets.now (wires_of c.args.walk.source.bound.now c.args.at) owner.wires (wires_at c.args.walk.source.bound.now c.args.at owner there) c.requires.offsets in
    subst (λ (assigns : List BoundAssign). All (λ (assign : BoundAssign). AreNumbered c.args.offsets.now assign.to × AreNumbered c.args.offsets.now assign.from) assigns) (sym c.as_slice-assigns.ensures)
    (λ k d low. (parts_numbered c.args.offsets.now owner.wires (get_or owner.assigns k d).to placed (m.assigns k d low).to, parts_numbered c.args.offsets.now owner.wires (get_or owner.assigns k d).from placed (m.assigns k d low).from))

pub wire_up-add_assigns-requires-clause-places : goal.wire_up-add_assigns-requires-clause-places
wire_up-add_assigns-requires-clause-places t c =
    let bound = c.args.walk.source.bound.now in
    let owner = c.index-as_slice-at.result in
    let there = slice_get_read bound.modules (length bound.modules) c.args.at owner refl c.requires.there (read_from bound.modules c.as_slice.result.now c.args.at owner c.as_slice.ensures c.index-as_slice-at.is) in
    c.as_slice-places.ensures
    ∙ sym c.index-walk-at.is
    ∙ kept_at (λ (m : BoundModule). new_places m.assigns) bound.modules c.args.walk.assigns.now c.args.at owner c.index-walk-at.result c.requires.walk.assigns there c.index-walk-at.is
    ∙ ap new_places (sym c.as_slice-assigns.ensures)

pub wire_up-loop-place-init : goal.wire_up-loop-place-init
wire_up-loop-place-init t c =
    let table = c.args.walk.source.cells.now in
    let bound = c.args.walk.source.bound.now in
    let sizes = c.args.walk.source.sizes.now in
    let owner = c.index-as_slice-at.result in
    let there = slice_get_read bound.modules (length bound.modules) c.args.at owner refl c.requires.there (read_from bound.modules c.as_slice.result.now c.args.at owner c.as_slice.ensures c.index-as_slice-at.is) in
    let places : c.as_slice-place-items.result.now ≡ solid_places sizes owner.instances =
    c.as_slice-place-items.ensures ∙ sym c.index-walk-at-2.is ∙ kept_at (λ (m : BoundModule). solid_places sizes m.instances) bound.modules c.args.walk.solid.now c.args.at owner c.index-walk-at-2.result c.requires.walk.solid there c.index-walk-at-2.is in
    let m = all_got (IsModule table bound) bound.modules c.args.at owner c.requires.walk.source.is_bound.modules there in
    let low = some_level bound c.args.levels c.args.at c.requires.deep in
    started table bound c.args.levels c.args.at (option_copied c.args.path) c.args.offsets.now owner sizes (piece_of c.args.wiring.now) (piece_of c.add_assigns.new.self) c.as_slice-instances.result.now c.as_slice-place-items.result.now low there
    (c.in_ok-add_assigns.ensures ∙ ap (λ (assigns : List BoundAssign). joined (piece_of c.args.wiring.now) (only_links (flat_map (assign_links c.args.offsets.now) (different assigns)))) c.as_slice-assigns.ensures) c.as_slice-instances.ensures places
    (λ k x is hollow. passed_over table bound c.args.levels (option_copied c.args.path) c.args.offsets.now owner.wires x sizes c.requires.walk.source.is_bound (all_got (IsInstance table bound owner.wires) owner.instances k x m.instances is) c.requires.walk.source.sizes low c.requires.levels hollow)

pub wire_up-offset_bounds-instances-place : goal.wire_up-offset_bounds-instances-place
wire_up-offset_bounds-instances-place t c =
    let table = c.args.walk.source.cells.now in
    let bound = c.args.walk.source.bound.now in
    let sizes = c.args.walk.source.sizes.now in
    let owner = c.index-as_slice-at.result in
    let there = slice_get_read bound.modules (length bound.modules) c.args.at owner refl c.requires.there (read_from bound.modules c.as_slice.result.now c.args.at owner c.as_slice.ensures c.index-as_slice-at.is) in
    let places : c.as_slice-place-items.result.now ≡ solid_places sizes owner.instances =
    c.as_slice-place-items.ensures ∙ sym c.index-walk-at-2.is ∙ kept_at (λ (m : BoundModule). solid_places sizes m.instances) bound.modules c.args.walk.solid.now c.args.at owner c.index-walk-at-2.result c.requires.walk.solid there c.index-walk-at-2.is in
    let items = c.as_slice-instances.result.now in
    let below = place_below sizes owner.instances items c.as_slice-place-items.result.now c.loop-place.place-index places c.as_slice-instances.ensures c.loop-place-test.true in
    omega (arith, below)

pub wire_up-bounds-instances-place : goal.wire_up-bounds-instances-place
wire_up-bounds-instances-place t c =
    let table = c.args.walk.source.cells.now in
    let bound = c.args.walk.source.bound.now in
    let sizes = c.args.walk.source.sizes.now in
    let owner = c.index-as_slice-at.result in
    let there = slice_get_read bound.modules (length bound.modules) c.args.at owner refl c.requires.there (read_from bound.modules c.as_slice.result.now c.args.at owner c.as_slice.ensures c.index-as_slice-at.is) in
    let places : c.as_slice-place-items.result.now ≡ solid_places sizes owner.instances =
    c.as_slice-place-items.ensures ∙ sym c.index-walk-at-2.is ∙ kept_at (λ (m : BoundModule). solid_places sizes m.instances) bound.modules c.args.walk.solid.now c.args.at owner c.index-walk-at-2.result c.requires.walk.solid there c.index-walk-at-2.is in
    let items = c.as_slice-instances.result.now in
    let below = place_below sizes owner.instances items c.as_slice-place-items.result.now c.loop-place.place-index places c.as_slice-instances.ensures c.loop-place-test.true in
    below

pub wire_up-wire_instance-requires : goal.wire_up-wire_instance-requires
wire_up-wire_instance-requires t c =
    let table = c.args.walk.source.cells.now in
    let bound = c.args.walk.source.bound.now in
    let sizes = c.args.walk.source.sizes.now in
    let owner = c.index-as_slice-at.result in
    let there = slice_get_read bound.modules (length bound.modules) c.args.at owner refl c.requires.there (read_from bound.modules c.as_slice.result.now c.args.at owner c.as_slice.ensures c.index-as_slice-at.is) in
    let places : c.as_slice-place-items.result.now ≡ solid_places sizes owner.instances =
    c.as_slice-place-items.ensures ∙ sym c.index-walk-at-2.is ∙ kept_at (λ (m : BoundModule). solid_places sizes m.instances) bound.modules c.args.walk.solid.now c.args.at owner c.index-walk-at-2.result c.requires.walk.solid there c.index-walk-at-2.is in
    let m = all_got (IsModule table bound) bound.modules c.args.at owner c.requires.walk.source.is_bound.modules there in
    let placed = offsets_on c.args.offsets.now (wires_of bound c.args.at) owner.wires (wires_at bound c.args.at owner there) c.requires.offsets in
    let items = c.as_slice-instances.result.now in
    let below = place_below sizes owner.instances items c.as_slice-place-items.result.now c.loop-place.place-index places c.as_slice-instances.ensures c.loop-place-test.true in
    let instance = c.index-instances-place.result in
    let place = get_or c.as_slice-place-items.result.now c.loop-place.place-index 0 in
    let got = slice_get_read items (length items) place instance refl below c.index-instances-place.is in
    let one = instance_at table bound c.args.levels (option_copied c.args.path) c.args.offsets.now in
    let listed : slice_get owner.instances place ≡ Some instance = subst (λ (is : List BoundInstance). slice_get is place ≡ Some instance) c.as_slice-instances.ensures got in
    let measure : 2 * c.args.levels + 1 ≡ t = c.decreases in (
      omega (arith, measure),
      (
        c.requires.walk,
        (
          record { wires = owner.wires; is_instance = all_got (IsInstance table bound owner.wires) owner.instances place instance m.instances listed; placed = placed },
          (
            c.requires.levels,
            (
              one_less bound c.args.levels c.args.at place instance c.requires.deep (subst (λ (is : List BoundInstance). slice_get is place ≡ Some instance) (sym (instances_at bound c.args.at owner there)) listed),
              instance_room one items c.as_slice-place-items.result.now c.loop-place.place-index instance (piece_of c.loop-place.wiring) _ c.loop-place-test.true got c.loop-place.invariant c.requires.room,
            ),
          ),
        ),
      ),
    )

pub wire_up-loop-place-preserved : goal.wire_up-loop-place-preserved
wire_up-loop-place-preserved t c =
    let table = c.args.walk.source.cells.now in
    let bound = c.args.walk.source.bound.now in
    let sizes = c.args.walk.source.sizes.now in
    let owner = c.index-as_slice-at.result in
    let there = slice_get_read bound.modules (length bound.modules) c.args.at owner refl c.requires.there (read_from bound.modules c.as_slice.result.now c.args.at owner c.as_slice.ensures c.index-as_slice-at.is) in
    let places : c.as_slice-place-items.result.now ≡ solid_places sizes owner.instances =
    c.as_slice-place-items.ensures ∙ sym c.index-walk-at-2.is ∙ kept_at (λ (m : BoundModule). solid_places sizes m.instances) bound.modules c.args.walk.solid.now c.args.at owner c.index-walk-at-2.result c.requires.walk.solid there c.index-walk-at-2.is in
    let items = c.as_slice-instances.result.now in
    let below = place_below sizes owner.instances items c.as_slice-place-items.result.now c.loop-place.place-index places c.as_slice-instances.ensures c.loop-place-test.true in
    let instance = c.index-instances-place.result in
    let place = get_or c.as_slice-place-items.result.now c.loop-place.place-index 0 in
    let got = slice_get_read items (length items) place instance refl below c.index-instances-place.is in
    let one = instance_at table bound c.args.levels (option_copied c.args.path) c.args.offsets.now in
    instance_step one items c.as_slice-place-items.result.now c.loop-place.place-index instance (piece_of c.loop-place.wiring) (piece_of c.wire_instance.new.wiring) _ c.loop-place-test.true got c.in_ok-wire_instance.ensures c.loop-place.invariant
