-- Links and the ports of the kinds.
use Rattle.std.proofs.Common.{◌≡◌, ◌≢◌, ◌∙◌, ◌<◌, ◌≤◌, ◌+◌, ◌-◌, ℕ, suc, List, map, length, Option, Some, None, refl, sym, ap, subst, arith}
use Rattle.std.specs.Prelude.{slice_get}
use Rattle.std.specs.Option.{option_map}
use Rattle.std.specs.List.{All, AllPairs, AllZip, enumerate_from, flat_map}
use Rattle.std.proofs.lemmas.Option.{slice_get_within, some_pair_parts}
use Rattle.rsfq_ids.specs.declared.table.CellRow.{CellRow}
use Rattle.verilog_tree.specs.Trees as tree
use Rattle.bind_sites.specs.Sites.{Site, Instance as InstanceSite, Named, Ordered, instance_sites, port_names, sites}
use Rattle.bind_sites.specs.Selects.{width_of}
use Rattle.bind_sites.specs.Scope.{IsAt}
use Rattle.bind_forms.specs.declared.bound.BoundPort.{BoundPort}
use Rattle.bind_forms.specs.declared.bound.BoundWire.{BoundWire}
use Rattle.bind_forms.specs.declared.bound.BoundKind.{BoundKind}
use Rattle.bind_forms.specs.declared.bound.BoundKind.TheVariants as kind
use Rattle.bind_forms.specs.declared.bound.BoundLink.{BoundLink}
use Rattle.bind_forms.specs.declared.bound.BoundModule.{BoundModule}
use Rattle.bind_forms.specs.declared.bound.Bound.{Bound}
use Rattle.bind_forms.specs.WellFormed.{cell_ports, port_widths, parts_width, IsLink, IsInstance}
use Rattle.bind_forms.specs.Modules.{Setting, IsModuleNamed, IsCellNamed, MeansModule, MeansCell, HasPorts, OfModule, OfCell}
use Rattle.bind_forms.specs.Binds.{Binds, BindsPort, BindsKind, BindsNamed, BindsOrdered, BindsLinks, BindsInstance, named_exprs, ordered_exprs, item_instances}
use Rattle.bind_forms.specs.Faults.{HasReachedSites, PortWidth, OfModulePort, OfPin, OfNamed, OfOrdered}
use Rattle.bind_forms.specs.First.{HasNoFault}
use Rattle.bind_laws.proofs.Standing.{IsPieceAt}
use Rattle.bind_laws.proofs.Single.{KnowsRanges}
use Rattle.bind_laws.specs.Laws.{InstancesFit}
use Rattle.bind_laws.proofs.Lists.{got_map, got_within, one_got, got_numbered, all_got, pairs_got, zip_right, zip_left, picked_got, picked_pair}
use Rattle.bind_laws.proofs.Pieces.{instances_stand, named_links_stand, ordered_links_stand, instances_are_apart}
use Rattle.bind_laws.proofs.Owners.{source_of, bound_at, has_sites, reached_sites, not_twice, not_too_many, same_width, first_one}
use Rattle.bind_laws.proofs.Widths.{parts_lie, knows_ranges, expr_width}

-- ---- the widths of a kind's ports

pub means_one : (setting : Setting) (name : List ℕ) (a b : ℕ) → MeansModule setting name a → MeansModule setting name b → a ≡ b
means_one setting name a b g h = first_one (λ at. IsModuleNamed setting at name) a b g.0 g.1 h.0 h.1

pub cell_one : (setting : Setting) (name : List ℕ) (a b : ℕ) → MeansCell setting name a → MeansCell setting name b → a ≡ b
cell_one setting name a b g h = first_one (λ row. IsCellNamed setting row name) a b g.1 g.2 h.1 h.2

-- each port of the kind has a width
abbrev KnowsWidths : Setting → List ℕ → List (List ℕ) → List ℕ → Type 0
KnowsWidths setting name names widths = (port : ℕ) (pin : List ℕ) → slice_get names port ≡ Some pin → (width : ℕ) × (slice_get widths port ≡ Some width) × PortWidth setting name pin width

-- the widths of the ports of a kind
abbrev HasKindWidths : Setting → Bound → List ℕ → BoundKind → List (List ℕ) → Type 0
HasKindWidths setting bound name of_kind names = (widths : List ℕ) × (port_widths setting.table bound of_kind ≡ Some widths) × KnowsWidths setting name names widths

module_widths : (setting : Setting) (bound : Bound) (binds : Binds setting bound) (name : List ℕ) (number at : ℕ) → slice_get binds.places number ≡ Some at → MeansModule setting name at
    → (names : List (List ℕ)) → HasPorts setting name names → HasKindWidths setting bound name (kind.Module number) names
module_widths setting bound binds name number at place means names (OfModule other holder means_too there is) =
    let inner = bound_at setting bound binds number at place in
    let same : other ≡ at = means_one setting name other at means_too means in
    let holder_is : holder ≡ inner.2.owner = one_got setting.modules at holder inner.2.owner (subst (λ (n : ℕ). slice_get setting.modules n ≡ Some holder) same there) inner.2.there in
    let names_are : names ≡ port_names inner.2.owner.head = is ∙ ap (λ (m : tree.Module). port_names m.head) holder_is in (
      map (λ (port : BoundPort). width_of port.range) inner.0.ports,
      ap (λ (o : Option BoundModule). option_map (λ (m : BoundModule). map (λ (port : BoundPort). width_of port.range) m.ports) o) inner.1,
      λ port pin e.
          let r = zip_left (BindsPort (sites inner.2.owner)) (port_names inner.2.owner.head) inner.0.ports port pin inner.2.binds.ports (subst (λ (l : List (List ℕ)). slice_get l port ≡ Some pin) names_are e) in (
            width_of r.0.range,
            got_map (λ (p : BoundPort). width_of p.range) inner.0.ports port r.0 r.1,
            OfModulePort at (sites inner.2.owner) r.0.output r.0.range means (has_sites setting binds.places at inner.0 inner.2) r.2.declared refl,
          ),
    )
module_widths setting bound binds name number at place means names (OfCell row cell none there is) = absurd (none.0 at means.0)

cell_widths : (setting : Setting) (bound : Bound) (name : List ℕ) (row : ℕ) → MeansCell setting name row → (names : List (List ℕ)) → HasPorts setting name names → HasKindWidths setting bound name (kind.Cell row) names
cell_widths setting bound name row means names (OfModule at holder means_too there is) = absurd (means.0 at means_too.0)
cell_widths setting bound name row means names (OfCell other cell means_too there is) =
    let same : other ≡ row = cell_one setting name other row means_too means in
    let here = subst (λ (n : ℕ). slice_get setting.table.rows n ≡ Some cell) same there in (
      map (λ (pin : List ℕ). 1) (cell_ports cell),
      ap (λ (o : Option CellRow). option_map (λ (r : CellRow). map (λ (pin : List ℕ). 1) (cell_ports r)) o) here,
      λ port pin e. (1, got_map (λ (p : List ℕ). 1) (cell_ports cell) port pin (subst (λ (l : List (List ℕ)). slice_get l port ≡ Some pin) is e), OfPin row means refl),
    )

kind_widths : (setting : Setting) (bound : Bound) (binds : Binds setting bound) (name : List ℕ) (of_kind : BoundKind) → BindsKind setting binds.places name of_kind
    → (names : List (List ℕ)) → HasPorts setting name names → HasKindWidths setting bound name of_kind names
kind_widths setting bound binds name (kind.Module number) b names ports = module_widths setting bound binds name number b.0 b.1 b.2 names ports
kind_widths setting bound binds name (kind.Cell row) b names ports = cell_widths setting bound name row b names ports

-- ---- links with expressions

named_with : (port : List ℕ) (expr : Option tree.Expr) (named : List ℕ × tree.Expr) → option_map (λ (e : tree.Expr). (port, e)) expr ≡ Some named → (port ≡ named.0) × (expr ≡ Some named.1)
named_with port None named e = absurd cc
named_with port (Some expr) named e = let both = some_pair_parts port named.0 expr named.1 e in (both.0, ap Some both.1)

placed_with : (place : ℕ) (expr : Option tree.Expr) (placed : ℕ × tree.Expr) → option_map (λ (e : tree.Expr). (place, e)) expr ≡ Some placed → (place ≡ placed.0) × (expr ≡ Some placed.1)
placed_with place None placed e = absurd cc
placed_with place (Some expr) placed e = let both = some_pair_parts place placed.0 expr placed.1 e in (both.0, ap Some both.1)

-- what the links of one instance are found by
record InstanceAt (setting : Setting) (name own : List ℕ) (links : tree.Links) : Type 0 where
  none : HasNoFault setting
  at : ℕ
  all : List Site
  reached : HasReachedSites setting at all
  place : ℕ
  piece : IsPieceAt all place (instance_sites name (record { name = own; links = links }))
  names : List (List ℕ)
  ports : HasPorts setting name names

width_fits : (widths : List ℕ) (port want have : ℕ) → slice_get widths port ≡ Some want → have ≡ want → slice_get widths port ≡ Some have
width_fits widths port want have there same = there ∙ ap Some (sym same)

-- ---- links by name

-- a link by name stands behind its instance, under the name of its port
named_there : (setting : Setting) (name own : List ℕ) (links : List tree.NamedLink) (i : InstanceAt setting name own (tree.Named links)) (k : ℕ) (link : tree.NamedLink) (named : List ℕ × tree.Expr)
    → slice_get links k ≡ Some link → option_map (λ (e : tree.Expr). (link.name, e)) link.expr ≡ Some named
    → IsAt i.all (i.place + (suc ((named_links_stand name own links).0 k) + 0)) (Named name named.0 (Some named.1))
named_there setting name own links i k link named e is =
    let stands = named_links_stand name own links in
    let both = named_with link.name link.expr named is in
    let inner : IsAt (instance_sites name (record { name = own; links = tree.Named links })) (suc (stands.0 k) + 0) (Named name link.name link.expr) = stands.1 k link e 0 (Named name link.name link.expr) refl in
    let there = i.piece (suc (stands.0 k) + 0) (Named name link.name link.expr) inner in
    subst (λ (x : Option tree.Expr). IsAt i.all (i.place + (suc (stands.0 k) + 0)) (Named name named.0 x)) both.1
    (subst (λ (n : List ℕ). IsAt i.all (i.place + (suc (stands.0 k) + 0)) (Named name n link.expr)) both.0 there)

named_fit : (setting : Setting) (name own : List ℕ) (links : List tree.NamedLink) (i : InstanceAt setting name own (tree.Named links)) (wires : List BoundWire) → KnowsRanges i.all wires
    → (widths : List ℕ) → KnowsWidths setting name i.names widths → (bounds : List BoundLink) → AllZip (BindsNamed i.names wires) (named_exprs links) bounds → All (IsLink wires widths) bounds
named_fit setting name own links i wires ranges widths knows bounds b = all_got (IsLink wires widths) bounds (λ m link e.
    let r = zip_right (BindsNamed i.names wires) (named_exprs links) bounds m link b e in
    let p = picked_got (λ (l : tree.NamedLink). option_map (λ (x : tree.Expr). (l.name, x)) l.expr) links m r.0 r.1 in
    let there = named_there setting name own links i p.0 p.1 r.0 p.2 p.3 in
    let w = knows link.port r.0.0 r.2.port in
    let have = expr_width i.all wires ranges r.0.1 link.parts r.2.parts in
    let same = same_width setting i.none i.at i.all i.reached (i.place + (suc ((named_links_stand name own links).0 p.0) + 0)) (parts_width link.parts) w.0 (OfNamed name r.0.0 r.0.1 there have w.2) in
    record { parts = parts_lie wires r.0.1 link.parts r.2.parts; width = width_fits widths link.port w.0 (parts_width link.parts) w.1 same })

-- between two links of an instance no instance stands
between_apart : (all : List Site) (place : ℕ) (name : List ℕ) (instance : tree.Instance) → IsPieceAt all place (instance_sites name instance) → (low high : ℕ) (last : Site) → IsAt (instance_sites name instance) (suc high + 0) last
    → (between : ℕ) (inner_kind inner_name : List ℕ) (links : tree.Links) → place + (suc low + 0) < between → between < place + (suc high + 0) → ¬ IsAt all between (InstanceSite inner_kind inner_name links)
between_apart all place name instance piece low high last ends between inner_kind inner_name links l m there =
    let within = slice_get_within (instance_sites name instance) (suc high + 0) last ends in
    let k = between - place - 1 in
    let is : place + suc k ≡ between = omega arith in
    let inner = got_within (instance_sites name instance) (suc k) (omega (arith, within)) in
    let outer = subst (λ (n : ℕ). IsAt all n inner.0) is (piece (suc k) inner.0 inner.1) in
    let same = one_got all between inner.0 (InstanceSite inner_kind inner_name links) outer there in
    instances_are_apart name instance k inner_kind inner_name links (subst (λ (s : Site). IsAt (instance_sites name instance) (suc k) s) same inner.1)

named_once : (setting : Setting) (name own : List ℕ) (links : List tree.NamedLink) (i : InstanceAt setting name own (tree.Named links)) (wires : List BoundWire)
    → (bounds : List BoundLink) → AllZip (BindsNamed i.names wires) (named_exprs links) bounds → AllPairs (λ one other. one.port ≢ other.port) bounds
named_once setting name own links i wires bounds b = pairs_got (λ one other. one.port ≢ other.port) bounds (λ m n one other l e f same.
    let instance : tree.Instance = record { name = own; links = tree.Named links } in
    let stands = named_links_stand name own links in
    let r = zip_right (BindsNamed i.names wires) (named_exprs links) bounds m one b e in
    let s = zip_right (BindsNamed i.names wires) (named_exprs links) bounds n other b f in
    let p = picked_pair (λ (x : tree.NamedLink). option_map (λ (y : tree.Expr). (x.name, y)) x.expr) links m n r.0 s.0 l r.1 s.1 in
    let first = named_there setting name own links i p.0 p.2 r.0 p.5 p.7 in
    let second = named_there setting name own links i p.1 p.3 s.0 p.6 p.8 in
    let rises = stands.2 p.0 p.1 p.2 p.3 p.4 p.5 p.6 in
    let name_is : r.0.0 ≡ s.0.0 = one_got i.names other.port r.0.0 s.0.0 (subst (λ (k : ℕ). slice_get i.names k ≡ Some r.0.0) same r.2.port) s.2.port in
    let ends : IsAt (instance_sites name instance) (suc (stands.0 p.1) + 0) (Named name p.3.name p.3.expr) = stands.1 p.1 p.3 p.6 0 (Named name p.3.name p.3.expr) refl in
    not_twice setting i.none i.at i.all i.reached (i.place + (suc (stands.0 p.1) + 0)) s.0.0 (record {
      kind = name;
      expr = Some s.0.1;
      there = second;
      earlier = i.place + (suc (stands.0 p.0) + 0);
      before = omega (arith, rises);
      earlier_kind = name;
      earlier_expr = Some r.0.1;
      there_too = subst (λ (x : List ℕ). IsAt i.all (i.place + (suc (stands.0 p.0) + 0)) (Named name x (Some r.0.1))) name_is first;
      together = between_apart i.all i.place name instance i.piece (stands.0 p.0) (stands.0 p.1) (Named name p.3.name p.3.expr) ends;
    }))

-- ---- links by order

-- an ordered link that is bound stands at its place among the links
ordered_from : (links : List (Option tree.Expr)) (numbered : ℕ × Option tree.Expr) (k : ℕ) (placed : ℕ × tree.Expr) → slice_get (enumerate_from 0 links) k ≡ Some numbered
    → option_map (λ (e : tree.Expr). (numbered.0, e)) numbered.1 ≡ Some placed → (k ≡ placed.0) × (slice_get links placed.0 ≡ Some (Some placed.1))
ordered_from links numbered k placed e is =
    let both = placed_with numbered.0 numbered.1 placed is in
    let r = got_numbered 0 links k numbered.0 numbered.1 e in
    let place_is = r.0 in
    let placed_is = both.0 in
    let same : k ≡ placed.0 = omega (arith, place_is, placed_is) in
    (same, subst (λ (n : ℕ). slice_get links n ≡ Some (Some placed.1)) same (r.1 ∙ ap Some both.1))

ordered_fit : (setting : Setting) (name own : List ℕ) (links : List (Option tree.Expr)) (i : InstanceAt setting name own (tree.Ordered links)) (wires : List BoundWire) → KnowsRanges i.all wires
    → (widths : List ℕ) → KnowsWidths setting name i.names widths → (bounds : List BoundLink) → AllZip (BindsOrdered wires) (ordered_exprs links) bounds → All (IsLink wires widths) bounds
ordered_fit setting name own links i wires ranges widths knows bounds b = all_got (IsLink wires widths) bounds (λ m link e.
    let instance : tree.Instance = record { name = own; links = tree.Ordered links } in
    let r = zip_right (BindsOrdered wires) (ordered_exprs links) bounds m link b e in
    let p = picked_got (λ ((place, x) : ℕ × Option tree.Expr). option_map (λ (y : tree.Expr). (place, y)) x) (enumerate_from 0 links) m r.0 r.1 in
    let o = ordered_from links p.1 p.0 r.0 p.2 p.3 in
    let head : IsAt i.all (i.place + 0) (InstanceSite name own (tree.Ordered links)) = i.piece 0 (InstanceSite name own (tree.Ordered links)) refl in
    let few = λ (more : length i.names < length links). not_too_many setting i.none i.at i.all i.reached (i.place + 0) (length links) (length i.names)
    (record { kind = name; name = own; links = links; names = i.names; there = head; ports = i.ports; have_is = refl; want_is = refl; more = more }) in
    let fits : length links ≤ length i.names = not_more (length i.names) (length links) few in
    let in_links = slice_get_within links r.0.0 (Some r.0.1) o.1 in
    let pin = got_within i.names r.0.0 (omega (arith, fits, in_links)) in
    let stands = ordered_links_stand name own links r.0.0 (Some r.0.1) o.1 in
    let inner : IsAt (instance_sites name instance) (suc stands.0 + 0) (Ordered name r.0.0 (Some r.0.1)) = stands.1 0 (Ordered name r.0.0 (Some r.0.1)) refl in
    let there = i.piece (suc stands.0 + 0) (Ordered name r.0.0 (Some r.0.1)) inner in
    let w = knows link.port pin.0 (subst (λ (n : ℕ). slice_get i.names n ≡ Some pin.0) (sym r.2.port) pin.1) in
    let have = expr_width i.all wires ranges r.0.1 link.parts r.2.parts in
    let same = same_width setting i.none i.at i.all i.reached (i.place + (suc stands.0 + 0)) (parts_width link.parts) w.0 (OfOrdered name r.0.0 r.0.1 i.names pin.0 there have i.ports pin.1 w.2) in
    record { parts = parts_lie wires r.0.1 link.parts r.2.parts; width = width_fits widths link.port w.0 (parts_width link.parts) w.1 same }) where
      not_more : (a b : ℕ) → ¬ (a < b) → b ≤ a
      not_more a b n = grind arith

ordered_once : (links : List (Option tree.Expr)) (wires : List BoundWire) → (bounds : List BoundLink) → AllZip (BindsOrdered wires) (ordered_exprs links) bounds → AllPairs (λ one other. one.port ≢ other.port) bounds
ordered_once links wires bounds b = pairs_got (λ one other. one.port ≢ other.port) bounds (λ m n one other l e f same.
    let r = zip_right (BindsOrdered wires) (ordered_exprs links) bounds m one b e in
    let s = zip_right (BindsOrdered wires) (ordered_exprs links) bounds n other b f in
    let p = picked_pair (λ ((place, x) : ℕ × Option tree.Expr). option_map (λ (y : tree.Expr). (place, y)) x) (enumerate_from 0 links) m n r.0 s.0 l r.1 s.1 in
    let o = ordered_from links p.2 p.0 r.0 p.5 p.7 in
    let q = ordered_from links p.3 p.1 s.0 p.6 p.8 in
    let lt = p.4 in
    let o_is = o.0 in
    let q_is = q.0 in
    let r_is = r.2.port in
    let s_is = s.2.port in
    omega (arith, lt, o_is, q_is, r_is, s_is, same))

-- ---- instances

links_fit : (setting : Setting) (name own : List ℕ) (links : tree.Links) (i : InstanceAt setting name own links) (wires : List BoundWire) → KnowsRanges i.all wires
    → (widths : List ℕ) → KnowsWidths setting name i.names widths → (bounds : List BoundLink) → BindsLinks i.names wires links bounds
    → All (IsLink wires widths) bounds × AllPairs (λ one other. one.port ≢ other.port) bounds
links_fit setting name own (tree.Named links) i wires ranges widths knows bounds b = (named_fit setting name own links i wires ranges widths knows bounds b, named_once setting name own links i wires bounds b)
links_fit setting name own (tree.Ordered links) i wires ranges widths knows bounds b = (ordered_fit setting name own links i wires ranges widths knows bounds b, ordered_once links wires bounds b)

pub instances_fit : InstancesFit
instances_fit setting bound binds none = all_got (λ (owner : BoundModule). All (IsInstance setting.table bound owner.wires) owner.instances) bound.modules (λ k owner e.
    let s = source_of setting bound binds k owner e in
    let ranges = knows_ranges setting binds.places s.2.owner owner s.2.binds in
    all_got (IsInstance setting.table bound owner.wires) owner.instances (λ n instance f.
    let r = zip_right (BindsInstance setting binds.places owner.wires) (flat_map item_instances s.2.owner.items) owner.instances n instance s.2.binds.instances f in
    let stands = instances_stand s.2.owner n r.0 r.1 in
    let i : InstanceAt setting r.0.0 r.0.1.name r.0.1.links = record {
      none = none;
      at = s.0;
      all = sites s.2.owner;
      reached = reached_sites setting bound binds k s.0 owner s.1 s.2;
      place = stands.0;
      piece = stands.1;
      names = r.2.names;
      ports = r.2.ports;
    } in
    let w = kind_widths setting bound binds r.0.0 instance.kind r.2.kind r.2.names r.2.ports in
    let fit = links_fit setting r.0.0 r.0.1.name r.0.1.links i owner.wires ranges w.0 w.2 instance.links r.2.links in
    record { widths = w.0; kind = w.1; links = fit.0; once = fit.1 }))
