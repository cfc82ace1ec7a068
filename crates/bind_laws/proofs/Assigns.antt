-- Ports, ranges and assigns of bound modules.
use Rattle.std.proofs.Common.{◌≡◌, ◌<◌, ◌≤◌, ◌+◌, ◌⊎◌, inl, inr, ℕ, zero, suc, List, [], ◌∷◌, ◌++◌, map, Bool, Option, Some, None, refl, sym, ap, subst, arith}
use Rattle.std.specs.Prelude.{slice_get}
use Rattle.std.specs.List.{All, flat_map}
use Rattle.rsfq_ids.specs.declared.limits.TheConstants.{WIDTH_LIMIT}
use Rattle.verilog_tree.specs.Trees as tree
use Rattle.bind_sites.specs.Sites.{Site, Module, Listed, Port, Wire, Assign, is_output, port_sites, full_sites, head_sites, listed_port, port_names, item_sites, sites}
use Rattle.bind_sites.specs.Selects.{width_of}
use Rattle.bind_sites.specs.Scope.{IsAt, HasRange, AsPort, AsWire, AsLinked}
use Rattle.bind_sites.specs.Small.{AreSmall, HasSmall, NumbersAreSmall}
use Rattle.bind_forms.specs.declared.bound.BoundPort.{BoundPort}
use Rattle.bind_forms.specs.declared.bound.BoundWire.{BoundWire}
use Rattle.bind_forms.specs.declared.bound.BoundModule.{BoundModule}
use Rattle.bind_forms.specs.WellFormed.{IsRange, IsAssign, parts_width}
use Rattle.bind_forms.specs.Binds.{BindsPort, BindsAssign, item_assigns}
use Rattle.bind_forms.specs.Faults.{OfAssign}
use Rattle.bind_laws.specs.Laws.{PortsAreNarrow, RangesAreSmall, AssignsFit}
use Rattle.bind_laws.proofs.Lists.{Piece, got_map, piece_left, piece_behind, all_got, got_all, zip_right}
use Rattle.bind_laws.proofs.Pieces.{assigns_stand}
use Rattle.bind_laws.proofs.Owners.{source_of, reached_sites, not_too_wide, same_width}
use Rattle.bind_laws.proofs.Widths.{parts_lie, knows_ranges, expr_width}

-- ---- listed ports

-- the ports of a head are listed, the later one at the later place
abbrev ListsPorts : List Site → List (List ℕ) → Type 0
ListsPorts all names = ((p : ℕ) (name : List ℕ) → slice_get names p ≡ Some name → (at : ℕ) × IsAt all at (Listed name))
    × ((p q : ℕ) (one other : List ℕ) → p < q → slice_get names p ≡ Some one → slice_get names q ≡ Some other → (a b : ℕ) × (a < b) × IsAt all a (Listed one) × IsAt all b (Listed other))

plain_listed : (names : List (List ℕ)) → ListsPorts (map Listed names) names
plain_listed names = (
  λ p name e. (p, got_map Listed names p name e),
  λ p q one other l e f. (p, q, l, got_map Listed names p one e, got_map Listed names q other f),
)

abbrev listed_of : Option (List ℕ) → Option Site
listed_of None = None
listed_of (Some name) = Some (Listed name)

-- one more port in front
one_more : (said : Option (Bool × Option (ℕ × ℕ))) (first : List ℕ) (all : List Site) (names : List (List ℕ)) → ListsPorts all names → ListsPorts (port_sites said first ++ all) (first ∷ names)
one_more None first all names h = (one, two) where
  one : (p : ℕ) (name : List ℕ) → slice_get (first ∷ names) p ≡ Some name → (at : ℕ) × IsAt (Listed first ∷ all) at (Listed name)
  one zero name e = (0, ap (λ (o : Option (List ℕ)). listed_of o) e)
  one (suc p) name e = let r = h.0 p name e in (suc r.0, r.1)

  two : (p q : ℕ) (here other : List ℕ) → p < q → slice_get (first ∷ names) p ≡ Some here → slice_get (first ∷ names) q ≡ Some other → (a b : ℕ) × (a < b) × IsAt (Listed first ∷ all) a (Listed here) × IsAt (Listed first ∷ all) b (Listed other)
  two p zero here other l e f = absurd (omega arith)
  two zero (suc q) here other l e f = let r = h.0 q other f in (0, suc r.0, omega arith, ap (λ (o : Option (List ℕ)). listed_of o) e, r.1)
  two (suc p) (suc q) here other l e f = let r = h.1 p q here other (omega arith) e f in let lt = r.2 in (suc r.0, suc r.1, omega (arith, lt), r.3, r.4)
one_more (Some said) first all names h = (one, two) where
  one : (p : ℕ) (name : List ℕ) → slice_get (first ∷ names) p ≡ Some name → (at : ℕ) × IsAt (Listed first ∷ Port first said.0 said.1 ∷ all) at (Listed name)
  one zero name e = (0, ap (λ (o : Option (List ℕ)). listed_of o) e)
  one (suc p) name e = let r = h.0 p name e in (suc (suc r.0), r.1)

  two : (p q : ℕ) (here other : List ℕ) → p < q → slice_get (first ∷ names) p ≡ Some here → slice_get (first ∷ names) q ≡ Some other
      → (a b : ℕ) × (a < b) × IsAt (Listed first ∷ Port first said.0 said.1 ∷ all) a (Listed here) × IsAt (Listed first ∷ Port first said.0 said.1 ∷ all) b (Listed other)
  two p zero here other l e f = absurd (omega arith)
  two zero (suc q) here other l e f = let r = h.0 q other f in (0, suc (suc r.0), omega arith, ap (λ (o : Option (List ℕ)). listed_of o) e, r.1)
  two (suc p) (suc q) here other l e f = let r = h.1 p q here other (omega arith) e f in let lt = r.2 in (suc (suc r.0), suc (suc r.1), omega (arith, lt), r.3, r.4)

full_listed : (before : Option (Bool × Option (ℕ × ℕ))) (ports : List tree.HeadPort) → ListsPorts (full_sites before ports) (map listed_port ports)
full_listed before [] = (λ p name e. absurd cc, λ p q one other l e f. absurd cc)
full_listed before (tree.Full d wire range n ∷ ports) = one_more (Some (is_output d, range)) n (full_sites (Some (is_output d, range)) ports) (map listed_port ports) (full_listed (Some (is_output d, range)) ports)
full_listed before (tree.Bare n ∷ ports) = one_more before n (full_sites before ports) (map listed_port ports) (full_listed before ports)

head_listed : (head : tree.Head) → ListsPorts (head_sites head) (port_names head)
head_listed (tree.Plain names) = plain_listed names
head_listed (tree.Ports ports) = full_listed None ports

head_piece : (owner : tree.Module) → Piece (sites owner) 1 (head_sites owner.head)
head_piece owner =
    piece_behind (Module owner.name) (head_sites owner.head ++ flat_map item_sites owner.items) (head_sites owner.head) 0 (piece_left (head_sites owner.head) (flat_map item_sites owner.items))

pub port_listed : (owner : tree.Module) (p : ℕ) (name : List ℕ) → slice_get (port_names owner.head) p ≡ Some name → (at : ℕ) × IsAt (sites owner) at (Listed name)
port_listed owner p name e = let r = (head_listed owner.head).0 p name e in (1 + r.0, head_piece owner r.0 (Listed name) r.1)

pub ports_listed : (owner : tree.Module) (p q : ℕ) (one other : List ℕ) → p < q → slice_get (port_names owner.head) p ≡ Some one → slice_get (port_names owner.head) q ≡ Some other
    → (a b : ℕ) × (a < b) × IsAt (sites owner) a (Listed one) × IsAt (sites owner) b (Listed other)
ports_listed owner p q one other l e f =
    let r = (head_listed owner.head).1 p q one other l e f in
    let lt = r.2 in
    (1 + r.0, 1 + r.1, omega (arith, lt), head_piece owner r.0 (Listed one) r.3, head_piece owner r.1 (Listed other) r.4)

-- ---- ports are narrow

pub ports_are_narrow : PortsAreNarrow
ports_are_narrow setting bound binds none = all_got (λ (owner : BoundModule). All (λ (port : BoundPort). width_of port.range ≤ WIDTH_LIMIT) owner.ports) bound.modules (λ k owner e.
    let s = source_of setting bound binds k owner e in
    all_got (λ (port : BoundPort). width_of port.range ≤ WIDTH_LIMIT) owner.ports (λ p port f.
    let r = zip_right (BindsPort (sites s.2.owner)) (port_names s.2.owner.head) owner.ports p port s.2.binds.ports f in
    let listed = port_listed s.2.owner p r.0 r.1 in
    let wide = λ (w : WIDTH_LIMIT < width_of port.range). not_too_wide setting none s.0 (sites s.2.owner) (reached_sites setting bound binds k s.0 owner s.1 s.2) listed.0 (width_of port.range)
    (record { name = r.0; output = port.output; range = port.range; there = listed.1; port = r.2.declared; width_is = refl; wide = w }) in
    elim (low_or_wide (width_of port.range)) [ inl l ↦ l | inr w ↦ absurd (wide w) ])) where
      low_or_wide : (n : ℕ) → (n ≤ WIDTH_LIMIT) ⊎ (WIDTH_LIMIT < n)
      low_or_wide n = grind arith

-- ---- ranges are small

known_small : (all : List Site) → All HasSmall all → (name : List ℕ) (range : Option (ℕ × ℕ)) → HasRange all name range → IsRange range
known_small all small name range (AsPort output stands) = as_range range (got_all HasSmall all stands.0 (Port name output range) small stands.1) where
  as_range : (r : Option (ℕ × ℕ)) → AreSmall r → IsRange r
  as_range None h = tt
  as_range (Some r) h = h
known_small all small name range (AsWire none stands) = as_range range (got_all HasSmall all stands.0 (Wire name range) small stands.1) where
  as_range : (r : Option (ℕ × ℕ)) → AreSmall r → IsRange r
  as_range None h = tt
  as_range (Some r) h = h
known_small all small name range (AsLinked none not_wire linked is) = subst IsRange (sym is) tt

pub ranges_are_small : NumbersAreSmall → RangesAreSmall
ranges_are_small numbers setting bound binds spelled = all_got (λ (owner : BoundModule). All (λ (wire : BoundWire). IsRange wire.range) owner.wires) bound.modules (λ k owner e.
    let s = source_of setting bound binds k owner e in
    let small = got_all (λ (m : tree.Module). All HasSmall (sites m)) setting.modules s.0 s.2.owner (numbers setting.modules spelled) s.2.there in
    all_got (λ (wire : BoundWire). IsRange wire.range) owner.wires (λ w wire f.
    known_small (sites s.2.owner) small wire.name wire.range (knows_ranges setting binds.places s.2.owner owner s.2.binds w wire f)))

-- ---- assigns fit

pub assigns_fit : AssignsFit
assigns_fit setting bound binds none = all_got (λ (owner : BoundModule). All (IsAssign owner.wires) owner.assigns) bound.modules (λ k owner e.
    let s = source_of setting bound binds k owner e in
    let all = sites s.2.owner in
    let reached = reached_sites setting bound binds k s.0 owner s.1 s.2 in
    let ranges = knows_ranges setting binds.places s.2.owner owner s.2.binds in
    all_got (IsAssign owner.wires) owner.assigns (λ i assign f.
    let r = zip_right (BindsAssign owner.wires) (flat_map item_assigns s.2.owner.items) owner.assigns i assign s.2.binds.assigns f in
    let piece = assigns_stand s.2.owner i r.0 r.1 in
    let there : IsAt all (piece.0 + 0) (Assign r.0.0 r.0.1) = piece.1 0 (Assign r.0.0 r.0.1) refl in
    let have = expr_width all owner.wires ranges r.0.1 assign.from r.2.from in
    let want = expr_width all owner.wires ranges r.0.0 assign.to r.2.to in
    record {
      to = parts_lie owner.wires r.0.0 assign.to r.2.to;
      from = parts_lie owner.wires r.0.1 assign.from r.2.from;
      width = same_width setting none s.0 all reached (piece.0 + 0) (parts_width assign.from) (parts_width assign.to) (OfAssign r.0.0 r.0.1 there have want);
    }))
