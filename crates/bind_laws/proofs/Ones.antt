-- What is the only one of its sort.
use Rattle.std.proofs.Common.{◌≡◌, ◌∙◌, ◌<◌, ◌≤◌, ◌+◌, ◌-◌, inl, inr, ℕ, Bool, true, List, [], ◌∷◌, sum, Option, Some, None, refl, sym, ap, subst, arith}
use Rattle.std.specs.Prelude.{slice_get}
use Rattle.std.specs.List.{AllZip, Contains}
use Rattle.std.proofs.lemmas.Bool.{cases_order}
use Rattle.std.proofs.lemmas.Bool.Decides.{nat_tests}
use Rattle.std.proofs.lemmas.Option.{same_Some, slice_get_within}
use Rattle.rsfq_ids.specs.declared.table.CellRow.{CellRow}
use Rattle.verilog_tree.specs.Trees as tree
use Rattle.bind_sites.specs.declared.sort.Sort.{Sort}
use Rattle.bind_sites.specs.declared.sort.Sort.TheVariants as sort
use Rattle.bind_sites.specs.Selects.{width_of, index_at, Selects}
use Rattle.bind_sites.specs.Sites.{Operand, operands, Site, Port, Wire, Assign, Instance as InstanceSite, Named, Ordered, port_names, sites}
use Rattle.bind_sites.specs.Scope.{IsAt, Stands, IsPort, AsPort, AsWire, AsLinked, SelectWidth, OperandWidth, ExprWidth}
use Rattle.bind_sites.specs.Again.{is_own, Gives}
use Rattle.bind_hierarchy.specs.Modules as hierarchy
use Rattle.bind_forms.specs.WellFormed.{cell_ports}
use Rattle.bind_forms.specs.Modules.{Setting, MeansModule, IsReached, HasPorts, OfModule, OfCell}
use Rattle.bind_forms.specs.Binds.{item_instances}
use Rattle.bind_forms.specs.Faults.{HasSites, HasReachedSites, PortWidth, OfModulePort, OfPin, OfAssign, OfNamed, OfOrdered, Within}
use Rattle.bind_forms.specs.First.{Duplicates, StandsNowhere}
use Rattle.bind_forms.specs.declared.fault.BindFault.TheVariants as fault
use Rattle.bind_laws.proofs.Homes.{IsListed}
use Rattle.bind_laws.proofs.Single.{HasNoDouble, RangesAreOne, ExprWidthsAreOne, PortsAreOne, InnerAreReached, WidthsAreOne}
use Rattle.bind_laws.proofs.Lists.{got_contains, one_got, flat_got}
use Rattle.bind_laws.proofs.Pieces.{instance_item}
use Rattle.bind_laws.proofs.Links.{means_one, cell_one}
use Rattle.bind_laws.proofs.Follows.{sites_have_homes, sites_are_listed}

-- ---- ranges

-- a name is given at one place
one_place : (all : List Site) (by : Sort) (name : List ℕ) (a b : ℕ) → is_own by ≡ true → HasNoDouble all → Gives by all a name → Gives by all b name → a ≡ b
one_place all by name a b own single g h = elim (cases_order a b) [
  | inl same ↦ same
  | inr other ↦ elim other [ inl l ↦ absurd (single b name (by, own, (h, (a, l, g)))) | inr l ↦ absurd (single a name (by, own, (g, (b, l, h)))) ]
]

port_same : (name : List ℕ) (o p : Bool) (r s : Option (ℕ × ℕ)) → Port name o r ≡ Port name p s → (o ≡ p) × (r ≡ s)
port_same name o p r s e = (cc, cc)

wire_same : (name : List ℕ) (r s : Option (ℕ × ℕ)) → Wire name r ≡ Wire name s → r ≡ s
wire_same name r s e = cc

pub one_port : (all : List Site) (name : List ℕ) (o p : Bool) (r s : Option (ℕ × ℕ)) → HasNoDouble all → IsPort all name o r → IsPort all name p s → (o ≡ p) × (r ≡ s)
one_port all name o p r s single g h =
    let same : g.0 ≡ h.0 = one_place all sort.Direction name g.0 h.0 refl single (Port name o r, g.1, refl) (Port name p s, h.1, refl) in
    port_same name o p r s (one_got all h.0 (Port name o r) (Port name p s) (subst (λ (n : ℕ). IsAt all n (Port name o r)) same g.1) h.1)

one_wire : (all : List Site) (name : List ℕ) (r s : Option (ℕ × ℕ)) → HasNoDouble all → Stands all (Wire name r) → Stands all (Wire name s) → r ≡ s
one_wire all name r s single g h =
    let same : g.0 ≡ h.0 = one_place all sort.Wire name g.0 h.0 refl single (Wire name r, g.1, refl) (Wire name s, h.1, refl) in
    wire_same name r s (one_got all h.0 (Wire name r) (Wire name s) (subst (λ (n : ℕ). IsAt all n (Wire name r)) same g.1) h.1)

pub ranges_are_one : RangesAreOne
ranges_are_one all name r s single (AsPort o g) (AsPort p h) = (one_port all name o p r s single g h).1
ranges_are_one all name r s single (AsPort o g) (AsWire no_port h) = absurd (no_port (o, r, g))
ranges_are_one all name r s single (AsPort o g) (AsLinked no_port no_wire link is) = absurd (no_port (o, r, g))
ranges_are_one all name r s single (AsWire no_port g) (AsPort p h) = absurd (no_port (p, s, h))
ranges_are_one all name r s single (AsWire no_port g) (AsWire no_port_too h) = one_wire all name r s single g h
ranges_are_one all name r s single (AsWire no_port g) (AsLinked no_port_too no_wire link is) = absurd (no_wire (r, g))
ranges_are_one all name r s single (AsLinked no_port no_wire link is) (AsPort p h) = absurd (no_port (p, s, h))
ranges_are_one all name r s single (AsLinked no_port no_wire link is) (AsWire no_port_too h) = absurd (no_wire (s, h))
ranges_are_one all name r s single (AsLinked no_port no_wire link is) (AsLinked no_port_too no_wire_too link_too is_too) = is ∙ sym is_too

-- ---- widths of expressions

index_one : (left right one other : ℕ) → one < (left - right) + (right - left) + 1 → other < (left - right) + (right - left) + 1 → index_at (left, right) one ≡ index_at (left, right) other → one ≡ other
index_one left right one other within within_too e = grind (arith, nat_tests)

-- a select takes the same bits
pub selects_same : (left right : ℕ) (select : ℕ × ℕ) (bit count other_bit other : ℕ) → Selects (left, right) select bit count → Selects (left, right) select other_bit other → (bit ≡ other_bit) × (count ≡ other)
selects_same left right select bit count other_bit other g h =
    let some = g.some in
    let some_too = h.some in
    let within : bit + count ≤ (left - right) + (right - left) + 1 = g.within in
    let within_too : other_bit + other ≤ (left - right) + (right - left) + 1 = h.within in
    let low : bit ≡ other_bit = index_one left right bit other_bit (omega arith) (omega arith) (g.right ∙ sym h.right) in
    let high : bit + count - 1 ≡ other_bit + other - 1 = index_one left right (bit + count - 1) (other_bit + other - 1) (omega arith) (omega arith) (g.left ∙ sym h.left) in
    (low, omega (arith, low, high, some, some_too))

select_one : (all : List Site) → HasNoDouble all → (name : List ℕ) (select : Option (ℕ × ℕ)) (a b : ℕ) → SelectWidth all name select a → SelectWidth all name select b → a ≡ b
select_one all single name None a b g h = g.2 ∙ ap width_of (ranges_are_one all name g.0 h.0 single g.1 h.1) ∙ sym h.2
select_one all single name (Some select) a b g h =
    let same : g.0 ≡ h.0 = same_Some g.0 h.0 (ranges_are_one all name (Some g.0) (Some h.0) single g.2 h.2) in
    (selects_same h.0.0 h.0.1 select g.1 a h.1 b (subst (λ (r : ℕ × ℕ). Selects r select g.1 a) same g.3) h.3).1

widths_one : (all : List Site) → HasNoDouble all → (ops : List Operand) (a b : List ℕ) → AllZip (OperandWidth all) ops a → AllZip (OperandWidth all) ops b → a ≡ b
widths_one all single [] [] [] g h = refl
widths_one all single [] [] (y ∷ b) g h = absurd h
widths_one all single [] (x ∷ a) b g h = absurd g
widths_one all single (o ∷ ops) [] b g h = absurd g
widths_one all single (o ∷ ops) (x ∷ a) [] g h = absurd h
widths_one all single (o ∷ ops) (x ∷ a) (y ∷ b) g h =
    let first = select_one all single o.name o.select x y g.0 h.0 in
    let rest = widths_one all single ops a b g.1 h.1 in
    ap (λ (n : ℕ). n ∷ a) first ∙ ap (λ (l : List ℕ). y ∷ l) rest

pub expr_widths_are_one : ExprWidthsAreOne
expr_widths_are_one all expr width other single g h = g.total ∙ ap sum (widths_one all single (operands expr) g.widths h.widths g.each h.each) ∙ sym h.total

-- ---- ports of kinds

pub ports_are_one : PortsAreOne
ports_are_one setting kind names other (OfModule at holder means there is) (OfModule at_too holder_too means_too there_too is_too) =
    let same : at ≡ at_too = means_one setting kind at at_too means means_too in
    let holder_is = one_got setting.modules at_too holder holder_too (subst (λ (n : ℕ). slice_get setting.modules n ≡ Some holder) same there) there_too in
    is ∙ ap (λ (m : tree.Module). port_names m.head) holder_is ∙ sym is_too
ports_are_one setting kind names other (OfModule at holder means there is) (OfCell row cell none there_too is_too) = absurd (none.0 at means.0)
ports_are_one setting kind names other (OfCell row cell none there is) (OfModule at holder means there_too is_too) = absurd (none.0 at means.0)
ports_are_one setting kind names other (OfCell row cell means there is) (OfCell row_too cell_too means_too there_too is_too) =
    let same : row ≡ row_too = cell_one setting kind row row_too means means_too in
    let cell_is = one_got setting.table.rows row_too cell cell_too (subst (λ (n : ℕ). slice_get setting.table.rows n ≡ Some cell) same there) there_too in
    is ∙ ap (λ (c : CellRow). cell_ports c) cell_is ∙ sym is_too

-- ---- reached modules

pub inner_are_reached : InnerAreReached
inner_are_reached setting outer inner all at kind name links r there means =
    let owner = r.has.owner in
    let listed : IsListed owner (InstanceSite kind name links) = sites_are_listed owner at (InstanceSite kind name links) (subst (λ (l : List Site). IsAt l at (InstanceSite kind name links)) r.has.sites_are there) in
    let of_kind : List ℕ × tree.Instance = (kind, record { name = name; links = links }) in
    let f = flat_got item_instances owner.items listed.0 of_kind listed.1 in
    let stands = instance_item f.1 f.2 of_kind f.4 in
    let within = slice_get_within stands.0 f.2 of_kind.1 stands.2 in
    let item : Contains owner.items (tree.Instances kind stands.0) = got_contains owner.items f.0 (tree.Instances kind stands.0) (f.3 ∙ ap Some stands.1) in
    let has : hierarchy.Instantiates setting.modules outer inner = record { holder = owner; there = r.has.there; kind = kind; instances = stands.0; stands = item; some = omega (arith, within); means = means } in
    record { top = r.reached.top; top_is = r.reached.top_is; reaches = hierarchy.Inner outer inner r.reached.reaches has }

-- ---- the widths of ports

-- no name is given twice in a reached module
pub single : (setting : Setting) → StandsNowhere setting Duplicates → (at : ℕ) (all : List Site) → HasReachedSites setting at all → HasNoDouble all
single setting none at all reached site name again = none (record { at = at; site = site }) (fault.DuplicateName name name) (name, Within all reached again, refl)

pub sites_one : (setting : Setting) (at : ℕ) (all other : List Site) → HasSites setting at all → HasSites setting at other → all ≡ other
sites_one setting at all other g h = g.sites_are ∙ ap (λ (m : tree.Module). sites m) (one_got setting.modules at g.owner h.owner g.there h.there) ∙ sym h.sites_are

port_one : (setting : Setting) → StandsNowhere setting Duplicates → (kind name : List ℕ) → ((inner : ℕ) → MeansModule setting kind inner → IsReached setting inner) → (a b : ℕ) → PortWidth setting kind name a → PortWidth setting kind name b → a ≡ b
port_one setting none kind name reached a b (OfModulePort at all output range means has port is) (OfModulePort at_too all_too output_too range_too means_too has_too port_too is_too) =
    let same : at ≡ at_too = means_one setting kind at at_too means means_too in
    let all_is = sites_one setting at_too all all_too (subst (λ (n : ℕ). HasSites setting n all) same has) has_too in
    let no_double = single setting none at_too all_too (record { reached = reached at_too means_too; has = has_too }) in
    let range_is = (one_port all_too name output output_too range range_too no_double (subst (λ (l : List Site). IsPort l name output range) all_is port) port_too).1 in
    is ∙ ap width_of range_is ∙ sym is_too
port_one setting none kind name reached a b (OfModulePort at all output range means has port is) (OfPin row means_too is_too) = absurd (means_too.0 at means.0)
port_one setting none kind name reached a b (OfPin row means is) (OfModulePort at_too all_too output_too range_too means_too has_too port_too is_too) = absurd (means.0 at_too means_too.0)
port_one setting none kind name reached a b (OfPin row means is) (OfPin row_too means_too is_too) = is ∙ sym is_too

-- ---- the two sides

-- the kind of a link is that of an instance
kind_reached : (setting : Setting) (at : ℕ) (all : List Site) → (r : HasReachedSites setting at all) → (before : ℕ) (kind own : List ℕ) (links : tree.Links) → IsAt (sites r.has.owner) before (InstanceSite kind own links) → (inner : ℕ) → MeansModule setting kind inner → IsReached setting inner
kind_reached setting at all r before kind own links there inner means = inner_are_reached setting at inner all before kind own links r (subst (λ (l : List Site). IsAt l before (InstanceSite kind own links)) (sym r.has.sites_are) there) means

named_reached : (setting : Setting) (at : ℕ) (all : List Site) → (r : HasReachedSites setting at all) → (site : ℕ) (kind name : List ℕ) (expr : Option tree.Expr) → IsAt all site (Named kind name expr) → (inner : ℕ) → MeansModule setting kind inner → IsReached setting inner
named_reached setting at all r site kind name expr there inner means =
    let home = sites_have_homes r.has.owner site (Named kind name expr) (subst (λ (l : List Site). IsAt l site (Named kind name expr)) r.has.sites_are there) in
    kind_reached setting at all r home.before kind home.own (tree.Named home.links) home.instance inner means

ordered_reached : (setting : Setting) (at : ℕ) (all : List Site) → (r : HasReachedSites setting at all) → (site : ℕ) (kind : List ℕ) (place : ℕ) (expr : Option tree.Expr) → IsAt all site (Ordered kind place expr)
    → (inner : ℕ) → MeansModule setting kind inner → IsReached setting inner
ordered_reached setting at all r site kind place expr there inner means =
    let home = sites_have_homes r.has.owner site (Ordered kind place expr) (subst (λ (l : List Site). IsAt l site (Ordered kind place expr)) r.has.sites_are there) in
    kind_reached setting at all r home.before kind home.own (tree.Ordered home.links) home.instance inner means

assign_same : (to from to_too from_too : tree.Expr) → Assign to from ≡ Assign to_too from_too → (to ≡ to_too) × (from ≡ from_too)
assign_same to from to_too from_too e = (cc, cc)

named_same : (kind name kind_too name_too : List ℕ) (expr expr_too : tree.Expr) → Named kind name (Some expr) ≡ Named kind_too name_too (Some expr_too) → (kind ≡ kind_too) × (name ≡ name_too) × (expr ≡ expr_too)
named_same kind name kind_too name_too expr expr_too e = (cc, cc, cc)

ordered_same : (kind kind_too : List ℕ) (place place_too : ℕ) (expr expr_too : tree.Expr) → Ordered kind place (Some expr) ≡ Ordered kind_too place_too (Some expr_too) → (kind ≡ kind_too) × (place ≡ place_too) × (expr ≡ expr_too)
ordered_same kind kind_too place place_too expr expr_too e = (cc, cc, cc)

pub widths_are_one : WidthsAreOne
widths_are_one setting at all site have want other_have other_want none r (OfAssign to from there from_width to_width) (OfAssign to_too from_too there_too from_width_too to_width_too) =
    let same = assign_same to from to_too from_too (one_got all site (Assign to from) (Assign to_too from_too) there there_too) in
    let no_double = single setting none at all r in (
      expr_widths_are_one all from_too have other_have no_double (subst (λ (x : tree.Expr). ExprWidth all x have) same.1 from_width) from_width_too,
      expr_widths_are_one all to_too want other_want no_double (subst (λ (x : tree.Expr). ExprWidth all x want) same.0 to_width) to_width_too,
    )
widths_are_one setting at all site have want other_have other_want none r (OfNamed kind name expr there width port) (OfNamed kind_too name_too expr_too there_too width_too port_too) =
    let same = named_same kind name kind_too name_too expr expr_too (one_got all site (Named kind name (Some expr)) (Named kind_too name_too (Some expr_too)) there there_too) in (
      expr_widths_are_one all expr_too have other_have (single setting none at all r) (subst (λ (x : tree.Expr). ExprWidth all x have) same.2 width) width_too,
      port_one setting none kind_too name_too (named_reached setting at all r site kind_too name_too (Some expr_too) there_too) want other_want
          (subst (λ (n : List ℕ). PortWidth setting kind_too n want) same.1 (subst (λ (k : List ℕ). PortWidth setting k name want) same.0 port)) port_too,
    )
widths_are_one setting at all site have want other_have other_want none r (OfOrdered kind place expr names name there width ports pin port) (OfOrdered kind_too place_too expr_too names_too name_too there_too width_too ports_too pin_too port_too) =
    let same = ordered_same kind kind_too place place_too expr expr_too (one_got all site (Ordered kind place (Some expr)) (Ordered kind_too place_too (Some expr_too)) there there_too) in
    let names_are = ports_are_one setting kind_too names names_too (subst (λ (k : List ℕ). HasPorts setting k names) same.0 ports) ports_too in
    let moved = subst (λ (l : List (List ℕ)). slice_get l place_too ≡ Some name) names_are (subst (λ (n : ℕ). slice_get names n ≡ Some name) same.1 pin) in
    let name_is = one_got names_too place_too name name_too moved pin_too in (
      expr_widths_are_one all expr_too have other_have (single setting none at all r) (subst (λ (x : tree.Expr). ExprWidth all x have) same.2 width) width_too,
      port_one setting none kind_too name_too (ordered_reached setting at all r site kind_too place_too (Some expr_too) there_too) want other_want
          (subst (λ (n : List ℕ). PortWidth setting kind_too n want) name_is (subst (λ (k : List ℕ). PortWidth setting k name want) same.0 port)) port_too,
    )
widths_are_one setting at all site have want other_have other_want none r (OfAssign to from there a b) (OfNamed kind name expr there_too c d) = absurd (differ (one_got all site (Assign to from) (Named kind name (Some expr)) there there_too)) where
  differ : Assign to from ≡ Named kind name (Some expr) → ⊥
  differ e = cc
widths_are_one setting at all site have want other_have other_want none r (OfAssign to from there a b) (OfOrdered kind place expr names name there_too c d p q) = absurd (differ (one_got all site (Assign to from) (Ordered kind place (Some expr)) there there_too)) where
  differ : Assign to from ≡ Ordered kind place (Some expr) → ⊥
  differ e = cc
widths_are_one setting at all site have want other_have other_want none r (OfNamed kind name expr there a b) (OfAssign to from there_too c d) = absurd (differ (one_got all site (Named kind name (Some expr)) (Assign to from) there there_too)) where
  differ : Named kind name (Some expr) ≡ Assign to from → ⊥
  differ e = cc
widths_are_one setting at all site have want other_have other_want none r (OfNamed kind name expr there a b) (OfOrdered kind_too place expr_too names name_too there_too c d p q) = absurd (differ (one_got all site (Named kind name (Some expr)) (Ordered kind_too place (Some expr_too)) there there_too)) where
  differ : Named kind name (Some expr) ≡ Ordered kind_too place (Some expr_too) → ⊥
  differ e = cc
widths_are_one setting at all site have want other_have other_want none r (OfOrdered kind place expr names name there a b p q) (OfAssign to from there_too c d) = absurd (differ (one_got all site (Ordered kind place (Some expr)) (Assign to from) there there_too)) where
  differ : Ordered kind place (Some expr) ≡ Assign to from → ⊥
  differ e = cc
widths_are_one setting at all site have want other_have other_want none r (OfOrdered kind place expr names name there a b p q) (OfNamed kind_too name_too expr_too there_too c d) = absurd (differ (one_got all site (Ordered kind place (Some expr)) (Named kind_too name_too (Some expr_too)) there there_too)) where
  differ : Ordered kind place (Some expr) ≡ Named kind_too name_too (Some expr_too) → ⊥
  differ e = cc
