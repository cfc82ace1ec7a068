-- What the first places of names say of their ranges.
use Rattle.std.proofs.Common.{◌≡◌, inl, inr, ℕ, ◌<◌, Bool, List, map, get_or, Option, Some, None, Bor, length, refl, sym, ◌∙◌, ap, subst}
use Rattle.bind_sites.specs.declared.sort.Sort.{Sort}
use Rattle.bind_sites.specs.declared.sort.Sort.TheVariants as sort
use Rattle.bind_sites.specs.Sites.{Operand, Site, Module, Listed, Port, Wire, Assign, Instance, Named, Ordered, Assigned, Linked}
use Rattle.std.proofs.lemmas.Option.{slice_get_within}
use Rattle.bind_sites.specs.Scope.{IsPort, IsAt, Stands, HasDirection, HasDeclaration, IsLinked, IsKnown}
use Rattle.bind_sites.specs.declared.site.Site.{Site as CodeSite}
use Rattle.bind_sites.specs.declared.site.Site.TheVariants as code
use Rattle.bind_sites.specs.View.{view_site}
use Rattle.bind_sites.specs.Again.{listed_name, direction_name, wire_name, linked_name, whole_name, Gives}
use Rattle.bind_sites.specs.Index.{IsNotGiven, IsFirstPlace}
use Rattle.bind_names.specs.Scoped.{Declares, declared_range}
use Rattle.bind_names.proofs.Known.{one_site, site_read, within}

-- a site that gives a direction its name
direction_is : (site : Site) (name : List ℕ) → direction_name site ≡ Some name → (output : Bool) × (site ≡ Port name output (declared_range site))
direction_is (Port n output range) name e = (output, let same : n ≡ name = cc in ap (λ (m : List ℕ). Port m output range) same)
direction_is (Module n) name e = absurd cc
direction_is (Listed n) name e = absurd cc
direction_is (Wire n range) name e = absurd cc
direction_is (Assign to from) name e = absurd cc
direction_is (Instance kind n links) name e = absurd cc
direction_is (Named kind n expr) name e = absurd cc
direction_is (Ordered kind n expr) name e = absurd cc
direction_is (Assigned o) name e = absurd cc
direction_is (Linked o) name e = absurd cc

pub listed_is : (site : Site) (name : List ℕ) → listed_name site ≡ Some name → site ≡ Listed name
listed_is (Listed n) name e = let same : n ≡ name = cc in ap Listed same
listed_is (Wire n range) name e = absurd cc
listed_is (Port n output range) name e = absurd cc
listed_is (Module n) name e = absurd cc
listed_is (Assign to from) name e = absurd cc
listed_is (Instance kind n links) name e = absurd cc
listed_is (Named kind n expr) name e = absurd cc
listed_is (Ordered kind n expr) name e = absurd cc
listed_is (Assigned o) name e = absurd cc
listed_is (Linked o) name e = absurd cc

wire_is : (site : Site) (name : List ℕ) → wire_name site ≡ Some name → site ≡ Wire name (declared_range site)
wire_is (Wire n range) name e = let same : n ≡ name = cc in ap (λ (m : List ℕ). Wire m range) same
wire_is (Port n output range) name e = absurd cc
wire_is (Module n) name e = absurd cc
wire_is (Listed n) name e = absurd cc
wire_is (Assign to from) name e = absurd cc
wire_is (Instance kind n links) name e = absurd cc
wire_is (Named kind n expr) name e = absurd cc
wire_is (Ordered kind n expr) name e = absurd cc
wire_is (Assigned o) name e = absurd cc
wire_is (Linked o) name e = absurd cc

linked_is : (site : Site) (name : List ℕ) → linked_name site ≡ Some name → site ≡ Linked (record { name = name; select = None })
linked_is (Linked o) name e = ap Linked (whole o.name o.select e) where
  operand : List ℕ → Option (ℕ × ℕ) → Operand
  operand n s = record { name = n; select = s }

  whole : (n : List ℕ) (s : Option (ℕ × ℕ)) → whole_name n s ≡ Some name → operand n s ≡ operand name None
  whole n None h = let same : n ≡ name = cc in ap (λ (m : List ℕ). operand m None) same
  whole n (Some s) h = absurd cc
linked_is (Wire n range) name e = absurd cc
linked_is (Port n output range) name e = absurd cc
linked_is (Module n) name e = absurd cc
linked_is (Listed n) name e = absurd cc
linked_is (Assign to from) name e = absurd cc
linked_is (Instance kind n links) name e = absurd cc
linked_is (Named kind n expr) name e = absurd cc
linked_is (Ordered kind n expr) name e = absurd cc
linked_is (Assigned o) name e = absurd cc

some_same : {A : Type 0} {a b : A} → Some a ≡ Some b → a ≡ b
some_same h = cc

-- ---- what a name is

pub port_there : (all : List Site) (name : List ℕ) (at : ℕ) (range : Option (ℕ × ℕ)) → Gives sort.Direction all at name → Declares all at range → (output : Bool) × IsAt all at (Port name output range)
port_there all name at range gives declares =
    let is = direction_is gives.0 name gives.2 in
    let same : gives.0 ≡ Port name is.0 range = is.1 ∙ ap (λ (r : Option (ℕ × ℕ)). Port name is.0 r) (sym (declares gives.0 gives.1)) in
    (is.0, subst (λ (s : Site). IsAt all at s) same gives.1)

pub port_stands : (all : List Site) (name : List ℕ) (at : ℕ) (range : Option (ℕ × ℕ)) → Gives sort.Direction all at name → Declares all at range → (output : Bool) × IsPort all name output range
port_stands all name at range gives declares =
    let there = port_there all name at range gives declares in
    (there.0, (at, there.1))

-- the place of a direction holds one of the name
pub port_found : (sites : List CodeSite) (at : ℕ) (default : CodeSite) (name : List ℕ) (n : Bor (List ℕ)) (output : Bool) (range : Option (ℕ × ℕ)) → at < length (map view_site sites) → Gives sort.Direction (map view_site sites) at name
    → get_or sites at default ≡ code.Port n output range → IsPort (map view_site sites) name output range
port_found sites at default name n output range lt gives is =
    let there = site_read sites at default (code.Port n output range) (within sites at lt) is in
    let same : gives.0 ≡ Port n.now output range = one_site (map view_site sites) at gives.0 (Port n.now output range) gives.1 there in
    let named : n.now ≡ name = some_same (sym (ap direction_name same) ∙ gives.2) in
    (at, subst (λ (m : List ℕ). IsAt (map view_site sites) at (Port m output range)) named there)

-- and nothing else
pub port_missing : (sites : List CodeSite) (at : ℕ) (default : CodeSite) (name : List ℕ) → at < length (map view_site sites) → Gives sort.Direction (map view_site sites) at name
    → ((n : Bor (List ℕ)) (output : Bool) (range : Option (ℕ × ℕ)) → get_or sites at default ≡ code.Port n output range → ⊥) → ⊥
port_missing sites at default name lt gives not =
    let there = site_read sites at default (get_or sites at default) (within sites at lt) refl in
    let same = one_site (map view_site sites) at gives.0 (view_site (get_or sites at default)) gives.1 there in
    other (get_or sites at default) not (sym (ap direction_name same) ∙ gives.2) where
      other : (site : CodeSite) → ((n : Bor (List ℕ)) (output : Bool) (range : Option (ℕ × ℕ)) → site ≡ code.Port n output range → ⊥) → direction_name (view_site site) ≡ Some name → ⊥
      other (code.Port n output range) p e = p n output range refl
      other (code.Module n) p e = cc
      other (code.Listed n) p e = cc
      other (code.Wire n range) p e = cc
      other (code.Assign to from) p e = cc
      other (code.Instance kind n links) p e = cc
      other (code.Named kind port expr) p e = cc
      other (code.Ordered kind place expr) p e = cc
      other (code.Assigned o) p e = cc
      other (code.Linked o) p e = cc

pub wire_there : (all : List Site) (name : List ℕ) (at : ℕ) (range : Option (ℕ × ℕ)) → Gives sort.Wire all at name → Declares all at range → IsAt all at (Wire name range)
wire_there all name at range gives declares =
    let is = wire_is gives.0 name gives.2 in
    let same : gives.0 ≡ Wire name range = is ∙ ap (λ (r : Option (ℕ × ℕ)). Wire name r) (sym (declares gives.0 gives.1)) in
    subst (λ (s : Site). IsAt all at s) same gives.1

pub wire_stands : (all : List Site) (name : List ℕ) (at : ℕ) (range : Option (ℕ × ℕ)) → Gives sort.Wire all at name → Declares all at range → Stands all (Wire name range)
wire_stands all name at range gives declares = (at, wire_there all name at range gives declares)

pub listing_stands : (all : List Site) (name : List ℕ) (at : ℕ) → Gives sort.Listed all at name → Stands all (Listed name)
listing_stands all name at gives = (at, subst (λ (s : Site). IsAt all at s) (listed_is gives.0 name gives.2) gives.1)

pub link_stands : (all : List Site) (name : List ℕ) (at : ℕ) → Gives sort.Linked all at name → IsLinked all name
link_stands all name at gives = (at, subst (λ (s : Site). IsAt all at s) (linked_is gives.0 name gives.2) gives.1)

pub no_listing : (all : List Site) (name : List ℕ) → IsNotGiven sort.Listed all (length all) name → ¬ Stands all (Listed name)
no_listing all name none = λ has. none has.0 (slice_get_within all has.0 (Listed name) has.1) (Listed name, has.1, refl)

pub no_direction : (all : List Site) (name : List ℕ) → IsNotGiven sort.Direction all (length all) name → ¬ HasDirection all name
no_direction all name none = λ has.
    let there : IsAt all has.2.0 (Port name has.0 has.1) = has.2.1 in
    none has.2.0 (slice_get_within all has.2.0 (Port name has.0 has.1) there) (Port name has.0 has.1, there, refl)

pub no_declaration : (all : List Site) (name : List ℕ) → IsNotGiven sort.Wire all (length all) name → ¬ HasDeclaration all name
no_declaration all name none = λ has.
    let there : IsAt all has.1.0 (Wire name has.0) = has.1.1 in
    none has.1.0 (slice_get_within all has.1.0 (Wire name has.0) there) (Wire name has.0, there, refl)

pub no_link : (all : List Site) (name : List ℕ) → IsNotGiven sort.Linked all (length all) name → ¬ IsLinked all name
no_link all name none = λ has.
    none has.0 (slice_get_within all has.0 (Linked (record { name = name; select = None })) has.1) (Linked (record { name = name; select = None }), has.1, refl)

pub no_name : (all : List Site) (name : List ℕ) → ¬ HasDirection all name → ¬ HasDeclaration all name → ¬ IsLinked all name → ¬ IsKnown all name
no_name all name d w l = λ known. elim known [ inl h ↦ d h | inr rest ↦ elim rest [ inl h ↦ w h | inr h ↦ l h ] ]

-- ---- a place that was found

pub found : (by : Sort) (all : List Site) (limit : ℕ) (name : List ℕ) (r p : Option ℕ) (at : ℕ) → r ≡ p → r ≡ Some at → IsFirstPlace by all limit name p → (at < limit) × Gives by all at name
found by all limit name r p at e is first =
    let place : p ≡ Some at = sym e ∙ is in
    let here : IsFirstPlace by all limit name (Some at) = subst (λ (o : Option ℕ). IsFirstPlace by all limit name o) place first in
    (here.0, here.1)

pub missed : (by : Sort) (all : List Site) (limit : ℕ) (name : List ℕ) (r p : Option ℕ) → r ≡ p → r ≡ None → IsFirstPlace by all limit name p → IsNotGiven by all limit name
missed by all limit name r p e is first =
    let place : p ≡ None = sym e ∙ is in
    subst (λ (o : Option ℕ). IsFirstPlace by all limit name o) place first
