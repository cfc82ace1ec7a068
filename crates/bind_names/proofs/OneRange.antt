-- Where no name is given twice, a name has one range.
use Rattle.std.proofs.Common.{◌≡◌, ◌⊎◌, inl, inr, ℕ, ◌<◌, Bool, true, List, Option, Some, length, refl, sym, ◌∙◌, subst, arith}
use Rattle.std.proofs.lemmas.Option.{slice_get_within}
use Rattle.bind_sites.specs.declared.sort.Sort.{Sort}
use Rattle.bind_sites.specs.declared.sort.Sort.TheVariants as sort
use Rattle.bind_sites.specs.Sites.{Site, Port, Wire}
use Rattle.bind_sites.specs.Scope.{IsAt, Stands, IsPort, HasRange, AsPort, AsWire, AsLinked}
use Rattle.bind_sites.specs.Again.{is_own, Gives}
use Rattle.bind_names.specs.Scoped.{HasNoDouble}

order : (a b : ℕ) → (a < b) ⊎ ((b < a) ⊎ (a ≡ b))
order a b = grind arith

-- a name is given at one place
pub one_place : (all : List Site) (by : Sort) (name : List ℕ) (a b : ℕ) → is_own by ≡ true → HasNoDouble all (length all) → Gives by all a name → Gives by all b name → a ≡ b
one_place all by name a b own single g h = elim (order a b) [
  | inl lt ↦ absurd (single b name (slice_get_within all b h.0 h.1) (by, own, (h, (a, lt, g))))
  | inr rest ↦ elim rest [
    | inl gt ↦ absurd (single a name (slice_get_within all a g.0 g.1) (by, own, (g, (b, gt, h))))
    | inr same ↦ same
  ]
]

port_same : (name : List ℕ) (o p : Bool) (r s : Option (ℕ × ℕ)) → (let x : Option Site = Some (Port name o r) in x) ≡ Some (Port name p s) → r ≡ s
port_same name o p r s e = cc

wire_same : (name : List ℕ) (r s : Option (ℕ × ℕ)) → (let x : Option Site = Some (Wire name r) in x) ≡ Some (Wire name s) → r ≡ s
wire_same name r s e = cc

pub one_port : (all : List Site) (name : List ℕ) (o p : Bool) (r s : Option (ℕ × ℕ)) → HasNoDouble all (length all) → IsPort all name o r → IsPort all name p s → r ≡ s
one_port all name o p r s single g h =
    let same : g.0 ≡ h.0 = one_place all sort.Direction name g.0 h.0 refl single (Port name o r, g.1, refl) (Port name p s, h.1, refl) in
    let there : IsAt all h.0 (Port name o r) = subst (λ (n : ℕ). IsAt all n (Port name o r)) same g.1 in
    port_same name o p r s (sym there ∙ h.1)

pub one_wire : (all : List Site) (name : List ℕ) (r s : Option (ℕ × ℕ)) → HasNoDouble all (length all) → Stands all (Wire name r) → Stands all (Wire name s) → r ≡ s
one_wire all name r s single g h =
    let same : g.0 ≡ h.0 = one_place all sort.Wire name g.0 h.0 refl single (Wire name r, g.1, refl) (Wire name s, h.1, refl) in
    let there : IsAt all h.0 (Wire name r) = subst (λ (n : ℕ). IsAt all n (Wire name r)) same g.1 in
    wire_same name r s (sym there ∙ h.1)

pub one_range : (all : List Site) (name : List ℕ) (r s : Option (ℕ × ℕ)) → HasNoDouble all (length all) → HasRange all name r → HasRange all name s → r ≡ s
one_range all name r s single (AsPort o g) (AsPort p h) = one_port all name o p r s single g h
one_range all name r s single (AsPort o g) (AsWire no_port h) = absurd (no_port (o, r, g))
one_range all name r s single (AsPort o g) (AsLinked no_port no_wire link is) = absurd (no_port (o, r, g))
one_range all name r s single (AsWire no_port g) (AsPort p h) = absurd (no_port (p, s, h))
one_range all name r s single (AsWire no_port g) (AsWire no_port_too h) = one_wire all name r s single g h
one_range all name r s single (AsWire no_port g) (AsLinked no_port_too no_wire link is) = absurd (no_wire (r, g))
one_range all name r s single (AsLinked no_port no_wire link is) (AsPort p h) = absurd (no_port (p, s, h))
one_range all name r s single (AsLinked no_port no_wire link is) (AsWire no_port_too h) = absurd (no_wire (s, h))
one_range all name r s single (AsLinked no_port no_wire link is) (AsLinked no_port_too no_wire_too link_too is_too) = is ∙ sym is_too
