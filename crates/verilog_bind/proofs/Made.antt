-- What the sites of a module make.
use Rattle.std.proofs.Common.{◌≡◌, ◌⊎◌, inl, inr, ℕ, zero, suc, ◌+◌, ◌<◌, Bool, true, false, is_some, List, map, length, get_or, Option, Some, None, MatchOption, Result, Ok, Err, OnOk, Bor, refl, sym, ◌∙◌, ap, subst, arith}
use Rattle.std.specs.Option.{option_map}
use Rattle.std.proofs.lemmas.List.{length-map}
use Rattle.std.proofs.lemmas.Option.{slice_get-map, slice_get-get_or, slice_get_within}
use Rattle.name_table.specs.declared.places.FirstNames.{FirstNames}
use Rattle.name_table.specs.Places.{place_of}
use Rattle.bind_forms.specs.declared.bound.BoundWire.{BoundWire}
use Rattle.bind_forms.specs.Binds.{IsUsedAt, MakesWire, ByDeclaration, ByUse}
use Rattle.bind_sites.specs.declared.sort.Sort.{Sort}
use Rattle.bind_sites.specs.declared.sort.Sort.TheVariants as sort
use Rattle.bind_sites.specs.declared.site.Site.{Site as CodeSite}
use Rattle.bind_sites.specs.declared.site.Site.TheVariants as code
use Rattle.bind_sites.specs.declared.site.Operand.{Operand as CodeOperand}
use Rattle.bind_sites.specs.Sites.{Operand, Site, Module, Listed, Port, Wire, Assign, Instance, Named, Ordered, Assigned, Linked}
use Rattle.bind_sites.specs.Scope.{IsAt, IsPort, HasDirection, HasDeclaration, IsLinked}
use Rattle.bind_sites.specs.Refused.{IsOperandAt}
use Rattle.bind_sites.specs.Again.{name_as, direction_name, whole_name, Gives}
use Rattle.bind_sites.specs.Index.{IsNotGiven, IsFirstPlace}
use Rattle.bind_sites.specs.View.{view_site}
use Rattle.bind_names.specs.Indexed.{AreFirst}
use Rattle.verilog_bind.specs.Numbered.{IsMadeBefore, AreMadeNames}
use Rattle.verilog_bind.proofs.Found.{never, same_some, one_item}

-- ---- the sites that the code reads

pub within : (sites : List CodeSite) (at : ℕ) → at < length (map view_site sites) → at < length sites
within sites at lt = rw (length-map sites view_site) at lt

pub read : (sites : List CodeSite) (at : ℕ) (default site : CodeSite) → at < length (map view_site sites) → get_or sites at default ≡ site → IsAt (map view_site sites) at (view_site site)
read sites at default site lt is = slice_get-map view_site sites at ∙ ap (option_map view_site) (slice_get-get_or sites at default (within sites at lt) ∙ ap Some is)

-- ---- wires that sites make

abbrev pub wire_of : List ℕ → Option (ℕ × ℕ) → BoundWire
wire_of n r = record { name = n; range = r }

abbrev whole : List ℕ → Operand
whole n = record { name = n; select = None }

pub declared : (all : List Site) (at : ℕ) (n : List ℕ) (range : Option (ℕ × ℕ)) → IsAt all at (Wire n range) → ¬ HasDirection all n → MakesWire all at (wire_of n range)
declared all at n range there undirected = ByDeclaration there undirected

-- no operand stands where something else does
pub not_used : (all : List Site) (at : ℕ) (name : List ℕ) (site : Site) → IsAt all at site → ((o : Operand) → site ≡ Assigned o → ⊥) → ((o : Operand) → site ≡ Linked o → ⊥) → ¬ IsUsedAt all at name
not_used all at name site there no_assign no_link used = elim used [
  | inl stands ↦ no_assign (whole name) (one_item all at site (Assigned (whole name)) there stands)
  | inr stands ↦ no_link (whole name) (one_item all at site (Linked (whole name)) there stands)
]

-- a declaration of a port makes none
pub port_declared : (all : List Site) (at : ℕ) (n : List ℕ) (range : Option (ℕ × ℕ)) → IsAt all at (Wire n range) → HasDirection all n → (wire : BoundWire) → ¬ MakesWire all at wire
port_declared all at n range there has wire (ByDeclaration stands undirected) =
    let same : n ≡ wire.name = wires_same n wire.name range wire.range (one_item all at (Wire n range) (Wire wire.name wire.range) there stands) in
    undirected (subst (λ (m : List ℕ). HasDirection all m) same has) where
      wires_same : (n m : List ℕ) (r s : Option (ℕ × ℕ)) → Wire n r ≡ Wire m s → n ≡ m
      wires_same n m r s e = cc
port_declared all at n range there has wire (ByUse used first link undirected undeclared is) = absurd (not_used all at wire.name (Wire n range) there (λ o e. cc) (λ o e. cc) used)

-- what stands at a place that makes a wire
pub makes_cases : (all : List Site) (at : ℕ) (wire : BoundWire) → MakesWire all at wire → IsAt all at (Wire wire.name wire.range) ⊎ IsUsedAt all at wire.name
makes_cases all at wire (ByDeclaration stands undirected) = inl stands
makes_cases all at wire (ByUse used first link undirected undeclared is) = inr used

-- other sites make none
pub else_none : (sites : List CodeSite) (at : ℕ) (default : CodeSite) → at < length (map view_site sites)
    → ((n : Bor (List ℕ)) (range : Option (ℕ × ℕ)) → get_or sites at default ≡ code.Wire n range → ⊥) → ((o : CodeOperand) → get_or sites at default ≡ code.Assigned o → ⊥)
    → ((o : CodeOperand) → get_or sites at default ≡ code.Linked o → ⊥) → (wire : BoundWire) → ¬ MakesWire (map view_site sites) at wire
else_none sites at default lt no_wire no_assign no_link wire makes =
    let here : IsAt (map view_site sites) at (view_site (get_or sites at default)) = read sites at default (get_or sites at default) lt refl in
    elim (makes_cases (map view_site sites) at wire makes) [
      | inl stands ↦ of_wire (get_or sites at default) refl (one_item (map view_site sites) at (view_site (get_or sites at default)) (Wire wire.name wire.range) here stands)
      | inr used ↦ elim used [
        | inl stands ↦ of_assign (get_or sites at default) refl (one_item (map view_site sites) at (view_site (get_or sites at default)) (Assigned (whole wire.name)) here stands)
        | inr stands ↦ of_link (get_or sites at default) refl (one_item (map view_site sites) at (view_site (get_or sites at default)) (Linked (whole wire.name)) here stands)
      ]
    ] where
      of_wire : (s : CodeSite) → get_or sites at default ≡ s → view_site s ≡ Wire wire.name wire.range → ⊥
      of_wire (code.Wire n r) e is = no_wire n r e
      of_wire (code.Port n o r) e is = absurd cc
      of_wire (code.Module n) e is = absurd cc
      of_wire (code.Listed n) e is = absurd cc
      of_wire (code.Assign to from) e is = absurd cc
      of_wire (code.Instance k n l) e is = absurd cc
      of_wire (code.Named k n x) e is = absurd cc
      of_wire (code.Ordered k n x) e is = absurd cc
      of_wire (code.Assigned o) e is = absurd cc
      of_wire (code.Linked o) e is = absurd cc

      of_assign : (s : CodeSite) → get_or sites at default ≡ s → view_site s ≡ Assigned (whole wire.name) → ⊥
      of_assign (code.Assigned o) e is = no_assign o e
      of_assign (code.Wire n r) e is = absurd cc
      of_assign (code.Port n o r) e is = absurd cc
      of_assign (code.Module n) e is = absurd cc
      of_assign (code.Listed n) e is = absurd cc
      of_assign (code.Assign to from) e is = absurd cc
      of_assign (code.Instance k n l) e is = absurd cc
      of_assign (code.Named k n x) e is = absurd cc
      of_assign (code.Ordered k n x) e is = absurd cc
      of_assign (code.Linked o) e is = absurd cc

      of_link : (s : CodeSite) → get_or sites at default ≡ s → view_site s ≡ Linked (whole wire.name) → ⊥
      of_link (code.Linked o) e is = no_link o e
      of_link (code.Wire n r) e is = absurd cc
      of_link (code.Port n o r) e is = absurd cc
      of_link (code.Module n) e is = absurd cc
      of_link (code.Listed n) e is = absurd cc
      of_link (code.Assign to from) e is = absurd cc
      of_link (code.Instance k n l) e is = absurd cc
      of_link (code.Named k n x) e is = absurd cc
      of_link (code.Ordered k n x) e is = absurd cc
      of_link (code.Assigned o) e is = absurd cc

-- ---- wires that uses make

-- the operands that stand at one place are one
assigned_same : (o p : Operand) → Assigned o ≡ Assigned p → o ≡ p
assigned_same o p e = cc

linked_same : (o p : Operand) → Linked o ≡ Linked p → o ≡ p
linked_same o p e = cc

sorts_apart : (o p : Operand) → Assigned o ≡ Linked p → ⊥
sorts_apart o p e = cc

pub one_operand : (all : List Site) (at : ℕ) (o p : Operand) → IsOperandAt all at o → IsOperandAt all at p → o ≡ p
one_operand all at o p (inl a) (inl b) = assigned_same o p (one_item all at (Assigned o) (Assigned p) a b)
one_operand all at o p (inl a) (inr b) = absurd (sorts_apart o p (one_item all at (Assigned o) (Linked p) a b))
one_operand all at o p (inr a) (inl b) = absurd (sorts_apart p o (one_item all at (Assigned p) (Linked o) b a))
one_operand all at o p (inr a) (inr b) = linked_same o p (one_item all at (Linked o) (Linked p) a b)

-- what a wire that is made where an operand stands says of it
pub record IsMadeHere (all : List Site) (at : ℕ) (n : List ℕ) : Type 0 where
  pub no_direction : ¬ HasDirection all n
  pub no_declaration : ¬ HasDeclaration all n
  pub link : IsLinked all n
  pub first : (earlier : ℕ) → earlier < at → ¬ IsUsedAt all earlier n

pub made_here : (all : List Site) (at : ℕ) (o : Operand) (wire : BoundWire) → IsOperandAt all at o → MakesWire all at wire → (o ≡ whole wire.name) × IsMadeHere all at wire.name
made_here all at o wire there (ByDeclaration stands undirected) = absurd (elim there [
  | inl a ↦ assign_apart (one_item all at (Assigned o) (Wire wire.name wire.range) a stands)
  | inr l ↦ link_apart (one_item all at (Linked o) (Wire wire.name wire.range) l stands)
]) where
  assign_apart : Assigned o ≡ Wire wire.name wire.range → ⊥
  assign_apart e = cc

  link_apart : Linked o ≡ Wire wire.name wire.range → ⊥
  link_apart e = cc
made_here all at o wire there (ByUse used first link undirected undeclared is) =
    (one_operand all at o (whole wire.name) there used, record { no_direction = undirected; no_declaration = undeclared; link = link; first = first })

-- ---- an operand, by the name that stands whole in it

whole_is : (n : List ℕ) (s : Option (ℕ × ℕ)) (name : List ℕ) → whole_name n s ≡ Some name → record { name = n; select = s } ≡ whole name
whole_is n None name e = ap whole (same_some n name e)
whole_is n (Some s) name e = absurd (never name e)

pub not_made : (all : List Site) (at : ℕ) (o : Operand) (found : Option (List ℕ)) → IsOperandAt all at o → found ≡ whole_name o.name o.select → found ≡ None → (wire : BoundWire) → ¬ MakesWire all at wire
not_made all at o found there e is wire makes =
    let same : o ≡ whole wire.name = (made_here all at o wire there makes).0 in
    never wire.name (sym is ∙ e ∙ ap (λ (p : Operand). whole_name p.name p.select) same)

pub made_name : (all : List Site) (at : ℕ) (o : Operand) (name : List ℕ) (wire : BoundWire) → IsOperandAt all at o → Some name ≡ whole_name o.name o.select → MakesWire all at wire → IsMadeHere all at name
made_name all at o name wire there e makes =
    let here = made_here all at o wire there makes in
    let same : wire.name ≡ name = ap (λ (p : Operand). p.name) (sym here.0 ∙ whole_is o.name o.select name (sym e)) in
    subst (λ (n : List ℕ). IsMadeHere all at n) same here.1

pub used_here : (all : List Site) (at : ℕ) (o : Operand) (name : List ℕ) → IsOperandAt all at o → Some name ≡ whole_name o.name o.select → IsUsedAt all at name
used_here all at o name there e = subst (λ (p : Operand). IsOperandAt all at p) (whole_is o.name o.select name (sym e)) there

-- ---- the first use of a name

-- a name that a link makes is not used before a place, where no wire of it is made before
pub unused_before : (all : List Site) (name : List ℕ) (at : ℕ) → ¬ HasDirection all name → ¬ HasDeclaration all name → IsLinked all name → ¬ IsMadeBefore all at name → (earlier : ℕ) → earlier < at → ¬ IsUsedAt all earlier name
unused_before all name at undirected undeclared link none = λ earlier lt. up_to earlier earlier lt (omega arith) where
  up_to : (limit earlier : ℕ) → earlier < at → earlier < limit + 1 → ¬ IsUsedAt all earlier name
  up_to zero earlier lt below used = none (record {
    at = earlier;
    below = lt;
    wire = wire_of name None;
    makes = ByUse used (λ before less. absurd (omega (arith, less, below))) link undirected undeclared refl;
    name_is = refl;
  })
  up_to (suc limit) earlier lt below used = none (record {
    at = earlier;
    below = lt;
    wire = wire_of name None;
    makes = ByUse used (λ before less. up_to limit before (omega (arith, less, lt)) (omega (arith, less, below))) link undirected undeclared refl;
    name_is = refl;
  })

-- a name that has a wire before is not used here first
pub made_twice : (all : List Site) (at : ℕ) (name : List ℕ) → IsMadeHere all at name → IsMadeBefore all at name → ⊥
made_twice all at name here before = by before.makes where
  by : MakesWire all before.at before.wire → ⊥
  by (ByDeclaration stands undirected) = here.no_declaration (before.wire.range, (before.at, subst (λ (n : List ℕ). IsAt all before.at (Wire n before.wire.range)) before.name_is stands))
  by (ByUse used first link undirected undeclared is) = here.first before.at before.below (subst (λ (n : List ℕ). IsUsedAt all before.at n) before.name_is used)

pub is_known : (all : List Site) (limit : ℕ) (made : FirstNames) (name : List ℕ) (r : Option ℕ) (number : ℕ) → AreMadeNames all limit made → r ≡ place_of made name → r ≡ Some number → HasDirection all name ⊎ IsMadeBefore all limit name
is_known all limit made name r number are e is =
    let place : place_of made name ≡ Some number = sym e ∙ is in
    subst (λ (o : Option ℕ). MatchOption o (¬ IsMadeBefore all limit name) (λ number. HasDirection all name ⊎ IsMadeBefore all limit name)) place (are name)

pub is_new : (all : List Site) (limit : ℕ) (made : FirstNames) (name : List ℕ) (r : Option ℕ) → AreMadeNames all limit made → r ≡ place_of made name → r ≡ None → ¬ IsMadeBefore all limit name
is_new all limit made name r are e is =
    let place : place_of made name ≡ None = sym e ∙ is in
    subst (λ (o : Option ℕ). MatchOption o (¬ IsMadeBefore all limit name) (λ number. HasDirection all name ⊎ IsMadeBefore all limit name)) place (are name)
