-- Selects and declarations that do not fit the range of a name.
use Rattle.std.proofs.Common.{◌≡◌, ◌≢◌, ◌⊎◌, inl, inr, ℕ, ◌<◌, Bool, true, false, not, MatchBool, List, map, get_or, Option, Some, None, IfSome, IfNone, length, Bor, arith, refl, sym, ◌∙◌, ap, subst}
use Rattle.std.proofs.lemmas.Option.{slice_get_cases}
use Rattle.bind_sites.specs.declared.sort.Sort.TheVariants as sort
use Rattle.bind_sites.specs.declared.site.Operand.{Operand as CodeOperand}
use Rattle.bind_sites.specs.declared.site.Site.{Site as CodeSite}
use Rattle.bind_sites.specs.declared.site.Site.TheVariants as code
use Rattle.bind_sites.specs.View.{view_site}
use Rattle.bind_sites.specs.Sites.{Operand, Site, Port, Wire, Assigned, Linked}
use Rattle.bind_sites.specs.Scope.{IsAt, IsKnown, HasRange}
use Rattle.bind_sites.specs.Again.{Gives}
use Rattle.bind_sites.specs.Index.{IsNotGiven}
use Rattle.bind_sites.specs.Refused.{IsOutside, IsOperandAt, IsOutOfRange, OfSelect, OfWire, OfPort}
use Rattle.bind_names.specs.Scoped.{Declares, HasNoDouble, declared_range}
use Rattle.bind_names.specs.Checked.{IsRefusedSelect, IsOtherAt, IsOtherPort, IsOtherWire}
use Rattle.bind_names.proofs.Known.{known, one_site, site_read, within}
use Rattle.bind_names.proofs.NameRanges.{port_there, wire_there, no_direction, no_declaration}
use Rattle.bind_names.proofs.OneRange.{one_place, one_range}

abbrev operand : List ℕ → Option (ℕ × ℕ) → Operand
operand n s = record { name = n; select = s }

-- ---- selects

some_same : {A : Type 0} {a b : A} → Some a ≡ Some b → a ≡ b
some_same h = cc

never : {A : Type 0} {a : A} → None ≡ Some a → ⊥
never e = cc

name_same : (n m : List ℕ) (s t : Option (ℕ × ℕ)) → operand n s ≡ operand m t → n ≡ m
name_same n m s t e = ap (λ (o : Operand). o.name) e

pub unknown_fits : (all : List Site) (n : List ℕ) (s : Option (ℕ × ℕ)) → ¬ IsKnown all n → (name : List ℕ) → ¬ IsRefusedSelect all (operand n s) name
unknown_fits all n s none = λ name refused.
    let same : n ≡ name = name_same n name s (Some refused.0) refused.2 in
    none (known all n refused.1 (subst (λ (m : List ℕ). HasRange all m refused.1) (sym same) refused.3))

pub select_fits : (all : List Site) (n : List ℕ) (select : Option (ℕ × ℕ)) (s : ℕ × ℕ) (range : Option (ℕ × ℕ)) → select ≡ Some s → HasNoDouble all (length all) → HasRange all n range
    → ¬ IsOutside range s → (name : List ℕ) → ¬ IsRefusedSelect all (operand n select) name
select_fits all n select s range is single has inside = λ name refused.
    let same : n ≡ name = name_same n name select (Some refused.0) refused.2 in
    let wanted : s ≡ refused.0 = some_same (sym is ∙ ap (λ (o : Operand). o.select) refused.2) in
    let one : refused.1 ≡ range = one_range all n refused.1 range single (subst (λ (m : List ℕ). HasRange all m refused.1) (sym same) refused.3) has in
    inside (subst (λ (r : Option (ℕ × ℕ)). IsOutside r s) one (subst (λ (t : ℕ × ℕ). IsOutside refused.1 t) (sym wanted) refused.4))

-- ---- declarations

declares : (all : List Site) (at : ℕ) (site : Site) → IsAt all at site → Declares all at (declared_range site)
declares all at site there = λ other there_too. ap declared_range (one_site all at site other there there_too)

pub other_at : (all : List Site) (earlier at : ℕ) (range mine : Option (ℕ × ℕ)) (same : Bool) → earlier < at → earlier < length all → Declares all earlier mine → MatchBool same (range ≡ mine) (range ≢ mine)
    → MatchBool (not same) (IsOtherAt all earlier at range) (¬ IsOtherAt all earlier at range)
other_at all earlier at range mine true before there is same = λ other.
    elim (slice_get_cases all earlier).1 [
      | inl found ↦ other.1.2 (same ∙ is found.0 found.2 ∙ sym (other.1.1 found.0 found.2))
      | inr past ↦ omega (arith, past.0, there)
    ]
other_at all earlier at range mine false before there is differs = (before, (mine, is, differs))

pub port_other : (all : List Site) (at earlier : ℕ) (name : List ℕ) (range : Option (ℕ × ℕ)) → Gives sort.Direction all earlier name → IsOtherAt all earlier at range → IsOtherPort all at name range
port_other all at earlier name range gives other =
    let there = port_there all name earlier other.1.0 gives other.1.1 in
    (there.0, other.1.0, (earlier, other.0, there.1), other.1.2)

pub port_same : (all : List Site) (at earlier : ℕ) (name : List ℕ) (range : Option (ℕ × ℕ)) → HasNoDouble all (length all) → Gives sort.Direction all earlier name → ¬ IsOtherAt all earlier at range
    → ¬ IsOtherPort all at name range
port_same all at earlier name range single gives none = λ other.
    let there : IsAt all other.2.0 (Port name other.0 other.1) = other.2.2 in
    let same : other.2.0 ≡ earlier = one_place all sort.Direction name other.2.0 earlier refl single (Port name other.0 other.1, there, refl) gives in
    none (subst (λ (n : ℕ). IsOtherAt all n at range) same (other.2.1, (other.1, declares all other.2.0 (Port name other.0 other.1) there, other.3)))

pub port_missed : (all : List Site) (at : ℕ) (name : List ℕ) (range : Option (ℕ × ℕ)) → IsNotGiven sort.Direction all (length all) name → ¬ IsOtherPort all at name range
port_missed all at name range none = λ other. no_direction all name none (other.0, other.1, (other.2.0, other.2.2))

pub wire_other : (all : List Site) (at earlier : ℕ) (name : List ℕ) (range : Option (ℕ × ℕ)) → Gives sort.Wire all earlier name → IsOtherAt all earlier at range → IsOtherWire all at name range
wire_other all at earlier name range gives other =
    (other.1.0, (earlier, other.0, wire_there all name earlier other.1.0 gives other.1.1), other.1.2)

pub wire_same : (all : List Site) (at earlier : ℕ) (name : List ℕ) (range : Option (ℕ × ℕ)) → HasNoDouble all (length all) → Gives sort.Wire all earlier name → ¬ IsOtherAt all earlier at range
    → ¬ IsOtherWire all at name range
wire_same all at earlier name range single gives none = λ other.
    let there : IsAt all other.1.0 (Wire name other.0) = other.1.2 in
    let same : other.1.0 ≡ earlier = one_place all sort.Wire name other.1.0 earlier refl single (Wire name other.0, there, refl) gives in
    none (subst (λ (n : ℕ). IsOtherAt all n at range) same (other.1.1, (other.0, declares all other.1.0 (Wire name other.0) there, other.2)))

pub wire_missed : (all : List Site) (at : ℕ) (name : List ℕ) (range : Option (ℕ × ℕ)) → IsNotGiven sort.Wire all (length all) name → ¬ IsOtherWire all at name range
wire_missed all at name range none = λ other. no_declaration all name none (other.0, (other.1.0, other.1.2))

-- ---- a place

pub refused_out : (all : List Site) (at : ℕ) (o : Operand) (name : List ℕ) → IsOperandAt all at o → IsRefusedSelect all o name → IsOutOfRange all at name
refused_out all at o name there refused = OfSelect refused.0 refused.1 (subst (λ (x : Operand). IsOperandAt all at x) refused.2 there) refused.3 refused.4

-- the operand that stands at a site
abbrev operand_of : Site → Option Operand
operand_of (Assigned o) = Some o
operand_of (Linked o) = Some o
operand_of _ = None

stands : (all : List Site) (at : ℕ) (site : Site) (o : Operand) → IsAt all at site → IsOperandAt all at o → operand_of site ≡ Some o
stands all at site o there (inl h) = ap operand_of (one_site all at site (Assigned o) there h)
stands all at site o there (inr h) = ap operand_of (one_site all at site (Linked o) there h)

-- the range that a site declares for a wire, or for a port
abbrev wire_at : Site → Option (List ℕ × Option (ℕ × ℕ))
wire_at (Wire n range) = Some (n, range)
wire_at _ = None

abbrev port_at : Site → Option (List ℕ × Option (ℕ × ℕ))
port_at (Port n output range) = Some (n, range)
port_at _ = None

-- What is out of range at a site: a select, or one of two declarations.
data IsCause (all : List Site) (at : ℕ) (site : Site) (name : List ℕ) : Type 0 where
  Select : (o : Operand) → operand_of site ≡ Some o → IsRefusedSelect all o name → IsCause all at site name
  AsWire : (range : Option (ℕ × ℕ)) → wire_at site ≡ Some (name, range) → IsOtherPort all at name range → IsCause all at site name
  AsPort : (range : Option (ℕ × ℕ)) → port_at site ≡ Some (name, range) → IsOtherWire all at name range → IsCause all at site name

cause : (all : List Site) (at : ℕ) (site : Site) (name : List ℕ) → IsAt all at site → IsOutOfRange all at name → IsCause all at site name
cause all at site name there (OfSelect select range where_it has outside) =
    Select (operand name (Some select)) (stands all at site (operand name (Some select)) there where_it) (select, range, refl, has, outside)
cause all at site name there (OfWire output range other stands_there before differs) =
    AsWire range (ap wire_at (one_site all at site (Wire name range) there stands_there)) (output, other, before, differs)
cause all at site name there (OfPort output range other stands_there before differs) =
    AsPort range (ap port_at (one_site all at site (Port name output range) there stands_there)) (other, before, differs)

operand_cause : (all : List Site) (at : ℕ) (site : Site) (o : Operand) (name : List ℕ) → operand_of site ≡ Some o → wire_at site ≡ None → port_at site ≡ None → IsCause all at site name → IsRefusedSelect all o name
operand_cause all at site o name is no_wire no_port (Select p there refused) = subst (λ (x : Operand). IsRefusedSelect all x name) (some_same (sym there ∙ is)) refused
operand_cause all at site o name is no_wire no_port (AsWire range there other) = absurd (never (sym no_wire ∙ there))
operand_cause all at site o name is no_wire no_port (AsPort range there other) = absurd (never (sym no_port ∙ there))

pub assigned_cause : (all : List Site) (at : ℕ) (o : Operand) (name : List ℕ) → IsAt all at (Assigned o) → IsOutOfRange all at name → IsRefusedSelect all o name
assigned_cause all at o name there out = operand_cause all at (Assigned o) o name refl refl refl (cause all at (Assigned o) name there out)

pub linked_cause : (all : List Site) (at : ℕ) (o : Operand) (name : List ℕ) → IsAt all at (Linked o) → IsOutOfRange all at name → IsRefusedSelect all o name
linked_cause all at o name there out = operand_cause all at (Linked o) o name refl refl refl (cause all at (Linked o) name there out)

pub wire_cause : (all : List Site) (at : ℕ) (n : List ℕ) (range : Option (ℕ × ℕ)) (name : List ℕ) → IsAt all at (Wire n range) → IsOutOfRange all at name → IsOtherPort all at n range
wire_cause all at n range name there out = of_cause (cause all at (Wire n range) name there out) where
  of_cause : IsCause all at (Wire n range) name → IsOtherPort all at n range
  of_cause (Select o is refused) = absurd (never is)
  of_cause (AsPort r is other) = absurd (never is)
  of_cause (AsWire r is other) = at_pair (sym (some_same is)) where
    at_pair : (let p : List ℕ × Option (ℕ × ℕ) = (name, r) in p) ≡ (n, range) → IsOtherPort all at n range
    at_pair e = subst (λ (p : List ℕ × Option (ℕ × ℕ)). IsOtherPort all at p.0 p.1) e other

pub port_cause : (all : List Site) (at : ℕ) (n : List ℕ) (output : Bool) (range : Option (ℕ × ℕ)) (name : List ℕ) → IsAt all at (Port n output range) → IsOutOfRange all at name → IsOtherWire all at n range
port_cause all at n output range name there out = of_cause (cause all at (Port n output range) name there out) where
  of_cause : IsCause all at (Port n output range) name → IsOtherWire all at n range
  of_cause (Select o is refused) = absurd (never is)
  of_cause (AsWire r is other) = absurd (never is)
  of_cause (AsPort r is other) = at_pair (sym (some_same is)) where
    at_pair : (let p : List ℕ × Option (ℕ × ℕ) = (name, r) in p) ≡ (n, range) → IsOtherWire all at n range
    at_pair e = subst (λ (p : List ℕ × Option (ℕ × ℕ)). IsOtherWire all at p.0 p.1) e other

pub no_cause : (all : List Site) (at : ℕ) (site : Site) → IsAt all at site → operand_of site ≡ None → wire_at site ≡ None → port_at site ≡ None → (name : List ℕ) → ¬ IsOutOfRange all at name
no_cause all at site there no_operand no_wire no_port = λ name out. of_cause name (cause all at site name there out) where
  of_cause : (name : List ℕ) → ¬ IsCause all at site name
  of_cause name (Select o is refused) = never (sym no_operand ∙ is)
  of_cause name (AsWire r is other) = never (sym no_wire ∙ is)
  of_cause name (AsPort r is other) = never (sym no_port ∙ is)

-- ---- the answers

pub refused_found : (all : List Site) (at : ℕ) (o : Operand) (r : Option (Bor (List ℕ))) → IsOperandAt all at o → IfSome r (λ name. IsRefusedSelect all o name.now) → IfSome r (λ name. IsOutOfRange all at name.now)
refused_found all at o None there h = tt
refused_found all at o (Some name) there h = refused_out all at o name.now there h

pub assigned_none : (all : List Site) (at : ℕ) (o : Operand) (r : Option (Bor (List ℕ))) → IsAt all at (Assigned o) → IfNone r ((name : List ℕ) → ¬ IsRefusedSelect all o name)
    → IfNone r ((name : List ℕ) → ¬ IsOutOfRange all at name)
assigned_none all at o (Some name) there h = tt
assigned_none all at o None there h = λ name out. h name (assigned_cause all at o name there out)

pub linked_none : (all : List Site) (at : ℕ) (o : Operand) (r : Option (Bor (List ℕ))) → IsAt all at (Linked o) → IfNone r ((name : List ℕ) → ¬ IsRefusedSelect all o name)
    → IfNone r ((name : List ℕ) → ¬ IsOutOfRange all at name)
linked_none all at o (Some name) there h = tt
linked_none all at o None there h = λ name out. h name (linked_cause all at o name there out)

pub wire_found : (all : List Site) (at : ℕ) (n : List ℕ) (range : Option (ℕ × ℕ)) (r : Option (Bor (List ℕ))) → IsAt all at (Wire n range)
    → IfSome r (λ found. (found.now ≡ n) × IsOtherPort all at n range) → IfSome r (λ name. IsOutOfRange all at name.now)
wire_found all at n range None there h = tt
wire_found all at n range (Some found) there h = rw h.0 (OfWire h.1.0 range h.1.1 there h.1.2 h.1.3)

pub wire_none : (all : List Site) (at : ℕ) (n : List ℕ) (range : Option (ℕ × ℕ)) (r : Option (Bor (List ℕ))) → IsAt all at (Wire n range) → IfNone r (¬ IsOtherPort all at n range)
    → IfNone r ((name : List ℕ) → ¬ IsOutOfRange all at name)
wire_none all at n range (Some found) there h = tt
wire_none all at n range None there h = λ name out. h (wire_cause all at n range name there out)

pub port_found : (all : List Site) (at : ℕ) (n : List ℕ) (output : Bool) (range : Option (ℕ × ℕ)) (r : Option (Bor (List ℕ))) → IsAt all at (Port n output range)
    → IfSome r (λ found. (found.now ≡ n) × IsOtherWire all at n range) → IfSome r (λ name. IsOutOfRange all at name.now)
port_found all at n output range None there h = tt
port_found all at n output range (Some found) there h = rw h.0 (OfPort output range h.1.0 there h.1.1 h.1.2)

pub port_none : (all : List Site) (at : ℕ) (n : List ℕ) (output : Bool) (range : Option (ℕ × ℕ)) (r : Option (Bor (List ℕ))) → IsAt all at (Port n output range)
    → IfNone r (¬ IsOtherWire all at n range) → IfNone r ((name : List ℕ) → ¬ IsOutOfRange all at name)
port_none all at n output range (Some found) there h = tt
port_none all at n output range None there h = λ name out. h (port_cause all at n output range name there out)

-- a site of the code that is none of the four
record IsOther (site : CodeSite) : Type 0 where
  operand : operand_of (view_site site) ≡ None
  wire : wire_at (view_site site) ≡ None
  port : port_at (view_site site) ≡ None

is_other : (site : CodeSite) → ((name : Bor (List ℕ)) (output : Bool) (range : Option (ℕ × ℕ)) → site ≡ code.Port name output range → ⊥)
    → ((name : Bor (List ℕ)) (range : Option (ℕ × ℕ)) → site ≡ code.Wire name range → ⊥) → ((o : CodeOperand) → site ≡ code.Assigned o → ⊥) → ((o : CodeOperand) → site ≡ code.Linked o → ⊥) → IsOther site
is_other (code.Module n) p w a l = record { operand = refl; wire = refl; port = refl }
is_other (code.Listed n) p w a l = record { operand = refl; wire = refl; port = refl }
is_other (code.Port n output range) p w a l = absurd (p n output range refl)
is_other (code.Wire n range) p w a l = absurd (w n range refl)
is_other (code.Assign to from) p w a l = record { operand = refl; wire = refl; port = refl }
is_other (code.Instance kind n links) p w a l = record { operand = refl; wire = refl; port = refl }
is_other (code.Named kind port expr) p w a l = record { operand = refl; wire = refl; port = refl }
is_other (code.Ordered kind place expr) p w a l = record { operand = refl; wire = refl; port = refl }
is_other (code.Assigned o) p w a l = absurd (a o refl)
is_other (code.Linked o) p w a l = absurd (l o refl)

pub other_fits : (sites : List CodeSite) (at : ℕ) (default : CodeSite) → at < length (map view_site sites)
    → ((name : Bor (List ℕ)) (output : Bool) (range : Option (ℕ × ℕ)) → get_or sites at default ≡ code.Port name output range → ⊥)
    → ((name : Bor (List ℕ)) (range : Option (ℕ × ℕ)) → get_or sites at default ≡ code.Wire name range → ⊥)
    → ((o : CodeOperand) → get_or sites at default ≡ code.Assigned o → ⊥) → ((o : CodeOperand) → get_or sites at default ≡ code.Linked o → ⊥)
    → (name : List ℕ) → ¬ IsOutOfRange (map view_site sites) at name
other_fits sites at default there p w a l =
    let is = is_other (get_or sites at default) p w a l in
    no_cause (map view_site sites) at (view_site (get_or sites at default)) (site_read sites at default (get_or sites at default) (within sites at there) refl) is.operand is.wire is.port
