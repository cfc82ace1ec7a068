-- Names that are known, and sites that want one.
use Rattle.std.proofs.Common.{◌≡◌, inl, inr, ℕ, ◌<◌, List, length, map, get_or, Option, Some, None, sym, ◌∙◌, ap, subst, IfSome, IfNone, Bor}
use Rattle.std.specs.Option.{option_map}
use Rattle.std.proofs.lemmas.List.{length-map}
use Rattle.std.proofs.lemmas.Option.{slice_get-map, slice_get-get_or}
use Rattle.bind_sites.specs.declared.site.Site.{Site as CodeSite}
use Rattle.bind_sites.specs.View.{view_site}
use Rattle.bind_names.proofs.FirstPlaces.{site_at}
use Rattle.bind_sites.specs.Sites.{Operand, Site, Module, Listed, Port, Wire, Assign, Instance, Named, Ordered, Assigned, Linked}
use Rattle.bind_sites.specs.Scope.{IsAt, IsKnown, HasRange, AsPort, AsWire, AsLinked}
use Rattle.bind_sites.specs.Refused.{IsUnknownName, InAssign, InLink}
use Rattle.bind_names.specs.Checked.{wanted_name, selected_name}

pub known : (all : List Site) (name : List ℕ) (range : Option (ℕ × ℕ)) → HasRange all name range → IsKnown all name
known all name range (AsPort output stands) = inl (output, range, stands)
known all name range (AsWire none stands) = inr (inl (range, stands))
known all name range (AsLinked none not_wire linked is) = inr (inr linked)

abbrev operand : List ℕ → Option (ℕ × ℕ) → Operand
operand n s = record { name = n; select = s }

-- a name that a site wants and nothing gives
pub unknown : (all : List Site) (at : ℕ) (site : Site) (name : List ℕ) → IsAt all at site → wanted_name site ≡ Some name → ¬ IsKnown all name → IsUnknownName all at name
unknown all at (Assigned o) name there is lacks =
    let same : o.name ≡ name = cc in
    InAssign o.select (subst (λ (n : List ℕ). IsAt all at (Assigned (operand n o.select))) same there) lacks
unknown all at (Linked o) name there is lacks = in_link o.name o.select there is where
  in_link : (n : List ℕ) (s : Option (ℕ × ℕ)) → IsAt all at (Linked (operand n s)) → selected_name n s ≡ Some name → IsUnknownName all at name
  in_link n None at_it e = absurd cc
  in_link n (Some s) at_it e =
      let same : n ≡ name = cc in
      InLink s (subst (λ (m : List ℕ). IsAt all at (Linked (operand m (Some s)))) same at_it) lacks
unknown all at (Wire n range) name there is lacks = absurd cc
unknown all at (Port n output range) name there is lacks = absurd cc
unknown all at (Module n) name there is lacks = absurd cc
unknown all at (Listed n) name there is lacks = absurd cc
unknown all at (Assign to from) name there is lacks = absurd cc
unknown all at (Instance kind n links) name there is lacks = absurd cc
unknown all at (Named kind n expr) name there is lacks = absurd cc
unknown all at (Ordered kind n expr) name there is lacks = absurd cc

pub one_site : (all : List Site) (at : ℕ) (a b : Site) → IsAt all at a → IsAt all at b → a ≡ b
one_site all at a b h k = some_same (sym h ∙ k) where
  some_same : Some a ≡ Some b → a ≡ b
  some_same e = cc

-- the site of an unknown name wants it
pub wants : (all : List Site) (at : ℕ) (site : Site) (name : List ℕ) → IsAt all at site → IsUnknownName all at name → (wanted_name site ≡ Some name) × (¬ IsKnown all name)
wants all at site name there (InAssign s stands lacks) = (ap wanted_name (one_site all at site (Assigned (operand name s)) there stands), lacks)
wants all at site name there (InLink s stands lacks) = (ap wanted_name (one_site all at site (Linked (operand name (Some s))) there stands), lacks)

-- the site that the code reads
pub site_there : (sites : List CodeSite) (at : ℕ) (site : CodeSite) → at < length (map view_site sites) → site ≡ get_or sites at site → IsAt (map view_site sites) at (view_site site)
site_there sites at site lt is = site_at sites at site (rw (length-map sites view_site) at lt) is

-- and the one that it matches on
pub site_read : (sites : List CodeSite) (at : ℕ) (default site : CodeSite) → at < length sites → get_or sites at default ≡ site → IsAt (map view_site sites) at (view_site site)
site_read sites at default site lt is = slice_get-map view_site sites at ∙ ap (option_map view_site) (slice_get-get_or sites at default lt ∙ ap Some is)

pub within : (sites : List CodeSite) (at : ℕ) → at < length (map view_site sites) → at < length sites
within sites at lt = rw (length-map sites view_site) at lt

-- ---- the answers of a test

pub unknown_found : (all : List Site) (at : ℕ) (site : Site) (name : List ℕ) (r : Option (Bor (List ℕ))) → IsAt all at site → wanted_name site ≡ Some name
    → IfSome r (λ found. (found.now ≡ name) × (¬ IsKnown all name)) → IfSome r (λ found. IsUnknownName all at found.now)
unknown_found all at site name None there wants_it h = tt
unknown_found all at site name (Some found) there wants_it h = rw h.0 (unknown all at site name there wants_it h.1)

pub unknown_none : (all : List Site) (at : ℕ) (site : Site) (name : List ℕ) (r : Option (Bor (List ℕ))) → IsAt all at site → wanted_name site ≡ Some name
    → IfNone r (IsKnown all name) → IfNone r ((other : List ℕ) → ¬ IsUnknownName all at other)
unknown_none all at site name (Some found) there wants_it h = tt
unknown_none all at site name None there wants_it h = λ other unknown_it.
    let both = wants all at site other there unknown_it in
    let same : name ≡ other = some_same (sym wants_it ∙ both.0) in
    both.1 (subst (λ (n : List ℕ). IsKnown all n) same h) where
      some_same : {A : Type 0} {a b : A} → Some a ≡ Some b → a ≡ b
      some_same e = cc

pub unwanted : (all : List Site) (at : ℕ) (site : Site) → IsAt all at site → wanted_name site ≡ None → (other : List ℕ) → ¬ IsUnknownName all at other
unwanted all at site there nothing = λ other unknown_it.
    never other (sym nothing ∙ (wants all at site other there unknown_it).0) where
      never : (n : List ℕ) → None ≡ Some n → ⊥
      never n e = cc
