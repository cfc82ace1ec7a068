-- The kind of the instance at a site.
use Rattle.std.proofs.Common.{◌≡◌, inl, inr, ◌∙◌, ◌<◌, ℕ, List, Option, Some, None, IfSome, IfNone, Bor, length, map, get_or, sym, ap, subst}
use Rattle.std.specs.Option.{option_map}
use Rattle.std.proofs.lemmas.List.{length-map}
use Rattle.std.proofs.lemmas.Option.{slice_get-map, slice_get-get_or, same_Some}
use Rattle.verilog_tree.specs.Trees.{Links}
use Rattle.bind_sites.specs.declared.site.Site.{Site as CodeSite}
use Rattle.bind_sites.specs.View.{view_site}
use Rattle.bind_sites.specs.Sites.{Site, Module, Listed, Port, Wire, Assign, Instance, Named, Ordered, Assigned, Linked}
use Rattle.bind_sites.specs.Scope.{IsAt}
use Rattle.bind_forms.specs.Modules.{Setting}
use Rattle.bind_forms.specs.Faults.{IsKind}
use Rattle.bind_hierarchy.specs.declared.kinds.Meaning.{Meaning}
use Rattle.bind_hierarchy.specs.declared.kinds.Meaning.TheVariants as meanings
use Rattle.bind_kinds.specs.Meanings.{KindMeans, IsMeantAt}
use Rattle.bind_faults.specs.Checks.{kind_of, IsUnknownKind}

-- the site that the code reads
pub site_read : (all : List CodeSite) (at : ℕ) (default : CodeSite) → at < length (map view_site all) → IsAt (map view_site all) at (view_site (get_or all at default))
site_read all at default lt = slice_get-map view_site all at ∙ ap (option_map view_site) (slice_get-get_or all at default (rw (length-map all view_site) at lt))

instance_at : (all : List Site) (at : ℕ) (site : Site) (kind : List ℕ) → IsAt all at site → kind_of site ≡ Some kind → (name : List ℕ) × (links : Links) × IsAt all at (Instance kind name links)
instance_at all at (Instance k name links) kind there is = (name, links, subst (λ (n : List ℕ). IsAt all at (Instance n name links)) (same_Some k kind is) there)
instance_at all at (Module n) kind there is = absurd cc
instance_at all at (Listed n) kind there is = absurd cc
instance_at all at (Port n output range) kind there is = absurd cc
instance_at all at (Wire n range) kind there is = absurd cc
instance_at all at (Assign to from) kind there is = absurd cc
instance_at all at (Named k n expr) kind there is = absurd cc
instance_at all at (Ordered k n expr) kind there is = absurd cc
instance_at all at (Assigned o) kind there is = absurd cc
instance_at all at (Linked o) kind there is = absurd cc

-- a name with a meaning is one of a kind, and one without is none
pub is_kind : (setting : Setting) (name : List ℕ) (meaning : Meaning) → KindMeans setting name (Some meaning) → IsKind setting name
is_kind setting name (meanings.Module at) means = inl (at, means.0)
is_kind setting name (meanings.Cell row) means = inr (row, means.1)

pub no_kind : (setting : Setting) (name : List ℕ) → KindMeans setting name None → ¬ IsKind setting name
no_kind setting name none = λ kind. elim kind [ inl m ↦ none.0 m.0 m.1 | inr r ↦ none.1 r.0 r.1 ]

-- what the kind of an instance means
pub instance_meant : (setting : Setting) (site : Site) (kind : List ℕ) (meaning : Option Meaning) → Some kind ≡ kind_of site → IsMeantAt setting site meaning → KindMeans setting kind meaning
instance_meant setting (Instance k name links) kind meaning is meant = subst (λ (n : List ℕ). KindMeans setting n meaning) (sym (same_Some kind k is)) meant
instance_meant setting (Module n) kind meaning is meant = absurd cc
instance_meant setting (Listed n) kind meaning is meant = absurd cc
instance_meant setting (Port n output range) kind meaning is meant = absurd cc
instance_meant setting (Wire n range) kind meaning is meant = absurd cc
instance_meant setting (Assign to from) kind meaning is meant = absurd cc
instance_meant setting (Named k n expr) kind meaning is meant = absurd cc
instance_meant setting (Ordered k n expr) kind meaning is meant = absurd cc
instance_meant setting (Assigned o) kind meaning is meant = absurd cc
instance_meant setting (Linked o) kind meaning is meant = absurd cc

kind_at : (all : List Site) (at : ℕ) (site : Site) (kind name : List ℕ) (links : Links) → IsAt all at site → IsAt all at (Instance kind name links) → kind_of site ≡ Some kind
kind_at all at site kind name links there stands = ap kind_of (same_Some site (Instance kind name links) (sym there ∙ stands))

module _ (setting : Setting) (all : List Site) (at : ℕ) (site : Site) (there : IsAt all at site) where
  pub none_unknown : None ≡ kind_of site → (kind : List ℕ) → ¬ IsUnknownKind setting all at kind
  none_unknown is = λ kind unknown. let e : kind_of site ≡ Some kind = kind_at all at site kind unknown.0 unknown.1 there unknown.2 in let no : None ≡ Some kind = is ∙ e in cc

  pub unknown_is : (kind : List ℕ) (meaning : Option Meaning) (found : Option (Bor (List ℕ))) → Some kind ≡ kind_of site → IsMeantAt setting site meaning
      → IfSome found (λ name. (name.now ≡ kind) × ((any : Setting) → KindMeans any kind meaning → ¬ IsKind any kind)) → IfSome found (λ name. IsUnknownKind setting all at name.now)
  unknown_is kind meaning None is meant f = f
  unknown_is kind meaning (Some name) is meant f =
      let one = instance_at all at site kind there (sym is) in
      subst (λ (n : List ℕ). IsUnknownKind setting all at n) (sym f.0) (one.0, one.1, one.2, f.1 setting (instance_meant setting site kind meaning is meant))

  pub known_none : (kind : List ℕ) (meaning : Option Meaning) (found : Option (Bor (List ℕ))) → Some kind ≡ kind_of site → IsMeantAt setting site meaning
      → IfNone found ((any : Setting) → KindMeans any kind meaning → IsKind any kind) → IfNone found ((name : List ℕ) → ¬ IsUnknownKind setting all at name)
  known_none kind meaning (Some name) is meant f = f
  known_none kind meaning None is meant f = λ name unknown.
      let same : kind ≡ name = same_Some kind name (is ∙ kind_at all at site name unknown.0 unknown.1 there unknown.2) in
      unknown.3 (subst (λ (n : List ℕ). IsKind setting n) same (f setting (instance_meant setting site kind meaning is meant)))
