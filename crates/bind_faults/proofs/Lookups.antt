-- The module and the site that the code looks up.
use Rattle.std.proofs.Common.{◌≡◌, ℕ, ◌<◌, ◌≤◌, List, map, get_or, length, Option, Some, None, refl, sym, ◌∙◌, ap, subst, arith, ◌↔◌, ◌^◌, nat_lt, IsTrue, rules, tests}
use Rattle.std.specs.Prelude.{slice_get}
use Rattle.std.specs.Option.{option_map, IsSomeAnd}
use Rattle.std.specs.List.{AllZip}
use Rattle.std.proofs.lemmas.List.{length-map}
use Rattle.std.proofs.lemmas.Option.{slice_get-map, slice_get_read, slice_get_within, MatchOption-at_some}
use Rattle.std.proofs.lemmas.Slice.Zip.{AllZip-left, AllZip-right}
use Rattle.verilog_tree.specs.Trees.{Module}
use Rattle.bind_sites.specs.declared.site.Site.{Site as CodeSite}
use Rattle.bind_sites.specs.View.{view_site}
use Rattle.bind_sites.specs.Sites.{Site, sites}
use Rattle.bind_sites.specs.Scope.{IsAt}
use Rattle.bind_names.specs.declared.scope.Scope.{Scope}
use Rattle.bind_names.specs.Scoped.{sites_of}
use Rattle.bind_forms.specs.Modules.{Setting}
use Rattle.bind_forms.specs.Faults.{HasSites}
use Rattle.bind_kinds.specs.Netlist.{IsScopeOf}
use Rattle.bind_faults.specs.Widths.{FitsSites}

pub some_same : {A : Type 0} {a b : A} → Some a ≡ Some b → a ≡ b
some_same h = cc

pub is_some : {A : Type 0} (P : A → Type 0) (o : Option A) → IsSomeAnd o P → (x : A) × (o ≡ Some x) × P x
is_some P None h = absurd h
is_some P (Some x) h = (x, refl, h)

-- the module of the names that the code looked up
pub owner_of : (modules : List Module) (scopes : List Scope) (at : ℕ) (scope : Scope) → AllZip IsScopeOf modules scopes → at < length scopes → scope ≡ get_or scopes at scope
    → (owner : Module) × (slice_get modules at ≡ Some owner) × IsScopeOf owner scope
owner_of modules scopes at scope zip near is =
    let there : slice_get scopes at ≡ Some scope = slice_get_read scopes (length scopes) at scope refl near is in
    is_some (λ (owner : Module). IsScopeOf owner scope) (slice_get modules at) (MatchOption-at_some (Unit {0}) (λ s. IsSomeAnd (slice_get modules at) (λ owner. IsScopeOf owner s)) scope there (AllZip-right IsScopeOf modules scopes zip at))

pub has_sites : (setting : Setting) (scopes : List Scope) (at : ℕ) (scope : Scope) → AllZip IsScopeOf setting.modules scopes → at < length scopes → scope ≡ get_or scopes at scope → HasSites setting at (sites_of scope)
has_sites setting scopes at scope zip near is =
    let owner = owner_of setting.modules scopes at scope zip near is in
    record { owner = owner.0; there = owner.1; sites_are = owner.2.sites_are }

-- and that there is none
pub no_sites : (setting : Setting) (scopes : List Scope) (at : ℕ) (all : List Site) → AllZip IsScopeOf setting.modules scopes → length scopes ≤ at → HasSites setting at all → ⊥
no_sites setting scopes at all zip past has =
    let scope = is_some (λ (s : Scope). IsScopeOf has.owner s) (slice_get scopes at) (MatchOption-at_some (Unit {0}) (λ owner. IsSomeAnd (slice_get scopes at) (λ s. IsScopeOf owner s)) has.owner has.there (AllZip-left IsScopeOf setting.modules scopes zip at)) in
    let near : at < length scopes = slice_get_within scopes at scope.0 scope.1 in
    omega arith

pub one_list : (setting : Setting) (at : ℕ) (one other : List Site) → HasSites setting at one → HasSites setting at other → one ≡ other
one_list setting at one other h k = h.sites_are ∙ ap sites (some_same (sym h.there ∙ k.there)) ∙ sym k.sites_are

-- ---- sites

pub site_there : (all : List CodeSite) (site : ℕ) (here : CodeSite) → site < length all → here ≡ get_or all site here → IsAt (map view_site all) site (view_site here)
site_there all site here near is = slice_get-map view_site all site ∙ ap (option_map view_site) (slice_get_read all (length all) site here refl near is)

pub no_site : (all : List CodeSite) (site : ℕ) (s : Site) → length all ≤ site → IsAt (map view_site all) site s → ⊥
no_site all site s past there =
    let near : site < length (map view_site all) = slice_get_within (map view_site all) site s there in
    omega (arith, length-map all view_site)

pub one_site : (all : List Site) (at : ℕ) (a b : Site) → IsAt all at a → IsAt all at b → a ≡ b
one_site all at a b h k = some_same (sym h ∙ k)

-- the test that the sites are few
pub fits_by : (setting : Setting) (at : ℕ) (scope : Scope) → HasSites setting at (sites_of scope) → IsTrue (nat_lt (length scope.sites.now) 4294967296) ↔ FitsSites setting at
fits_by setting at scope has = (
  λ t all has_too.
      let few : length scope.sites.now < 4294967296 = search (rules, tests) in
      let mapped : length (sites_of scope) < 2 ^ 32 = omega (arith, few, length-map scope.sites.now view_site) in
      subst (λ (l : List Site). length l < 2 ^ 32) (one_list setting at (sites_of scope) all has has_too) mapped,
  λ fits.
      let few : length (sites_of scope) < 2 ^ 32 = fits (sites_of scope) has in
      let few_too : length scope.sites.now < 4294967296 = omega (arith, few, length-map scope.sites.now view_site) in
      search (rules, tests),
)
