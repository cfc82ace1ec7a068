-- Ports that there are not, by the site.
use Rattle.std.proofs.Common.{◌≡◌, ℕ, ◌≤◌, List, length, map, Option, Some, None, IfSome, IfNone, Bool, refl, sym, ◌∙◌, ap, subst, Bor}
use Rattle.std.specs.Prelude.{slice_get}
use Rattle.std.specs.List.{Contains}
use Rattle.verilog_tree.specs.Trees.{Expr}
use Rattle.bind_sites.specs.Sites.{Site, Module, Listed, Port, Wire, Assign, Instance, Named, Ordered, Assigned, Linked}
use Rattle.bind_sites.specs.Scope.{IsAt, Stands, HasDirection}
use Rattle.bind_forms.specs.Modules.{Setting}
use Rattle.bind_forms.specs.Faults.{HasSites, IsUnknownPort, NoDirection, NoListing, NoPort}
use Rattle.bind_faults.specs.Sited.{InModule, LacksPort, IsNoPort}
use Rattle.std.proofs.lemmas.Option.{slice_get_within, slice_get-get_or, get_or_from_slice_get}
use Rattle.bind_sites.specs.declared.sort.Sort.{Sort}
use Rattle.bind_sites.specs.declared.sort.Sort.TheVariants as sort
use Rattle.bind_sites.specs.Again.{direction_name, Gives}
use Rattle.bind_sites.specs.Index.{IsNotGiven, IsFirstPlace}
use Rattle.bind_hierarchy.specs.Names.{IsFirstPlace as IsFirst}
use Rattle.bind_forms.specs.Modules.{HasPorts}
use Rattle.bind_kinds.specs.Ports.{HasPortCount, HasPortPlace, PortsAreOne}
use Rattle.bind_sites.specs.declared.site.Site.{Site as CodeSite}
use Rattle.bind_sites.specs.View.{view_site}
use Rattle.bind_faults.proofs.Lookups.{some_same, one_list, one_site, no_site}

to_unknown : (setting : Setting) (all : List Site) (at : ℕ) (site : Site) (name : List ℕ) → IsAt all at site → LacksPort setting all site name → IsUnknownPort setting all at name
to_unknown setting all at (Listed n) name there h = NoDirection (subst (λ (m : List ℕ). IsAt all at (Listed m)) h.0 there) (subst (λ (m : List ℕ). ¬ HasDirection all m) h.0 h.1)
to_unknown setting all at (Port n output range) name there h = NoListing output range (subst (λ (m : List ℕ). IsAt all at (Port m output range)) h.0 there) (subst (λ (m : List ℕ). ¬ Stands all (Listed m)) h.0 h.1)
to_unknown setting all at (Named kind n expr) name there h =
    let none : IsNoPort setting kind name = subst (λ (m : List ℕ). IsNoPort setting kind m) h.0 h.1 in
    NoPort kind expr none.0 (subst (λ (m : List ℕ). IsAt all at (Named kind m expr)) h.0 there) none.1 none.2
to_unknown setting all at (Module n) name there h = absurd h
to_unknown setting all at (Wire n range) name there h = absurd h
to_unknown setting all at (Assign to from) name there h = absurd h
to_unknown setting all at (Instance kind n links) name there h = absurd h
to_unknown setting all at (Ordered kind place expr) name there h = absurd h
to_unknown setting all at (Assigned o) name there h = absurd h
to_unknown setting all at (Linked o) name there h = absurd h

pub stands : (setting : Setting) (all : List Site) (at : ℕ) (name : List ℕ) → IsUnknownPort setting all at name → (site : Site) × IsAt all at site × LacksPort setting all site name
stands setting all at name (NoDirection there none) = (Listed name, there, (refl, none))
stands setting all at name (NoListing output range there none) = (Port name output range, there, (refl, none))
stands setting all at name (NoPort kind expr names there ports none) = (Named kind name expr, there, (refl, (names, ports, none)))

pub unknown_found : (setting : Setting) (at place : ℕ) (all : List Site) (site : Site) (r : Option (Bor (List ℕ))) → HasSites setting at all → IsAt all place site → IfSome r (λ name. LacksPort setting all site name.now)
    → IfSome r (λ name. InModule setting at (λ sites. IsUnknownPort setting sites place name.now))
unknown_found setting at place all site None has there h = tt
unknown_found setting at place all site (Some name) has there h = (all, has, to_unknown setting all place site name.now there h)

pub unknown_none : (setting : Setting) (at place : ℕ) (all : List Site) (site : Site) (r : Option (Bor (List ℕ))) → HasSites setting at all → IsAt all place site → IfNone r ((name : List ℕ) → ¬ LacksPort setting all site name)
    → IfNone r ((name : List ℕ) → ¬ InModule setting at (λ sites. IsUnknownPort setting sites place name))
unknown_none setting at place all site (Some name) has there h = tt
unknown_none setting at place all site None has there h = λ name inside.
    let unknown : IsUnknownPort setting all place name = subst (λ (sites : List Site). IsUnknownPort setting sites place name) (one_list setting at inside.0 all inside.1 has) inside.2 in
    let stood = stands setting all place name unknown in
    h name (subst (λ (s : Site). LacksPort setting all s name) (one_site all place stood.0 site stood.1 there) stood.2)

-- ---- one site

pub named_found : (setting : Setting) (all : List Site) (kind n : List ℕ) (expr : Option Expr) (r : Option (Bor (List ℕ))) → IfSome r (λ found. (n ≡ found.now) × IsNoPort setting kind n)
    → IfSome r (λ name. LacksPort setting all (Named kind n expr) name.now)
named_found setting all kind n expr None h = tt
named_found setting all kind n expr (Some name) h = h

pub named_none : (setting : Setting) (all : List Site) (kind n : List ℕ) (expr : Option Expr) (r : Option (Bor (List ℕ))) → IfNone r (¬ IsNoPort setting kind n) → IfNone r ((name : List ℕ) → ¬ LacksPort setting all (Named kind n expr) name)
named_none setting all kind n expr (Some name) h = tt
named_none setting all kind n expr None h = λ name lacks. h lacks.1

-- nothing stands past the last site
pub past : (setting : Setting) (at place : ℕ) → ((all : List Site) (here : Site) → HasSites setting at all → ¬ IsAt all place here) → (name : List ℕ) → ¬ InModule setting at (λ all. IsUnknownPort setting all place name)
past setting at place none = λ name inside. let stood = stands setting inside.0 place name inside.2 in none inside.0 stood.0 inside.1 stood.1

-- ---- names of ports

pub contains : (names : List (List ℕ)) (at : ℕ) (name : List ℕ) → slice_get names at ≡ Some name → Contains names name
contains names at name is = (at, slice_get_within names at name is, get_or_from_slice_get names at name name is)

pub has_port : PortsAreOne → (setting : Setting) (kind name : List ℕ) (place : ℕ) → HasPortPlace setting kind name place → ¬ IsNoPort setting kind name
has_port one_ports setting kind name place has = λ none.
    let same : has.0 ≡ none.0 = one_ports setting kind has.0 none.0 has.1 none.1 in
    none.2 (subst (λ (names : List (List ℕ)). Contains names name) same (contains has.0 place name has.2.0))

pub has_none : (setting : Setting) (kind name : List ℕ) (count : ℕ) → HasPortCount setting kind count → ((names : List (List ℕ)) → HasPorts setting kind names → IsFirst names name None) → IsNoPort setting kind name
has_none setting kind name count has none = (
  has.0,
  has.1,
  λ c. none has.0 has.1 c.0 (slice_get-get_or has.0 c.0 name c.1 ∙ ap Some c.2),
)
