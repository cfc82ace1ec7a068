-- The two sides at a site.
use Rattle.std.proofs.Common.{◌≡◌, ◌≢◌, ℕ, List, length, Option, Some, None, IfSome, IfNone, refl, sym, ◌∙◌, subst, Bor, map, ◌<◌, ◌≤◌, ◌^◌, arith}
use Rattle.verilog_tree.specs.declared.tree.Expr.{Expr as CodeExpr}
use Rattle.bind_sites.specs.Sites.{Site, Module, Listed, Port, Wire, Assign, Instance, Named, Ordered, Assigned, Linked, sites}
use Rattle.bind_sites.specs.Scope.{IsAt}
use Rattle.bind_sites.specs.declared.site.Site.{Site as CodeSite}
use Rattle.bind_sites.specs.declared.site.Site.TheVariants as code
use Rattle.bind_sites.specs.View.{view_site}
use Rattle.bind_hierarchy.specs.Modules as hierarchy
use Rattle.bind_names.specs.Scoped.{HasNoDouble}
use Rattle.bind_forms.specs.Modules.{Setting, IsReached}
use Rattle.bind_forms.specs.Faults.{HasSites, HasWidths, OfAssign, OfNamed, OfOrdered}
use Rattle.bind_names.specs.Scoped.{RangesAreOne}
use Rattle.bind_kinds.specs.Ports.{KindsAreOne, PortsAreOne}
use Rattle.bind_faults.specs.Sited.{InModule}
use Rattle.bind_faults.specs.Widths.{AreSingle, IsWidths, operand_count, both}
use Rattle.bind_faults.proofs.Lookups.{one_list, one_site, no_site}
use Rattle.bind_faults.proofs.Followed.{followed}
use Rattle.bind_kinds.proofs.Every.{every_at}
use Rattle.bind_faults.proofs.Used.{HasInstances, IsUsed, used}
use Rattle.bind_faults.proofs.OneWidth.{IsSingleKind, IsSingleSite, one_widths}

to_widths : (setting : Setting) (all : List Site) (at : ℕ) (site : Site) (have want : ℕ) → IsAt all at site → IsWidths setting all site have want → HasWidths setting all at have want
to_widths setting all at (Assign to from) have want there h = OfAssign to from there h.0 h.1
to_widths setting all at (Named kind name None) have want there h = absurd h.0
to_widths setting all at (Named kind name (Some expr)) have want there h = OfNamed kind name expr there h.0 h.1
to_widths setting all at (Ordered kind place None) have want there h = absurd h.0
to_widths setting all at (Ordered kind place (Some expr)) have want there h = OfOrdered kind place expr h.1.1.0 h.1.0 there h.0 h.1.1.1 h.1.1.2 h.1.2
to_widths setting all at (Module n) have want there h = absurd h
to_widths setting all at (Listed n) have want there h = absurd h
to_widths setting all at (Port n output range) have want there h = absurd h
to_widths setting all at (Wire n range) have want there h = absurd h
to_widths setting all at (Instance kind n links) have want there h = absurd h
to_widths setting all at (Assigned o) have want there h = absurd h
to_widths setting all at (Linked o) have want there h = absurd h

stands : (setting : Setting) (all : List Site) (at have want : ℕ) → HasWidths setting all at have want → (site : Site) × IsAt all at site × IsWidths setting all site have want
stands setting all at have want (OfAssign to from there from_width to_width) = (Assign to from, there, (from_width, to_width))
stands setting all at have want (OfNamed kind name expr there width port) = (Named kind name (Some expr), there, (width, port))
stands setting all at have want (OfOrdered kind place expr names name there width ports is port) = (Ordered kind place (Some expr), there, (width, (name, (names, ports, is), port)))

widths_at : (setting : Setting) (all : List Site) (at : ℕ) (site : Site) (have want : ℕ) → IsAt all at site → HasWidths setting all at have want → IsWidths setting all site have want
widths_at setting all at site have want there h =
    let stood = stands setting all at have want h in
    subst (λ (s : Site). IsWidths setting all s have want) (one_site all at stood.0 site stood.1 there) stood.2

-- widths in a module are those of its sites
inside : (setting : Setting) (at place : ℕ) (all : List Site) (site : Site) (have want : ℕ) → HasSites setting at all → IsAt all place site → InModule setting at (λ sites. HasWidths setting sites place have want)
    → IsWidths setting all site have want
inside setting at place all site have want has there h =
    widths_at setting all place site have want there (subst (λ (sites : List Site). HasWidths setting sites place have want) (one_list setting at h.0 all h.1 has) h.2)

-- ---- two answers

pub both_found : (P Q : ℕ → Type 0) (a b : Option ℕ) (r : Option (ℕ × ℕ)) → r ≡ both a b → IfSome a P → IfSome b Q → IfSome r (λ w. P w.0 × Q w.1)
both_found P Q a b r is g h = subst (λ (o : Option (ℕ × ℕ)). IfSome o (λ w. P w.0 × Q w.1)) (sym is) (of a b g h) where
  of : (a b : Option ℕ) → IfSome a P → IfSome b Q → IfSome (both a b) (λ w. P w.0 × Q w.1)
  of None b g h = tt
  of (Some x) None g h = tt
  of (Some x) (Some y) g h = (g, h)

pub both_none : (P Q : ℕ → Type 0) (a b : Option ℕ) (r : Option (ℕ × ℕ)) → r ≡ both a b → IfNone a ((n : ℕ) → ¬ P n) → IfNone b ((n : ℕ) → ¬ Q n) → IfNone r ((x y : ℕ) → ¬ (P x × Q y))
both_none P Q a b r is g h = subst (λ (o : Option (ℕ × ℕ)). IfNone o ((x y : ℕ) → ¬ (P x × Q y))) (sym is) (of a b g h) where
  of : (a b : Option ℕ) → IfNone a ((n : ℕ) → ¬ P n) → IfNone b ((n : ℕ) → ¬ Q n) → IfNone (both a b) ((x y : ℕ) → ¬ (P x × Q y))
  of None b g h = λ x y has. g x has.0
  of (Some x) None g h = λ x y has. h y has.1
  of (Some x) (Some y) g h = tt

pub other : (site : CodeSite) → ((to from : Bor CodeExpr) → site ≡ code.Assign to from → ⊥) → ((kind port : Bor (List ℕ)) (expr : Option (Bor CodeExpr)) → site ≡ code.Named kind port expr → ⊥)
    → ((kind : Bor (List ℕ)) (place : ℕ) (expr : Option (Bor CodeExpr)) → site ≡ code.Ordered kind place expr → ⊥)
    → (setting : Setting) (all : List Site) (have want : ℕ) → ¬ IsWidths setting all (view_site site) have want
other (code.Assign to from) p q r setting all have want = λ h. p to from refl
other (code.Named kind port expr) p q r setting all have want = λ h. q kind port expr refl
other (code.Ordered kind place expr) p q r setting all have want = λ h. r kind place expr refl
other (code.Module n) p q r setting all have want = λ h. h
other (code.Listed n) p q r setting all have want = λ h. h
other (code.Port n output range) p q r setting all have want = λ h. h
other (code.Wire n range) p q r setting all have want = λ h. h
other (code.Instance kind n links) p q r setting all have want = λ h. h
other (code.Assigned o) p q r setting all have want = λ h. h
other (code.Linked o) p q r setting all have want = λ h. h

-- ---- reached modules

single_kind : (setting : Setting) (at : ℕ) (all : List Site) (kind : List ℕ) → IsReached setting at → AreSingle setting → (has : HasSites setting at all) → HasInstances has.owner.items kind → IsSingleKind setting kind
single_kind setting at all kind reached single has instances = λ inner sites means inner_has.
    single inner sites (record {
      reached = record {
        top = reached.top;
        top_is = reached.top_is;
        reaches = hierarchy.Inner at inner reached.reaches (record { holder = has.owner; there = has.there; kind = kind; instances = instances.0; stands = instances.1; some = instances.2; means = means });
      };
      has = inner_has;
    })

of_site : (setting : Setting) (at : ℕ) (all : List Site) (site : Site) → IsReached setting at → AreSingle setting → (has : HasSites setting at all) → IsUsed has.owner.items site → IsSingleSite setting site
of_site setting at all (Named kind name expr) reached single has instances = single_kind setting at all kind reached single has instances
of_site setting at all (Ordered kind place expr) reached single has instances = single_kind setting at all kind reached single has instances
of_site setting at all (Module n) reached single has instances = tt
of_site setting at all (Listed n) reached single has instances = tt
of_site setting at all (Port n output range) reached single has instances = tt
of_site setting at all (Wire n range) reached single has instances = tt
of_site setting at all (Assign to from) reached single has instances = tt
of_site setting at all (Instance kind n links) reached single has instances = tt
of_site setting at all (Assigned o) reached single has instances = tt
of_site setting at all (Linked o) reached single has instances = tt

single_site : (setting : Setting) (at place : ℕ) (all : List Site) (site : Site) → IsReached setting at → AreSingle setting → HasSites setting at all → IsAt all place site → IsSingleSite setting site
single_site setting at place all site reached single has there =
    of_site setting at all site reached single has (every_at (IsUsed has.owner.items) (sites has.owner) place site (used has.owner) (subst (λ (l : List Site). IsAt l place site) has.sites_are there))

-- ---- a module

pub own_single : (setting : Setting) (at : ℕ) (all : List Site) → IsReached setting at → AreSingle setting → HasSites setting at all → HasNoDouble all (length all)
own_single setting at all reached single has = single at all (record { reached = reached; has = has })

pub few_at : (setting : Setting) (at place : ℕ) (all : List Site) (site : Site) → HasSites setting at all → IsAt all place site → length all < 2 ^ 32 → operand_count site < 2 ^ 32
few_at setting at place all site has there few =
    let near : operand_count site < length (sites has.owner) =
    every_at (λ s. operand_count s < length (sites has.owner)) (sites has.owner) place site (followed has.owner) (subst (λ (l : List Site). IsAt l place site) has.sites_are there) in
    let few_too : length (sites has.owner) < 2 ^ 32 = subst (λ (l : List Site). length l < 2 ^ 32) has.sites_are few in
    omega (arith, near, few_too)

pub differ_found : (setting : Setting) (at place : ℕ) (all : List Site) (site : Site) (w : ℕ × ℕ) (r : Option (ℕ × ℕ)) → HasSites setting at all → IsAt all place site → IsWidths setting all site w.0 w.1
    → IfSome r (λ found. (found ≡ w) × (w.0 ≢ w.1)) → IfSome r (λ found. InModule setting at (λ all. HasWidths setting all place found.0 found.1) × (found.0 ≢ found.1))
differ_found setting at place all site w None has there is h = tt
differ_found setting at place all site w (Some found) has there is h =
    subst (λ (x : ℕ × ℕ). InModule setting at (λ all. HasWidths setting all place x.0 x.1) × (x.0 ≢ x.1)) (sym h.0) ((all, has, to_widths setting all place site w.0 w.1 there is), h.1)

pub differ_none : KindsAreOne → PortsAreOne → RangesAreOne → (setting : Setting) (at place : ℕ) (all : List Site) (site : Site) (w : ℕ × ℕ) (r : Option (ℕ × ℕ)) → IsReached setting at → AreSingle setting → HasSites setting at all
    → IsAt all place site → IsWidths setting all site w.0 w.1 → IfNone r (w.0 ≡ w.1) → IfNone r ((have want : ℕ) → have ≢ want → ¬ InModule setting at (λ all. HasWidths setting all place have want))
differ_none one_kind one_ports one_range setting at place all site w (Some found) reached single has there is h = tt
differ_none one_kind one_ports one_range setting at place all site w None reached single has there is h = λ have want differ in_it.
    let other = inside setting at place all site have want has there in_it in
    let same = one_widths one_kind one_ports one_range setting all site (own_single setting at all reached single has) (single_site setting at place all site reached single has there) w.0 w.1 have want is other in
    differ (sym same.0 ∙ h ∙ same.1)

pub no_widths : (setting : Setting) (at place : ℕ) (all : List Site) (site : Site) → HasSites setting at all → IsAt all place site → ((have want : ℕ) → ¬ IsWidths setting all site have want)
    → (have want : ℕ) → have ≢ want → ¬ InModule setting at (λ all. HasWidths setting all place have want)
no_widths setting at place all site has there none = λ have want differ in_it. none have want (inside setting at place all site have want has there in_it)

-- nothing stands past the last site
pub past : (setting : Setting) (at place : ℕ) → ((all : List Site) (here : Site) → HasSites setting at all → ¬ IsAt all place here) → (have want : ℕ) → have ≢ want → ¬ InModule setting at (λ sites. HasWidths setting sites place have want)
past setting at place none = λ have want differ in_it. let stood = stands setting in_it.0 place have want in_it.2 in none in_it.0 stood.0 in_it.1 stood.1
