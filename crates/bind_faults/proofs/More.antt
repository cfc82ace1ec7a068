-- More links by order than ports.
use Rattle.std.proofs.Common.{◌≡◌, ℕ, ◌≤◌, List, length, map, Option, Some, None, IfSome, IfNone, refl, sym, ◌∙◌, ap, subst, Bor}
use Rattle.std.proofs.lemmas.List.{length-map}
use Rattle.verilog_tree.specs.declared.tree.Links.{Links as CodeLinks}
use Rattle.verilog_tree.specs.declared.tree.Links.TheVariants as code_links
use Rattle.verilog_tree.specs.declared.tree.Expr.{Expr as CodeExpr}
use Rattle.verilog_tree.specs.Views.{view_links, view_optional}
use Rattle.bind_kinds.specs.Ports.{HasPortCount, PortsAreOne}
use Rattle.verilog_tree.specs.Trees.{Links, Named as NamedLinks, Ordered as OrderedLinks}
use Rattle.bind_sites.specs.declared.site.Site.{Site as CodeSite}
use Rattle.bind_sites.specs.declared.site.Site.TheVariants as code
use Rattle.bind_sites.specs.View.{view_site}
use Rattle.bind_sites.specs.Sites.{Site, Module, Listed, Port, Wire, Assign, Instance, Named, Ordered, Assigned, Linked}
use Rattle.bind_sites.specs.Scope.{IsAt}
use Rattle.bind_forms.specs.Modules.{Setting}
use Rattle.bind_forms.specs.Faults.{HasSites, HasTooMany}
use Rattle.bind_faults.specs.Sited.{InModule, HasMore, HasMoreLinks, HasMoreAt}
use Rattle.bind_faults.proofs.Lookups.{one_list, one_site, no_site}

to_many : (setting : Setting) (all : List Site) (at : ℕ) (kind name : List ℕ) (links : Links) (have want : ℕ) → IsAt all at (Instance kind name links) → HasMoreLinks setting kind links have want → HasTooMany setting all at have want
to_many setting all at kind name (NamedLinks links) have want there h = absurd h
to_many setting all at kind name (OrderedLinks links) have want there h = record {
  kind = kind;
  name = name;
  links = links;
  names = h.1.0.0;
  there = there;
  ports = h.1.0.1;
  have_is = h.0;
  want_is = h.1.0.2;
  more = h.1.1;
}

many_at : (setting : Setting) (all : List Site) (at : ℕ) (site : Site) (have want : ℕ) → IsAt all at site → HasTooMany setting all at have want → HasMoreAt setting site have want
many_at setting all at site have want there h =
    subst (λ (s : Site). HasMoreAt setting s have want) (one_site all at (Instance h.kind h.name (OrderedLinks h.links)) site h.there there) (h.have_is, ((h.names, h.ports, h.want_is), h.more))

many_of : (setting : Setting) (all : List Site) (at : ℕ) (site : Site) (have want : ℕ) → IsAt all at site → HasMoreAt setting site have want → HasTooMany setting all at have want
many_of setting all at (Instance kind name links) have want there h = to_many setting all at kind name links have want there h
many_of setting all at (Module n) have want there h = absurd h
many_of setting all at (Listed n) have want there h = absurd h
many_of setting all at (Port n output range) have want there h = absurd h
many_of setting all at (Wire n range) have want there h = absurd h
many_of setting all at (Assign to from) have want there h = absurd h
many_of setting all at (Named kind name expr) have want there h = absurd h
many_of setting all at (Ordered kind place expr) have want there h = absurd h
many_of setting all at (Assigned o) have want there h = absurd h
many_of setting all at (Linked o) have want there h = absurd h

pub many_found : (setting : Setting) (at place : ℕ) (all : List Site) (site : Site) (r : Option (ℕ × ℕ)) → HasSites setting at all → IsAt all place site
    → IfSome r (λ counts. HasMoreAt setting site counts.0 counts.1) → IfSome r (λ counts. InModule setting at (λ sites. HasTooMany setting sites place counts.0 counts.1))
many_found setting at place all site None has there h = tt
many_found setting at place all site (Some counts) has there h = (all, has, many_of setting all place site counts.0 counts.1 there h)

-- too many links of a module are those of its sites
inside : (setting : Setting) (at place : ℕ) (all : List Site) (have want : ℕ) → HasSites setting at all → InModule setting at (λ sites. HasTooMany setting sites place have want) → HasTooMany setting all place have want
inside setting at place all have want has h = subst (λ (sites : List Site). HasTooMany setting sites place have want) (one_list setting at h.0 all h.1 has) h.2

pub many_none : (setting : Setting) (at place : ℕ) (all : List Site) (site : Site) (r : Option (ℕ × ℕ)) → HasSites setting at all → IsAt all place site
    → IfNone r ((have want : ℕ) → ¬ HasMoreAt setting site have want) → IfNone r ((have want : ℕ) → ¬ InModule setting at (λ sites. HasTooMany setting sites place have want))
many_none setting at place all site (Some counts) has there h = tt
many_none setting at place all site None has there h = λ have want in_it. h have want (many_at setting all place site have want there (inside setting at place all have want has in_it))

-- nothing stands past the last site
pub past : (setting : Setting) (at place : ℕ) → ((all : List Site) (here : Site) → HasSites setting at all → ¬ IsAt all place here) → (have want : ℕ) → ¬ InModule setting at (λ all. HasTooMany setting all place have want)
past setting at place none = λ have want in_it.
    let many = in_it.2 in
    none in_it.0 (Instance many.kind many.name (OrderedLinks many.links)) in_it.1 many.there

-- ---- one site

pub other : (site : CodeSite) → ((kind name : Bor (List ℕ)) (links : Bor CodeLinks) → site ≡ code.Instance kind name links → ⊥) → (setting : Setting) (have want : ℕ) → ¬ HasMoreAt setting (view_site site) have want
other (code.Instance kind n links) p setting have want = λ h. p kind n links refl
other (code.Module n) p setting have want = λ h. h
other (code.Listed n) p setting have want = λ h. h
other (code.Port n output range) p setting have want = λ h. h
other (code.Wire n range) p setting have want = λ h. h
other (code.Assign to from) p setting have want = λ h. h
other (code.Named kind port expr) p setting have want = λ h. h
other (code.Ordered kind place expr) p setting have want = λ h. h
other (code.Assigned o) p setting have want = λ h. h
other (code.Linked o) p setting have want = λ h. h

pub links_none : (setting : Setting) (kind : List ℕ) (links : CodeLinks) (items : List (Option CodeExpr)) (len : ℕ) (r : Option (ℕ × ℕ)) → links ≡ code_links.Ordered items → len ≡ length items
    → IfNone r ((want : ℕ) → ¬ HasMore setting kind len want) → IfNone r ((have want : ℕ) → ¬ HasMoreLinks setting kind (view_links links) have want)
links_none setting kind links items len (Some counts) is long h = tt
links_none setting kind links items len None is long h = λ have want more.
    let ordered : HasMoreLinks setting kind (view_links (code_links.Ordered items)) have want = subst (λ (l : CodeLinks). HasMoreLinks setting kind (view_links l) have want) is more in
    let same : have ≡ len = ordered.0 ∙ length-map items view_optional ∙ sym long in
    h want (subst (λ (n : ℕ). HasMore setting kind n want) same ordered.1)

-- the number of ports of a kind is one
pub one_count : PortsAreOne → (setting : Setting) (kind : List ℕ) (a b : ℕ) → HasPortCount setting kind a → HasPortCount setting kind b → a ≡ b
one_count one_ports setting kind a b g h = g.2 ∙ ap length (one_ports setting kind g.0 h.0 g.1 h.1) ∙ sym h.2
