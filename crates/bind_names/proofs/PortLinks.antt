-- Links by name of one instance, one site more.
use Rattle.std.proofs.Common.{◌≡◌, ◌⊎◌, inl, inr, ℕ, ◌+◌, ◌<◌, Bool, true, false, List, map, get_or, length, ◌≤◌, Option, Some, None, MatchOption, Result, Ok, Err, IfOk, OnOk, refl, sym, ◌∙◌, ap, subst, Bor, arith, rules}
use Rattle.std.specs.Option.{option_map}
use Rattle.std.specs.Str.{bytes_eq}
use Rattle.std.proofs.lemmas.Slice.Eq.{bytes_eq-Decides}
use Rattle.name_table.specs.declared.places.FirstNames.{FirstNames}
use Rattle.name_table.specs.Places.{place_of, first_place, Sees}
use Rattle.verilog_tree.specs.Trees.{Expr, Links}
use Rattle.bind_sites.specs.Sites.{Site, Instance, Named}
use Rattle.bind_sites.specs.Scope.{IsAt}
use Rattle.bind_sites.specs.Refused.{IsPortTwice}
use Rattle.bind_names.specs.Linked.{LinksPort, HoldsInstance, IsLinkedBefore, AreLinked, seen_again, IsLinkedAgain, HasNoPortTwice}
use Rattle.verilog_tree.specs.declared.tree.Expr.{Expr as CodeExpr}
use Rattle.verilog_tree.specs.declared.tree.Links.{Links as CodeLinks}
use Rattle.bind_sites.specs.declared.site.Site.{Site as CodeSite}
use Rattle.bind_sites.specs.declared.site.Site.TheVariants as code
use Rattle.bind_sites.specs.View.{view_site}
use Rattle.bind_names.proofs.FirstPlaces.{below}
use Rattle.bind_names.proofs.Known.{one_site, site_read, within}

twice_of : (all : List Site) (at : ℕ) (name : List ℕ) → LinksPort all at name → IsLinkedBefore all at name → IsPortTwice all at name
twice_of all at name here before = record {
  kind = here.0;
  expr = here.1;
  there = here.2;
  earlier = before.0;
  before = before.1;
  earlier_kind = before.2.0;
  earlier_expr = before.2.1;
  there_too = before.2.2;
  together = λ between kind inner links after until stands. before.3 between after until (kind, inner, links, stands);
}

linked_before : (all : List Site) (at : ℕ) (name : List ℕ) → IsPortTwice all at name → IsLinkedBefore all at name
linked_before all at name twice = (
  twice.earlier,
  twice.before,
  (twice.earlier_kind, twice.earlier_expr, twice.there_too),
  λ between after until holds. twice.together between holds.0 holds.1 holds.2 after until holds.3,
)

-- what is linked before a site is linked before the next one, where the site is no instance
kept : (all : List Site) (at : ℕ) (name : List ℕ) → ¬ HoldsInstance all at → IsLinkedBefore all at name → IsLinkedBefore all (at + 1) name
kept all at name none before = (before.0, omega (arith, before.1), before.2, apart) where
  apart : (between : ℕ) → before.0 < between → between < at + 1 → ¬ HoldsInstance all between
  apart between after until = λ holds.
      elim (below between at until) [ inl lt ↦ before.3 between after lt holds | inr same ↦ none (subst (λ (n : ℕ). HoldsInstance all n) same holds) ]

-- a link stands before the next site
here : (all : List Site) (at : ℕ) (name : List ℕ) → LinksPort all at name → IsLinkedBefore all (at + 1) name
here all at name links = (at, omega arith, links, λ between after until holds. omega (arith, after, until))

-- what is linked before the next site is linked before this one, or by it
back : (all : List Site) (at : ℕ) (name : List ℕ) → ¬ LinksPort all at name → IsLinkedBefore all (at + 1) name → IsLinkedBefore all at name
back all at name none after = elim (below after.0 at after.1) [
  | inl lt ↦ (after.0, lt, after.2, λ between later until. after.3 between later (omega (arith, until)))
  | inr same ↦ absurd (none (subst (λ (n : ℕ). LinksPort all n name) same after.2))
]

-- nothing is linked before the site behind an instance
cleared : (all : List Site) (at : ℕ) (name : List ℕ) → HoldsInstance all at → ¬ LinksPort all at name → ¬ IsLinkedBefore all (at + 1) name
cleared all at name holds none = λ after. elim (below after.0 at after.1) [
  | inl lt ↦ after.3 at lt (omega arith) holds
  | inr same ↦ none (subst (λ (n : ℕ). LinksPort all n name) same after.2)
]

-- ---- the names that were seen

abbrev Fits : List Site → ℕ → List ℕ → Option ℕ → Type 0
Fits all at name place = MatchOption place (¬ IsLinkedBefore all at name) (λ _. IsLinkedBefore all at name)

fits_on : (all : List Site) (at : ℕ) (name : List ℕ) (place : Option ℕ) → ¬ HoldsInstance all at → ¬ LinksPort all at name → Fits all at name place → Fits all (at + 1) name place
fits_on all at name None none silent h = λ after. h (back all at name silent after)
fits_on all at name (Some p) none silent h = kept all at name none h

-- a site that is no instance and no link by name
linked_on : (all : List Site) (at : ℕ) (linked : FirstNames) → ¬ HoldsInstance all at → ((name : List ℕ) → ¬ LinksPort all at name) → AreLinked all at linked → AreLinked all (at + 1) linked
linked_on all at linked none silent before = λ name. fits_on all at name (place_of linked name) none (silent name) (before name)

same_site : (all : List Site) (at : ℕ) (a b : Site) → IsAt all at a → IsAt all at b → Some a ≡ Some b
same_site all at a b h k = sym h ∙ k

instance_apart : (a b c d : List ℕ) (links : Links) (expr : Option Expr) → (let s : Option Site = Some (Instance a b links) in s) ≡ Some (Named c d expr) → ⊥
instance_apart a b c d links expr e = cc

port_same : (a b c d : List ℕ) (x y : Option Expr) → (let s : Option Site = Some (Named a b x) in s) ≡ Some (Named c d y) → b ≡ d
port_same a b c d x y e = cc

-- an instance
pub linked_anew : (all : List Site) (at : ℕ) (kind name : List ℕ) (links : Links) (linked : FirstNames) → IsAt all at (Instance kind name links) → ((port : List ℕ) → place_of linked port ≡ None)
    → AreLinked all (at + 1) linked
linked_anew all at kind name links linked there empty = λ port. rw (empty port) (cleared all at port (kind, name, links, there) (silent port)) where
  silent : (port : List ℕ) → ¬ LinksPort all at port
  silent port h = instance_apart kind name h.0 port links h.1 (same_site all at (Instance kind name links) (Named h.0 port h.1) there h.2)

pub instance_once : (all : List Site) (at : ℕ) (kind name : List ℕ) (links : Links) → IsAt all at (Instance kind name links) → (port : List ℕ) → ¬ IsPortTwice all at port
instance_once all at kind name links there = λ port twice.
    instance_apart kind name twice.kind port links twice.expr (same_site all at (Instance kind name links) (Named twice.kind port twice.expr) there twice.there)

-- a link by name
pub linked_more : (all : List Site) (at : ℕ) (kind port : List ℕ) (expr : Option Expr) (old new : FirstNames) → IsAt all at (Named kind port expr) → Sees old new port at → AreLinked all at old
    → AreLinked all (at + 1) new
linked_more all at kind port expr old new there sees before = λ name. place_at name (bytes_eq port name) refl where
  given : (place : Option ℕ) → Fits all (at + 1) port (first_place place at)
  given None = here all at port (kind, expr, there)
  given (Some p) = here all at port (kind, expr, there)

  none : ¬ HoldsInstance all at
  none h = instance_apart h.0 h.1 kind port h.2 expr (same_site all at (Instance h.0 h.1 h.2) (Named kind port expr) h.3 there)

  place_at : (name : List ℕ) (b : Bool) → bytes_eq port name ≡ b → Fits all (at + 1) name (place_of new name)
  place_at name true e =
      let same : port ≡ name = search (rules, bytes_eq-Decides) in
      let place : place_of new name ≡ first_place (place_of old port) at = rw e at (sees name) in
      rw (place, ← same) (given (place_of old port))
  place_at name false e =
      let place : place_of new name ≡ place_of old name = rw e at (sees name) in
      rw place (fits_on all at name (place_of old name) none other (before name)) where
        other : ¬ LinksPort all at name
        other h =
            let same : port ≡ name = port_same kind port h.0 name expr h.1 (same_site all at (Named kind port expr) (Named h.0 name h.1) there h.2) in
            absurd (search (rules, bytes_eq-Decides))

again_here : (all : List Site) (at : ℕ) (kind port : List ℕ) (expr : Option Expr) (place : Option ℕ) → IsAt all at (Named kind port expr) → Fits all at port place
    → IsLinkedAgain all at (seen_again place port)
again_here all at kind port expr None there h = λ name twice.
    let same : port ≡ name = port_same kind port twice.kind name expr twice.expr (same_site all at (Named kind port expr) (Named twice.kind name twice.expr) there twice.there) in
    h (subst (λ (n : List ℕ). IsLinkedBefore all at n) (sym same) (linked_before all at name twice))
again_here all at kind port expr (Some p) there h = twice_of all at port (kind, expr, there) h

named_again : (all : List Site) (at : ℕ) (kind port : List ℕ) (expr : Option Expr) (old : FirstNames) (again : Option (List ℕ)) → IsAt all at (Named kind port expr) → AreLinked all at old
    → again ≡ seen_again (place_of old port) port → IsLinkedAgain all at again
named_again all at kind port expr old again there before is =
    subst (λ (a : Option (List ℕ)). IsLinkedAgain all at a) (sym is) (again_here all at kind port expr (place_of old port) there (before port))

-- ---- sites that are neither

abbrev is_instance : Site → Bool
is_instance (Instance kind name links) = true
is_instance _ = false

abbrev named_port : Site → Option (List ℕ)
named_port (Named kind port expr) = Some port
named_port _ = None

none_some : {A : Type 0} {a : A} → None ≡ Some a → ⊥
none_some e = cc

no_instance : (all : List Site) (at : ℕ) (site : Site) → IsAt all at site → is_instance site ≡ false → ¬ HoldsInstance all at
no_instance all at site there is = λ h. false_true (sym is ∙ ap is_instance (one_site all at site (Instance h.0 h.1 h.2) there h.3)) where
  false_true : false ≡ true → ⊥
  false_true e = cc

no_port : (all : List Site) (at : ℕ) (site : Site) → IsAt all at site → named_port site ≡ None → (name : List ℕ) → ¬ LinksPort all at name
no_port all at site there is = λ name h. none_some (sym is ∙ ap named_port (one_site all at site (Named h.0 name h.1) there h.2))

-- a site of the code that is neither
pub record IsNeither (site : CodeSite) : Type 0 where
  pub instance : is_instance (view_site site) ≡ false
  pub port : named_port (view_site site) ≡ None

neither : (site : CodeSite) → ((kind : Bor (List ℕ)) (name : Bor (List ℕ)) (links : Bor CodeLinks) → site ≡ code.Instance kind name links → ⊥)
    → ((kind : Bor (List ℕ)) (port : Bor (List ℕ)) (expr : Option (Bor CodeExpr)) → site ≡ code.Named kind port expr → ⊥) → IsNeither site
neither (code.Module n) i p = record { instance = refl; port = refl }
neither (code.Listed n) i p = record { instance = refl; port = refl }
neither (code.Port n output range) i p = record { instance = refl; port = refl }
neither (code.Wire n range) i p = record { instance = refl; port = refl }
neither (code.Assign to from) i p = record { instance = refl; port = refl }
neither (code.Instance kind n links) i p = absurd (i kind n links refl)
neither (code.Named kind port expr) i p = absurd (p kind port expr refl)
neither (code.Ordered kind place expr) i p = record { instance = refl; port = refl }
neither (code.Assigned o) i p = record { instance = refl; port = refl }
neither (code.Linked o) i p = record { instance = refl; port = refl }

module _ (sites : List CodeSite) (at : ℕ) (default : CodeSite) (there : at < length sites)
    (no_instance_there : (kind : Bor (List ℕ)) (name : Bor (List ℕ)) (links : Bor CodeLinks) → get_or sites at default ≡ code.Instance kind name links → ⊥)
    (no_link_there : (kind : Bor (List ℕ)) (port : Bor (List ℕ)) (expr : Option (Bor CodeExpr)) → get_or sites at default ≡ code.Named kind port expr → ⊥) where
  is_neither : IsNeither (get_or sites at default)
  is_neither = neither (get_or sites at default) no_instance_there no_link_there

  stands_there : IsAt (map view_site sites) at (view_site (get_or sites at default))
  stands_there = site_read sites at default (get_or sites at default) there refl

  pub linked_past : (linked : FirstNames) → AreLinked (map view_site sites) at linked → AreLinked (map view_site sites) (at + 1) linked
  linked_past linked before =
      linked_on (map view_site sites) at linked (no_instance (map view_site sites) at (view_site (get_or sites at default)) stands_there is_neither.instance)
      (no_port (map view_site sites) at (view_site (get_or sites at default)) stands_there is_neither.port) before

  pub neither_once : (name : List ℕ) → ¬ IsPortTwice (map view_site sites) at name
  neither_once = λ name twice. no_port (map view_site sites) at (view_site (get_or sites at default)) stands_there is_neither.port name (twice.kind, twice.expr, twice.there)

-- ---- the loop

pub once_more : (all : List Site) (limit : ℕ) → ((name : List ℕ) → ¬ IsPortTwice all limit name) → HasNoPortTwice all limit → HasNoPortTwice all (limit + 1)
once_more all limit none before = λ at name lt twice.
    elim (below at limit lt) [ inl b ↦ before at name b twice | inr e ↦ none name (subst (λ (n : ℕ). IsPortTwice all n name) e twice) ]

pub not_again : (all : List Site) (at : ℕ) (again : Option (Bor (List ℕ))) → again ≡ None → IsLinkedAgain all at (option_map (λ n. n.now) again) → (name : List ℕ) → ¬ IsPortTwice all at name
not_again all at again is h = subst (λ (a : Option (Bor (List ℕ))). IsLinkedAgain all at (option_map (λ n. n.now) a)) is h

pub once_all : (sites : List CodeSite) (limit : ℕ) → length sites ≤ limit → HasNoPortTwice (map view_site sites) limit → HasNoPortTwice (map view_site sites) (length (map view_site sites))
once_all sites limit le h = λ at name lt.
    let small : at < length sites = within sites at lt in
    h at name (omega (arith, small, le))

-- ---- an answer that may be a want of memory

pub named_linked : {A E : Type 0} (r : Result A E) {P Q : Type 0} → OnOk r P → (P → Q) → OnOk r Q
named_linked (Ok a) h f = f h
named_linked (Err e) h f = tt

pub named_answer : {E : Type 0} (r : Result (Option (Bor (List ℕ))) E) (all : List Site) (at : ℕ) (kind port : List ℕ) (expr : Option Expr) (old : FirstNames) → IsAt all at (Named kind port expr)
    → AreLinked all at old → IfOk r (λ again. option_map (λ n. n.now) again ≡ seen_again (place_of old port) port) → IfOk r (λ again. IsLinkedAgain all at (option_map (λ n. n.now) again))
named_answer (Ok again) all at kind port expr old there before is = named_again all at kind port expr old (option_map (λ n. n.now) again) there before is
named_answer (Err e) all at kind port expr old there before is = tt
