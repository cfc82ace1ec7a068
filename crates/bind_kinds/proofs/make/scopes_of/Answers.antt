use Rattle.std.proofs.Common.{◌∙◌, ◌+◌, List, take, sym, subst}
use Rattle.std.specs.List.{AllZip}
use Rattle.std.specs.Option.{option_map}
use Rattle.std.proofs.lemmas.List.{take_all}
use Rattle.bind_sites.specs.Sites.{Site}
use Rattle.bind_sites.specs.declared.listing.Sites.{Sites}
use Rattle.bind_names.specs.declared.scope.Scope.{Scope}
use Rattle.bind_names.specs.Scoped.{IsFirstDouble}
use Rattle.bind_kinds.proofs.Zips.{zip_more}
use Rattle.bind_kinds.proofs.Made.{IsMade, made_scopes, made_doubles}
use Rattle.bind_kinds.proofs.make.scopes_of.Goals as goal

pub loop-sites-preserved : goal.loop-sites-preserved
loop-sites-preserved c =
    let scope = c.in_ok-of.field-0 in
    let made : IsMade c.sites-item.result scope = record {
      is_scope = c.in_ok-of.ensures.scope;
      sites_are = c.in_ok-of.ensures.sites ∙ c.as_slice.ensures;
      double = subst (λ (all : List Site). IsFirstDouble all (option_map (λ (at, name). (at, name.now)) scope.double)) c.as_slice.ensures c.in_ok-of.ensures.double;
    } in
    subst (λ (scopes : List Scope). AllZip IsMade (take (c.loop-sites.sites-index + 1) c.args.all.now) scopes) (sym {A = List Scope} c.in_ok-push.ensures.items)
    (zip_more IsMade c.args.all.now c.loop-sites.sites-index c.loop-sites.scopes.items c.sites-item.result scope c.loop-sites-test.true c.sites-item.is c.loop-sites.invariant made)

pub returns-clause-scopes : goal.returns-clause-scopes
returns-clause-scopes c = λ modules same.
    made_scopes c.args.all.now modules c.loop-sites.scopes.items same
    (subst (λ (l : List Sites). AllZip IsMade l c.loop-sites.scopes.items) (take_all c.loop-sites.sites-index c.args.all.now c.loop-sites-test.false) c.loop-sites.invariant)

pub returns-clause-doubles : goal.returns-clause-doubles
returns-clause-doubles c = λ modules same.
    made_doubles c.args.all.now modules c.loop-sites.scopes.items same
    (subst (λ (l : List Sites). AllZip IsMade l c.loop-sites.scopes.items) (take_all c.loop-sites.sites-index c.args.all.now c.loop-sites-test.false) c.loop-sites.invariant)
