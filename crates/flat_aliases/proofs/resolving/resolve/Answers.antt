use Rattle.std.proofs.Common.{ℕ, List, Option, length, ap, subst, arith, IfSome, IfNone}
use Rattle.flat_aliases.specs.Drives.{IsNamedRing, IsRing}
use Rattle.std.proofs.lemmas.Result.{err_from_is_err_and}
use Rattle.flat_aliases.specs.declared.held.Held.{Held}
use Rattle.flat_aliases.specs.Spreads.{AreSingle, IsHeldTwice}
use Rattle.flat_aliases.proofs.OneDriver.{resolved, refused_two, all_single}
use Rattle.flat_aliases.proofs.resolving.resolve.Goals as goal

pub list_drivers-requires : goal.list_drivers-requires
list_drivers-requires c = omega (arith, ap length c.as_slice.ensures.value, c.in_ok-held.ensures.count, c.requires.places)

pub returns-in_err-drivers-clause-err : goal.returns-in_err-drivers-clause-err
returns-in_err-drivers-clause-err c =
    let p = err_from_is_err_and c.from_residual-in_err-drivers.result c.from_residual-in_err-drivers.ensures.1 in
    let two : IsHeldTwice c.in_ok-held.held.items c.in_err-drivers.field-0.0 = subst (λ (hs : List Held). IsHeldTwice hs c.in_err-drivers.field-0.0) c.as_slice.ensures.value c.in_err-drivers.ensures.err in
    rw (p.1, p.2) (refused_two c.args.links.now c.args.starts.now c.args.places c.requires.inside c.in_ok-held.held.items c.in_err-drivers.field-0.0 c.in_ok-held.ensures two)

pub returns-in-Some-clause-err : goal.returns-in-Some-clause-err
returns-in-Some-clause-err c =
    let single : AreSingle c.in_ok-held.held.items c.in_ok-drivers.drivers = subst (λ (hs : List Held). AreSingle hs c.in_ok-drivers.drivers) c.as_slice.ensures.value c.in_ok-drivers.ensures.ok in
    (all_single c.args.links.now c.args.starts.now c.args.places c.requires.inside c.in_ok-held.held.items c.in_ok-drivers.drivers c.in_ok-held.ensures single, subst (λ (o : Option (List ℕ)). IfSome o (IsNamedRing c.args.links.now)) c.in-Some.is c.in_ok-found.ensures.ring)

pub returns-clause-ok : goal.returns-clause-ok
returns-clause-ok c =
    let single : AreSingle c.in_ok-held.held.items c.in_ok-drivers.drivers = subst (λ (hs : List Held). AreSingle hs c.in_ok-drivers.drivers) c.as_slice.ensures.value c.in_ok-drivers.ensures.ok in
    resolved c.args.links.now c.args.starts.now c.args.places c.requires.inside c.in_ok-held.held.items c.in_ok-drivers.drivers c.in_ok-held.ensures single
    (subst (λ (o : Option (List ℕ)). IfNone o ((ring : List ℕ) → ¬ IsRing c.args.links.now ring)) c.in-None.is c.in_ok-found.ensures.no_ring)
