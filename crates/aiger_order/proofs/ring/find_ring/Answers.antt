use Rattle.std.proofs.Common.{◌≡◌, ◌++◌, ◌∷◌, [], ◌∙◌, List, ℕ, suc, length, length-set, subst, sym, refl, ap, arith, Some, None}
use Rattle.std.specs.Prelude.{slice_get, slice_set, is_none}
use Rattle.std.specs.List.{count_by}
use Rattle.std.proofs.lemmas.Option.{slice_get_within, slice_get_read, get_or_from_slice_get}
use Rattle.golden_aig.specs.declared.graph.And.{And}
use Rattle.aiger_order.specs.Numbers.{HoldsOnce}
use Rattle.aiger_order.specs.Ring.{IsChain}
use Rattle.aiger_order.proofs.Lists.{count_set, once_more}
use Rattle.aiger_order.proofs.Rings.{met_place, met_more, seen_more, unmet_new, walked}
use Rattle.aiger_order.proofs.ring.find_ring.Goals as goal

none : And
none = record { lhs = 0; rhs0 = 0; rhs1 = 0 }

pub turn_ring-requires-clause-inside : goal.turn_ring-requires-clause-inside
turn_ring-requires-clause-inside c =
    let left = c.walk.invariant.left in
    let met = c.walk.met.items in
    let inside = slice_get_within c.args.lines.now c.walk.place left.0 left.1 in
    let size = c.walk.invariant.size in
    let entry = slice_get_read met (length met) c.walk.place c.index.result.now refl (omega arith) c.index.ensures ∙ ap Some c.in-Some.is in
    rw c.as_slice.ensures.value (met_place c.args.lines.now c.walk.path.items met c.walk.place c.in-Some.begin left.0 c.walk.invariant.met entry left.1).0

pub turn_ring-requires-clause-closed : goal.turn_ring-requires-clause-closed
turn_ring-requires-clause-closed c =
    let left = c.walk.invariant.left in
    let met = c.walk.met.items in
    let inside = slice_get_within c.args.lines.now c.walk.place left.0 left.1 in
    let size = c.walk.invariant.size in
    let entry = slice_get_read met (length met) c.walk.place c.index.result.now refl (omega arith) c.index.ensures ∙ ap Some c.in-Some.is in
    let at = (met_place c.args.lines.now c.walk.path.items met c.walk.place c.in-Some.begin left.0 c.walk.invariant.met entry left.1).1 in
    rw c.as_slice.ensures.value (subst (λ (x : ℕ). IsChain c.args.lines.now (c.walk.path.items ++ x ∷ [])) (sym at) (c.walk.invariant.chain left.0 left.1))

pub turn_ring-requires-clause-once : goal.turn_ring-requires-clause-once
turn_ring-requires-clause-once c = rw c.as_slice.ensures.value c.walk.invariant.once

pub index_mut-requires : goal.index_mut-requires
index_mut-requires c =
    let left = c.walk.invariant.left in
    let inside = slice_get_within c.args.lines.now c.walk.place left.0 left.1 in
    let size = c.walk.invariant.size in
    omega (arith, c.walk.met.ok.0)

pub bounds-lines-place : goal.bounds-lines-place
bounds-lines-place c = let left = c.walk.invariant.left in slice_get_within c.args.lines.now c.walk.place left.0 left.1

pub walk-smaller : goal.walk-smaller
walk-smaller c =
    let left = c.walk.invariant.left in
    let met = c.walk.met.items in
    let inside = slice_get_within c.args.lines.now c.walk.place left.0 left.1 in
    let size = c.walk.invariant.size in
    let entry = slice_get_read met (length met) c.walk.place c.index.result.now refl (omega arith) c.index.ensures ∙ ap Some c.in_default.is in
    let fewer : suc (count_by is_none (slice_set met c.walk.place (Some c.len.result))) ≡ count_by is_none met = count_set is_none met c.walk.place None (Some c.len.result) entry refl refl in
    omega arith

pub walk-preserved : goal.walk-preserved
unfolding none
walk-preserved c =
    let left = c.walk.invariant.left in
    let lines = c.args.lines.now in
    let place = c.walk.place in
    let met = c.walk.met.items in
    let path = c.walk.path.items in
    let inside = slice_get_within lines place left.0 left.1 in
    let size = c.walk.invariant.size in
    let line = get_or_from_slice_get lines place left.0 none left.1 in
    let count : c.len.result ≡ length path = omega (arith, c.walk.path.ok.0, c.len.ensures) in
    let entry : slice_get met place ≡ Some None = slice_get_read met (length met) place c.index.result.now refl (omega arith) c.index.ensures ∙ ap Some c.in_default.is in
    let pushed : c.push.new.self.items ≡ path ++ left.0.lhs ∷ [] = c.in_ok-push.ensures.items ∙ ap (λ (g : And). path ++ g.lhs ∷ []) line in
    record {
      left = c.step-place.ensures.left;
      size = length-set met place (Some c.len.result) ∙ size;
      chain = λ one is. subst (λ (p : List ℕ). IsChain lines (p ++ one.lhs ∷ [])) (sym pushed) (walked lines path place c.step-place.result left.0 one left.1 is c.step-place.ensures.step (c.walk.invariant.chain left.0 left.1));
      met = λ l at one seen is. subst (λ (p : List ℕ). slice_get p at ≡ Some one.lhs) (sym pushed)
          (met_more lines path met place left.0 left.1 (omega arith) c.walk.invariant.met l at one (subst (λ (n : ℕ). slice_get (slice_set met place (Some n)) l ≡ Some (Some at)) count seen) is);
      seen = λ l at one on is. subst (λ (n : ℕ). slice_get (slice_set met place (Some n)) l ≡ Some (Some at)) (sym count)
          (seen_more c.args.top lines path met place left.0 c.requires.lines left.1 entry c.walk.invariant.seen l at one (subst (λ (p : List ℕ). slice_get p at ≡ Some one.lhs) pushed on) is);
      once = subst HoldsOnce (sym pushed) (once_more path left.0.lhs c.walk.invariant.once (λ at. unmet_new lines path met place at left.0 left.1 entry c.walk.invariant.seen));
    }
