use Rattle.std.proofs.Common.{◌≡◌, inl, inr, length, refl, sym, subst, arith}
use Rattle.std.specs.List.{Contains}
use Rattle.std.specs.Vec.{vec_len}
use Rattle.std.proofs.lemmas.List.Elements.{Contains-push}
use Rattle.flat_aliases.specs.declared.spread.Spread.{Spread}
use Rattle.flat_aliases.specs.Spreads.{IsSpreading}
use Rattle.flat_aliases.proofs.Spreading.{popped, closed_step, empty_holds, spread_on}
use Rattle.flat_aliases.proofs.spread.run.Goals as goal

pub reach_next-requires-clause-place : goal.reach_next-requires-clause-place
reach_next-requires-clause-place c =
    (c.along.invariant.spreading.waiting c.in-Some.place (subst (λ xs. Contains xs c.in-Some.place) (sym c.in-Some.ensures.items) (Contains-push c.pop.new.self.items c.in-Some.place))).0

pub reach_next-requires-clause-spreading : goal.reach_next-requires-clause-spreading
reach_next-requires-clause-spreading c =
    let now : Spread = record { held = c.along.spread.held; waiting = c.pop.new.self } in
    popped c.args.net.now.links.now c.args.net.now.starts.now c.args.net.now.places c.args.driver c.in-Some.place c.along.spread now refl c.in-Some.ensures.items c.along.invariant.spreading

pub along-preserved : goal.along-preserved
along-preserved c =
    let now : Spread = record { held = c.along.spread.held; waiting = c.pop.new.self } in
    record {
      spreading = c.in_ok-reach_next.ensures.spreading;
      closed = closed_step c.args.net.now.links.now c.args.driver c.in-Some.place c.along.spread now c.reach_next.new.spread refl c.in-Some.ensures.items c.along.invariant.closed c.in_ok-reach_next.ensures.on c.in_ok-reach_next.ensures.settled;
      started = λ place e. c.in_ok-reach_next.ensures.on.grows place (c.along.invariant.started place e);
    }

pub returns : goal.returns
returns c =
    let now : Spread = record { held = c.along.spread.held; waiting = c.pop.new.self } in
    let none : (vec_len c.along.spread.waiting ≡ 0) × (vec_len c.pop.new.self ≡ 0) = c.in_default.ensures.cases in
    let old_len : length c.along.spread.waiting.items ≡ 0 = omega (arith, none, c.along.spread.waiting.ok) in
    let new_len : length c.pop.new.self.items ≡ 0 = omega (arith, none, c.pop.new.self.ok) in
    let s : IsSpreading c.args.net.now.links.now c.args.net.now.starts.now c.args.net.now.places c.args.driver now = record {
      count = c.along.invariant.spreading.count;
      held = c.along.invariant.spreading.held;
      waiting = λ p w. absurd (empty_holds c.pop.new.self.items p new_len w);
    } in
    spread_on c.args.net.now.links.now c.args.net.now.starts.now c.args.net.now.places c.args.driver now s
    (λ place w. empty_holds c.pop.new.self.items place new_len w)
    (λ from to k l. elim (c.along.invariant.closed from to k l) [ inl w ↦ absurd (empty_holds c.along.spread.waiting.items from old_len w) | inr h ↦ inr h ])
    c.along.invariant.started
