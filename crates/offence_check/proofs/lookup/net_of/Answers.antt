use Rattle.std.proofs.Common.{◌≡◌, ◌≢◌, ℕ, ◌<◌, ◌^◌, arith, rules, sym, subst}
use Rattle.std.specs.Prelude.{Some, slice_get}
use Rattle.offence_check.proofs.Options.{both}
use Rattle.offence_check.proofs.Sorted.{stands_behind, stands_ahead, none_past}
use Rattle.offence_check.proofs.lookup.net_of.Goals as goal

pub halve-preserved-then-stands_before : goal.halve-preserved-then-stands_before
halve-preserved-then-stands_before c =
    let below = c.middle-place.ensures.below in
    let within = c.halve.invariant.within in
    let few = c.len-high.ensures.small in
    let long = c.len-high.ensures.len in
    let bound : c.middle-place.result < 2 ^ 32 = omega arith in
    let e = c.of.ensures in
    let same : c.of.result ≡ c.middle-place.result = search rules in
    let here : slice_get c.args.flat.now.pins c.middle-place.result ≡ Some c.in-Some.pin.now = subst (λ (k : ℕ). slice_get c.args.flat.now.pins k ≡ Some c.in-Some.pin.now) same (sym c.in-Some.ensures) in
    record {
      within = c.halve.invariant.within;
      between = λ k net is. (let behind = stands_behind c.args.flat.now c.requires c.middle-place.result c.in-Some.pin.now here c.args.reader (c.stands_before.ensures.0 c.if-stands_before.true) k net is in (omega arith, (c.halve.invariant.between k net is).1));
    }

pub halve-preserved : goal.halve-preserved
halve-preserved c =
    let below = c.middle-place.ensures.below in
    let within = c.halve.invariant.within in
    let few = c.len-high.ensures.small in
    let long = c.len-high.ensures.len in
    let bound : c.middle-place.result < 2 ^ 32 = omega arith in
    let e = c.of.ensures in
    let same : c.of.result ≡ c.middle-place.result = search rules in
    let differ : c.in-Some.pin.now.reader ≢ c.args.reader = search rules in
    let here : slice_get c.args.flat.now.pins c.middle-place.result ≡ Some c.in-Some.pin.now = subst (λ (k : ℕ). slice_get c.args.flat.now.pins k ≡ Some c.in-Some.pin.now) same (sym c.in-Some.ensures) in
    record {
      within = omega arith;
      between = λ k net is. ((c.halve.invariant.between k net is).0, stands_ahead c.args.flat.now c.requires c.middle-place.result c.in-Some.pin.now here c.args.reader differ (λ before. both c.stands_before.result (c.stands_before.ensures.1 before) c.if-stands_before.false) k net is);
    }

pub returns-in-None-clause-none : goal.returns-in-None-clause-none
returns-in-None-clause-none c =
    let below = c.middle-place.ensures.below in
    let within = c.halve.invariant.within in
    let few = c.len-high.ensures.small in
    let long = c.len-high.ensures.len in
    let bound : c.middle-place.result < 2 ^ 32 = omega arith in
    let e = c.of.ensures in
    let same : c.of.result ≡ c.middle-place.result = search rules in
    let past = none_past c.args.flat.now.pins c.of.result (sym c.in-None.ensures) in
    absurd (omega arith)
