use Rattle.std.proofs.Common.{◌≡◌, ◌∙◌, ◌<◌, ℕ, Bool, true, false, not, List, [], map, length, take, get_or, ap, sym, refl, inr, subst, arith}
use Rattle.std.specs.Prelude.{is_some}
use Rattle.std.specs.Borrow.{Bor}
use Rattle.std.specs.List.{Contains}
use Rattle.std.proofs.lemmas.List.{length-map, get_or-map, take_more}
use Rattle.rsfq_ids.specs.WellFormed.{AreDistinct}
use Rattle.golden_aig.specs.Matched.{Repeats}
use Rattle.golden_aig.proofs.PortLists.{take_all_at}
use Rattle.golden_aig.proofs.Texts.{repeats_err, holds_more, none_lacks, distinct_push}
use Rattle.golden_aig.proofs.matching.refuse_repeats.Goals as goal

-- a name is new exactly where it was not there
was_there : (new there : Bool) → new ≡ not there → new ≡ false → there ≡ true
was_there new true is old = refl
was_there new false is old =
    let both : false ≡ true = sym old ∙ is in
    cc

was_new : (new there : Bool) → new ≡ not there → new ≡ true → there ≡ false
was_new new false is fresh = refl
was_new new true is fresh =
    let both : true ≡ false = sym fresh ∙ is in
    cc

pub returns-then-not-branch-clause-err : goal.returns-then-not-branch-clause-err
returns-then-not-branch-clause-err c =
    let symbols = c.args.symbols.now in
    let texts : List (List ℕ) = map (λ (text : Bor (List ℕ)). text.now) symbols in
    let i = c.loop-place.place in
    let none : Bor (List ℕ) = record { ref_ptr = (0, 0); now = [] } in
    let many : length texts ≡ length symbols = length-map symbols (λ (text : Bor (List ℕ)). text.now) in
    let test = c.loop-place-test.true in
    let name = get_or-map (λ (text : Bor (List ℕ)). text.now) symbols i none [] test in
    inr (
      c.in_ok-of.field-0,
      refl,
      subst (Repeats texts) (sym c.in_ok-of.ensures)
          (repeats_err texts c.loop-place.table i (get_or symbols i none).now (omega arith) (sym name) c.loop-place.invariant.table c.loop-place.invariant.distinct
          (was_there _ _ c.in_ok-see.ensures.is_new c.if-not-branch.true)),
    )

pub loop-place-preserved : goal.loop-place-preserved
loop-place-preserved c =
    let symbols = c.args.symbols.now in
    let texts : List (List ℕ) = map (λ (text : Bor (List ℕ)). text.now) symbols in
    let i = c.loop-place.place in
    let none : Bor (List ℕ) = record { ref_ptr = (0, 0); now = [] } in
    let many : length texts ≡ length symbols = length-map symbols (λ (text : Bor (List ℕ)). text.now) in
    let test = c.loop-place-test.true in
    let inside : i < length texts = omega arith in
    let name = get_or-map (λ (text : Bor (List ℕ)). text.now) symbols i none [] test in
    let unseen = was_new _ _ c.in_ok-see.ensures.is_new c.if-not-branch.false in
    let lacks : ¬ Contains (take i texts) (get_or symbols i none).now =
    none_lacks (take i texts) (get_or symbols i none).now (ap is_some (sym (c.loop-place.invariant.table (get_or symbols i none).now)) ∙ unseen) in
    let absent : ¬ Contains (take i texts) (get_or texts i []) = subst (λ (n : List ℕ). ¬ Contains (take i texts) n) (sym name) lacks in
    record {
      table = holds_more texts c.loop-place.table c.see.new.self (get_or symbols i none).now i inside (sym name) c.loop-place.invariant.table c.in_ok-see.ensures.seen;
      distinct = subst AreDistinct (sym (take_more texts i [] inside)) (distinct_push (take i texts) (get_or texts i []) c.loop-place.invariant.distinct absent);
    }

pub returns-clause-ok : goal.returns-clause-ok
returns-clause-ok c =
    let texts : List (List ℕ) = map (λ (text : Bor (List ℕ)). text.now) c.args.symbols.now in
    let many : length texts ≡ length c.args.symbols.now = length-map c.args.symbols.now (λ (text : Bor (List ℕ)). text.now) in
    let over = c.loop-place-test.false in
    let within = c.loop-place.auto.place-end in
    subst AreDistinct (take_all_at texts c.loop-place.place (omega arith) (omega arith)) c.loop-place.invariant.distinct
