use Rattle.std.proofs.Common.{◌≡◌, ◌<◌, ◌∷◌, [], ℕ, zero, suc, Bool, true, false, List, map, length, refl, arith}
use Rattle.std.specs.List.{list_any}
use Rattle.std.specs.Ordering.{nat_cmp}
use Rattle.std.specs.BTreeMap.{is_at}
use Rattle.golden_aig.specs.declared.graph.And.{And}
use Rattle.aiger_order.proofs.Lists.{get_more}
use Rattle.aiger_order.proofs.ReadyLines.{least_line}
use Rattle.aiger_order.proofs.SortedLines.{none_sorted, sorted_more}
use Rattle.aiger_order.proofs.sorting.sort_lines.Goals as goal

nothing : (p : ℕ → Bool) (keys : List ℕ) → length keys ≡ 0 → list_any p keys ≡ true → ⊥
nothing p [] e has = absurd cc
nothing p (k ∷ keys) e has = absurd (omega arith)

no_length : (n : ℕ) → ¬ (0 < n) → n ≡ 0
no_length zero none = refl
no_length (suc n) none = absurd (none (omega arith))

pub number_inputs-requires-clause-definitions : goal.number_inputs-requires-clause-definitions
number_inputs-requires-clause-definitions c at literal is =
    c.requires.definitions at literal (get_more c.args.inputs.now (map (λ (one : And). one.lhs) c.args.lines.now) at literal is)

pub number_inputs-requires-clause-once : goal.number_inputs-requires-clause-once
number_inputs-requires-clause-once c here there item one other =
    let more = map (λ (one : And). one.lhs) c.args.lines.now in
    c.requires.once here there item (get_more c.args.inputs.now more here item one) (get_more c.args.inputs.now more there item other)

pub loop-place-init : goal.loop-place-init
loop-place-init c = record {
  numbers = c.in_ok-number_inputs.ensures.numbers;
  sorted = rw (c.in_ok-number_inputs.ensures.names, c.new.ensures) (none_sorted c.args.inputs.now c.args.lines.now);
  only = c.in_ok-ready.ensures.only;
  all = c.in_ok-ready.ensures.all;
}

pub loop-place-preserved : goal.loop-place-preserved
loop-place-preserved c =
    let taken = c.in_ok-take_line.ensures.taken in
    let old = c.loop-place.sorted in
    record {
      numbers = c.in_ok-take_line.ensures.numbers;
      sorted = rw (taken.3, taken.4) (sorted_more c.args.top c.args.inputs.now c.args.lines.now old.numbering.names.items old.ands c.in-Some.place taken.0 taken.1 c.requires.lines c.loop-place.invariant.sorted taken.2 taken.5
          (λ earlier ready. least_line c.loop-place.ready c.in-Some.place earlier c.in-Some.ensures.least (c.loop-place.invariant.all earlier ready)));
      only = c.in_ok-take_line.ensures.only;
      all = c.in_ok-take_line.ensures.all;
    }

pub returns-clause-stuck : goal.returns-clause-stuck
returns-clause-stuck c line r =
    let empty : length c.loop-place.ready.keys ≡ 0 = no_length (length c.loop-place.ready.keys) (λ lt. (let some : false ≡ true = c.in_default.ensures.variant.1 lt in absurd cc)) in
    nothing (is_at (nat_cmp line)) c.loop-place.ready.keys empty (c.loop-place.invariant.all line r)
