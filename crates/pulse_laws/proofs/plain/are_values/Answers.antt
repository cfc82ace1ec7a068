use Rattle.std.proofs.Common.{◌≡◌, ℕ, ◌<◌, true, false, Bool, not, length, get_or, sym, ◌∙◌, ap, subst, arith, refl, List}
use Rattle.std.specs.Prelude.{Some, slice_get}
use Rattle.std.proofs.lemmas.Option.{slice_get_within, slice_get-get_or}
use Rattle.std.proofs.Math.Bool.{beq}
use Rattle.rsfq_ids.specs.declared.circuit.Driver.{Driver}
use Rattle.rsfq_ids.specs.Value.{Gives, value_of}
use Rattle.pulse_laws.proofs.Gives.{gives_one, one_net_more}
use Rattle.pulse_laws.proofs.plain.are_values.Goals as goal

item_at : (ds nets : List Driver) (i : ℕ) (item : Driver) → ds ≡ nets → i < length ds → item ≡ get_or ds i item → slice_get nets i ≡ Some item
item_at ds nets i item same l at = ap (λ (xs : List Driver). slice_get xs i) (sym same) ∙ slice_get-get_or ds i item l ∙ ap Some (sym at)

equal : (a b : Bool) → not (beq a b) ≡ false → a ≡ b
equal true true e = refl
equal true false e = cc
equal false true e = cc
equal false false e = refl

unequal : (a b : Bool) → not (beq a b) ≡ true → a ≡ b → false ≡ true
unequal true true e = λ s. e
unequal true false e = λ s. sym s
unequal false true e = λ s. s
unequal false false e = λ s. e

pub returns-then-branch-values : goal.returns-then-branch-values
returns-then-branch-values c = λ set_up.
    let at = item_at _ _ c.loop-i.i c.driver-item.result c.as_slice-driver-items.ensures.value c.loop-i-test.true c.driver-item.is in (
      λ t. cc,
      λ are. unequal c.in_ok-value_given.field-0 _ c.if-branch-values.true
          (gives_one _ set_up c.args.word.now c.args.values.now c.driver-item.result c.in_ok-value_given.field-0 (value_of c.args.values.now c.loop-i.i) (c.in_ok-value_given.ensures set_up c.loop-i.i at) (are.given c.loop-i.i c.driver-item.result at)),
    )

pub loop-i-preserved : goal.loop-i-preserved
loop-i-preserved c = λ set_up.
    let at = item_at _ _ c.loop-i.i c.driver-item.result c.as_slice-driver-items.ensures.value c.loop-i-test.true c.driver-item.is in
    one_net_more c.args.flat.now (λ net d. Gives (record { table = c.args.table.now; flat = c.args.flat.now; bench = c.args.bench.now }) c.args.word.now c.args.values.now d (value_of c.args.values.now net)) c.loop-i.i c.driver-item.result at (c.loop-i.invariant set_up)
    (subst (λ b. Gives (record { table = c.args.table.now; flat = c.args.flat.now; bench = c.args.bench.now }) c.args.word.now c.args.values.now c.driver-item.result b) (equal _ _ c.if-branch-values.false) (c.in_ok-value_given.ensures set_up c.loop-i.i at))

pub returns : goal.returns
returns c = λ set_up. (
  λ t. record {
    nets = c.if-values-len.false ∙ c.len.ensures.len;
    given = λ net d is.
        (let l = slice_get_within c.args.flat.now.nets net d is in
        let all = c.loop-i-test.false in
        let same : length c.as_slice-driver-items.result.now ≡ length c.args.flat.now.nets = ap length c.as_slice-driver-items.ensures.value in
        c.loop-i.invariant set_up net d (omega arith) is);
  },
  λ are. refl,
)
