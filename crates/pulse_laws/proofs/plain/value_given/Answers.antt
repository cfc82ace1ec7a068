use Rattle.std.proofs.Common.{sym, subst, Ok, Err}
use Rattle.std.specs.Prelude.{IfOk}
use Rattle.std.specs.declared.result.Result.{Result}
use Rattle.rsfq_ids.specs.declared.circuit.Driver.{Driver}
use Rattle.rsfq_ids.specs.Circuit.{IsDrivenBy}
use Rattle.rsfq_ids.specs.Value.{Gives}
use Rattle.pulse_laws.proofs.Gives.{has_row, few_inputs, inputs_of, use_of}
use Rattle.pulse_laws.proofs.plain.value_given.Goals as goal

ok_over : {A E : Type 0} (P Q : A → Type 0) (r : Result A E) → IfOk r P → ((a : A) → P a → Q a) → IfOk r Q
ok_over P Q (Ok a) h f = f a h
ok_over P Q (Err e) h f = tt

pub returns-in-Some : goal.returns-in-Some
returns-in-Some c = ok_over _ _ c.value_made.result c.value_made.ensures (λ value made set_up net is.
    let drives = subst (λ (d : Driver). IsDrivenBy c.args.flat.now net d) c.in-Out.is is in
    let of = sym c.in-Some.ensures in
    let inputs = inputs_of _ set_up net c.in-Out.cell c.in-Out.out drives c.in-Some.row.now of in
    let (nets, reads, same) = made inputs.0 (few_inputs _ set_up c.in-Out.cell c.in-Some.row.now of) inputs.1 in
    subst (λ (d : Driver). Gives (record { table = c.args.table.now; flat = c.args.flat.now; bench = c.args.bench.now }) c.args.word.now c.args.values.now d value) (sym c.in-Out.is) (c.in-Some.row.now, nets, of, reads, same))

pub returns-in-None : goal.returns-in-None
returns-in-None c = λ set_up net is. absurd (has_row _ set_up net c.in-Out.cell c.in-Out.out (subst (λ (d : Driver). IsDrivenBy c.args.flat.now net d) c.in-Out.is is) (sym c.in-None.ensures))

pub returns-in-Port : goal.returns-in-Port
returns-in-Port c = λ set_up net is.
    let used = use_of _ set_up net c.in-Port.port (subst (λ (d : Driver). IsDrivenBy c.args.flat.now net d) c.in-Port.is is) in
    subst (λ (d : Driver). Gives (record { table = c.args.table.now; flat = c.args.flat.now; bench = c.args.bench.now }) c.args.word.now c.args.values.now d c.port_value.result) (sym c.in-Port.is) (used.0, used.1, c.port_value.ensures used.0 used.1)
