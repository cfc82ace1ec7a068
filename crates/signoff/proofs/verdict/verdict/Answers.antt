use Rattle.std.proofs.Common.{◌≡◌, subst, inl}
use Rattle.rsfq_ids.specs.declared.table.CellTable.{CellTable}
use Rattle.rsfq_ids.specs.declared.circuit.Flat.{Flat}
use Rattle.std.specs.Prelude.{None}
use Rattle.rsfq_ids.specs.WellFormed.{IsFlat}
use Rattle.loading.specs.Stages as loading
use Rattle.signoff.proofs.Shown.{IfOk-map, verdict_of}
use Rattle.signoff.proofs.verdict.verdict.Goals as goal

pub returns-in-Ok : goal.returns-in-Ok
returns-in-Ok c =
    let table = c.in_ok-table.ensures.table in
    IfOk-map c.answer.result (λ reply answered. verdict_of c.args.times c.args.netlist.now c.in-Ok.flat reply.status reply.text.items
    (subst (λ (t : CellTable). loading.HasCircuit t None c.args.netlist.now c.in-Ok.flat) table c.in-Ok.ensures.circuit)
    (λ other has. c.in-Ok.ensures.only other (rw table has))
    (subst (λ (t : CellTable). IsFlat t c.in-Ok.flat) table c.in-Ok.ensures.well_formed) answered) c.answer.ensures

pub returns : goal.returns
returns c =
    let table = c.in_ok-table.ensures.table in
    IfOk-map c.refuse.result (λ reply (named, answer, printed). inl (record {
      answer = answer;
      why = c.in-Err.refusal;
      named = named;
      refused = subst (λ (t : CellTable). loading.IsRefused t None c.args.netlist.now c.in-Err.refusal) table c.in-Err.ensures.refused;
      none = λ flat has. c.in-Err.ensures.none named flat (rw table has);
      printed = printed;
    })) c.refuse.ensures
