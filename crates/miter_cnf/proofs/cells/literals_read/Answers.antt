use Rattle.std.proofs.Common.{◌≡◌, ◌∙◌, ◌*◌, ◌++◌, ◌∷◌, [], List, ℕ, get_or, ap, arith}
use Rattle.rsfq_ids.specs.Circuit.{Reads}
use Rattle.rsfq_ids.specs.declared.circuit.Reader.TheVariants as reader
use Rattle.miter_cnf.specs.Variables.{variable_at}
use Rattle.miter_cnf.proofs.Groups.{zip_more, literals_more}
use Rattle.miter_cnf.proofs.cells.literals_read.Goals as goal

pub bounds-variables-index : goal.bounds-variables-index
bounds-variables-index c =
    let within = c.net_read-net.ensures.inside in
    let many = c.requires.nets in
    let number = c.index.ensures.number in
    omega (arith, within, many, number)

pub loop-pin-preserved : goal.loop-pin-preserved
loop-pin-preserved c =
    let net = c.net_read-net.result in
    let nets = c.loop-pin.invariant.0 in
    let literal : c.of.result ≡ 2 * variable_at c.args.variables.now net = c.of.ensures ∙ ap (λ k. 2 * get_or c.args.variables.now k 0) c.index.ensures.number in (
      nets ++ net ∷ [],
      zip_more (λ pin net. Reads c.args.graph.now.flat (reader.Pin c.args.cell pin) net) c.loop-pin.pin nets net c.loop-pin.invariant.1 c.net_read-net.ensures.reads,
      c.in_ok-push.ensures.items ∙ (ap (λ (l : List ℕ). l ++ c.of.result ∷ []) c.loop-pin.invariant.2 ∙ literals_more c.args.variables.now nets net c.of.result literal),
    )
