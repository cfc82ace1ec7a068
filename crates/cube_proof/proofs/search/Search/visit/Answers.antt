use Rattle.std.proofs.Common.{◌∙◌, sym, subst, arith, []}
use Rattle.rsfq_ids.specs.Formula.{IsOver}
use Rattle.proof_arena.specs.Table.{falses_of}
use Rattle.proof_arena.proofs.Marked.{opposite-lt}
use Rattle.proof_arena.proofs.Readings.{unit_over}
use Rattle.cube_proof.proofs.Lists.{read_item}
use Rattle.cube_proof.proofs.search.Search.visit.Goals as goal

pub make_false-requires : goal.make_false-requires
make_false-requires c =
    let clauses = c.args.cnf.now.clauses in
    let clause = c.index-as_slice-place.result in
    let is = read_item clauses c.as_slice.result.now c.args.place clause [] c.as_slice.ensures c.index-as_slice-place.is c.requires.there in
    let over : IsOver c.args.cnf.now.vars c.as_slice-2.result.now = subst (IsOver c.args.cnf.now.vars) (sym (c.as_slice-2.ensures ∙ is)) (c.requires.formula.lits c.args.place [] c.requires.there) in
    let within = unit_over (falses_of c.args.self.now.marks) c.args.cnf.now.vars c.as_slice-2.result.now c.in-Unit.lit over c.in-Unit.ensures in
    let other = opposite-lt c.in-Unit.lit c.args.cnf.now.vars within in
    let table = c.requires.tables.marks in
    let same = c.opposite-other.ensures in
    omega (arith, other, table, same)
