use Rattle.std.proofs.Common.{◌≡◌, ◌∙◌, ◌<◌, ℕ, List, [], length, ap, arith, sym, subst}
use Rattle.std.specs.Prelude.{◌||◌, slice_index_or}
use Rattle.rsfq_ids.specs.Formula.{Clause}
use Rattle.proof_arena.specs.Step.{is_among}
use Rattle.proof_arena.specs.Table.{falses_of}
use Rattle.cube_proof.proofs.Lists.{read_item}
use Rattle.cube_proof.proofs.search.Search.need.Goals as goal

-- the clause that was read
clause_is : (clauses read : List Clause) (place number : ℕ) (clause lits : Clause) → number ≡ place → place < length clauses → read ≡ clauses
    → ((d : Clause) → number < length clauses → clause ≡ slice_index_or clauses number d) → lits ≡ clause → lits ≡ slice_index_or clauses place []
clause_is clauses read place number clause lits same lt is at value =
    value ∙ (at [] (omega arith) ∙ ap (λ k. slice_index_or clauses k []) same)

pub returns-in_err-push-clause-needed : goal.returns-in_err-push-clause-needed
returns-in_err-push-clause-needed c =
    let clauses = c.args.cnf.now.clauses in
    let is = clause_is clauses c.as_slice.result.now c.args.clause c.index.result c.index-as_slice-index.result c.as_slice-lits.result.now c.index.ensures.number c.requires.there c.as_slice.ensures
    (λ d lt. read_item clauses c.as_slice.result.now c.index.result c.index-as_slice-index.result d c.as_slice.ensures c.index-as_slice-index.is lt) c.as_slice-lits.ensures in
    c.deny.ensures.falses ∙ ap (λ (l : List ℕ). λ (lit : ℕ). is_among l lit || falses_of c.args.self.now.needed lit) is

pub returns-clause-needed : goal.returns-clause-needed
returns-clause-needed c =
    let clauses = c.args.cnf.now.clauses in
    let is = clause_is clauses c.as_slice.result.now c.args.clause c.index.result c.index-as_slice-index.result c.as_slice-lits.result.now c.index.ensures.number c.requires.there c.as_slice.ensures
    (λ d lt. read_item clauses c.as_slice.result.now c.index.result c.index-as_slice-index.result d c.as_slice.ensures c.index-as_slice-index.is lt) c.as_slice-lits.ensures in
    c.deny.ensures.falses ∙ ap (λ (l : List ℕ). λ (lit : ℕ). is_among l lit || falses_of c.args.self.now.needed lit) is
