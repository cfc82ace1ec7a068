use Rattle.std.proofs.Common.{◌≡◌, ◌*◌, length}
use Rattle.proof_arena.specs.Table.{falses_of}
use Rattle.cube_proof.specs.Search.{IsGoingBack}
use Rattle.cube_proof.proofs.search.Search.go_back.Given as goal

abbrev pub invariant-loop-reason : goal.invariant-loop-reason
invariant-loop-reason l = record {
  back : IsGoingBack l.cnf.clauses l.word l.self.reasons.items (falses_of l.self.needed) l.self.hints.items;
  table : length l.self.needed.table ≡ 2 * l.cnf.vars;
  marks : l.self.marks ≡ l.fn.self.marks;
  left : l.self.left ≡ l.fn.self.left;
  stack : l.self.stack ≡ l.fn.self.stack;
}

abbrev pub decreases-loop-reason : goal.decreases-loop-reason
decreases-loop-reason l = length l.self.reasons.items
