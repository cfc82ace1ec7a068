use Rattle.std.proofs.Common.{◌≡◌, ◌∙◌, ◌++◌, List, ℕ, sym, ap, subst}
use Rattle.cube_proof.specs.declared.search.Search.{Search}
use Rattle.cube_proof.specs.Search.{IsBegun, sizes_of}
use Rattle.proof_arena.specs.Table.{falses_of}
use Rattle.cube_proof.proofs.Lists.{on_both}
use Rattle.cube_proof.proofs.Passes.{begun_by}
use Rattle.cube_proof.proofs.search.Search.begin.Goals as goal

pub returns : goal.returns
returns c =
    let cnf = c.args.cnf.now in
    let word = c.args.word.now in
    let old = c.args.self.now in
    let before : Search = record old { marks = c.deny.new.self; stack = c.extend_from_slice.new.self; reasons = c.clear-2.new.self } in
    let after = c.recount.new.self in
    record {
      begun = on_both (after.left.items ≡ sizes_of cnf.clauses) (after ≡ record before { left = after.left }) (IsBegun cnf.vars cnf.clauses word after)
          (λ left same. subst (IsBegun cnf.vars cnf.clauses word) (sym same)
          (begun_by cnf word (record before { left = after.left }) (falses_of c.clear.new.self) c.requires.over c.requires.apart c.clear.ensures.falses c.deny.ensures.falses
          (record { marks = c.deny.ensures.size ∙ c.clear.ensures.size ∙ c.requires.tables.marks; needed = c.requires.tables.needed })
          (c.in_ok-extend_from_slice.ensures.items ∙ ap (λ (s : List ℕ). s ++ word) c.clear-3.ensures.items) c.clear-2.ensures.items left))
          c.recount.result c.recount.ensures.left c.recount.ensures.others;
    }
