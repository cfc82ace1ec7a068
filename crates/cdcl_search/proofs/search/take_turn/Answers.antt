use Rattle.std.proofs.Common.{◌≡◌, ◌≤◌, ℕ, List, length, length-append, arith, sym, ap, subst}
use Rattle.std.specs.List.{All}
use Rattle.std.proofs.lemmas.Result.{IfOk-weaker}
use Rattle.proof_arena.specs.Log.{Log, clauses_of}
use Rattle.cdcl_core.specs.declared.trail.TrueLit.{TrueLit}
use Rattle.cdcl_core.specs.Trail.{IsQuiet}
use Rattle.cdcl_core.specs.Search.{Search, IsGrown}
use Rattle.cdcl_search.specs.declared.search.Turn.{Turn}
use Rattle.cdcl_search.specs.Turns.{IsGoing, IsTurned}
use Rattle.cdcl_search.proofs.Searching.{turned_after}
use Rattle.cdcl_search.proofs.search.take_turn.Goals as goal

longer : (old new : List TrueLit) → IsGrown old new → length old ≤ length new
longer old new g = let size = ap (λ (xs : List TrueLit). length xs) g.1.0 in omega (arith, size, length-append g.0 old)

pub decide_next-requires-clause-quiet : goal.decide_next-requires-clause-quiet
decide_next-requires-clause-quiet c =
    let log : c.propagate.new.state.log ≡ c.args.state.now.log = ap (λ (s : Search). s.log) c.propagate.ensures.kept in
    subst (λ (l : Log). All (IsQuiet c.propagate.new.state.trail) (clauses_of l)) (sym log) c.in-None.ensures.answer

pub returns-in-None-clause-turned : goal.returns-in-None-clause-turned
returns-in-None-clause-turned c =
    let log : c.propagate.new.state.log ≡ c.args.state.now.log = ap (λ (s : Search). s.log) c.propagate.ensures.kept in
    IfOk-weaker c.decide_next.result (λ (turn : Turn). (budget : ℕ) → IsGoing budget c.propagate.new.state.log → IsTurned budget c.propagate.new.state c.decide_next.new.state turn) (IsTurned c.args.budget c.args.state.now c.decide_next.new.state)
    (λ turn turned. turned_after c.args.budget c.args.state.now c.propagate.new.state c.decide_next.new.state turn log (longer _ _ c.propagate.ensures.grown)
    (turned c.args.budget (subst (λ (l : Log). IsGoing c.args.budget l) (sym log) c.requires.going)))
    c.decide_next.ensures.turned
