use Rattle.std.proofs.Common.{◌≡◌, ◌∙◌, ◌≤◌, sym, subst, ap, List}
use Rattle.proof_arena.specs.Log.{clauses_of}
use Rattle.cdcl_core.specs.declared.trail.TrueLit.{TrueLit}
use Rattle.cdcl_core.specs.Search.{Search}
use Rattle.cdcl_core.specs.Trail.{level_of}
use Rattle.cdcl_core.proofs.Trails.{up_level}
use Rattle.cdcl_core.proofs.state.backjump.Goals as goal

pub returns-clause-level : goal.returns-clause-level
returns-clause-level c =
    let there : c.args.level ≤ level_of c.state.inside.core.trail.trail = subst (λ (s : Search). c.args.level ≤ level_of s.trail) (sym c.state.view_is) c.requires in
    ap level_of c.go_back.ensures.trail ∙ up_level _ (clauses_of c.state.inside.core.log) c.state.inside.core.trail.trail c.args.level c.state.invariant.core.holds.trail_is there
