use Rattle.std.proofs.Common.{◌∙◌, sym}
use Rattle.cdcl_core.proofs.Analysing.{skipped}
use Rattle.cdcl_core.proofs.analysis.Analysis.look_at.Goals as goal

pub returns-then-not-is_marked-clause-looked : goal.returns-then-not-is_marked-clause-looked
returns-then-not-is_marked-clause-looked c = λ older next a.
    let off = sym c.is_marked.ensures ∙ c.if-not-is_marked.true in
    skipped _ _ _ c.args.entry older _ _ _ _ _ next.tail a off
