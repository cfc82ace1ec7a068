use Rattle.std.proofs.Common.{◌≡◌, ◌≤◌, length}
use Rattle.cdcl_core.specs.Oldest.{oldest}
use Rattle.proof_arena.specs.Table.{falses_of}
use Rattle.cdcl_core.specs.Queued.{AreQueued}
use Rattle.cdcl_core.specs.Analysed.{IsAnalysed}
use Rattle.cdcl_core.proofs.analysis.Analysis.run.Given as goal

abbrev pub invariant-walk : goal.invariant-walk
invariant-walk l = record {
  table : length l.self.marks.table ≡ length l.fn.self.marks.table;
  within : l.place ≤ length l.trail.trail;
  queued : AreQueued l.trail.trail (falses_of l.self.marks) l.place l.self.queue;
  analysed : IsAnalysed l.log l.trail.trail (oldest l.place l.trail.trail) l.level l.self;
}

abbrev pub decreases-walk : goal.decreases-walk
decreases-walk l = l.place
