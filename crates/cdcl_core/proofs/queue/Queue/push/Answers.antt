use Rattle.std.proofs.Common.{◌≡◌, ◌∷◌, ℕ, List, subst, sym}
use Rattle.std.specs.List.{Contains}
use Rattle.std.specs.BinaryHeap.{heap_items}
use Rattle.cdcl_core.proofs.Queueing.{pushed_keeps, pushed_has}
use Rattle.cdcl_core.proofs.queue.Queue.push.Goals as goal

pub returns-clause-here : goal.returns-clause-here
returns-clause-here c = pushed_has (heap_items c.self.inside.places) (heap_items c.push.new.self) c.args.place c.in_ok-push.ensures.permutation

pub returns-clause-kept : goal.returns-clause-kept
returns-clause-kept c = λ n has. pushed_keeps (heap_items c.self.inside.places) (heap_items c.push.new.self) c.args.place n c.in_ok-push.ensures.permutation (subst (λ (xs : List ℕ). Contains xs n) (sym c.self.view_is) has)
