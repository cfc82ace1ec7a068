use Rattle.flat_aliases.proofs.Threading.{IsThreadedTo}
use Rattle.flat_aliases.proofs.threads.thread.Given as goal

abbrev pub invariant-loop-at : goal.invariant-loop-at
invariant-loop-at l = IsThreadedTo l.links l.places l.at l.last.items l.before.items
