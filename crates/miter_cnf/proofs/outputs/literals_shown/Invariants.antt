use Rattle.std.proofs.Common.{◌≡◌, ℕ, List, take}
use Rattle.std.specs.List.{AllZip}
use Rattle.rsfq_ids.specs.declared.circuit.Reader.TheVariants as reader
use Rattle.rsfq_ids.specs.Circuit.{Reads}
use Rattle.miter_cnf.specs.Variables.{literals_at}
use Rattle.miter_cnf.proofs.outputs.literals_shown.Given as goal

abbrev pub invariant-loop-port : goal.invariant-loop-port
invariant-loop-port l = (nets : List ℕ) × AllZip (λ port net. Reads l.graph.flat (reader.Port port) net) (take l.port-index l.outputs) nets × (l.literals.items ≡ literals_at l.variables nets)
