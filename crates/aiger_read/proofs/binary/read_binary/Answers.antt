use Rattle.std.proofs.Common.{length}
use Rattle.aiger_read.specs.Graph.{graph_at}
use Rattle.aiger_read.proofs.Faults.{refusal_of}
use Rattle.aiger_read.proofs.WellFormed.{graph_ok}
use Rattle.aiger_read.proofs.binary.read_binary.Goals as goal

pub returns-in-Ok-clause-graph : goal.returns-in-Ok-clause-graph
returns-in-Ok-clause-graph c = graph_ok c.args.bytes.now c.in-Ok.aig c.in-Ok.ensures

pub returns-in-Err-clause-fault : goal.returns-in-Err-clause-fault
returns-in-Err-clause-fault c = refusal_of (length c.args.bytes.now) c.in-Err.stop c.fault_of.result (graph_at c.args.bytes.now) c.in-Err.ensures c.fault_of.ensures
