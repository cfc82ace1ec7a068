-- The offences that are answered in the place of a graph exist.
use Rattle.std.proofs.Common.{◌≡◌, arith}
use Rattle.rsfq_ids.specs.declared.offence.Offence.TheVariants as offence
use Rattle.net_graph.specs.Graph.{GraphOffencesExist}

pub graph_offences_exist : GraphOffencesExist
graph_offences_exist design (offence.Fanout net first second) is =
    ((λ (e : first ≡ second). (let l = is.rising in omega arith)), (is.first_reads.0, is.second_reads.0, is.first_reads.1, is.second_reads.1))
graph_offences_exist design (offence.Loop cells) is = is.1.closed
graph_offences_exist design (offence.DataOnClock pin path) is = absurd is
graph_offences_exist design (offence.ClockOnData pin path) is = absurd is
graph_offences_exist design (offence.ClockMerged pin path) is = absurd is
graph_offences_exist design (offence.ClockOut pin path) is = absurd is
graph_offences_exist design (offence.Dead cell first second) is = absurd is
graph_offences_exist design (offence.Window pin pulse held) is = absurd is
graph_offences_exist design (offence.Ahead pin pulse held) is = absurd is
graph_offences_exist design (offence.Unequal to first second) is = absurd is
graph_offences_exist design (offence.Differ output word netlist golden) is = absurd is
