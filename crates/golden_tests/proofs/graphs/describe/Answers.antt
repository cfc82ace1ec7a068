use Rattle.std.proofs.Common.{◌≡◌, List, map, sym, ap, subst}
use Rattle.rsfq_ids.specs.declared.circuit.PortBit.{PortBit}
use Rattle.rsfq_ids.specs.WellFormed.{AreDistinct}
use Rattle.golden_tests.proofs.Samples.{sample_names, sample_fits}
use Rattle.golden_tests.proofs.graphs.describe.Goals as goal

pub match_ports-requires-clause-names : goal.match_ports-requires-clause-names
match_ports-requires-clause-names c = subst (λ (ports : List PortBit). AreDistinct (map (λ (port : PortBit). port.name) ports)) (sym c.in_ok-flat.ensures) sample_names

pub match_ports-requires-clause-bench : goal.match_ports-requires-clause-bench
match_ports-requires-clause-bench c = sample_fits c.in_ok-flat.flat c.in_ok-bench.bench c.in_ok-flat.ensures c.in_ok-bench.ensures
