use Rattle.std.proofs.Common.{rules, ◌<◌, ℕ, map, length, sym, subst, Result, Ok, Err, IfErr}
use Rattle.std.specs.List.{All}
use Rattle.rsfq_ids.specs.declared.circuit.PortBit.{PortBit}
use Rattle.rsfq_ids.specs.declared.circuit.Flat.{Flat}
use Rattle.rsfq_ids.specs.declared.circuit.Bench.{Bench}
use Rattle.rsfq_ids.specs.WellFormed.{AreDistinct, IsBench}
use Rattle.golden_aig.specs.declared.graph.Aig.{Aig}
use Rattle.golden_aig.specs.declared.pairing.PortFault.{PortFault}
use Rattle.golden_aig.specs.Matched.{HasNoMatch, MemoryOr, MatchesNone}
use Rattle.golden_aig.proofs.NoMatch.{data_side, output_side, none_refused}
use Rattle.golden_aig.proofs.matching.match_ports.Goals as goal

pub match_side-requires : goal.match_side-requires
match_side-requires c = subst (All (λ (port : ℕ). port < length c.args.flat.now.ports)) (sym c.in_ok-list_data_inputs.ensures.ok) (data_side c.args.flat.now c.args.bench.now c.requires.bench).inside

pub match_side-requires-2 : goal.match_side-requires-2
match_side-requires-2 c = subst (All (λ (port : ℕ). port < length c.args.flat.now.ports)) (sym c.in_ok-list_outputs.ensures.ok) (output_side c.args.flat.now).inside

none_then : {T : Type 0} (r : Result T PortFault) (aig : Aig) (flat : Flat) (bench : Bench) → AreDistinct (map (λ (port : PortBit). port.name) flat.ports) → IsBench flat bench
    → IfErr r (λ why. MemoryOr why (HasNoMatch aig flat bench why)) → IfErr r (MatchesNone aig flat bench)
none_then (Ok x) aig flat bench apart ok cause = tt
none_then (Err why) aig flat bench apart ok cause = none_refused aig flat bench why apart ok cause

pub returns-in_err-inputs-clause-none : goal.returns-in_err-inputs-clause-none
returns-in_err-inputs-clause-none c =
    none_then c.from_residual-in_err-inputs.result c.args.aig.now c.args.flat.now c.args.bench.now c.requires.names c.requires.bench (search rules)

pub returns-in_err-outputs-clause-none : goal.returns-in_err-outputs-clause-none
returns-in_err-outputs-clause-none c =
    none_then c.from_residual-in_err-outputs.result c.args.aig.now c.args.flat.now c.args.bench.now c.requires.names c.requires.bench (search rules)
