-- What a miter and a launch mean.
use Rattle.std.specs.Prelude.{◌≡◌, ◌<◌, ◌≤◌, ℕ, Bool, List, length, slice_get, Some, true}
use Rattle.rsfq_ids.specs.declared.limits.TheConstants.{WIRE_LIMIT}
use Rattle.std.specs.List.{All}
use Rattle.rsfq_ids.specs.declared.id.PortId.{PortId}
use Rattle.rsfq_ids.specs.declared.id.NetId.{NetId}
use Rattle.rsfq_ids.specs.declared.circuit.Bench.{Bench}
use Rattle.rsfq_ids.specs.Bench.{IsWord, bit_of}
use Rattle.rsfq_ids.specs.Value.{HasValue}
use Rattle.rsfq_ids.specs.Ready.{HasGoodShape}
use Rattle.rsfq_ids.specs.WellFormed.{IsBench}
use Rattle.rsfq_ids.specs.Formula.{Satisfies, IsFormula}
use Rattle.rsfq_ids.specs.Propagation.{InputsDecide}
use Rattle.net_graph.specs.Graph.{NetGraph, IsGraph}
use Rattle.clock_tree.specs.Clock.{design_of, IsClockNet}
use Rattle.golden_aig.specs.declared.graph.Aig.{Aig}
use Rattle.golden_aig.specs.declared.pairing.Match.{Match}
use Rattle.golden_aig.specs.Aig.{IsAig}
use Rattle.golden_aig.specs.Matched.{IsMatch, data_inputs}
use Rattle.golden_aig.specs.Differ.{Differs}
use Rattle.miter_cnf.specs.declared.made.MiterCnf.{MiterCnf}
use Rattle.miter_cnf.specs.Miter.{IsMiter, IsLaunch}

-- A circuit and a golden circuit that may be compared: no offence against the rules on clocks, the clock port is the one input that the match leaves out, and there are few port bits.
pub record AreComparable (graph : NetGraph) (aig : Aig) (matched : Match) (bench : Bench) : Type 0 where
  pub bench_fits : IsBench graph.flat bench
  pub shape : HasGoodShape (design_of graph bench)
  pub graph_fits : IsAig aig
  pub ports : IsMatch aig graph.flat bench matched
  pub few : length graph.flat.ports ≤ WIRE_LIMIT

-- the word under which the inputs in the order of the match have these values: bit `place` of the golden word is the value of variable `place`
abbrev pub IsWordOf : Bench → List PortId → (ℕ → Bool) → List Bool → Type 0
IsWordOf bench inputs values word = IsWord bench word × ((place : ℕ) (port : PortId) → slice_get inputs place ≡ Some port → bit_of bench port word ≡ values place)

-- under some output the word shows a difference
abbrev pub ShowsDifference : NetGraph → Aig → Match → Bench → List Bool → Type 0
ShowsDifference graph aig matched bench word =
    (output : PortId) × (netlist golden : Bool) × Differs (design_of graph bench) aig matched output word netlist golden

-- All values of the inputs are a word. Each solution's inputs are a word that shows a difference, and each such word is the inputs of a solution.
pub record MeansDifference (graph : NetGraph) (aig : Aig) (matched : Match) (bench : Bench) (made : MiterCnf) : Type 0 where
  pub words : (values : ℕ → Bool) → (word : List Bool) × IsWordOf bench matched.inputs values word
  pub solved : (values : ℕ → Bool) (word : List Bool) → All (Satisfies values) made.cnf.clauses → IsWordOf bench matched.inputs values word → ShowsDifference graph aig matched bench word
  pub solves : (word : List Bool) → ShowsDifference graph aig matched bench word → (values : ℕ → Bool) × All (Satisfies values) made.cnf.clauses × IsWordOf bench matched.inputs values word

-- Two nets of a circuit that are none of the clock's, where no offence against the rules on clocks exists and there are few port bits.
pub record CanLaunch (graph : NetGraph) (bench : Bench) (first second : NetId) : Type 0 where
  pub bench_fits : IsBench graph.flat bench
  pub shape : HasGoodShape (design_of graph bench)
  pub few : length graph.flat.ports ≤ WIRE_LIMIT
  pub first_there : first < length graph.flat.nets
  pub first_data : ¬ IsClockNet (design_of graph bench) first
  pub second_there : second < length graph.flat.nets
  pub second_data : ¬ IsClockNet (design_of graph bench) second

-- under the word both nets are 1
abbrev pub ShowsLaunch : NetGraph → Bench → NetId → NetId → List Bool → Type 0
ShowsLaunch graph bench first second word = IsWord bench word × HasValue (design_of graph bench) word first true × HasValue (design_of graph bench) word second true

-- All values of the inputs are a word. Each solution's inputs are a word under which both nets are 1, and each such word is the inputs of a solution.
pub record MeansLaunch (graph : NetGraph) (bench : Bench) (first second : NetId) (made : MiterCnf) : Type 0 where
  pub words : (values : ℕ → Bool) → (word : List Bool) × IsWordOf bench (data_inputs bench) values word
  pub solved : (values : ℕ → Bool) (word : List Bool) → All (Satisfies values) made.cnf.clauses → IsWordOf bench (data_inputs bench) values word → ShowsLaunch graph bench first second word
  pub solves : (word : List Bool) → ShowsLaunch graph bench first second word → (values : ℕ → Bool) × All (Satisfies values) made.cnf.clauses × IsWordOf bench (data_inputs bench) values word

-- What every miter is: its solutions are the words that show a difference, it is well formed, and its inputs decide all of its variables.
pub record IsSoundMiter (graph : NetGraph) (aig : Aig) (matched : Match) (bench : Bench) (made : MiterCnf) : Type 0 where
  pub means : MeansDifference graph aig matched bench made
  pub formula : IsFormula made.cnf
  pub decides : InputsDecide made.cnf made.inputs

abbrev pub MitersAreSound : Type 0
MitersAreSound =
    (graph : NetGraph) (aig : Aig) (matched : Match) (bench : Bench) (made : MiterCnf) → IsGraph graph → AreComparable graph aig matched bench → IsMiter graph aig matched made
    → IsSoundMiter graph aig matched bench made

-- the same of every launch
pub record IsSoundLaunch (graph : NetGraph) (bench : Bench) (first second : NetId) (made : MiterCnf) : Type 0 where
  pub means : MeansLaunch graph bench first second made
  pub formula : IsFormula made.cnf
  pub decides : InputsDecide made.cnf made.inputs

abbrev pub LaunchesAreSound : Type 0
LaunchesAreSound =
    (graph : NetGraph) (bench : Bench) (first second : NetId) (made : MiterCnf) → IsGraph graph → CanLaunch graph bench first second → IsLaunch graph (data_inputs bench) first second made
    → IsSoundLaunch graph bench first second made
