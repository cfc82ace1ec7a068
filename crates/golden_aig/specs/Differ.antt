-- What it means that a circuit differs from its golden circuit.
use Rattle.std.specs.Prelude.{◌≡◌, ◌≢◌, ℕ, Bool, List, map, slice_get, Some}
use Rattle.rsfq_ids.specs.declared.id.NetId.{NetId}
use Rattle.rsfq_ids.specs.declared.id.PortId.{PortId}
use Rattle.rsfq_ids.specs.declared.circuit.Bench.{Bench}
use Rattle.rsfq_ids.specs.declared.circuit.Reader.TheVariants as reader
use Rattle.rsfq_ids.specs.Circuit.{Reads}
use Rattle.rsfq_ids.specs.Bench.{IsWord, bit_of}
use Rattle.rsfq_ids.specs.declared.offence.Offence.{Offence}
use Rattle.rsfq_ids.specs.Value.{HasValue}
use Rattle.rsfq_ids.specs.Offence.{MeetsNegation}
use Rattle.rsfq_ids.specs.Design.{Design}
use Rattle.golden_aig.specs.declared.graph.Aig.{Aig}
use Rattle.golden_aig.specs.declared.pairing.Match.{Match}
use Rattle.golden_aig.specs.Golden.{golden}

-- The bits of a word, in the order of the inputs of the graph. A word has its bits in port order.
abbrev pub golden_word : Bench → Match → List Bool → List Bool
golden_word bench matched word = map (λ port. bit_of bench port word) matched.inputs

-- The golden value of an output under a word: the value of the literal that is matched with it.
abbrev pub HasGoldenValue : Bench → Aig → Match → List Bool → PortId → Bool → Type 0
HasGoldenValue bench aig matched word output value =
    (place literal : ℕ) × (slice_get matched.outputs place ≡ Some output) × (slice_get aig.outputs place ≡ Some literal) × (golden aig (golden_word bench matched word) literal ≡ value)

-- Under the word the output has the one value in the circuit and the other in the golden circuit, and they differ.
pub record Differs (design : Design) (aig : Aig) (matched : Match) (output : PortId) (word : List Bool) (netlist value : Bool) : Type 0 where
  pub is_word : IsWord design.bench word
  pub circuit : (net : NetId) × Reads design.flat (reader.Port output) net × HasValue design word net netlist
  pub golden_value : HasGoldenValue design.bench aig matched word output value
  pub differ : netlist ≢ value

-- an offence of a design that has a golden circuit meets the negation of its rule, that of `Differ` included
abbrev pub Negates : Design → Aig → Match → Offence → Type 0
Negates design aig matched offence = MeetsNegation design (Differs design aig matched) offence
