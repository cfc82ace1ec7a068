-- Which ports of a circuit the inputs and outputs of a graph stand for.
use Rattle.std.specs.Prelude.{◌≡◌, ◌≢◌, ◌⊎◌, ℕ, ◌+◌, Bool, cond, List, [], ◌∷◌, ◌++◌, map, length, slice_get, Option, unwrap_or, option_to_list}
use Rattle.std.specs.Option.{option_map}
use Rattle.std.specs.List.{All, Contains, flat_map}
use Rattle.std.specs.List.Sorted.{IsPermutation}
use Rattle.rsfq_ids.specs.declared.id.PortId.{PortId}
use Rattle.rsfq_ids.specs.declared.circuit.Flat.{Flat}
use Rattle.rsfq_ids.specs.declared.circuit.Bench.{Bench}
use Rattle.rsfq_ids.specs.Bench.{is_data}
use Rattle.rsfq_ids.specs.WellFormed.{AreDistinct}
use Rattle.golden_aig.specs.declared.graph.Aig.{Aig}
use Rattle.golden_aig.specs.declared.pairing.Match.{Match}
use Rattle.golden_aig.specs.declared.pairing.PortFault.{PortFault}
use Rattle.golden_aig.specs.declared.pairing.PortFault.TheVariants as fault

-- the places, counted from `first`, of the items that pass a test
abbrev pub places_from : {A : Type 0} → (A → Bool) → ℕ → List A → List ℕ
places_from test first [] = []
places_from test first (item ∷ items) = cond (test item) (first ∷ places_from test (first + 1) items) (places_from test (first + 1) items)

-- the data inputs, in port order
unfoldable pub data_inputs : Bench → List PortId
data_inputs bench = places_from is_data 0 bench.uses

-- the outputs, in port order
unfoldable pub outputs_of : Flat → List PortId
outputs_of flat = places_from (λ port. port.output) 0 flat.ports

-- the printed name of a port
abbrev pub name_of : Flat → PortId → List ℕ
name_of flat port = unwrap_or (option_map (λ bit. bit.name) (slice_get flat.ports port)) []

abbrev pub names_of : Flat → List PortId → List (List ℕ)
names_of flat ports = map (name_of flat) ports

-- the symbols of the inputs or outputs of a graph that have one
abbrev pub symbols_of : List (Option (List ℕ)) → List (List ℕ)
symbols_of entries = flat_map option_to_list entries

-- One side of a graph stands for these ports: they are the ports of that side of the circuit, each once. Where no entry has a symbol they stand in port order; else their names are the symbols.
pub record IsMatched (flat : Flat) (ports : List PortId) (entries : List (Option (List ℕ))) (matched : List PortId) : Type 0 where
  pub count : length entries ≡ length ports
  pub one_to_one : IsPermutation ports matched
  pub by : ((symbols_of entries ≡ []) × (matched ≡ ports)) ⊎ (names_of flat matched ≡ symbols_of entries)

-- Both sides: the inputs stand for the data inputs, the outputs for the outputs.
pub record IsMatch (aig : Aig) (flat : Flat) (bench : Bench) (matched : Match) : Type 0 where
  pub inputs : IsMatched flat (data_inputs bench) aig.in_names matched.inputs
  pub outputs : IsMatched flat (outputs_of flat) aig.out_names matched.outputs

-- ---- refusals

-- some entries have a symbol, and some have none
abbrev pub IsMixed : List (Option (List ℕ)) → Type 0
IsMixed entries = (symbols_of entries ≢ []) × (length (symbols_of entries) ≢ length entries)

-- The first symbol that is the name of no port of its side.
pub record LacksPort (flat : Flat) (ports : List PortId) (symbols : List (List ℕ)) (name : List ℕ) : Type 0 where
  pub before : List (List ℕ)
  pub after : List (List ℕ)
  pub parts : symbols ≡ before ++ name ∷ after
  pub earlier : All (Contains (names_of flat ports)) before
  pub none : ¬ Contains (names_of flat ports) name

-- The first symbol that stood before.
pub record Repeats (symbols : List (List ℕ)) (name : List ℕ) : Type 0 where
  pub before : List (List ℕ)
  pub after : List (List ℕ)
  pub parts : symbols ≡ before ++ name ∷ after
  pub earlier : AreDistinct before
  pub again : Contains before name

-- Why one side has no match: the first of the causes, in this order. `Count` has the number in the graph and that of the ports.
abbrev pub Refuses : Flat → List PortId → List (Option (List ℕ)) → PortFault → Type 0
Refuses flat ports entries fault.Mixed = IsMixed entries
Refuses flat ports entries (fault.Count have want) = (¬ IsMixed entries) × (have ≡ length entries) × (want ≡ length ports) × (have ≢ want)
Refuses flat ports entries (fault.NoPort name) = (¬ IsMixed entries) × (length entries ≡ length ports) × LacksPort flat ports (symbols_of entries) name
Refuses flat ports entries (fault.Repeated name) =
    (¬ IsMixed entries) × (length entries ≡ length ports) × All (Contains (names_of flat ports)) (symbols_of entries) × Repeats (symbols_of entries) name
Refuses flat ports entries fault.Memory = ⊥

-- Why a graph has no match: the inputs have none, or they have one and the outputs have none.
abbrev pub HasNoMatch : Aig → Flat → Bench → PortFault → Type 0
HasNoMatch aig flat bench why =
    Refuses flat (data_inputs bench) aig.in_names why ⊎ (((inputs : List PortId) × IsMatched flat (data_inputs bench) aig.in_names inputs) × Refuses flat (outputs_of flat) aig.out_names why)

-- want of memory, which has no cause, or that
abbrev pub MemoryOr : PortFault → Type 0 → Type 0
MemoryOr why Cause = (why ≡ fault.Memory) ⊎ Cause

-- want of memory, or no pairing is a match
abbrev pub MatchesNone : Aig → Flat → Bench → PortFault → Type 0
MatchesNone aig flat bench why = MemoryOr why ((matched : Match) → ¬ IsMatch aig flat bench matched)
