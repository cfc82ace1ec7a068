-- Graphs that are a listing with other numbers of variables.
use Rattle.std.specs.Prelude.{◌≡◌, ℕ, ◌+◌, ◌*◌, ◌≤◌, List, map, take, length, slice_get, Some}
use Rattle.golden_aig.specs.declared.graph.Aig.{Aig}
use Rattle.golden_aig.specs.declared.graph.And.{And}
use Rattle.golden_aig.specs.Aig.{IsAig, variables_of}
use Rattle.aiger_order.specs.declared.listing.Listing.{Listing}
use Rattle.aiger_order.specs.declared.listing.OrderFault.{OrderFault}
use Rattle.aiger_order.specs.declared.listing.OrderFault.TheVariants as fault
use Rattle.aiger_order.specs.Numbers.{HoldsOnce, file_literal, file_and}
use Rattle.aiger_order.specs.Ready.{IsReadyLine}
use Rattle.aiger_order.specs.Ring.{IsRingOfAnds}

-- The listing is the graph written with other names of its variables, one to one: the constant keeps its own, the inputs stand in order, and the ANDs are the lines, in any order.
pub record Renames (listing : Listing) (aig : Aig) (names : List ℕ) : Type 0 where
  pub count : length names ≡ variables_of aig + 1
  pub one_to_one : HoldsOnce names
  pub constant : slice_get names 0 ≡ Some 0
  pub input_count : length listing.inputs ≡ aig.inputs
  pub inputs : (place literal : ℕ) → slice_get listing.inputs place ≡ Some literal → literal ≡ file_literal names (2 * (place + 1))
  pub lines : (line : ℕ) (one : And) → slice_get listing.ands line ≡ Some one → (place : ℕ) × (each : And) × (slice_get aig.ands place ≡ Some each) × (one ≡ file_and names each)
  pub ands : (place : ℕ) (each : And) → slice_get aig.ands place ≡ Some each → (line : ℕ) × (slice_get listing.ands line ≡ Some (file_and names each))
  pub outputs : listing.outputs ≡ map (file_literal names) aig.outputs
  pub in_names : listing.in_names ≡ aig.in_names
  pub out_names : listing.out_names ≡ aig.out_names

abbrev pub IsRenaming : Listing → Aig → Type 0
IsRenaming listing aig = (names : List ℕ) × Renames listing aig names

-- The AND that is numbered next is always that of the first line which is ready: its operands have numbers, and its literal has none.
abbrev pub TakesFirst : Listing → Aig → List ℕ → Type 0
TakesFirst listing aig names =
    (place line earlier : ℕ) (one : And) → slice_get aig.ands place ≡ Some one → slice_get listing.ands line ≡ Some (file_and names one) → IsReadyLine (take (aig.inputs + place + 1) names) listing.ands earlier → line ≤ earlier

-- the renaming whose ANDs stand in the order in which their lines become ready, and of those that are ready together in the order of the file
abbrev pub IsOrdered : Listing → Aig → Type 0
IsOrdered listing aig = (names : List ℕ) × Renames listing aig names × TakesFirst listing aig names

-- there is one at most
abbrev pub IsOneGraph : Type 0
IsOneGraph = (listing : Listing) (one other : Aig) → IsAig one → IsAig other → IsOrdered listing one → IsOrdered listing other → one ≡ other

-- no graph has this listing
abbrev pub HasNoGraph : Listing → Type 0
HasNoGraph listing = (aig : Aig) → IsAig aig → IsRenaming listing aig → ⊥

-- why no graph was made: ANDs in a ring, and then there is none, or want of memory
abbrev pub IsOrderFault : Listing → OrderFault → Type 0
IsOrderFault listing (fault.Cycle ring) = IsRingOfAnds listing.ands ring × HasNoGraph listing
IsOrderFault listing fault.Memory = Unit {0}
