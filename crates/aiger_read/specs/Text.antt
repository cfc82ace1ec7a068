-- An ASCII file as a whole.
use Rattle.std.specs.Prelude.{◌≡◌, ℕ, ◌-◌, ◌*◌, ◌/◌, ◌==◌, ◌||◌, ◌⊎◌, Bool, List, [], ◌∷◌, ◌++◌, length, map, replicate, None, Result, Ok, Err, if◌then◌else◌}
use Rattle.golden_aig.specs.declared.graph.And.{And}
use Rattle.golden_aig.specs.declared.graph.Aig.{Aig}
use Rattle.aiger_order.specs.declared.listing.Listing.{Listing}
use Rattle.aiger_order.specs.Renaming.{IsRenaming, IsOrdered, HasNoGraph}
use Rattle.aiger_order.specs.Ring.{IsRingOfAnds}
use Rattle.aiger_parts.specs.declared.fault.AigerWhy.TheVariants as why
use Rattle.aiger_parts.specs.declared.fault.AigerFault.{AigerFault}
use Rattle.aiger_parts.specs.declared.fault.Stop.{Stop}
use Rattle.aiger_parts.specs.declared.header.Form.TheVariants as form
use Rattle.aiger_read.specs.declared.lines.Used.{Used}
use Rattle.aiger_read.specs.declared.lines.Line.{Line}
use Rattle.aiger_read.specs.declared.text.Text.{Text}
use Rattle.aiger_parts.specs.Reading.{◌>>=◌}
use Rattle.aiger_parts.specs.Header.{header_at}
use Rattle.aiger_parts.specs.Symbols.{symbols_at}
use Rattle.aiger_read.specs.Lines.{is_in, lhs_of, more_at, input_at, output_at, and_line_at}

-- ---- literals that are used are defined somewhere

-- a literal of the constant, or of a variable that is defined
abbrev pub is_known : List ℕ → ℕ → Bool
is_known defined literal = literal / 2 == 0 || is_in defined (2 * (literal / 2))

abbrev pub use_known_at : List ℕ → Used → Result (Unit {0}) Stop
use_known_at defined used = if is_known defined used.literal then Ok tt else Err (record { left = used.left; why = why.Undefined used.literal })

-- all are, or the first that is not
abbrev pub known_at : List ℕ → List Used → Result (Unit {0}) Stop
known_at defined [] = Ok tt
known_at defined (used ∷ others) = use_known_at defined used >>= λ _. known_at defined others

-- the literals that lines use, from left to right
abbrev pub uses_of : List Line → List Used
uses_of [] = []
uses_of (line ∷ lines) = line.rhs0 ∷ line.rhs1 ∷ uses_of lines

-- ---- the file

-- The first line, the lines of inputs, outputs and ANDs, the symbols; and where there is no other fault, each literal that is used is defined.
unfoldable pub text_at : List ℕ → Result Text Stop
text_at bytes = do
  head ← header_at form.Ascii bytes
  inputs ← more_at (input_at head.0.variables) head.0.inputs [] head.1
  outputs ← more_at (λ front. output_at head.0.variables) head.0.outputs [] inputs.1
  lines ← more_at (λ front. and_line_at head.0.variables (inputs.0 ++ lhs_of front)) head.0.ands [] outputs.1
  names ← symbols_at (length lines.1) (replicate head.0.inputs None, replicate head.0.outputs None) lines.1
  one ← known_at (inputs.0 ++ lhs_of lines.0) outputs.0
  two ← known_at (inputs.0 ++ lhs_of lines.0) (uses_of lines.0)
  Ok (record { top = head.0.variables; inputs = inputs.0; outputs = outputs.0; lines = lines.0; left = length outputs.1; in_names = names.0; out_names = names.1 })

-- an AND without the places of its operands
abbrev pub and_of : Line → And
and_of line = record { lhs = line.lhs; rhs0 = line.rhs0.literal; rhs1 = line.rhs1.literal }

-- what the file lists
abbrev pub listing_of : Text → Listing
listing_of text = record { top = text.top; inputs = text.inputs; ands = map and_of text.lines; outputs = map (λ used. used.literal) text.outputs; in_names = text.in_names; out_names = text.out_names }

-- the bytes are an ASCII file that lists the graph, with its own names of the variables and its ANDs in any order
abbrev pub ListsAs : List ℕ → Aig → Type 0
ListsAs bytes aig = (text : Text) × (text_at bytes ≡ Ok text) × IsRenaming (listing_of text) aig

-- and its ANDs stand in the order in which their lines become ready, and those that are ready together in the order of the file
abbrev pub ListsInOrder : List ℕ → Aig → Type 0
ListsInOrder bytes aig = (text : Text) × (text_at bytes ≡ Ok text) × IsOrdered (listing_of text) aig

-- The listing has ANDs in a ring, so it lists no graph. The place, from the count of bytes, is that of the first line of an AND.
pub record IsRingFault (count : ℕ) (text : Text) (fault : AigerFault) : Type 0 where
  pub ring : List ℕ
  pub why : fault.why ≡ why.Cycle ring
  pub around : IsRingOfAnds (map and_of text.lines) ring
  pub none : HasNoGraph (listing_of text)
  pub offset : fault.offset ≡ count - text.left

-- want of memory, or ANDs in a ring
abbrev pub IsOrderRefusal : ℕ → Text → AigerFault → Type 0
IsOrderRefusal count text fault = (fault.why ≡ why.Memory) ⊎ IsRingFault count text fault

-- want of memory, or the first fault of the text, or ANDs in a ring where there is no other fault
abbrev pub IsAsciiFault : List ℕ → AigerFault → Type 0
IsAsciiFault bytes fault =
    (fault.why ≡ why.Memory) ⊎ (((stop : Stop) × (text_at bytes ≡ Err stop) × (fault.why ≡ stop.why) × (fault.offset ≡ length bytes - stop.left))
    ⊎ ((text : Text) × (text_at bytes ≡ Ok text) × IsRingFault (length bytes) text fault))
