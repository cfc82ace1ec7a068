-- Files as a writer makes them: a graph, and bytes that spell it.
use Rattle.std.specs.Prelude.{◌≡◌, ℕ, ◌+◌, ◌-◌, ◌==◌, ◌<◌, ◌≤◌, ◌⊎◌, ◌^◌, false, List, [], ◌∷◌, ◌++◌, length, map, replicate, slice_get, Some}
use Rattle.rsfq_ids.specs.declared.limits.TheConstants.{AIG_LIMIT}
use Rattle.std.specs.List.{AllZip, list_any, concat}
use Rattle.std.specs.Str.{IsUtf8}
use Rattle.golden_aig.specs.declared.graph.And.{And}
use Rattle.golden_aig.specs.declared.graph.Aig.{Aig}
use Rattle.golden_aig.specs.Aig.{IsAig, variables_of}
use Rattle.aiger_order.specs.declared.listing.Listing.{Listing}
use Rattle.aiger_order.specs.Numbers.{HoldsOnce}
use Rattle.aiger_order.specs.Renaming.{Renames, TakesFirst}
use Rattle.aiger_parts.specs.declared.header.Form.{Form}
use Rattle.aiger_parts.specs.declared.header.Form.TheVariants as form
use Rattle.aiger_parts.specs.Header.{word_of}
use Rattle.aiger_parts.specs.Symbols.{Entries}
use Rattle.aiger_read.specs.Spelling.{WritesNumber, WriteGroups}

-- ---- lines and fields

-- lines, each with a newline behind it
abbrev pub in_lines : List (List ℕ) → List ℕ
in_lines [] = []
in_lines (line ∷ lines) = line ++ 10 ∷ in_lines lines

-- fields, each with a space before it
abbrev pub in_fields : List (List ℕ) → List ℕ
in_fields [] = []
in_fields (field ∷ fields) = 32 ∷ field ++ in_fields fields

-- the text is the bytes and a newline: the last line ends with the file
abbrev pub LacksNewline : List ℕ → List ℕ → Type 0
LacksNewline bytes text = bytes ++ 10 ∷ [] ≡ text

-- ---- the first line

-- The first line: the word of the form, the numbers M, I, L, O and A, and at most four more. L and those further ones are 0.
pub record IsHeadLine (form : Form) (variables inputs outputs ands : ℕ) (line : List ℕ) : Type 0 where
  pub m : List ℕ
  pub i : List ℕ
  pub l : List ℕ
  pub o : List ℕ
  pub a : List ℕ
  pub further : List (List ℕ)
  pub line_is : line ≡ word_of form ++ m ++ in_fields (i ∷ l ∷ o ∷ a ∷ further)
  pub m_writes : WritesNumber m variables
  pub i_writes : WritesNumber i inputs
  pub l_writes : WritesNumber l 0
  pub o_writes : WritesNumber o outputs
  pub a_writes : WritesNumber a ands
  pub few : length further ≤ 4
  pub zeros : AllZip WritesNumber further (replicate (length further) 0)

-- ---- symbols

-- The line of a symbol: `i` for an input or `o` for an output, its number, a space, and a name that is not empty and UTF-8, in one line.
pub record IsSymbolLine (kind place : ℕ) (name line : List ℕ) : Type 0 where
  pub number : List ℕ
  pub line_is : line ≡ kind ∷ number ++ 32 ∷ name
  pub writes : WritesNumber number place
  pub some : 0 < length name
  pub utf8 : IsUtf8 name
  pub one_line : list_any (λ byte. byte == 10) name ≡ false

-- a name of an input (105 is `i`) or of an output (111 is `o`)
abbrev pub IsSymbol : Entries × Entries → ℕ → ℕ → List ℕ → Type 0
IsSymbol names kind place name = ((kind ≡ 105) × (slice_get names.0 place ≡ Some (Some name))) ⊎ ((kind ≡ 111) × (slice_get names.1 place ≡ Some (Some name)))

-- The lines of the symbols, in any order: each line is that of a symbol, each symbol has a line, and no input or output has two.
pub record AreSymbolLines (names : Entries × Entries) (lines : List (List ℕ)) : Type 0 where
  pub each : (at : ℕ) (line : List ℕ) → slice_get lines at ≡ Some line → (kind place : ℕ) × (name : List ℕ) × IsSymbol names kind place name × IsSymbolLine kind place name line
  pub all : (kind place : ℕ) (name : List ℕ) → IsSymbol names kind place name → (at : ℕ) × (line : List ℕ) × (slice_get lines at ≡ Some line) × IsSymbolLine kind place name line
  pub once : (here there kind place : ℕ) (name other line another : List ℕ) → slice_get lines here ≡ Some line → slice_get lines there ≡ Some another → IsSymbolLine kind place name line → IsSymbolLine kind place other another → here ≡ there

-- nothing, or a line `c` and then anything
abbrev pub IsComment : List ℕ → Type 0
IsComment bytes = (bytes ≡ []) ⊎ ((rest : List ℕ) × (bytes ≡ 99 ∷ 10 ∷ rest))

-- ---- the binary form

-- A difference: at most five groups of seven bits, of a value below 2^32.
pub record WritesDifference (bytes : List ℕ) (n : ℕ) : Type 0 where
  pub few : length bytes ≤ 5
  pub groups : WriteGroups bytes n
  pub small : n < 2 ^ 32

-- An AND in bytes: the difference from its literal down to the one operand, and from that down to the other.
pub record WritesAnd (bytes : List ℕ) (one : And) : Type 0 where
  pub first : List ℕ
  pub second : List ℕ
  pub bytes_are : bytes ≡ first ++ second
  pub to_rhs0 : WritesDifference first (one.lhs - one.rhs0)
  pub to_rhs1 : WritesDifference second (one.rhs0 - one.rhs1)
  pub falls : one.rhs1 ≤ one.rhs0

-- A binary file: the first line, a line for each output, the ANDs in bytes, the symbols, and a comment. A newline that would be its last byte
-- may be missing, if it is one that ends a line.
pub record IsBinaryFile (bytes : List ℕ) (aig : Aig) : Type 0 where
  pub graph : IsAig aig
  pub head : List ℕ
  pub outputs : List (List ℕ)
  pub ands : List (List ℕ)
  pub symbols : List (List ℕ)
  pub comment : List ℕ
  pub text : List ℕ
  pub text_is : text ≡ in_lines (head ∷ outputs) ++ concat ands ++ in_lines symbols ++ comment
  pub bytes_are : (bytes ≡ text) ⊎ (LacksNewline bytes text × ((aig.ands ≡ []) ⊎ (0 < length (in_lines symbols ++ comment))))
  pub head_line : IsHeadLine form.Binary (variables_of aig) aig.inputs (length aig.outputs) (length aig.ands) head
  pub output_lines : AllZip WritesNumber outputs aig.outputs
  pub and_bytes : AllZip WritesAnd ands aig.ands
  pub symbol_lines : AreSymbolLines (aig.in_names, aig.out_names) symbols
  pub comment_is : IsComment comment

-- ---- the ASCII form

-- The line of an AND: its literal, and those of its operands.
pub record IsAndLine (line : List ℕ) (one : And) : Type 0 where
  pub lhs : List ℕ
  pub rhs0 : List ℕ
  pub rhs1 : List ℕ
  pub line_is : line ≡ lhs ++ in_fields (rhs0 ∷ rhs1 ∷ [])
  pub lhs_writes : WritesNumber lhs one.lhs
  pub rhs0_writes : WritesNumber rhs0 one.rhs0
  pub rhs1_writes : WritesNumber rhs1 one.rhs1

-- An ASCII file: the graph is written with other names of its variables, one to one and at most M, and with its ANDs in any order, each once. There
-- are the first line, a line for each input, output and AND, the symbols, and a comment. A newline that would be its last byte may be missing.
pub record IsAsciiFile (bytes : List ℕ) (aig : Aig) : Type 0 where
  pub graph : IsAig aig
  pub listing : Listing
  pub names : List ℕ
  pub renames : Renames listing aig names
  pub inside : (number name : ℕ) → slice_get names number ≡ Some name → name ≤ listing.top
  pub once : HoldsOnce (map (λ one. one.lhs) listing.ands)
  pub room : length listing.inputs + length listing.ands ≤ listing.top
  pub limit : listing.top ≤ AIG_LIMIT
  pub head : List ℕ
  pub inputs : List (List ℕ)
  pub outputs : List (List ℕ)
  pub ands : List (List ℕ)
  pub symbols : List (List ℕ)
  pub comment : List ℕ
  pub text : List ℕ
  pub text_is : text ≡ in_lines (head ∷ inputs ++ outputs ++ ands ++ symbols) ++ comment
  pub bytes_are : (bytes ≡ text) ⊎ LacksNewline bytes text
  pub head_line : IsHeadLine form.Ascii listing.top (length listing.inputs) (length listing.outputs) (length listing.ands) head
  pub input_lines : AllZip WritesNumber inputs listing.inputs
  pub output_lines : AllZip WritesNumber outputs listing.outputs
  pub and_lines : AllZip IsAndLine ands listing.ands
  pub symbol_lines : AreSymbolLines (listing.in_names, listing.out_names) symbols
  pub comment_is : IsComment comment

-- The AND that comes next is always that of the first line which is ready: its operands are numbered, and it is not.
abbrev pub IsAsciiInOrder : List ℕ → Aig → Type 0
IsAsciiInOrder bytes aig = (file : IsAsciiFile bytes aig) × TakesFirst file.listing aig file.names

-- ---- both forms

-- the bytes spell the graph, in the one form or the other
abbrev pub Spelled : List ℕ → Aig → Type 0
Spelled bytes aig = IsAsciiFile bytes aig ⊎ IsBinaryFile bytes aig

-- the same, with the ANDs of an ASCII file in the order in which their lines become ready
abbrev pub SpelledInOrder : List ℕ → Aig → Type 0
SpelledInOrder bytes aig = IsAsciiInOrder bytes aig ⊎ IsBinaryFile bytes aig

-- there is at most one graph that the bytes spell in this order
abbrev pub SpellOne : Type 0
SpellOne = (bytes : List ℕ) (one other : Aig) → SpelledInOrder bytes one → SpelledInOrder bytes other → one ≡ other
