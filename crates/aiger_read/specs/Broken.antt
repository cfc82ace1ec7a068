-- Where a file breaks and for what cause: pieces as a writer writes them, up to a place, and then one that is not.
use Rattle.std.specs.Prelude.{◌≡◌, ◌≢◌, ℕ, ◌+◌, ◌-◌, ◌*◌, ◌<◌, ◌≤◌, ◌⊎◌, ◌^◌, true, false, List, [], ◌∷◌, ◌++◌, length, take, replicate, slice_get, Some, None}
use Rattle.rsfq_ids.specs.declared.limits.TheConstants.{AIG_LIMIT}
use Rattle.std.specs.List.{AllZip, concat}
use Rattle.golden_aig.specs.declared.graph.Aig.{Aig}
use Rattle.golden_aig.specs.declared.graph.And.{And}
use Rattle.golden_aig.specs.Aig.{IsAndAt}
use Rattle.aiger_order.specs.Numbers.{HoldsOnce}
use Rattle.aiger_order.specs.Listing.{IsDefinition, IsDefined, defined_by}
use Rattle.aiger_order.specs.Ring.{IsRingOfAnds}
use Rattle.aiger_parts.specs.declared.fault.AigerWhy.{AigerWhy}
use Rattle.aiger_parts.specs.declared.fault.AigerWhy.TheVariants as why
use Rattle.aiger_parts.specs.declared.fault.AigerFault.{AigerFault}
use Rattle.aiger_parts.specs.declared.header.Form.{Form}
use Rattle.aiger_parts.specs.declared.header.Form.TheVariants as form
use Rattle.aiger_parts.specs.Reading.{field_length}
use Rattle.aiger_parts.specs.Header.{spaces_in, word_of}
use Rattle.aiger_parts.specs.Symbols.{Entries, line_length}
use Rattle.aiger_read.specs.Spelling.{WritesNumber, WriteGroups, BeginsWithDifference}
use Rattle.aiger_read.specs.Both.{is_ascii, IsFileFault}
use Rattle.aiger_read.specs.Spelled.{in_lines, LacksNewline, IsHeadLine, IsSymbolLine, AreSymbolLines, WritesAnd, IsAndLine, Spelled}

-- ---- fields

-- What number a field has to write.
pub data Kind : Type 0 where
  -- M, which is at most 1,000,000
  highest : Kind
  -- I, O and A
  any_count : Kind
  -- L, which is 0
  latch_count : Kind
  -- one of the further numbers, which is 0
  further_count : Kind
  -- a literal that is defined here, of a variable from 1 to the highest, and that is none of those defined before
  new_literal : ℕ → List ℕ → Kind
  -- a literal that is used, of a variable up to the highest
  used_literal : ℕ → Kind

-- a number that is wrong there, and why
abbrev pub IsWrong : Kind → ℕ → AigerWhy → Type 0
IsWrong highest n cause = (cause ≡ why.Limit n) × (AIG_LIMIT < n)
IsWrong any_count n cause = ⊥
IsWrong latch_count n cause = (cause ≡ why.Latches) × (n ≢ 0)
IsWrong further_count n cause = (cause ≡ why.Extended) × (n ≢ 0)
IsWrong (new_literal top before) n cause = ((cause ≡ why.Range n) × ¬ IsDefinition top n) ⊎ ((cause ≡ why.Defined n) × IsDefinition top n × (at : ℕ) × (slice_get before at ≡ Some n))
IsWrong (used_literal top) n cause = (cause ≡ why.Range n) × (2 * top + 1 < n)

-- the field at the front, up to a space, a newline or the end, writes no number, or one that is wrong there
abbrev pub BreaksField : Kind → List ℕ → AigerWhy → Type 0
BreaksField kind bytes cause =
    ((cause ≡ why.Number) × ((n : ℕ) → ¬ WritesNumber (take (field_length bytes) bytes) n))
    ⊎ ((n : ℕ) × WritesNumber (take (field_length bytes) bytes) n × IsWrong kind n cause)

-- The bytes begin with a field of a number that is right there, and a space, a newline or the end stands behind it.
pub record BeginsWithField (kind : Kind) (bytes field tail : List ℕ) : Type 0 where
  pub number : ℕ
  pub parts : bytes ≡ field ++ tail
  pub writes : WritesNumber field number
  pub right : (cause : AigerWhy) → ¬ IsWrong kind number cause
  pub stops : field_length tail ≡ 0

-- a line ends before a newline or with the file
abbrev pub EndsLine : List ℕ → Type 0
EndsLine tail = (tail ≡ []) ⊎ ((rest : List ℕ) × (tail ≡ 10 ∷ rest))

-- A line of fields of these kinds, parted by one space, breaks so many bytes behind its first: where a field is broken, or where the wrong byte
-- or none stands behind one that is right.
abbrev pub BreaksFields : List Kind → List ℕ → ℕ → AigerWhy → Type 0
BreaksFields [] bytes at cause = ⊥
BreaksFields (kind ∷ []) bytes at cause =
    ((at ≡ 0) × BreaksField kind bytes cause)
    ⊎ ((field tail : List ℕ) × BeginsWithField kind bytes field tail × (cause ≡ why.Number) × (at ≡ length field) × ¬ EndsLine tail)
BreaksFields (kind ∷ next ∷ kinds) bytes at cause =
    ((at ≡ 0) × BreaksField kind bytes cause)
    ⊎ ((field tail : List ℕ) × BeginsWithField kind bytes field tail
    × (((cause ≡ why.Number) × (at ≡ length field) × ((rest : List ℕ) → tail ≢ 32 ∷ rest))
    ⊎ ((rest : List ℕ) × (later : ℕ) × (tail ≡ 32 ∷ rest) × (at ≡ length field + 1 + later) × BreaksFields (next ∷ kinds) rest later cause)))

-- ---- lines

-- the bytes are these lines and then the rest; where nothing is left, the last line may end with the file
abbrev pub AreLines : List (List ℕ) → List ℕ → List ℕ → Type 0
AreLines lines bytes rest = (bytes ≡ in_lines lines ++ rest) ⊎ (LacksNewline bytes (in_lines lines) × (rest ≡ []))

-- The file breaks where a line of these fields is needed: the file has ended, or the line breaks.
abbrev pub BreaksLine : List Kind → List ℕ → List ℕ → ℕ → AigerWhy → Type 0
BreaksLine kinds bytes rest offset cause =
    ((rest ≡ []) × (cause ≡ why.Truncated) × (offset ≡ length bytes))
    ⊎ ((0 < length rest) × (at : ℕ) × BreaksFields kinds rest at cause × (offset + length rest ≡ length bytes + at))

-- ---- differences and ANDs

-- bytes that are not the last of their groups
abbrev pub AreHigh : List ℕ → Type 0
AreHigh [] = Unit {0}
AreHigh (byte ∷ bytes) = (128 ≤ byte) × AreHigh bytes

-- Where a difference is needed, the file ends before its last group, or five groups have no last one, or they write 2^32 or more.
abbrev pub BreaksDifference : List ℕ → ℕ → AigerWhy → Type 0
BreaksDifference bytes at cause =
    ((cause ≡ why.Truncated) × (at ≡ length bytes) × (length bytes < 5) × AreHigh bytes)
    ⊎ (((cause ≡ why.Number) × (at ≡ 0) × (5 ≤ length bytes) × AreHigh (take 5 bytes))
    ⊎ ((cause ≡ why.Number) × (at ≡ 0) × (front rest : List ℕ) × (n : ℕ) × (bytes ≡ front ++ rest) × (length front ≤ 5) × WriteGroups front n × (2 ^ 32 ≤ n)))

-- Behind the first difference of an AND the second breaks, or leads below 0.
abbrev pub BreaksSecond : ℕ → List ℕ → ℕ → AigerWhy → Type 0
BreaksSecond rhs0 bytes at cause =
    BreaksDifference bytes at cause
    ⊎ ((cause ≡ why.Order) × (at ≡ 0) × (second : ℕ) × (rest : List ℕ) × BeginsWithDifference bytes second rest × (rhs0 < second))

-- Where an AND of a literal is needed, the first difference breaks, is 0 or leads below 0, or the second is at fault.
abbrev pub BreaksAnd : ℕ → List ℕ → ℕ → AigerWhy → Type 0
BreaksAnd lhs bytes at cause =
    BreaksDifference bytes at cause
    ⊎ (((cause ≡ why.Order) × (at ≡ 0) × (first : ℕ) × (rest : List ℕ) × BeginsWithDifference bytes first rest × ((first ≡ 0) ⊎ (lhs < first)))
    ⊎ ((first later rhs0 : ℕ) × (rest : List ℕ) × BeginsWithDifference bytes first rest × (1 ≤ first) × (rhs0 + first ≡ lhs) × BreaksSecond rhs0 rest later cause × (at + length rest ≡ length bytes + later)))

-- ---- symbols

-- an input or an output of this number is there and has no symbol yet
abbrev pub IsFree : Entries × Entries → ℕ → ℕ → Type 0
IsFree names kind place = ((kind ≡ 105) × (slice_get names.0 place ≡ Some None)) ⊎ ((kind ≡ 111) × (slice_get names.1 place ≡ Some None))

-- Behind the lines of symbols stands a line that is no `c` and no symbol of an input or output that is free.
pub record BreaksSymbols (inputs outputs : ℕ) (bytes rest : List ℕ) (offset : ℕ) (cause : AigerWhy) : Type 0 where
  pub names : Entries × Entries
  pub symbols : List (List ℕ)
  pub last : List ℕ
  pub ins : length names.0 ≡ inputs
  pub outs : length names.1 ≡ outputs
  pub symbol_lines : AreSymbolLines names symbols
  pub parts : rest ≡ in_lines symbols ++ last
  pub some : 0 < length last
  pub no_comment : take (line_length last) last ≢ 99 ∷ []
  pub no_symbol : (kind place : ℕ) (name : List ℕ) → IsFree names kind place → ¬ IsSymbolLine kind place name (take (line_length last) last)
  pub cause_is : cause ≡ why.Symbol
  pub offset_is : offset + length last ≡ length bytes

-- ---- the binary form

-- A binary file up to a place: the first line, lines of outputs, and ANDs.
pub record BinaryFront (inputs outputs ands : ℕ) (literals : List ℕ) (xs : List And) (bytes rest : List ℕ) : Type 0 where
  pub head : List ℕ
  pub head_line : IsHeadLine form.Binary (inputs + ands) inputs outputs ands head
  pub limit : inputs + ands ≤ AIG_LIMIT
  pub lines : List (List ℕ)
  pub texts : List (List ℕ)
  pub between : List ℕ
  pub output_lines : AllZip WritesNumber lines literals
  pub low : (at literal : ℕ) → slice_get literals at ≡ Some literal → literal ≤ 2 * (inputs + ands) + 1
  pub and_bytes : AllZip WritesAnd texts xs
  pub each : (place : ℕ) (one : And) → slice_get xs place ≡ Some one → IsAndAt inputs place one
  pub lines_are : AreLines (head ∷ lines) bytes between
  pub parts : between ≡ concat texts ++ rest

-- fewer outputs than needed are there, and the line of the next one breaks
abbrev pub BreaksInOutputs : List ℕ → ℕ → AigerWhy → Type 0
BreaksInOutputs bytes offset cause =
    (inputs outputs ands : ℕ) × (literals rest : List ℕ) × BinaryFront inputs outputs ands literals [] bytes rest
    × (length literals < outputs) × BreaksLine (used_literal (inputs + ands) ∷ []) bytes rest offset cause

-- all outputs and fewer ANDs than needed are there, and the next AND breaks
abbrev pub BreaksInAnds : List ℕ → ℕ → AigerWhy → Type 0
BreaksInAnds bytes offset cause =
    (inputs outputs ands at : ℕ) × (literals rest : List ℕ) × (xs : List And) × BinaryFront inputs outputs ands literals xs bytes rest
    × (length literals ≡ outputs) × (length xs < ands) × BreaksAnd (2 * (inputs + length xs + 1)) rest at cause × (offset + length rest ≡ length bytes + at)

-- all outputs and ANDs are there, and a line behind them breaks
abbrev pub BreaksInBinarySymbols : List ℕ → ℕ → AigerWhy → Type 0
BreaksInBinarySymbols bytes offset cause =
    (inputs outputs ands : ℕ) × (literals rest : List ℕ) × (xs : List And) × BinaryFront inputs outputs ands literals xs bytes rest
    × (length literals ≡ outputs) × (length xs ≡ ands) × BreaksSymbols inputs outputs bytes rest offset cause

-- ---- the first line

-- the first line begins with the word of its form and a space, and has five to nine fields behind it, parted by one space
abbrev pub HasHead : Form → List ℕ → Type 0
HasHead form bytes = ((rest : List ℕ) × (bytes ≡ word_of form ++ rest)) × (5 ≤ spaces_in bytes) × (spaces_in bytes ≤ 9)

-- M ≥ I + A in digits, M = I + A in bytes
abbrev pub FitsForm : Form → ℕ → ℕ → ℕ → Type 0
FitsForm form.Ascii variables inputs ands = inputs + ands ≤ variables
FitsForm form.Binary variables inputs ands = variables ≡ inputs + ands

-- M, I, L, O, A, and the further ones
abbrev pub head_kinds : ℕ → List Kind
head_kinds more = highest ∷ any_count ∷ latch_count ∷ any_count ∷ any_count ∷ replicate more further_count

-- The first line is none, or one of its fields breaks, or M breaks the rule of the form.
abbrev pub BreaksHead : Form → List ℕ → ℕ → AigerWhy → Type 0
BreaksHead form bytes offset cause =
    ((cause ≡ why.Header) × (offset ≡ 0) × ¬ HasHead form bytes)
    ⊎ (((rest : List ℕ) × (at : ℕ) × HasHead form bytes × (bytes ≡ word_of form ++ rest) × BreaksFields (head_kinds (spaces_in bytes - 5)) rest at cause × (offset ≡ 4 + at))
    ⊎ ((variables inputs outputs ands : ℕ) × (line rest : List ℕ) × IsHeadLine form variables inputs outputs ands line × AreLines (line ∷ []) bytes rest × (variables ≤ AIG_LIMIT)
    × ¬ FitsForm form variables inputs ands × (cause ≡ why.Header) × (offset ≡ 0)))

-- ---- the ASCII form

-- An ASCII file up to a place: the first line, and lines of inputs, outputs and ANDs.
pub record AsciiFront (top inputs outputs ands : ℕ) (literals uses : List ℕ) (xs : List And) (bytes rest : List ℕ) : Type 0 where
  pub head : List ℕ
  pub head_line : IsHeadLine form.Ascii top inputs outputs ands head
  pub limit : top ≤ AIG_LIMIT
  pub room : inputs + ands ≤ top
  pub in_texts : List (List ℕ)
  pub out_texts : List (List ℕ)
  pub and_texts : List (List ℕ)
  pub input_lines : AllZip WritesNumber in_texts literals
  pub output_lines : AllZip WritesNumber out_texts uses
  pub and_lines : AllZip IsAndLine and_texts xs
  pub definitions : (at literal : ℕ) → slice_get (defined_by literals xs) at ≡ Some literal → IsDefinition top literal
  pub once : HoldsOnce (defined_by literals xs)
  pub low : (at literal : ℕ) → slice_get uses at ≡ Some literal → literal ≤ 2 * top + 1
  pub low_ands : (at : ℕ) (one : And) → slice_get xs at ≡ Some one → (one.rhs0 ≤ 2 * top + 1) × (one.rhs1 ≤ 2 * top + 1)
  pub lines_are : AreLines (head ∷ in_texts ++ out_texts ++ and_texts) bytes rest

-- the line of an input breaks
abbrev pub BreaksInInputs : List ℕ → ℕ → AigerWhy → Type 0
BreaksInInputs bytes offset cause =
    (top inputs outputs ands : ℕ) × (literals rest : List ℕ) × AsciiFront top inputs outputs ands literals [] [] bytes rest
    × (length literals < inputs) × BreaksLine (new_literal top literals ∷ []) bytes rest offset cause

-- all inputs are there, and the line of an output breaks
abbrev pub BreaksInOutputLines : List ℕ → ℕ → AigerWhy → Type 0
BreaksInOutputLines bytes offset cause =
    (top inputs outputs ands : ℕ) × (literals uses rest : List ℕ) × AsciiFront top inputs outputs ands literals uses [] bytes rest
    × (length literals ≡ inputs) × (length uses < outputs) × BreaksLine (used_literal top ∷ []) bytes rest offset cause

-- all inputs and outputs are there, and the line of an AND breaks
abbrev pub BreaksInAndLines : List ℕ → ℕ → AigerWhy → Type 0
BreaksInAndLines bytes offset cause =
    (top inputs outputs ands : ℕ) × (literals uses rest : List ℕ) × (xs : List And) × AsciiFront top inputs outputs ands literals uses xs bytes rest
    × (length literals ≡ inputs) × (length uses ≡ outputs) × (length xs < ands)
    × BreaksLine (new_literal top (defined_by literals xs) ∷ used_literal top ∷ used_literal top ∷ []) bytes rest offset cause

-- all of them are there, and a line behind them breaks
abbrev pub BreaksInAsciiSymbols : List ℕ → ℕ → AigerWhy → Type 0
BreaksInAsciiSymbols bytes offset cause =
    (top inputs outputs ands : ℕ) × (literals uses rest : List ℕ) × (xs : List And) × AsciiFront top inputs outputs ands literals uses xs bytes rest
    × (length literals ≡ inputs) × (length uses ≡ outputs) × (length xs ≡ ands) × BreaksSymbols inputs outputs bytes rest offset cause

-- ---- a file in which all lines are right

-- Behind the ANDs stand lines of symbols, and then nothing or a line `c`.
pub record HasSymbols (inputs outputs : ℕ) (rest : List ℕ) : Type 0 where
  pub names : Entries × Entries
  pub symbols : List (List ℕ)
  pub last : List ℕ
  pub ins : length names.0 ≡ inputs
  pub outs : length names.1 ≡ outputs
  pub symbol_lines : AreSymbolLines names symbols
  pub lines_are : AreLines symbols rest last
  pub end : (last ≡ []) ⊎ ((more : List ℕ) × AreLines ((99 ∷ []) ∷ []) last more)

-- An ASCII file whose lines are all there and right, whatever its uses and rings are.
pub record HasAllLines (top inputs outputs ands : ℕ) (literals uses : List ℕ) (xs : List And) (bytes : List ℕ) : Type 0 where
  pub rest : List ℕ
  pub front : AsciiFront top inputs outputs ands literals uses xs bytes rest
  pub all_inputs : length literals ≡ inputs
  pub all_outputs : length uses ≡ outputs
  pub all_ands : length xs ≡ ands
  pub symbols : HasSymbols inputs outputs rest

-- all that is used is defined
abbrev pub AreDefined : List ℕ → List ℕ → Type 0
AreDefined definitions uses = (at literal : ℕ) → slice_get uses at ≡ Some literal → IsDefined definitions literal

abbrev pub AreDefinedAnds : List ℕ → List And → Type 0
AreDefinedAnds definitions xs = (at : ℕ) (one : And) → slice_get xs at ≡ Some one → IsDefined definitions one.rhs0 × IsDefined definitions one.rhs1

-- All lines are right. The literals of the first outputs are defined, and that of the next one, at the place, is not.
abbrev pub BreaksInOutputUse : List ℕ → ℕ → AigerWhy → Type 0
BreaksInOutputUse bytes offset cause =
    (top inputs outputs ands n : ℕ) × (literals uses before later here : List ℕ) × (xs : List And) × HasAllLines top inputs outputs ands literals uses xs bytes
    × (uses ≡ before ++ n ∷ later) × AsciiFront top inputs outputs ands literals before [] bytes here
    × AreDefined (defined_by literals xs) before × ¬ IsDefined (defined_by literals xs) n × (cause ≡ why.Undefined n) × (offset + length here ≡ length bytes)

-- The line of an AND so far: its literal, a space, and where the first operand is defined that and a space; and the next operand is not defined.
abbrev pub MissesOperand : List ℕ → And → List ℕ → ℕ → AigerWhy → Type 0
MissesOperand definitions one bytes at cause =
    (line tail : List ℕ) × (parts : IsAndLine line one) × (bytes ≡ line ++ tail)
    × (((cause ≡ why.Undefined one.rhs0) × ¬ IsDefined definitions one.rhs0 × (at ≡ length parts.lhs + 1))
    ⊎ ((cause ≡ why.Undefined one.rhs1) × IsDefined definitions one.rhs0 × ¬ IsDefined definitions one.rhs1 × (at ≡ length parts.lhs + 1 + length parts.rhs0 + 1)))

-- All lines are right. All outputs are defined and the operands of the first ANDs, and an operand of the next one is not.
abbrev pub BreaksInOperand : List ℕ → ℕ → AigerWhy → Type 0
BreaksInOperand bytes offset cause =
    (top inputs outputs ands at : ℕ) × (literals uses here : List ℕ) × (one : And) × (xs before later : List And) × HasAllLines top inputs outputs ands literals uses xs bytes
    × (xs ≡ before ++ one ∷ later) × AsciiFront top inputs outputs ands literals uses before bytes here
    × AreDefined (defined_by literals xs) uses × AreDefinedAnds (defined_by literals xs) before × MissesOperand (defined_by literals xs) one here at cause × (offset + length here ≡ length bytes + at)

-- All lines are right and all literals defined, and ANDs use each other in a ring; the place is that of the first line of an AND.
abbrev pub BreaksInRing : List ℕ → ℕ → AigerWhy → Type 0
BreaksInRing bytes offset cause =
    (top inputs outputs ands : ℕ) × (literals uses here ring : List ℕ) × (xs : List And) × HasAllLines top inputs outputs ands literals uses xs bytes
    × AreDefined (defined_by literals xs) uses × AreDefinedAnds (defined_by literals xs) xs
    × AsciiFront top inputs outputs ands literals uses [] bytes here × (offset + length here ≡ length bytes) × (cause ≡ why.Cycle ring) × IsRingOfAnds xs ring

-- ---- the whole file

-- a binary file breaks there for that cause
abbrev pub BreaksBinary : List ℕ → ℕ → AigerWhy → Type 0
BreaksBinary bytes offset cause = BreaksHead form.Binary bytes offset cause ⊎ (BreaksInOutputs bytes offset cause ⊎ (BreaksInAnds bytes offset cause ⊎ BreaksInBinarySymbols bytes offset cause))

-- an ASCII file breaks there for that cause
abbrev pub BreaksAscii : List ℕ → ℕ → AigerWhy → Type 0
BreaksAscii bytes offset cause =
    BreaksHead form.Ascii bytes offset cause ⊎ (BreaksInInputs bytes offset cause ⊎ (BreaksInOutputLines bytes offset cause ⊎ (BreaksInAndLines bytes offset cause
    ⊎ (BreaksInAsciiSymbols bytes offset cause ⊎ (BreaksInOutputUse bytes offset cause ⊎ (BreaksInOperand bytes offset cause ⊎ BreaksInRing bytes offset cause))))))

-- the file breaks there for that cause, by the form that it begins as
abbrev pub Breaks : List ℕ → ℕ → AigerWhy → Type 0
Breaks bytes offset cause = (is_ascii bytes ≡ true → BreaksAscii bytes offset cause) × (is_ascii bytes ≡ false → BreaksBinary bytes offset cause)

-- a fault is want of memory, or the file breaks at its offset for its cause
abbrev pub FaultsBreak : Type 0
FaultsBreak = (bytes : List ℕ) (fault : AigerFault) → IsFileFault bytes fault → (fault.why ≡ why.Memory) ⊎ Breaks bytes fault.offset fault.why

-- where a file breaks for a cause, that is its fault, and no want of memory
abbrev pub BreaksAreFaults : Type 0
BreaksAreFaults = (bytes : List ℕ) (offset : ℕ) (cause : AigerWhy) → Breaks bytes offset cause → (cause ≢ why.Memory) × IsFileFault bytes (record { offset = offset; why = cause })

-- one cause, or a ring each, of which a file may have several
abbrev pub IsSameCause : AigerWhy → AigerWhy → Type 0
IsSameCause cause other = (cause ≡ other) ⊎ ((ring another : List ℕ) × (cause ≡ why.Cycle ring) × (other ≡ why.Cycle another))

-- a file breaks at one place at most, and for one cause
abbrev pub BreakOnce : Type 0
BreakOnce = (bytes : List ℕ) (here there : ℕ) (cause other : AigerWhy) → Breaks bytes here cause → Breaks bytes there other → (here ≡ there) × IsSameCause cause other

-- a file that spells a graph breaks nowhere
abbrev pub SpelledBreakNowhere : Type 0
SpelledBreakNowhere = (bytes : List ℕ) (aig : Aig) (offset : ℕ) (cause : AigerWhy) → Spelled bytes aig → Breaks bytes offset cause → ⊥
