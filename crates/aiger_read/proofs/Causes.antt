-- A file that breaks does so for no want of memory.
use Rattle.std.proofs.Common.{◌≡◌, ◌≢◌, ◌∙◌, inl, inr, ◌+◌, ◌-◌, ◌*◌, ℕ, Bool, true, false, refl, sym, List, [], ◌∷◌, length}
use Rattle.golden_aig.specs.declared.graph.And.{And}
use Rattle.aiger_parts.specs.declared.fault.AigerWhy.{AigerWhy}
use Rattle.aiger_parts.specs.declared.fault.AigerWhy.TheVariants as why
use Rattle.aiger_parts.specs.declared.header.Form.{Form}
use Rattle.aiger_parts.specs.declared.header.Form.TheVariants as form
use Rattle.aiger_parts.specs.Header.{spaces_in}
use Rattle.aiger_read.specs.Both.{is_ascii}
use Rattle.aiger_order.specs.Listing.{defined_by}
use Rattle.aiger_read.specs.Broken.{head_kinds, Kind, highest, any_count, latch_count, further_count, new_literal, used_literal, IsWrong, BreaksField, BreaksFields, BreaksLine, BreaksDifference, BreaksSecond, BreaksAnd, BreaksHead, MissesOperand, BreaksAscii, BreaksBinary, Breaks}

abbrev Other : AigerWhy → Type 0
Other cause = cause ≡ why.Memory → ⊥

header : (cause : AigerWhy) → cause ≡ why.Header → Other cause
header cause is memory = let bad : why.Header ≡ why.Memory = sym is ∙ memory in absurd cc

number : (cause : AigerWhy) → cause ≡ why.Number → Other cause
number cause is memory = let bad : why.Number ≡ why.Memory = sym is ∙ memory in absurd cc

truncated : (cause : AigerWhy) → cause ≡ why.Truncated → Other cause
truncated cause is memory = let bad : why.Truncated ≡ why.Memory = sym is ∙ memory in absurd cc

order : (cause : AigerWhy) → cause ≡ why.Order → Other cause
order cause is memory = let bad : why.Order ≡ why.Memory = sym is ∙ memory in absurd cc

symbol : (cause : AigerWhy) → cause ≡ why.Symbol → Other cause
symbol cause is memory = let bad : why.Symbol ≡ why.Memory = sym is ∙ memory in absurd cc

undefined : (cause : AigerWhy) (n : ℕ) → cause ≡ why.Undefined n → Other cause
undefined cause n is memory = let bad : why.Undefined n ≡ why.Memory = sym is ∙ memory in absurd cc

cycle : (cause : AigerWhy) (ring : List ℕ) → cause ≡ why.Cycle ring → Other cause
cycle cause ring is memory = let bad : why.Cycle ring ≡ why.Memory = sym is ∙ memory in absurd cc

wrong : (kind : Kind) (n : ℕ) (cause : AigerWhy) → IsWrong kind n cause → Other cause
wrong highest n cause w memory = let bad : why.Limit n ≡ why.Memory = sym w.0 ∙ memory in absurd cc
wrong any_count n cause w memory = w
wrong latch_count n cause w memory = let bad : why.Latches ≡ why.Memory = sym w.0 ∙ memory in absurd cc
wrong further_count n cause w memory = let bad : why.Extended ≡ why.Memory = sym w.0 ∙ memory in absurd cc
wrong (new_literal top before) n cause (inl w) memory = let bad : why.Range n ≡ why.Memory = sym w.0 ∙ memory in absurd cc
wrong (new_literal top before) n cause (inr w) memory = let bad : why.Defined n ≡ why.Memory = sym w.0 ∙ memory in absurd cc
wrong (used_literal top) n cause w memory = let bad : why.Range n ≡ why.Memory = sym w.0 ∙ memory in absurd cc

field : (kind : Kind) (bytes : List ℕ) (cause : AigerWhy) → BreaksField kind bytes cause → Other cause
field kind bytes cause (inl b) = number cause b.0
field kind bytes cause (inr b) = wrong kind b.0 cause b.2

fields : (kinds : List Kind) (bytes : List ℕ) (at : ℕ) (cause : AigerWhy) → BreaksFields kinds bytes at cause → Other cause
fields [] bytes at cause b = absurd b
fields (kind ∷ []) bytes at cause (inl b) = field kind bytes cause b.1
fields (kind ∷ []) bytes at cause (inr b) = number cause b.3
fields (kind ∷ next ∷ kinds) bytes at cause (inl b) = field kind bytes cause b.1
fields (kind ∷ next ∷ kinds) bytes at cause (inr (text, tail, begins, inl b)) = number cause b.0
fields (kind ∷ next ∷ kinds) bytes at cause (inr (text, tail, begins, inr (rest, later, space, place, b))) = fields (next ∷ kinds) rest later cause b

line : (kinds : List Kind) (bytes rest : List ℕ) (offset : ℕ) (cause : AigerWhy) → BreaksLine kinds bytes rest offset cause → Other cause
line kinds bytes rest offset cause (inl b) = truncated cause b.1
line kinds bytes rest offset cause (inr (some, at, b, place)) = fields kinds rest at cause b

difference : (bytes : List ℕ) (at : ℕ) (cause : AigerWhy) → BreaksDifference bytes at cause → Other cause
difference bytes at cause (inl b) = truncated cause b.0
difference bytes at cause (inr (inl b)) = number cause b.0
difference bytes at cause (inr (inr b)) = number cause b.0

second : (rhs0 : ℕ) (bytes : List ℕ) (at : ℕ) (cause : AigerWhy) → BreaksSecond rhs0 bytes at cause → Other cause
second rhs0 bytes at cause (inl b) = difference bytes at cause b
second rhs0 bytes at cause (inr b) = order cause b.0

gate : (lhs : ℕ) (bytes : List ℕ) (at : ℕ) (cause : AigerWhy) → BreaksAnd lhs bytes at cause → Other cause
gate lhs bytes at cause (inl b) = difference bytes at cause b
gate lhs bytes at cause (inr (inl b)) = order cause b.0
gate lhs bytes at cause (inr (inr (first, later, rhs0, rest, begins, some, sum, b, place))) = second rhs0 rest later cause b

head : (form : Form) (bytes : List ℕ) (offset : ℕ) (cause : AigerWhy) → BreaksHead form bytes offset cause → Other cause
head form bytes offset cause (inl b) = header cause b.0
head form bytes offset cause (inr (inl (rest, at, there, is, b, place))) = fields (head_kinds (spaces_in bytes - 5)) rest at cause b
head form bytes offset cause (inr (inr (variables, inputs, outputs, ands, text, rest, is, lines, limit, unfit, b, place))) = header cause b

misses : (definitions : List ℕ) (one : And) (bytes : List ℕ) (at : ℕ) (cause : AigerWhy) → MissesOperand definitions one bytes at cause → Other cause
misses definitions one bytes at cause (text, tail, parts, is, inl b) = undefined cause one.rhs0 b.0
misses definitions one bytes at cause (text, tail, parts, is, inr b) = undefined cause one.rhs1 b.0

lines : (bytes : List ℕ) (offset : ℕ) (cause : AigerWhy) → BreaksAscii bytes offset cause → Other cause
lines bytes offset cause (inl b) = head form.Ascii bytes offset cause b
lines bytes offset cause (inr (inl (top, inputs, outputs, ands, literals, rest, front, fewer, b))) = line (new_literal top literals ∷ []) bytes rest offset cause b
lines bytes offset cause (inr (inr (inl (top, inputs, outputs, ands, literals, uses, rest, front, all, fewer, b)))) = line (used_literal top ∷ []) bytes rest offset cause b
lines bytes offset cause (inr (inr (inr (inl (top, inputs, outputs, ands, literals, uses, rest, xs, front, all, every, fewer, b))))) = line (new_literal top (defined_by literals xs) ∷ used_literal top ∷ used_literal top ∷ []) bytes rest offset cause b
lines bytes offset cause (inr (inr (inr (inr (inl (top, inputs, outputs, ands, literals, uses, rest, xs, front, all, every, each, b)))))) = symbol cause b.cause_is
lines bytes offset cause (inr (inr (inr (inr (inr (inl (top, inputs, outputs, ands, n, literals, uses, before, later, here, xs, all, parts, front, good, bad, is, place))))))) = undefined cause n is
lines bytes offset cause (inr (inr (inr (inr (inr (inr (inl (top, inputs, outputs, ands, at, literals, uses, here, one, xs, before, later, all, parts, front, good, known, b, place)))))))) = misses (defined_by literals xs) one here at cause b
lines bytes offset cause (inr (inr (inr (inr (inr (inr (inr (top, inputs, outputs, ands, literals, uses, here, ring, xs, all, good, operands, front, place, is, round)))))))) = cycle cause ring is

binary : (bytes : List ℕ) (offset : ℕ) (cause : AigerWhy) → BreaksBinary bytes offset cause → Other cause
binary bytes offset cause (inl b) = head form.Binary bytes offset cause b
binary bytes offset cause (inr (inl (inputs, outputs, ands, literals, rest, front, fewer, b))) = line (used_literal (inputs + ands) ∷ []) bytes rest offset cause b
binary bytes offset cause (inr (inr (inl (inputs, outputs, ands, at, literals, rest, xs, front, all, fewer, b, place)))) = gate (2 * (inputs + length xs + 1)) rest at cause b
binary bytes offset cause (inr (inr (inr (inputs, outputs, ands, literals, rest, xs, front, all, every, b)))) = symbol cause b.cause_is

pub no_memory : (bytes : List ℕ) (offset : ℕ) (cause : AigerWhy) → Breaks bytes offset cause → cause ≢ why.Memory
no_memory bytes offset cause b = go (is_ascii bytes) refl where
  go : (t : Bool) → is_ascii bytes ≡ t → cause ≢ why.Memory
  go true is = lines bytes offset cause (b.0 is)
  go false is = binary bytes offset cause (b.1 is)
