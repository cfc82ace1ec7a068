-- Files that break, from what a reader answers.
use Rattle.std.proofs.Common.{◌≡◌, ◌⊎◌, ◌∙◌, inl, inr, ◌≤◌, ◌+◌, ◌*◌, ℕ, Bool, true, false, refl, ap, sym, subst, arith, List, [], ◌∷◌, ◌++◌, length, None, Result, Ok, Err}
use Rattle.std.specs.Prelude.{replicate, map}
use Rattle.golden_aig.specs.declared.graph.Aig.{Aig}
use Rattle.golden_aig.specs.declared.graph.And.{And}
use Rattle.aiger_order.specs.Listing.{defined_by}
use Rattle.aiger_order.specs.Ring.{IsRingOfAnds}
use Rattle.aiger_parts.specs.declared.fault.AigerWhy.{AigerWhy}
use Rattle.aiger_parts.specs.declared.fault.AigerWhy.TheVariants as why
use Rattle.aiger_parts.specs.declared.fault.AigerFault.{AigerFault}
use Rattle.aiger_parts.specs.declared.fault.Stop.{Stop}
use Rattle.aiger_parts.specs.declared.header.Form.TheVariants as form
use Rattle.aiger_parts.specs.declared.header.Header.{Header}
use Rattle.aiger_read.specs.declared.lines.Used.{Used}
use Rattle.aiger_read.specs.declared.lines.Line.{Line}
use Rattle.aiger_read.specs.declared.text.Text.{Text}
use Rattle.aiger_parts.specs.Reading.{◌>>=◌, literal_at, and_at, many_at}
use Rattle.aiger_parts.specs.Header.{header_at}
use Rattle.aiger_parts.specs.Symbols.{Entries, symbols_at}
use Rattle.aiger_read.specs.Graph.{graph_at}
use Rattle.aiger_read.specs.Lines.{lhs_of, more_at, input_at, output_at, and_line_at}
use Rattle.aiger_read.specs.Text.{known_at, uses_of, and_of, text_at, IsRingFault}
use Rattle.aiger_read.specs.Both.{is_ascii, IsFileFault}
use Rattle.aiger_read.specs.Broken.{BreaksBinary, BreaksInBinarySymbols, BreaksInAsciiSymbols, BreaksInRing, BreaksAscii, Breaks, FaultsBreak}
use Rattle.aiger_read.proofs.WellFormed.{given, same_value, bind_ok}
use Rattle.aiger_read.proofs.HeadLines.{HeadAt, head_read}
use Rattle.aiger_read.proofs.BinaryFiles.{literals_read, many_count}
use Rattle.aiger_read.proofs.BrokenLines.{failed, bind_err, no_stop, lines_shorter, IsPlace}
use Rattle.aiger_read.proofs.BrokenHead.{head_breaks}
use Rattle.aiger_read.proofs.BrokenSymbols.{symbols_break}
use Rattle.aiger_read.proofs.BrokenBinary.{outputs_break, ands_break, binary_front, ands_shorter}
use Rattle.aiger_read.proofs.BrokenAscii.{literals_of, ascii_front, front_shorter, number_of_inputs, number_of_outputs, number_of_lines, inputs_break, output_lines_break, and_lines_break}
use Rattle.aiger_read.proofs.BrokenUses.{AllRead, all_lines, same_definitions, outputs_defined, operands_defined, output_undefined, operand_undefined}

-- ---- the binary form

made_aig : ℕ → List And → List ℕ → Entries × Entries → Aig
made_aig inputs xs outputs names = record { inputs = inputs; ands = xs; outputs = outputs; in_names = names.0; out_names = names.1 }

abbrev made : ℕ → List And → List ℕ → Entries × Entries → Result Aig Stop
made inputs xs outputs names = Ok (made_aig inputs xs outputs names)

-- what is behind the ANDs, the outputs and the first line
abbrev behind_ands : Header → List ℕ → List And × List ℕ → Result Aig Stop
behind_ands h outputs xs = symbols_at (length xs.1) (replicate h.inputs None, replicate h.outputs None) xs.1 >>= made h.inputs xs.0 outputs

abbrev behind_outputs : Header → List ℕ × List ℕ → Result Aig Stop
behind_outputs h outputs = many_at (λ p. and_at (2 * (h.inputs + p + 1))) 0 h.ands outputs.1 >>= behind_ands h outputs.0

abbrev behind_head : Header × List ℕ → Result Aig Stop
behind_head head = many_at (λ p. literal_at (2 * (head.0.inputs + head.0.ands) + 1)) 0 head.0.outputs head.1 >>= behind_outputs head.0

binary_symbols : (bytes : List ℕ) (h : Header) (r0 literals r1 : List ℕ) (xs : List And × List ℕ) (offset : ℕ) (cause : AigerWhy) (stop : Stop) → HeadAt form.Binary h bytes r0 → many_at (λ p. literal_at (2 * (h.inputs + h.ands) + 1)) 0 h.outputs r0 ≡ given (literals, r1)
    → many_at (λ p. and_at (2 * (h.inputs + p + 1))) 0 h.ands r1 ≡ given xs → symbols_at (length xs.1) (replicate h.inputs None, replicate h.outputs None) xs.1 ≡ Err stop → IsPlace bytes offset cause stop → BreaksInBinarySymbols bytes offset cause
binary_symbols bytes h r0 literals r1 xs offset cause stop head outputs ands e place =
    let lines = literals_read (2 * (h.inputs + h.ands) + 1) h.outputs 0 r0 literals r1 outputs in
    let first = lines_shorter (head.line ∷ lines.lines) bytes r1 (r0, head.at, lines.at) in
    let last = ands_shorter h.inputs h.ands r1 xs ands in
    let le : length xs.1 ≤ length bytes = omega arith in (
      h.inputs,
      h.outputs,
      h.ands,
      literals,
      xs.1,
      xs.0,
      binary_front bytes h r0 literals r1 h.ands xs head outputs ands,
      many_count (λ p. literal_at (2 * (h.inputs + h.ands) + 1)) h.outputs 0 r0 (literals, r1) outputs,
      many_count (λ p. and_at (2 * (h.inputs + p + 1))) h.ands 0 r1 xs ands,
      symbols_break (length xs.1) h.inputs h.outputs bytes xs.1 offset cause stop e le place,
    )

graph_breaks : (bytes : List ℕ) (offset : ℕ) (cause : AigerWhy) (stop : Stop) → graph_at bytes ≡ Err stop → IsPlace bytes offset cause stop → BreaksBinary bytes offset cause
unfolding graph_at made_aig
graph_breaks bytes offset cause stop e place = elim (bind_err (header_at form.Binary bytes) behind_head stop e) [
  | inl bad ↦ inl (head_breaks form.Binary bytes offset cause stop bad place)
  | inr (head, good, more) ↦ outputs head.0 head.1 (head_read form.Binary bytes head.0 head.1 good) more
] where
  symbols : (h : Header) (r0 : List ℕ) → HeadAt form.Binary h bytes r0 → (literals : List ℕ × List ℕ) → many_at (λ p. literal_at (2 * (h.inputs + h.ands) + 1)) 0 h.outputs r0 ≡ given literals
      → (xs : List And × List ℕ) → many_at (λ p. and_at (2 * (h.inputs + p + 1))) 0 h.ands literals.1 ≡ given xs → behind_ands h literals.0 xs ≡ failed stop → BreaksBinary bytes offset cause
  symbols h r0 head literals lines xs ands more = elim (bind_err (symbols_at (length xs.1) (replicate h.inputs None, replicate h.outputs None) xs.1) (made h.inputs xs.0 literals.0) stop more) [
    | inl bad ↦ inr (inr (inr (binary_symbols bytes h r0 literals.0 literals.1 xs offset cause stop head lines ands bad place)))
    | inr (names, good, none) ↦ absurd (no_stop (made_aig h.inputs xs.0 literals.0 names) stop none)
  ]

  and_bytes : (h : Header) (r0 : List ℕ) → HeadAt form.Binary h bytes r0 → (literals : List ℕ × List ℕ) → many_at (λ p. literal_at (2 * (h.inputs + h.ands) + 1)) 0 h.outputs r0 ≡ given literals → behind_outputs h literals ≡ failed stop → BreaksBinary bytes offset cause
  and_bytes h r0 head literals lines more = elim (bind_err (many_at (λ p. and_at (2 * (h.inputs + p + 1))) 0 h.ands literals.1) (behind_ands h literals.0) stop more) [
    | inl bad ↦ inr (inr (inl (ands_break bytes h r0 literals.0 literals.1 offset cause stop head lines bad place)))
    | inr (xs, ands, behind) ↦ symbols h r0 head literals lines xs ands behind
  ]

  outputs : (h : Header) (r0 : List ℕ) → HeadAt form.Binary h bytes r0 → behind_head (h, r0) ≡ failed stop → BreaksBinary bytes offset cause
  outputs h r0 head more = elim (bind_err (many_at (λ p. literal_at (2 * (h.inputs + h.ands) + 1)) 0 h.outputs r0) (behind_outputs h) stop more) [
    | inl bad ↦ inr (inl (outputs_break bytes h r0 offset cause stop head bad place))
    | inr (literals, lines, behind) ↦ and_bytes h r0 head literals lines behind
  ]

-- ---- the ASCII form

made_text : Header × List ℕ → List ℕ × List ℕ → List Used × List ℕ → List Line × List ℕ → Entries × Entries → Text
made_text head ins outs lines names = record { top = head.0.variables; inputs = ins.0; outputs = outs.0; lines = lines.0; left = length outs.1; in_names = names.0; out_names = names.1 }

-- what is behind the symbols, the ANDs, the outputs, the inputs and the first line
abbrev text_uses : Header × List ℕ → List ℕ × List ℕ → List Used × List ℕ → List Line × List ℕ → Entries × Entries → Unit {0} → Result Text Stop
text_uses head ins outs lines names one = known_at (ins.0 ++ lhs_of lines.0) (uses_of lines.0) >>= λ two. Ok (made_text head ins outs lines names)

abbrev text_symbols : Header × List ℕ → List ℕ × List ℕ → List Used × List ℕ → List Line × List ℕ → Entries × Entries → Result Text Stop
text_symbols head ins outs lines names = known_at (ins.0 ++ lhs_of lines.0) outs.0 >>= text_uses head ins outs lines names

abbrev text_ands : Header × List ℕ → List ℕ × List ℕ → List Used × List ℕ → List Line × List ℕ → Result Text Stop
text_ands head ins outs lines = symbols_at (length lines.1) (replicate head.0.inputs None, replicate head.0.outputs None) lines.1 >>= text_symbols head ins outs lines

abbrev text_outputs : Header × List ℕ → List ℕ × List ℕ → List Used × List ℕ → Result Text Stop
text_outputs head ins outs = more_at (λ front. and_line_at head.0.variables (ins.0 ++ lhs_of front)) head.0.ands [] outs.1 >>= text_ands head ins outs

abbrev text_inputs : Header × List ℕ → List ℕ × List ℕ → Result Text Stop
text_inputs head ins = more_at (λ front. output_at head.0.variables) head.0.outputs [] ins.1 >>= text_outputs head ins

abbrev text_head : Header × List ℕ → Result Text Stop
text_head head = more_at (input_at head.0.variables) head.0.inputs [] head.1 >>= text_inputs head

ascii_symbols : (bytes : List ℕ) (h : Header) (r0 : List ℕ) (ins : List ℕ × List ℕ) (outs : List Used × List ℕ) (lines : List Line × List ℕ) (offset : ℕ) (cause : AigerWhy) (stop : Stop) → HeadAt form.Ascii h bytes r0 → more_at (input_at h.variables) h.inputs [] r0 ≡ given ins
    → more_at (λ front. output_at h.variables) h.outputs [] ins.1 ≡ given outs → more_at (λ front. and_line_at h.variables (ins.0 ++ lhs_of front)) h.ands [] outs.1 ≡ given lines
    → symbols_at (length lines.1) (replicate h.inputs None, replicate h.outputs None) lines.1 ≡ Err stop → IsPlace bytes offset cause stop → BreaksInAsciiSymbols bytes offset cause
ascii_symbols bytes h r0 ins outs lines offset cause stop head inputs outputs ands e place =
    let front = ascii_front bytes h r0 h.inputs h.outputs h.ands ins outs lines head inputs outputs ands in
    let le = front_shorter h.variables h.inputs h.outputs h.ands ins.0 (literals_of outs.0) (map and_of lines.0) bytes lines.1 front in (
      h.variables,
      h.inputs,
      h.outputs,
      h.ands,
      ins.0,
      literals_of outs.0,
      lines.1,
      map and_of lines.0,
      front,
      number_of_inputs h.variables h.inputs r0 ins inputs,
      number_of_outputs h.variables h.outputs ins.1 outs outputs,
      number_of_lines h.variables h.ands ins.0 outs.1 lines ands,
      symbols_break (length lines.1) h.inputs h.outputs bytes lines.1 offset cause stop e le place,
    )

text_breaks : (bytes : List ℕ) (offset : ℕ) (cause : AigerWhy) (stop : Stop) → text_at bytes ≡ Err stop → IsPlace bytes offset cause stop → BreaksAscii bytes offset cause
unfolding text_at made_text
text_breaks bytes offset cause stop e place = elim (bind_err (header_at form.Ascii bytes) text_head stop e) [
  | inl bad ↦ inl (head_breaks form.Ascii bytes offset cause stop bad place)
  | inr (head, good, more) ↦ inputs head (head_read form.Ascii bytes head.0 head.1 good) more
] where
  uses : (head : Header × List ℕ) (ins : List ℕ × List ℕ) (outs : List Used × List ℕ) (lines : List Line × List ℕ) (a : AllRead bytes head.0 head.1 ins outs lines) → text_symbols head ins outs lines a.names ≡ failed stop → BreaksAscii bytes offset cause
  uses head ins outs lines a more = elim (bind_err (known_at (ins.0 ++ lhs_of lines.0) outs.0) (text_uses head ins outs lines a.names) stop more) [
    | inl bad ↦ inr (inr (inr (inr (inr (inl (output_undefined bytes head.0 head.1 ins outs lines offset cause stop a (ap (λ (d : List ℕ). known_at d outs.0) (sym (same_definitions ins.0 lines.0)) ∙ bad) place))))))
    | inr (one, known, behind) ↦ elim (bind_err (known_at (ins.0 ++ lhs_of lines.0) (uses_of lines.0)) (λ two. given (made_text head ins outs lines a.names)) stop behind) [
      | inl bad ↦ inr (inr (inr (inr (inr (inr (inl (operand_undefined bytes head.0 head.1 ins outs lines offset cause stop a (ap (λ (d : List ℕ). known_at d outs.0) (sym (same_definitions ins.0 lines.0)) ∙ known) (ap (λ (d : List ℕ). known_at d (uses_of lines.0)) (sym (same_definitions ins.0 lines.0)) ∙ bad) place)))))))
      | inr (two, good, none) ↦ absurd (no_stop (made_text head ins outs lines a.names) stop none)
    ]
  ]

  symbols : (head : Header × List ℕ) (ins : List ℕ × List ℕ) (outs : List Used × List ℕ) (lines : List Line × List ℕ) → HeadAt form.Ascii head.0 bytes head.1 → more_at (input_at head.0.variables) head.0.inputs [] head.1 ≡ given ins
      → more_at (λ front. output_at head.0.variables) head.0.outputs [] ins.1 ≡ given outs → more_at (λ front. and_line_at head.0.variables (ins.0 ++ lhs_of front)) head.0.ands [] outs.1 ≡ given lines → text_ands head ins outs lines ≡ failed stop → BreaksAscii bytes offset cause
  symbols head ins outs lines line is os ls more = elim (bind_err (symbols_at (length lines.1) (replicate head.0.inputs None, replicate head.0.outputs None) lines.1) (text_symbols head ins outs lines) stop more) [
    | inl bad ↦ inr (inr (inr (inr (inl (ascii_symbols bytes head.0 head.1 ins outs lines offset cause stop line is os ls bad place)))))
    | inr (names, good, behind) ↦ uses head ins outs lines (record { head = line; inputs = is; outputs = os; ands = ls; names = names; symbols = good }) behind
  ]

  ands : (head : Header × List ℕ) (ins : List ℕ × List ℕ) (outs : List Used × List ℕ) → HeadAt form.Ascii head.0 bytes head.1 → more_at (input_at head.0.variables) head.0.inputs [] head.1 ≡ given ins
      → more_at (λ front. output_at head.0.variables) head.0.outputs [] ins.1 ≡ given outs → text_outputs head ins outs ≡ failed stop → BreaksAscii bytes offset cause
  ands head ins outs line is os more = elim (bind_err (more_at (λ front. and_line_at head.0.variables (ins.0 ++ lhs_of front)) head.0.ands [] outs.1) (text_ands head ins outs) stop more) [
    | inl bad ↦ inr (inr (inr (inl (and_lines_break bytes head.0 head.1 ins outs offset cause stop line is os bad place))))
    | inr (lines, good, behind) ↦ symbols head ins outs lines line is os good behind
  ]

  outputs : (head : Header × List ℕ) (ins : List ℕ × List ℕ) → HeadAt form.Ascii head.0 bytes head.1 → more_at (input_at head.0.variables) head.0.inputs [] head.1 ≡ given ins → text_inputs head ins ≡ failed stop → BreaksAscii bytes offset cause
  outputs head ins line is more = elim (bind_err (more_at (λ front. output_at head.0.variables) head.0.outputs [] ins.1) (text_outputs head ins) stop more) [
    | inl bad ↦ inr (inr (inl (output_lines_break bytes head.0 head.1 ins offset cause stop line is bad place)))
    | inr (outs, good, behind) ↦ ands head ins outs line is good behind
  ]

  inputs : (head : Header × List ℕ) → HeadAt form.Ascii head.0 bytes head.1 → text_head head ≡ failed stop → BreaksAscii bytes offset cause
  inputs head line more = elim (bind_err (more_at (input_at head.0.variables) head.0.inputs [] head.1) (text_inputs head) stop more) [
    | inl bad ↦ inr (inl (inputs_break bytes head.0 head.1 offset cause stop line bad place))
    | inr (ins, good, behind) ↦ outputs head ins line good behind
  ]

-- ---- rings

ring_breaks : (bytes : List ℕ) (text : Text) (fault : AigerFault) → text_at bytes ≡ Ok text → IsRingFault (length bytes) text fault → BreaksInRing bytes fault.offset fault.why
unfolding text_at made_text
ring_breaks bytes text fault e r =
    let head = bind_ok (header_at form.Ascii bytes) text_head text e in
    let inputs = bind_ok (more_at (input_at head.0.0.variables) head.0.0.inputs [] head.0.1) (text_inputs head.0) text head.2 in
    let outputs = bind_ok (more_at (λ front. output_at head.0.0.variables) head.0.0.outputs [] inputs.0.1) (text_outputs head.0 inputs.0) text inputs.2 in
    let lines = bind_ok (more_at (λ front. and_line_at head.0.0.variables (inputs.0.0 ++ lhs_of front)) head.0.0.ands [] outputs.0.1) (text_ands head.0 inputs.0 outputs.0) text outputs.2 in
    let names = bind_ok (symbols_at (length lines.0.1) (replicate head.0.0.inputs None, replicate head.0.0.outputs None) lines.0.1) (text_symbols head.0 inputs.0 outputs.0 lines.0) text lines.2 in
    let one = bind_ok (known_at (inputs.0.0 ++ lhs_of lines.0.0) outputs.0.0) (text_uses head.0 inputs.0 outputs.0 lines.0 names.0) text names.2 in
    let two = bind_ok (known_at (inputs.0.0 ++ lhs_of lines.0.0) (uses_of lines.0.0)) (λ two. given (made_text head.0 inputs.0 outputs.0 lines.0 names.0)) text one.2 in
    let is = same_value (made_text head.0 inputs.0 outputs.0 lines.0 names.0) text two.2 in
    let line = head_read form.Ascii bytes head.0.0 head.0.1 head.1 in
    let a : AllRead bytes head.0.0 head.0.1 inputs.0 outputs.0 lines.0 = record { head = line; inputs = inputs.1; outputs = outputs.1; ands = lines.1; names = names.0; symbols = names.1 } in
    let here = ascii_front bytes head.0.0 head.0.1 head.0.0.inputs head.0.0.outputs 0 inputs.0 outputs.0 ([], outputs.0.1) line inputs.1 outputs.1 refl in
    let le = front_shorter head.0.0.variables head.0.0.inputs head.0.0.outputs head.0.0.ands inputs.0.0 (literals_of outputs.0.0) [] bytes outputs.0.1 here in
    let left : length outputs.0.1 ≡ text.left = ap (λ (t : Text). t.left) is in
    let at = r.offset in
    let around = subst (λ (l : List Line). IsRingOfAnds (map and_of l) r.ring) (ap (λ (t : Text). t.lines) (sym is)) r.around in (
      head.0.0.variables,
      head.0.0.inputs,
      head.0.0.outputs,
      head.0.0.ands,
      inputs.0.0,
      literals_of outputs.0.0,
      outputs.0.1,
      r.ring,
      map and_of lines.0.0,
      all_lines bytes head.0.0 head.0.1 inputs.0 outputs.0 lines.0 a,
      outputs_defined (defined_by inputs.0.0 (map and_of lines.0.0)) outputs.0.0 (ap (λ (d : List ℕ). known_at d outputs.0.0) (sym (same_definitions inputs.0.0 lines.0.0)) ∙ one.1),
      operands_defined (defined_by inputs.0.0 (map and_of lines.0.0)) lines.0.0 (ap (λ (d : List ℕ). known_at d (uses_of lines.0.0)) (sym (same_definitions inputs.0.0 lines.0.0)) ∙ two.1),
      here,
      omega arith,
      r.why,
      around,
    )

-- ---- both forms

memory_or : (bytes : List ℕ) (fault : AigerFault) → IsFileFault bytes fault → (t : Bool) → is_ascii bytes ≡ t → (fault.why ≡ why.Memory) ⊎ Breaks bytes fault.offset fault.why
memory_or bytes fault is true ascii = elim (is.0 ascii) [
  | inl memory ↦ inl memory
  | inr refused ↦ inr (elim refused [ inl (stop, text, cause, offset) ↦ lines (text_breaks bytes fault.offset fault.why stop text (cause, offset)) | inr (text, read, ring) ↦ lines (inr (inr (inr (inr (inr (inr (inr (ring_breaks bytes text fault read ring)))))))) ])
] where
  lines : BreaksAscii bytes fault.offset fault.why → Breaks bytes fault.offset fault.why
  lines breaks = (λ same. breaks, λ other. (let bad : true ≡ false = sym ascii ∙ other in absurd cc))
memory_or bytes fault is false ascii = elim (is.1 ascii) [
  | inl memory ↦ inl memory
  | inr (stop, graph, cause, offset) ↦ inr (λ other. (let bad : true ≡ false = sym other ∙ ascii in absurd cc), λ same. graph_breaks bytes fault.offset fault.why stop graph (cause, offset))
]

pub break : FaultsBreak
break bytes fault is = memory_or bytes fault is (is_ascii bytes) refl
