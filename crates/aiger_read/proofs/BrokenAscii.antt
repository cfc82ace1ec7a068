-- ASCII files that break, from what a reader answers.
use Rattle.std.proofs.Common.{◌≡◌, ◌≢◌, ◌∙◌, inl, inr, ◌≤◌, ◌+◌, ◌*◌, ◌%◌, ◌==◌, ℕ, Bool, true, false, cond, refl, ap, sym, subst, arith, List, [], ◌∷◌, ◌++◌, length, length-append, Some, Result, Ok, Err}
use Rattle.std.specs.Prelude.{nat_lt, slice_get, map}
use Rattle.std.specs.List.{AllZip}
use Rattle.std.proofs.lemmas.Bool.{ltb-true, leb-true}
use Rattle.golden_aig.specs.declared.graph.And.{And}
use Rattle.aiger_order.specs.Listing.{IsDefinition}
use Rattle.aiger_parts.specs.declared.fault.AigerWhy.{AigerWhy}
use Rattle.aiger_parts.specs.declared.fault.AigerWhy.TheVariants as why
use Rattle.aiger_parts.specs.declared.fault.Stop.{Stop}
use Rattle.aiger_parts.specs.declared.header.Form.TheVariants as form
use Rattle.aiger_parts.specs.declared.header.Header.{Header}
use Rattle.aiger_read.specs.declared.lines.Used.{Used}
use Rattle.aiger_read.specs.declared.lines.Line.{Line}
use Rattle.aiger_parts.specs.Reading.{◌>>=◌, fault, number_at, line_end_at}
use Rattle.aiger_read.specs.Lines.{is_in, is_out, lhs_of, more_at, start_at, gap_at, definition_at, use_at, input_at, output_at, and_line_at}
use Rattle.aiger_read.specs.Text.{and_of}
use Rattle.aiger_read.specs.Spelling.{WritesNumber}
use Rattle.aiger_read.specs.Spelled.{in_lines, IsAndLine}
use Rattle.aiger_read.specs.Broken.{Kind, new_literal, used_literal, AreLines, AsciiFront, BreaksInInputs, BreaksInOutputLines, BreaksInAndLines}
use Rattle.aiger_read.proofs.WellFormed.{given, same_value, unless_ok}
use Rattle.aiger_read.proofs.Marks.{not_out}
use Rattle.aiger_read.proofs.Listings.{IsNew, AreGood, definition_new, use_inside, new_definition, in_at, at_in, inputs_good, lines_are_good, outputs_inside, lines_inside, more_many, fused, unmapped}
use Rattle.aiger_read.proofs.FileLines.{lines_join, written}
use Rattle.aiger_read.proofs.FieldTexts.{number_read}
use Rattle.aiger_read.proofs.HeadLines.{HeadAt}
use Rattle.aiger_read.proofs.AsciiLines.{definition_number, use_number, gap_read, more_read, input_read, output_read, and_line_read, WritesUse, WritesLine}
use Rattle.aiger_read.proofs.AsciiFiles.{zip_map, length_map}
use Rattle.aiger_read.proofs.BrokenLines.{failed, same_stop, bind_err, unless_err, no_stop, more_err, no_number, wrong_number, FieldStop, FieldsStop, field_first, IsRight, field_end, field_gap, field_more, LineStop, end_stop, some_rest, IsPlace, line_breaks}
use Rattle.aiger_read.proofs.BrokenBinary.{used_right}

-- ---- literals

pub out_none : (top n : ℕ) → is_out top n ≡ true → IsDefinition top n → ⊥
out_none top n out (variable, is, low, high) = (
    let even : n % 2 ≢ 1 = λ e. absurd (omega arith) in
    let inside = not_out top n (omega arith) even (omega arith) in
    absurd cc
    )

definition_bad : (top : ℕ) (before bytes : List ℕ) (stop : Stop) → definition_at top before bytes ≡ Err stop → FieldStop (new_literal top before) bytes stop
unfolding definition_at
definition_bad top before bytes stop e = elim (bind_err (number_at bytes) number stop e) [
  | inl bad ↦ no_number (new_literal top before) bytes stop bad
  | inr (x, is, more) ↦ elim (bind_err (cond (is_out top x.0) (Err (fault (why.Range x.0) bytes)) (Ok x)) old stop more) [
    | inl bad ↦ elim (unless_err (is_out top x.0) (fault (why.Range x.0) bytes) (Ok x) stop bad) [
      | inl (out, same) ↦ wrong_number (new_literal top before) bytes stop x (why.Range x.0) is same (inl (refl, out_none top x.0 out))
      | inr (inside, good) ↦ absurd (no_stop x stop good)
    ]
    | inr (y, good, last) ↦ again x y is (unless_ok (is_out top x.0) (fault (why.Range x.0) bytes) (Ok x) y good) last
  ]
] where
  old : ℕ × List ℕ → Result (ℕ × List ℕ) Stop
  old y = cond (is_in before y.0) (Err (fault (why.Defined y.0) bytes)) (Ok (y.0, y.1))

  number : ℕ × List ℕ → Result (ℕ × List ℕ) Stop
  number x = cond (is_out top x.0) (Err (fault (why.Range x.0) bytes)) (Ok x) >>= old

  again : (x y : ℕ × List ℕ) → number_at bytes ≡ Ok x → (is_out top x.0 ≡ false) × (given x ≡ given y) → old y ≡ failed stop → FieldStop (new_literal top before) bytes stop
  again x y is (inside, same) h =
      let xy : x ≡ y = same_value x y same in
      let value : x.0 ≡ y.0 = ap (λ (p : ℕ × List ℕ). p.0) xy in
      elim (unless_err (is_in before y.0) (fault (why.Defined y.0) bytes) (given (y.0, y.1)) stop h) [
        | inl (there, stopped) ↦ (
            let at = at_in before y.0 there in
            wrong_number (new_literal top before) bytes stop y (why.Defined y.0) (is ∙ ap given xy) stopped (inr (refl, new_definition top y.0 (ap (is_out top) (sym value) ∙ inside), at.0, at.1))
            )
        | inr (new, good) ↦ absurd (no_stop {A = ℕ × List ℕ} (y.0, y.1) stop good)
      ]

new_right : (top : ℕ) (before : List ℕ) (n : ℕ) → IsNew top before n → IsRight (new_literal top before) n
new_right top before n new cause (inl wrong) = wrong.1 (new_definition top n new.0)
new_right top before n new cause (inr wrong) = let bad : true ≡ false = sym (in_at before wrong.2 n wrong.3) ∙ new.1 in absurd cc

use_bad : (top : ℕ) (bytes : List ℕ) (stop : Stop) → use_at top bytes ≡ Err stop → FieldStop (used_literal top) bytes stop
unfolding use_at
use_bad top bytes stop e = elim (bind_err (number_at bytes) number stop e) [
  | inl bad ↦ no_number (used_literal top) bytes stop bad
  | inr (x, is, more) ↦ elim (unless_err (nat_lt (2 * top + 1) x.0) (fault (why.Range x.0) bytes) (given (made x)) stop more) [
    | inl (high, same) ↦ wrong_number (used_literal top) bytes stop x (why.Range x.0) is same (refl, ltb-true (2 * top + 1) x.0 high)
    | inr (low, good) ↦ absurd (no_stop (made x) stop good)
  ]
] where
  made : ℕ × List ℕ → Used × List ℕ
  made x = (record { literal = x.0; left = length bytes }, x.1)

  number : ℕ × List ℕ → Result (Used × List ℕ) Stop
  number x = cond (nat_lt (2 * top + 1) x.0) (Err (fault (why.Range x.0) bytes)) (Ok (made x))

low_use : (top : ℕ) (bytes : List ℕ) (x : Used × List ℕ) → use_at top bytes ≡ Ok x → IsRight (used_literal top) x.0.literal
low_use top bytes x e = (let half = use_inside top bytes x e in used_right top x.0.literal (omega arith))

-- ---- lines

start_bad : {A : Type 0} (line : List ℕ → Result A Stop) (kinds : List Kind) (bytes : List ℕ) (stop : Stop) → (line bytes ≡ Err stop → FieldsStop kinds bytes stop) → (start_at bytes >>= line) ≡ Err stop → LineStop kinds bytes stop
start_bad {A} line kinds bytes stop fields e = go (length bytes == 0) refl e where
  go : (t : Bool) → (length bytes == 0) ≡ t → (cond t (Err (fault why.Truncated [])) (Ok bytes) >>= line) ≡ failed {A = A} stop → LineStop kinds bytes stop
  go true is h = inl (end_stop bytes stop is (same_stop {A = A} (fault why.Truncated []) stop h))
  go false is h = inr (some_rest bytes is, fields h)

-- the last literal of a line
last_bad : {A : Type 0} (top : ℕ) (end : Used × List ℕ → List ℕ → A) (bytes : List ℕ) (stop : Stop) → (use_at top bytes >>= λ x. line_end_at x.1 >>= λ behind. given (end x behind)) ≡ failed stop → FieldsStop (used_literal top ∷ []) bytes stop
last_bad {A} top end bytes stop e = elim (bind_err (use_at top bytes) (λ x. line_end_at x.1 >>= λ behind. given (end x behind)) stop e) [
  | inl bad ↦ field_first (used_literal top) [] bytes stop (use_bad top bytes stop bad)
  | inr (x, is, more) ↦ elim (bind_err (line_end_at x.1) (λ behind. given (end x behind)) stop more) [
    | inl bad ↦ field_end (used_literal top) bytes x.0.literal x.1 stop (number_read bytes x.0.literal x.1 (use_number top bytes x is)) (low_use top bytes x is) bad
    | inr (behind, good, none) ↦ absurd (no_stop (end x behind) stop none)
  ]
]

abbrev number_end : ℕ × List ℕ → List ℕ → ℕ × List ℕ
number_end x behind = (x.0, behind)

abbrev behind_definition : ℕ × List ℕ → Result (ℕ × List ℕ) Stop
behind_definition x = line_end_at x.1 >>= λ behind. given (number_end x behind)

input_fields : (top : ℕ) (before bytes : List ℕ) (stop : Stop) → (definition_at top before bytes >>= behind_definition) ≡ Err stop → FieldsStop (new_literal top before ∷ []) bytes stop
input_fields top before bytes stop e = elim (bind_err (definition_at top before bytes) behind_definition stop e) [
  | inl bad ↦ field_first (new_literal top before) [] bytes stop (definition_bad top before bytes stop bad)
  | inr (x, is, more) ↦ elim (bind_err (line_end_at x.1) (λ behind. given (number_end x behind)) stop more) [
    | inl bad ↦ field_end (new_literal top before) bytes x.0 x.1 stop (number_read bytes x.0 x.1 (definition_number top before bytes x is)) (new_right top before x.0 (definition_new top before bytes x is)) bad
    | inr (behind, good, none) ↦ absurd (no_stop (number_end x behind) stop none)
  ]
]

input_bad : (top : ℕ) (before bytes : List ℕ) (stop : Stop) → input_at top before bytes ≡ Err stop → LineStop (new_literal top before ∷ []) bytes stop
unfolding input_at
input_bad top before bytes stop e = start_bad (λ line. definition_at top before line >>= behind_definition) (new_literal top before ∷ []) bytes stop (input_fields top before bytes stop) e

abbrev used_end : Used × List ℕ → List ℕ → Used × List ℕ
used_end x behind = (x.0, behind)

output_bad : (top : ℕ) (bytes : List ℕ) (stop : Stop) → output_at top bytes ≡ Err stop → LineStop (used_literal top ∷ []) bytes stop
unfolding output_at
output_bad top bytes stop e = start_bad (λ line. use_at top line >>= λ x. line_end_at x.1 >>= λ behind. given (used_end x behind)) (used_literal top ∷ []) bytes stop (last_bad top used_end bytes stop) e

made_line : ℕ → Used → Used × List ℕ → List ℕ → Line × List ℕ
made_line lhs rhs0 rhs1 behind = (record { lhs = lhs; rhs0 = rhs0; rhs1 = rhs1.0 }, behind)

abbrev second_operand : ℕ → ℕ → Used → List ℕ → Result (Line × List ℕ) Stop
second_operand top lhs rhs0 bytes = use_at top bytes >>= λ x. line_end_at x.1 >>= λ behind. given (made_line lhs rhs0 x behind)

abbrev first_operand : ℕ → ℕ → List ℕ → Result (Line × List ℕ) Stop
first_operand top lhs bytes = use_at top bytes >>= λ x. gap_at x.1 >>= second_operand top lhs x.0

abbrev whole_line : ℕ → List ℕ → List ℕ → Result (Line × List ℕ) Stop
whole_line top before bytes = definition_at top before bytes >>= λ x. gap_at x.1 >>= first_operand top x.0

operands_bad : (top lhs : ℕ) (bytes : List ℕ) (stop : Stop) → first_operand top lhs bytes ≡ Err stop → FieldsStop (used_literal top ∷ used_literal top ∷ []) bytes stop
operands_bad top lhs bytes stop e = elim (bind_err (use_at top bytes) (λ x. gap_at x.1 >>= second_operand top lhs x.0) stop e) [
  | inl bad ↦ field_first (used_literal top) (used_literal top ∷ []) bytes stop (use_bad top bytes stop bad)
  | inr (x, is, more) ↦ (
      let f = number_read bytes x.0.literal x.1 (use_number top bytes x is) in
      let right = low_use top bytes x is in
      elim (bind_err (gap_at x.1) (second_operand top lhs x.0) stop more) [
        | inl bad ↦ field_gap (used_literal top) (used_literal top) [] bytes x.0.literal x.1 stop f right bad
        | inr (rest, gap, last) ↦ field_more (used_literal top) (used_literal top) [] bytes x.0.literal x.1 rest stop f right (gap_read x.1 rest gap) (last_bad top (made_line lhs x.0) rest stop last)
      ]
      )
]

line_fields : (top : ℕ) (before bytes : List ℕ) (stop : Stop) → whole_line top before bytes ≡ Err stop → FieldsStop (new_literal top before ∷ used_literal top ∷ used_literal top ∷ []) bytes stop
line_fields top before bytes stop e = elim (bind_err (definition_at top before bytes) (λ x. gap_at x.1 >>= first_operand top x.0) stop e) [
  | inl bad ↦ field_first (new_literal top before) (used_literal top ∷ used_literal top ∷ []) bytes stop (definition_bad top before bytes stop bad)
  | inr (x, is, more) ↦ (
      let f = number_read bytes x.0 x.1 (definition_number top before bytes x is) in
      let right = new_right top before x.0 (definition_new top before bytes x is) in
      elim (bind_err (gap_at x.1) (first_operand top x.0) stop more) [
        | inl bad ↦ field_gap (new_literal top before) (used_literal top) (used_literal top ∷ []) bytes x.0 x.1 stop f right bad
        | inr (rest, gap, last) ↦ field_more (new_literal top before) (used_literal top) (used_literal top ∷ []) bytes x.0 x.1 rest stop f right (gap_read x.1 rest gap) (operands_bad top x.0 rest stop last)
      ]
      )
]

and_line_bad : (top : ℕ) (before bytes : List ℕ) (stop : Stop) → and_line_at top before bytes ≡ Err stop → LineStop (new_literal top before ∷ used_literal top ∷ used_literal top ∷ []) bytes stop
unfolding and_line_at made_line
and_line_bad top before bytes stop e = start_bad (whole_line top before) (new_literal top before ∷ used_literal top ∷ used_literal top ∷ []) bytes stop (line_fields top before bytes stop) e

-- ---- what is before

abbrev pub literals_of : List Used → List ℕ
literals_of used = map (λ u. u.literal) used

low_outputs : (top count : ℕ) (bytes : List ℕ) (xs : List Used × List ℕ) → more_at (λ front. output_at top) count [] bytes ≡ Ok xs → (at literal : ℕ) → slice_get (literals_of xs.0) at ≡ Some literal → literal ≤ 2 * top + 1
low_outputs top count bytes xs e at literal is =
    let from = unmapped (λ (u : Used). u.literal) xs.0 at literal is in
    let half = outputs_inside top count bytes xs e at from.0 from.1 in
    let same = from.2 in
    omega arith

low_lines : (top count : ℕ) (inputs bytes : List ℕ) (xs : List Line × List ℕ) → more_at (λ front. and_line_at top (inputs ++ lhs_of front)) count [] bytes ≡ Ok xs → (at : ℕ) (one : And) → slice_get (map and_of xs.0) at ≡ Some one → (one.rhs0 ≤ 2 * top + 1) × (one.rhs1 ≤ 2 * top + 1)
low_lines top count inputs bytes xs e at one is =
    let from = unmapped and_of xs.0 at one is in
    let half = lines_inside top count inputs bytes xs e at from.0 from.1 in
    let first = half.0 in
    let second = half.1 in
    subst (λ (a : And). (a.rhs0 ≤ 2 * top + 1) × (a.rhs1 ≤ 2 * top + 1)) from.2 (omega arith, omega arith)

pub ascii_front : (bytes : List ℕ) (h : Header) (r0 : List ℕ) (ci co ca : ℕ) (ins : List ℕ × List ℕ) (outs : List Used × List ℕ) (lines : List Line × List ℕ) → HeadAt form.Ascii h bytes r0 → more_at (input_at h.variables) ci [] r0 ≡ given ins
    → more_at (λ front. output_at h.variables) co [] ins.1 ≡ given outs → more_at (λ front. and_line_at h.variables (ins.0 ++ lhs_of front)) ca [] outs.1 ≡ given lines
    → AsciiFront h.variables h.inputs h.outputs h.ands ins.0 (literals_of outs.0) (map and_of lines.0) bytes lines.1
ascii_front bytes h r0 ci co ca ins outs lines head inputs outputs ands =
    let ri = more_read WritesNumber (input_at h.variables) (input_read h.variables) ci [] r0 ins inputs in
    let ro = more_read WritesUse (λ front. output_at h.variables) (output_read h.variables) co [] ins.1 outs outputs in
    let ra = more_read WritesLine (λ (front : List Line). and_line_at h.variables (ins.0 ++ lhs_of front)) (and_line_read h.variables ins.0) ca [] outs.1 lines ands in
    let good = lines_are_good h.variables ca ins.0 outs.1 lines (inputs_good h.variables ci r0 ins inputs) ands in
    let all : AreGood h.variables (ins.0 ++ map (λ (one : And). one.lhs) (map and_of lines.0)) = subst (λ (l : List ℕ). AreGood h.variables (ins.0 ++ l)) (sym (fused lines.0)) good in
    record {
      head = head.line;
      head_line = head.is;
      limit = head.limit;
      room = leb-true (h.inputs + h.ands) h.variables head.fits;
      in_texts = ri.lines;
      out_texts = ro.lines;
      and_texts = ra.lines;
      input_lines = subst (AllZip WritesNumber ri.lines) (sym ri.are) ri.write;
      output_lines = zip_map WritesNumber (λ (u : Used). u.literal) ro.lines outs.0 (subst (AllZip WritesUse ro.lines) (sym ro.are) ro.write);
      and_lines = zip_map IsAndLine and_of ra.lines lines.0 (subst (AllZip WritesLine ra.lines) (sym ra.are) ra.write);
      definitions = all.0;
      once = all.1;
      low = low_outputs h.variables co ins.1 outs outputs;
      low_ands = low_lines h.variables ca ins.0 outs.1 lines ands;
      lines_are = written (head.line ∷ ri.lines ++ ro.lines ++ ra.lines) bytes lines.1 (r0, head.at, lines_join (ri.lines ++ ro.lines) ra.lines r0 outs.1 lines.1 (lines_join ri.lines ro.lines r0 ins.1 outs.1 ri.at ro.at) ra.at);
    }

pub left_shorter : (lines : List (List ℕ)) (bytes rest : List ℕ) → AreLines lines bytes rest → length rest ≤ length bytes
left_shorter lines bytes rest (inl is) = (let long : length bytes ≡ length (in_lines lines) + length rest = ap length is ∙ length-append (in_lines lines) rest in omega arith)
left_shorter lines bytes rest (inr (short, none)) = (let same = ap length none in omega arith)

pub front_shorter : (top inputs outputs ands : ℕ) (literals uses : List ℕ) (xs : List And) (bytes rest : List ℕ) → AsciiFront top inputs outputs ands literals uses xs bytes rest → length rest ≤ length bytes
front_shorter top inputs outputs ands literals uses xs bytes rest f = left_shorter (f.head ∷ f.in_texts ++ f.out_texts ++ f.and_texts) bytes rest f.lines_are

-- ---- the lines in turn

pub number_of_inputs : (top count : ℕ) (bytes : List ℕ) (xs : List ℕ × List ℕ) → more_at (input_at top) count [] bytes ≡ given xs → length xs.0 ≡ count
number_of_inputs top count bytes xs e = (let many = more_many (input_at top) count [] bytes xs e in omega arith)

pub number_of_outputs : (top count : ℕ) (bytes : List ℕ) (xs : List Used × List ℕ) → more_at (λ front. output_at top) count [] bytes ≡ given xs → length (literals_of xs.0) ≡ count
number_of_outputs top count bytes xs e = (let many = more_many (λ front. output_at top) count [] bytes xs e in length_map (λ (u : Used). u.literal) xs.0 ∙ omega arith)

pub number_of_lines : (top count : ℕ) (inputs bytes : List ℕ) (xs : List Line × List ℕ) → more_at (λ front. and_line_at top (inputs ++ lhs_of front)) count [] bytes ≡ given xs → length (map and_of xs.0) ≡ count
number_of_lines top count inputs bytes xs e = (let many = more_many (λ front. and_line_at top (inputs ++ lhs_of front)) count [] bytes xs e in length_map and_of xs.0 ∙ omega arith)

pub inputs_break : (bytes : List ℕ) (h : Header) (r0 : List ℕ) (offset : ℕ) (cause : AigerWhy) (stop : Stop) → HeadAt form.Ascii h bytes r0 → more_at (input_at h.variables) h.inputs [] r0 ≡ Err stop → IsPlace bytes offset cause stop → BreaksInInputs bytes offset cause
inputs_break bytes h r0 offset cause stop head e place =
    let m = more_err (input_at h.variables) h.inputs [] r0 stop e in
    let many = number_of_inputs h.variables m.number r0 m.xs m.good in
    let fewer = m.fewer in
    let front = ascii_front bytes h r0 m.number 0 0 m.xs ([], m.xs.1) ([], m.xs.1) head m.good refl refl in
    let le = front_shorter h.variables h.inputs h.outputs h.ands m.xs.0 [] [] bytes m.xs.1 front in
    (h.variables, h.inputs, h.outputs, h.ands, m.xs.0, m.xs.1, front, omega arith, line_breaks (new_literal h.variables m.xs.0 ∷ []) bytes m.xs.1 offset cause stop le place (input_bad h.variables m.xs.0 m.xs.1 stop m.bad))

pub output_lines_break : (bytes : List ℕ) (h : Header) (r0 : List ℕ) (ins : List ℕ × List ℕ) (offset : ℕ) (cause : AigerWhy) (stop : Stop) → HeadAt form.Ascii h bytes r0 → more_at (input_at h.variables) h.inputs [] r0 ≡ given ins
    → more_at (λ front. output_at h.variables) h.outputs [] ins.1 ≡ Err stop → IsPlace bytes offset cause stop → BreaksInOutputLines bytes offset cause
output_lines_break bytes h r0 ins offset cause stop head inputs e place =
    let m = more_err (λ front. output_at h.variables) h.outputs [] ins.1 stop e in
    let many = number_of_outputs h.variables m.number ins.1 m.xs m.good in
    let fewer = m.fewer in
    let front = ascii_front bytes h r0 h.inputs m.number 0 ins m.xs ([], m.xs.1) head inputs m.good refl in
    let le = front_shorter h.variables h.inputs h.outputs h.ands ins.0 (literals_of m.xs.0) [] bytes m.xs.1 front in (
      h.variables,
      h.inputs,
      h.outputs,
      h.ands,
      ins.0,
      literals_of m.xs.0,
      m.xs.1,
      front,
      number_of_inputs h.variables h.inputs r0 ins inputs,
      omega arith,
      line_breaks (used_literal h.variables ∷ []) bytes m.xs.1 offset cause stop le place (output_bad h.variables m.xs.1 stop m.bad),
    )

pub and_lines_break : (bytes : List ℕ) (h : Header) (r0 : List ℕ) (ins : List ℕ × List ℕ) (outs : List Used × List ℕ) (offset : ℕ) (cause : AigerWhy) (stop : Stop) → HeadAt form.Ascii h bytes r0 → more_at (input_at h.variables) h.inputs [] r0 ≡ given ins
    → more_at (λ front. output_at h.variables) h.outputs [] ins.1 ≡ given outs → more_at (λ front. and_line_at h.variables (ins.0 ++ lhs_of front)) h.ands [] outs.1 ≡ Err stop → IsPlace bytes offset cause stop → BreaksInAndLines bytes offset cause
and_lines_break bytes h r0 ins outs offset cause stop head inputs outputs e place =
    let m = more_err (λ (front : List Line). and_line_at h.variables (ins.0 ++ lhs_of front)) h.ands [] outs.1 stop e in
    let many = number_of_lines h.variables m.number ins.0 outs.1 m.xs m.good in
    let fewer = m.fewer in
    let front = ascii_front bytes h r0 h.inputs h.outputs m.number ins outs m.xs head inputs outputs m.good in
    let le = front_shorter h.variables h.inputs h.outputs h.ands ins.0 (literals_of outs.0) (map and_of m.xs.0) bytes m.xs.1 front in
    let before : ins.0 ++ map (λ (one : And). one.lhs) (map and_of m.xs.0) ≡ ins.0 ++ lhs_of m.xs.0 = ap (λ (l : List ℕ). ins.0 ++ l) (fused m.xs.0) in
    let bad = and_line_bad h.variables (ins.0 ++ map (λ (one : And). one.lhs) (map and_of m.xs.0)) m.xs.1 stop (ap (λ (l : List ℕ). and_line_at h.variables l m.xs.1) before ∙ m.bad) in (
      h.variables,
      h.inputs,
      h.outputs,
      h.ands,
      ins.0,
      literals_of outs.0,
      m.xs.1,
      map and_of m.xs.0,
      front,
      number_of_inputs h.variables h.inputs r0 ins inputs,
      number_of_outputs h.variables h.outputs ins.1 outs outputs,
      omega arith,
      line_breaks (new_literal h.variables (ins.0 ++ map (λ (one : And). one.lhs) (map and_of m.xs.0)) ∷ used_literal h.variables ∷ used_literal h.variables ∷ []) bytes m.xs.1 offset cause stop le place bad,
    )
