-- ASCII files that break, and what a reader answers.
use Rattle.std.proofs.Common.{◌≡◌, ◌∙◌, ◌+◌, ℕ, refl, ap, sym, subst, List, [], ◌∷◌, ◌++◌, length, None, Result, Err}
use Rattle.std.specs.Prelude.{replicate, map}
use Rattle.std.proofs.lemmas.Bool.{le-leb}
use Rattle.std.proofs.lemmas.List.{append-nil}
use Rattle.golden_aig.specs.declared.graph.And.{And}
use Rattle.aiger_order.specs.Listing.{defined_by}
use Rattle.aiger_order.proofs.Lists.{get_more}
use Rattle.aiger_parts.specs.declared.fault.AigerWhy.{AigerWhy}
use Rattle.aiger_parts.specs.declared.fault.Stop.{Stop}
use Rattle.aiger_parts.specs.declared.header.Form.TheVariants as form
use Rattle.aiger_parts.specs.declared.header.Header.{Header}
use Rattle.aiger_read.specs.declared.lines.Used.{Used}
use Rattle.aiger_read.specs.declared.lines.Line.{Line}
use Rattle.aiger_parts.specs.Reading.{◌>>=◌, line_end_at}
use Rattle.aiger_parts.specs.Header.{header_at}
use Rattle.aiger_parts.specs.Symbols.{symbols_at}
use Rattle.aiger_read.specs.Lines.{lhs_of, more_at, gap_at, definition_at, use_at, input_at, output_at, and_line_at}
use Rattle.aiger_read.specs.Text.{and_of, text_at}
use Rattle.aiger_read.specs.Spelling.{WritesNumber}
use Rattle.aiger_read.specs.Spelled.{IsAndLine}
use Rattle.aiger_read.specs.Broken.{new_literal, used_literal, BreaksFields, BreaksLine, AsciiFront, BreaksInInputs, BreaksInOutputLines, BreaksInAndLines, BreaksInAsciiSymbols}
use Rattle.aiger_read.proofs.WellFormed.{given, same_value}
use Rattle.aiger_read.proofs.Listings.{AreGood}
use Rattle.aiger_read.proofs.FileLines.{AllSome, lines_part}
use Rattle.aiger_read.proofs.FieldTexts.{all_some}
use Rattle.aiger_read.proofs.HeadLines.{head_written}
use Rattle.aiger_read.proofs.AsciiLines.{more_written, input_written, output_written, and_line_written, AreLow, AreNewAnds, lhs_of_all}
use Rattle.aiger_read.proofs.AsciiFiles.{join_some, ands_some, same_map, lhs_map}
use Rattle.aiger_read.proofs.BrokenAscii.{literals_of}
use Rattle.aiger_read.proofs.StopLines.{Stops, more_stops, definition_reader, use_reader, last_stops, gap_stops, StopsAt, at_as, start_stops}
use Rattle.aiger_read.proofs.StopHead.{lines_at, head_long}
use Rattle.aiger_read.proofs.StopSymbols.{symbols_stop}

-- ---- lines

input_stops : (top : ℕ) (before bytes rest : List ℕ) (offset : ℕ) (cause : AigerWhy) → BreaksLine (new_literal top before ∷ []) bytes rest offset cause → StopsAt (input_at top before rest) bytes offset cause
unfolding input_at
input_stops top before bytes rest offset cause breaks =
    start_stops (λ line. definition_at top before line >>= λ x. line_end_at x.1 >>= λ behind. given (x.0, behind)) (new_literal top before ∷ []) bytes rest offset cause
    (λ at b. last_stops (new_literal top before) (definition_at top before) (λ x behind. given {A = ℕ × List ℕ} (x.0, behind)) rest at cause (definition_reader top before) b) breaks

output_stops : (top : ℕ) (bytes rest : List ℕ) (offset : ℕ) (cause : AigerWhy) → BreaksLine (used_literal top ∷ []) bytes rest offset cause → StopsAt (output_at top rest) bytes offset cause
unfolding output_at
output_stops top bytes rest offset cause breaks =
    start_stops (λ line. use_at top line >>= λ x. line_end_at x.1 >>= λ behind. given (x.0, behind)) (used_literal top ∷ []) bytes rest offset cause
    (λ at b. last_stops (used_literal top) (use_at top) (λ x behind. given {A = Used × List ℕ} (x.0, behind)) rest at cause (use_reader top) b) breaks

made_line : ℕ → Used → Used → List ℕ → Line × List ℕ
made_line lhs rhs0 rhs1 behind = (record { lhs = lhs; rhs0 = rhs0; rhs1 = rhs1 }, behind)

abbrev second_operand : ℕ → ℕ → Used → List ℕ → Result (Line × List ℕ) Stop
second_operand top lhs rhs0 bytes = use_at top bytes >>= λ x. line_end_at x.1 >>= λ behind. given (made_line lhs rhs0 x.0 behind)

abbrev first_operand : ℕ → ℕ → List ℕ → Result (Line × List ℕ) Stop
first_operand top lhs bytes = use_at top bytes >>= λ x. gap_at x.1 >>= second_operand top lhs x.0

and_line_stops : (top : ℕ) (before bytes rest : List ℕ) (offset : ℕ) (cause : AigerWhy) → BreaksLine (new_literal top before ∷ used_literal top ∷ used_literal top ∷ []) bytes rest offset cause → StopsAt (and_line_at top before rest) bytes offset cause
unfolding and_line_at made_line
and_line_stops top before bytes rest offset cause breaks =
    start_stops (λ line. definition_at top before line >>= λ x. gap_at x.1 >>= first_operand top x.0) (new_literal top before ∷ used_literal top ∷ used_literal top ∷ []) bytes rest offset cause
    (λ at b. gap_stops (new_literal top before) (used_literal top) (used_literal top ∷ []) (definition_at top before) (λ x. first_operand top x.0) rest at cause (definition_reader top before) first b) breaks
  where
    second : (lhs : ℕ) (x : Used × List ℕ) (behind : List ℕ) (later : ℕ) → BreaksFields (used_literal top ∷ []) behind later cause → Stops (second_operand top lhs x.0 behind) behind later cause
    second lhs x behind later b = last_stops (used_literal top) (use_at top) (λ y end. given (made_line lhs x.0 y.0 end)) behind later cause (use_reader top) b

    first : (x : ℕ × List ℕ) (behind : List ℕ) (later : ℕ) → BreaksFields (used_literal top ∷ used_literal top ∷ []) behind later cause → Stops (first_operand top x.0 behind) behind later cause
    first x behind later b = gap_stops (used_literal top) (used_literal top) [] (use_at top) (λ y. second_operand top x.0 y.0) behind later cause (use_reader top) (second x.0) b

-- ---- a file up to a place

unfoldable pub header_for : ℕ → ℕ → ℕ → ℕ → Header
header_for top inputs outputs ands = record { variables = top; inputs = inputs; outputs = outputs; ands = ands }

-- What is read of a file up to a place.
pub record FrontRead (top inputs outputs ands : ℕ) (literals uses : List ℕ) (xs : List And) (bytes rest : List ℕ) : Type 0 where
  pub r0 : List ℕ
  pub r1 : List ℕ
  pub r2 : List ℕ
  pub used : List Used
  pub lines : List Line
  pub head : header_at form.Ascii bytes ≡ given (header_for top inputs outputs ands, r0)
  pub ins : more_at (input_at top) (length literals) [] r0 ≡ given (literals, r1)
  pub outs : more_at (λ front. output_at top) (length uses) [] r1 ≡ given (used, r2)
  pub gates : more_at (λ front. and_line_at top (literals ++ lhs_of front)) (length xs) [] r2 ≡ given (lines, rest)
  pub used_are : literals_of used ≡ uses
  pub lines_are : map and_of lines ≡ xs

pub front_read : (top inputs outputs ands : ℕ) (literals uses : List ℕ) (xs : List And) (bytes rest : List ℕ) → AsciiFront top inputs outputs ands literals uses xs bytes rest → FrontRead top inputs outputs ands literals uses xs bytes rest
unfolding header_for
front_read top inputs outputs ands literals uses xs bytes rest f =
    let at = lines_at (f.head ∷ f.in_texts ++ f.out_texts ++ f.and_texts) bytes rest some f.lines_are in
    let p2 = lines_part (f.head ∷ f.in_texts ++ f.out_texts) f.and_texts bytes rest at in
    let p1 = lines_part (f.head ∷ f.in_texts) f.out_texts bytes p2.0 p2.1 in
    let r0 = p1.1.0 in
    let good : AreGood top (literals ++ lhs_of_all xs) = (f.definitions, f.once) in
    let wi = more_written WritesNumber (λ (x : ℕ). x) (λ (front bs : List ℕ). AreGood top (front ++ bs)) (input_at top) (input_written top) f.in_texts literals [] r0 p1.0 (front_good good) f.input_lines p1.1.2 in
    let items : wi.items ≡ literals = same_map wi.items literals wi.same in
    let wo = more_written WritesNumber (λ (u : Used). u.literal) (λ (front : List Used) (bs : List ℕ). AreLow top bs) (λ front. output_at top) (output_written top) f.out_texts uses [] p1.0 p2.0 f.low f.output_lines p1.2 in
    let wa = more_written IsAndLine and_of (AreNewAnds top literals) (λ (front : List Line). and_line_at top (literals ++ lhs_of front)) (and_line_written top literals) f.and_texts xs [] p2.0 rest (first_ands good) f.and_lines p2.2 in
    record {
      r0 = r0;
      r1 = p1.0;
      r2 = p2.0;
      used = wo.items;
      lines = wa.items;
      head = head_written form.Ascii bytes (header_for top inputs outputs ands) r0 f.head f.head_line p1.1.1 f.limit (le-leb (inputs + ands) top f.room);
      ins = wi.is ∙ ap (λ (l : List ℕ). given (l, p1.0)) items;
      outs = wo.is;
      gates = wa.is;
      used_are = wo.same;
      lines_are = wa.same;
    }
  where
    some : AllSome (f.head ∷ f.in_texts ++ f.out_texts ++ f.and_texts)
    some =
        join_some (f.head ∷ f.in_texts ++ f.out_texts) f.and_texts
        (join_some (f.head ∷ f.in_texts) f.out_texts (head_long form.Ascii top inputs outputs ands f.head f.head_line, all_some f.in_texts literals f.input_lines) (all_some f.out_texts uses f.output_lines))
        (ands_some f.and_texts xs f.and_lines)

    front_good : AreGood top (literals ++ lhs_of_all xs) → AreGood top literals
    front_good good = (
      λ at literal is. good.0 at literal (get_more literals (lhs_of_all xs) at literal is),
      λ here there item a b. good.1 here there item (get_more literals (lhs_of_all xs) here item a) (get_more literals (lhs_of_all xs) there item b),
    )

    first_ands : AreGood top (literals ++ lhs_of_all xs) → AreNewAnds top literals [] xs
    first_ands good = (subst (λ (x : List ℕ). AreGood top (x ++ lhs_of_all xs)) (sym (append-nil literals)) good, f.low_ands)

-- the literals that are defined up to there
pub defined_there : (literals : List ℕ) (lines : List Line) (xs : List And) → map and_of lines ≡ xs → literals ++ lhs_of lines ≡ defined_by literals xs
defined_there literals lines xs e = ap (λ (l : List ℕ). literals ++ l) (lhs_map lines xs e)

no_outputs : (top : ℕ) (r1 r2 : List ℕ) (used : List Used) → more_at (λ front. output_at top) 0 [] r1 ≡ given (used, r2) → r1 ≡ r2
no_outputs top r1 r2 used e = ap (λ (p : List Used × List ℕ). p.1) (same_value ([], r1) (used, r2) e)

pub no_lines : (top : ℕ) (literals r2 rest : List ℕ) (lines : List Line) → more_at (λ front. and_line_at top (literals ++ lhs_of front)) 0 [] r2 ≡ given (lines, rest) → r2 ≡ rest
no_lines top literals r2 rest lines e = ap (λ (p : List Line × List ℕ). p.1) (same_value ([], r2) (lines, rest) e)

-- ---- the whole file

head_stop : (bytes : List ℕ) (stop : Stop) → header_at form.Ascii bytes ≡ Err stop → text_at bytes ≡ Err stop
unfolding text_at
head_stop bytes stop e = rw e refl

pub head_line_stops : (bytes : List ℕ) (offset : ℕ) (cause : AigerWhy) → StopsAt (header_at form.Ascii bytes) bytes offset cause → StopsAt (text_at bytes) bytes offset cause
head_line_stops bytes offset cause s = at_as (header_at form.Ascii bytes) (text_at bytes) bytes offset cause (head_stop bytes) s

pub inputs_stop : (bytes : List ℕ) (offset : ℕ) (cause : AigerWhy) → BreaksInInputs bytes offset cause → StopsAt (text_at bytes) bytes offset cause
unfolding text_at header_for
inputs_stop bytes offset cause (top, inputs, outputs, ands, literals, rest, front, fewer, breaks) =
    let r = front_read top inputs outputs ands literals [] [] bytes rest front in
    let head = r.head in
    let there : r.r1 ≡ rest = no_outputs top r.r1 r.r2 r.used r.outs ∙ no_lines top literals r.r2 rest r.lines r.gates in
    let ins = r.ins ∙ ap (λ (b : List ℕ). given (literals, b)) there in
    at_as (input_at top literals rest) (text_at bytes) bytes offset cause
    (λ stop e. (
    let all = more_stops (input_at top) (length literals) inputs [] r.r0 (literals, rest) stop fewer ins e in
    rw (head, all) refl
    ))
    (input_stops top literals bytes rest offset cause breaks)

-- what is read of all inputs, and of all outputs
pub all_inputs : (top inputs outputs ands : ℕ) (literals uses : List ℕ) (xs : List And) (bytes rest : List ℕ) (r : FrontRead top inputs outputs ands literals uses xs bytes rest) → length literals ≡ inputs → more_at (input_at top) inputs [] r.r0 ≡ given (literals, r.r1)
all_inputs top inputs outputs ands literals uses xs bytes rest r all = ap (λ (n : ℕ). more_at (input_at top) n [] r.r0) (sym all) ∙ r.ins

pub all_outputs : (top inputs outputs ands : ℕ) (literals uses : List ℕ) (xs : List And) (bytes rest : List ℕ) (r : FrontRead top inputs outputs ands literals uses xs bytes rest) → length uses ≡ outputs
    → more_at (λ front. output_at top) outputs [] r.r1 ≡ given (r.used, r.r2)
all_outputs top inputs outputs ands literals uses xs bytes rest r all = ap (λ (n : ℕ). more_at (λ front. output_at top) n [] r.r1) (sym all) ∙ r.outs

pub all_ands : (top inputs outputs ands : ℕ) (literals uses : List ℕ) (xs : List And) (bytes rest : List ℕ) (r : FrontRead top inputs outputs ands literals uses xs bytes rest) → length xs ≡ ands
    → more_at (λ front. and_line_at top (literals ++ lhs_of front)) ands [] r.r2 ≡ given (r.lines, rest)
all_ands top inputs outputs ands literals uses xs bytes rest r all = ap (λ (n : ℕ). more_at (λ front. and_line_at top (literals ++ lhs_of front)) n [] r.r2) (sym all) ∙ r.gates

pub output_lines_stop : (bytes : List ℕ) (offset : ℕ) (cause : AigerWhy) → BreaksInOutputLines bytes offset cause → StopsAt (text_at bytes) bytes offset cause
unfolding text_at header_for
output_lines_stop bytes offset cause (top, inputs, outputs, ands, literals, uses, rest, front, all, fewer, breaks) =
    let r = front_read top inputs outputs ands literals uses [] bytes rest front in
    let head = r.head in
    let ins = all_inputs top inputs outputs ands literals uses [] bytes rest r all in
    let outs = r.outs ∙ ap (λ (b : List ℕ). given (r.used, b)) (no_lines top literals r.r2 rest r.lines r.gates) in
    at_as (output_at top rest) (text_at bytes) bytes offset cause
    (λ stop e. (
    let bad = more_stops (λ (front : List Used). output_at top) (length uses) outputs [] r.r1 (r.used, rest) stop fewer outs e in
    rw (head, ins, bad) refl
    ))
    (output_stops top bytes rest offset cause breaks)

pub and_lines_stop : (bytes : List ℕ) (offset : ℕ) (cause : AigerWhy) → BreaksInAndLines bytes offset cause → StopsAt (text_at bytes) bytes offset cause
unfolding text_at header_for
and_lines_stop bytes offset cause (top, inputs, outputs, ands, literals, uses, rest, xs, front, all, every, fewer, breaks) =
    let r = front_read top inputs outputs ands literals uses xs bytes rest front in
    let head = r.head in
    let ins = all_inputs top inputs outputs ands literals uses xs bytes rest r all in
    let outs = all_outputs top inputs outputs ands literals uses xs bytes rest r every in
    let defined = defined_there literals r.lines xs r.lines_are in
    at_as (and_line_at top (defined_by literals xs) rest) (text_at bytes) bytes offset cause
    (λ stop e. (
    let bad = more_stops (λ (front : List Line). and_line_at top (literals ++ lhs_of front)) (length xs) ands [] r.r2 (r.lines, rest) stop fewer r.gates (ap (λ (d : List ℕ). and_line_at top d rest) defined ∙ e) in
    rw (head, ins, outs, bad) refl
    ))
    (and_line_stops top (defined_by literals xs) bytes rest offset cause breaks)

pub names_stop : (bytes : List ℕ) (offset : ℕ) (cause : AigerWhy) → BreaksInAsciiSymbols bytes offset cause → StopsAt (text_at bytes) bytes offset cause
unfolding text_at header_for
names_stop bytes offset cause (top, inputs, outputs, ands, literals, uses, rest, xs, front, all, every, each, breaks) =
    let r = front_read top inputs outputs ands literals uses xs bytes rest front in
    let head = r.head in
    let ins = all_inputs top inputs outputs ands literals uses xs bytes rest r all in
    let outs = all_outputs top inputs outputs ands literals uses xs bytes rest r every in
    let gates = all_ands top inputs outputs ands literals uses xs bytes rest r each in
    at_as (symbols_at (length rest) (replicate inputs None, replicate outputs None) rest) (text_at bytes) bytes offset cause (λ stop e. rw (head, ins, outs, gates, e) refl) (symbols_stop inputs outputs bytes rest offset cause breaks)
