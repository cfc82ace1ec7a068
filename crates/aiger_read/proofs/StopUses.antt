-- Literals that nothing defines, and rings, and what a reader answers.
use Rattle.std.proofs.Common.{◌≡◌, ◌∙◌, inl, inr, ◌<◌, ◌+◌, ℕ, Bool, true, false, cond, suc, refl, ap, sym, subst, arith, List, [], ◌∷◌, ◌++◌, length, length-append, drop, None, Ok, Err}
use Rattle.std.specs.Prelude.{slice_get, map, replicate}
use Rattle.golden_aig.specs.declared.graph.And.{And}
use Rattle.aiger_order.specs.Listing.{IsDefined, defined_by}
use Rattle.aiger_order.specs.Ring.{IsRingOfAnds}
use Rattle.aiger_order.proofs.Lists.{get_behind}
use Rattle.aiger_order.proofs.Renamings.{no_graph}
use Rattle.aiger_parts.specs.declared.fault.AigerWhy.{AigerWhy}
use Rattle.aiger_parts.specs.declared.fault.AigerWhy.TheVariants as why
use Rattle.aiger_parts.specs.declared.fault.Stop.{Stop}
use Rattle.aiger_parts.specs.declared.header.Header.{Header}
use Rattle.aiger_read.specs.declared.lines.Used.{Used}
use Rattle.aiger_read.specs.declared.lines.Line.{Line}
use Rattle.aiger_read.specs.declared.text.Text.{Text}
use Rattle.aiger_parts.specs.Reading.{number_at}
use Rattle.aiger_parts.specs.Symbols.{Entries, symbols_at}
use Rattle.aiger_read.specs.Lines.{lhs_of, more_at, input_at, output_at, and_line_at}
use Rattle.aiger_read.specs.Text.{is_known, use_known_at, known_at, uses_of, and_of, listing_of, text_at, IsRingFault}
use Rattle.aiger_read.specs.Spelling.{WritesNumber}
use Rattle.aiger_read.specs.Spelled.{IsAndLine}
use Rattle.aiger_read.specs.Broken.{HasAllLines, AreDefined, AreDefinedAnds, MissesOperand, BreaksInOutputUse, BreaksInOperand, BreaksInRing}
use Rattle.aiger_read.proofs.WellFormed.{given, same_value}
use Rattle.aiger_read.proofs.Listings.{used_defined}
use Rattle.aiger_read.proofs.FieldTexts.{FieldAt, number_written}
use Rattle.aiger_read.proofs.AsciiLines.{three_parts}
use Rattle.aiger_read.proofs.AsciiFiles.{known, all_known, uses_known}
use Rattle.aiger_read.proofs.BrokenLines.{failed}
use Rattle.aiger_read.proofs.BrokenAscii.{literals_of}
use Rattle.aiger_read.proofs.BrokenUses.{undefined_stop, OneOf, one_of, one_at, map_append, LineFields, line_fields_of, output_field}
use Rattle.aiger_read.proofs.StopLines.{bind_stop, bind_given, StopsAt}
use Rattle.aiger_read.proofs.StopSymbols.{symbols_given}
use Rattle.aiger_read.proofs.StopAscii.{header_for, FrontRead, front_read, defined_there, no_lines, all_inputs, all_outputs, all_ands}

-- ---- the first literal that nothing defines

use_unknown : (definitions : List ℕ) (used : Used) → (IsDefined definitions used.literal → ⊥) → use_known_at definitions used ≡ Err (undefined_stop used)
unfolding undefined_stop
use_unknown definitions used none = go (is_known definitions used.literal) (λ e. none (used_defined definitions used e)) where
  go : (t : Bool) → (cond t (Ok tt) (Err (record { left = used.left; why = why.Undefined used.literal })) ≡ given {A = Unit {0}} tt → ⊥)
      → cond t (Ok tt) (Err (record { left = used.left; why = why.Undefined used.literal })) ≡ failed {A = Unit {0}} (record { left = used.left; why = why.Undefined used.literal })
  go true bad = absurd (bad refl)
  go false bad = refl

known_stops : (definitions : List ℕ) (before : List Used) (used : Used) (later : List Used) → AreDefined definitions (literals_of before) → (IsDefined definitions used.literal → ⊥) → known_at definitions (before ++ used ∷ later) ≡ Err (undefined_stop used)
known_stops definitions [] used later good none = bind_stop (use_known_at definitions used) (λ _. known_at definitions later) (undefined_stop used) (use_unknown definitions used none)
known_stops definitions (u ∷ before) used later good none =
    bind_given (use_known_at definitions u) (λ _. known_at definitions (before ++ used ∷ later)) tt (Err (undefined_stop used)) (known definitions u (good 0 u.literal refl))
    (known_stops definitions before used later (λ at literal is. good (suc at) literal is) none)

-- what stands behind lines whose operands are defined
lines_known : (definitions : List ℕ) (before : List Line) (line : Line) (later : List Line) (stop : Stop) → AreDefinedAnds definitions (map and_of before) → known_at definitions (line.rhs0 ∷ line.rhs1 ∷ uses_of later) ≡ Err stop → known_at definitions (uses_of (before ++ line ∷ later)) ≡ Err stop
lines_known definitions [] line later stop good e = e
lines_known definitions (l ∷ before) line later stop good e =
    let both = good 0 (and_of l) refl in
    let more = lines_known definitions before line later stop (λ at one is. good (suc at) one is) e in
    rw (known definitions l.rhs0 both.0, known definitions l.rhs1 both.1) more

first_missing : (definitions : List ℕ) (line : Line) (later : List Line) → (IsDefined definitions line.rhs0.literal → ⊥) → known_at definitions (line.rhs0 ∷ line.rhs1 ∷ uses_of later) ≡ Err (undefined_stop line.rhs0)
first_missing definitions line later none = bind_stop (use_known_at definitions line.rhs0) (λ _. known_at definitions (line.rhs1 ∷ uses_of later)) (undefined_stop line.rhs0) (use_unknown definitions line.rhs0 none)

second_missing : (definitions : List ℕ) (line : Line) (later : List Line) → IsDefined definitions line.rhs0.literal → (IsDefined definitions line.rhs1.literal → ⊥) → known_at definitions (line.rhs0 ∷ line.rhs1 ∷ uses_of later) ≡ Err (undefined_stop line.rhs1)
second_missing definitions line later one none =
    bind_given (use_known_at definitions line.rhs0) (λ _. known_at definitions (line.rhs1 ∷ uses_of later)) tt (Err (undefined_stop line.rhs1)) (known definitions line.rhs0 one)
    (bind_stop (use_known_at definitions line.rhs1) (λ _. known_at definitions (uses_of later)) (undefined_stop line.rhs1) (use_unknown definitions line.rhs1 none))

-- ---- where the operands of a line stand

number_pair : ℕ → List ℕ → ℕ × List ℕ
number_pair n rest = (n, rest)

same_tail : (bytes field tail rest : List ℕ) (n m : ℕ) → FieldAt bytes n tail → bytes ≡ field ++ 32 ∷ rest → WritesNumber field m → tail ≡ 32 ∷ rest
unfolding number_pair
same_tail bytes field tail rest n m f parts w =
    let one : number_at bytes ≡ given (number_pair n tail) = ap number_at f.parts ∙ number_written f.field tail n f.writes f.stops in
    let two : number_at bytes ≡ given (number_pair m (32 ∷ rest)) = ap number_at parts ∙ number_written field (32 ∷ rest) m w refl in
    ap (λ (p : ℕ × List ℕ). p.1) (same_value (number_pair n tail) (number_pair m (32 ∷ rest)) (sym one ∙ two))

record OperandPlaces (bytes : List ℕ) (line : Line) (lhs rhs0 : ℕ) : Type 0 where
  first : line.rhs0.left + (lhs + 1) ≡ length bytes
  second : line.rhs1.left + (lhs + 1 + rhs0 + 1) ≡ length bytes

operand_places : (bytes text tail : List ℕ) (line : Line) (one : And) (w : IsAndLine text one) → LineFields bytes line → bytes ≡ text ++ tail → OperandPlaces bytes line (length w.lhs) (length w.rhs0)
operand_places bytes text tail line one w f parts =
    let b2 = w.rhs1 ++ tail in
    let b1 = w.rhs0 ++ 32 ∷ b2 in
    let whole : bytes ≡ w.lhs ++ 32 ∷ b1 = parts ∙ ap (λ (t : List ℕ). t ++ tail) w.line_is ∙ three_parts w.lhs w.rhs0 w.rhs1 tail in
    let t0 = same_tail bytes w.lhs f.t0 b1 line.lhs one.lhs f.lhs whole w.lhs_writes in
    let at1 : f.b1 ≡ b1 = ap (drop 1) (sym f.gap0 ∙ t0) in
    let t1 = same_tail f.b1 w.rhs0 f.rhs0.tail b2 line.rhs0.literal one.rhs0 f.rhs0.field at1 w.rhs0_writes in
    let at2 : f.b2 ≡ b2 = ap (drop 1) (sym f.gap1 ∙ t1) in
    let left0 = f.rhs0.left in
    let left1 = f.rhs1.left in
    let long : length bytes ≡ length w.lhs + suc (length b1) = ap length whole ∙ length-append w.lhs (32 ∷ b1) in
    let long1 : length b1 ≡ length w.rhs0 + suc (length b2) = length-append w.rhs0 (32 ∷ b2) in
    let same1 = ap length at1 in
    let same2 = ap length at2 in
    record { first = omega arith; second = omega arith }

-- ---- all lines

-- What is read of a file whose lines are all right.
record AllGiven (top inputs outputs ands : ℕ) (literals uses : List ℕ) (xs : List And) (bytes : List ℕ) : Type 0 where
  rest : List ℕ
  read : FrontRead top inputs outputs ands literals uses xs bytes rest
  names : Entries × Entries
  ins : more_at (input_at top) inputs [] read.r0 ≡ given (literals, read.r1)
  outs : more_at (λ front. output_at top) outputs [] read.r1 ≡ given (read.used, read.r2)
  gates : more_at (λ front. and_line_at top (literals ++ lhs_of front)) ands [] read.r2 ≡ given (read.lines, rest)
  symbols : symbols_at (length rest) (replicate inputs None, replicate outputs None) rest ≡ given names
  defined : literals ++ lhs_of read.lines ≡ defined_by literals xs

all_given : (top inputs outputs ands : ℕ) (literals uses : List ℕ) (xs : List And) (bytes : List ℕ) → HasAllLines top inputs outputs ands literals uses xs bytes → AllGiven top inputs outputs ands literals uses xs bytes
all_given top inputs outputs ands literals uses xs bytes h =
    let r = front_read top inputs outputs ands literals uses xs bytes h.rest h.front in
    let names = symbols_given inputs outputs h.rest h.symbols in
    record {
      rest = h.rest;
      read = r;
      names = names.0;
      ins = all_inputs top inputs outputs ands literals uses xs bytes h.rest r h.all_inputs;
      outs = all_outputs top inputs outputs ands literals uses xs bytes h.rest r h.all_outputs;
      gates = all_ands top inputs outputs ands literals uses xs bytes h.rest r h.all_ands;
      symbols = names.1;
      defined = defined_there literals r.lines xs r.lines_are;
    }

head_pair : Header → List ℕ → Header × List ℕ
head_pair header rest = (header, rest)

lists_pair : List ℕ → List ℕ → List ℕ × List ℕ
lists_pair literals rest = (literals, rest)

uses_pair : List Used → List ℕ → List Used × List ℕ
uses_pair used rest = (used, rest)

-- two fronts of one file are read alike, up to the inputs
same_inputs : (top inputs outputs ands : ℕ) (literals uses more : List ℕ) (xs ys : List And) (bytes rest behind : List ℕ) (r : FrontRead top inputs outputs ands literals uses xs bytes rest) (s : FrontRead top inputs outputs ands literals more ys bytes behind) → r.r1 ≡ s.r1
unfolding head_pair lists_pair
same_inputs top inputs outputs ands literals uses more xs ys bytes rest behind r s =
    let first : r.r0 ≡ s.r0 = ap (λ (p : Header × List ℕ). p.1) (same_value (head_pair (header_for top inputs outputs ands) r.r0) (head_pair (header_for top inputs outputs ands) s.r0) (sym r.head ∙ s.head)) in
    let again = ap (λ (b : List ℕ). more_at (input_at top) (length literals) [] b) first ∙ s.ins in
    ap (λ (p : List ℕ × List ℕ). p.1) (same_value (lists_pair literals r.r1) (lists_pair literals s.r1) (sym r.ins ∙ again))

-- and up to the outputs
same_outputs : (top inputs outputs ands : ℕ) (literals uses : List ℕ) (xs ys : List And) (bytes rest behind : List ℕ) (r : FrontRead top inputs outputs ands literals uses xs bytes rest) (s : FrontRead top inputs outputs ands literals uses ys bytes behind) → r.r2 ≡ s.r2
unfolding uses_pair
same_outputs top inputs outputs ands literals uses xs ys bytes rest behind r s =
    let first = same_inputs top inputs outputs ands literals uses uses xs ys bytes rest behind r s in
    let again = ap (λ (b : List ℕ). more_at (λ front. output_at top) (length uses) [] b) first ∙ s.outs in
    ap (λ (p : List Used × List ℕ). p.1) (same_value (uses_pair r.used r.r2) (uses_pair s.used s.r2) (sym r.outs ∙ again))

-- ---- an output

-- where a literal of an output is not known, the file stops
outputs_unknown : (top inputs outputs ands : ℕ) (literals uses : List ℕ) (xs : List And) (bytes : List ℕ) (a : AllGiven top inputs outputs ands literals uses xs bytes) (stop : Stop) → known_at (defined_by literals xs) a.read.used ≡ Err stop → text_at bytes ≡ Err stop
unfolding text_at header_for
outputs_unknown top inputs outputs ands literals uses xs bytes a stop e =
    let head = a.read.head in
    let unknown = ap (λ (d : List ℕ). known_at d a.read.used) a.defined ∙ e in
    rw (head, a.ins, a.outs, a.gates, a.symbols, unknown) refl

long_behind : (before later : List ℕ) (n : ℕ) → length before < length (before ++ n ∷ later)
long_behind before later n = (let sum = length-append before (n ∷ later) in omega arith)

item_at : (uses before later more : List ℕ) (m n : ℕ) → uses ≡ before ++ m ∷ more → uses ≡ before ++ n ∷ later → m ≡ n
item_at uses before later more m n one two =
    let here : length before ≡ length before + 0 = omega arith in
    one_at uses before more m n (length before) one refl (ap (slice_get uses) here ∙ ap (λ (l : List ℕ). slice_get l (length before + 0)) two ∙ get_behind before (n ∷ later) 0)

pub output_use_stops : (bytes : List ℕ) (offset : ℕ) (cause : AigerWhy) → BreaksInOutputUse bytes offset cause → StopsAt (text_at bytes) bytes offset cause
unfolding uses_pair undefined_stop
output_use_stops bytes offset cause (top, inputs, outputs, ands, n, literals, uses, before, later, here, xs, all, parts, front, good, bad, is, there) =
    let a = all_given top inputs outputs ands literals uses xs bytes all in
    let r = a.read in
    let s = front_read top inputs outputs ands literals before [] bytes here front in
    let first : r.r1 ≡ s.r1 = same_inputs top inputs outputs ands literals uses before xs [] bytes a.rest here r s in
    let lt : length before < outputs = (let fewer = long_behind before later n in let sum = ap length parts in let whole = all.all_outputs in omega arith) in
    let o = one_of (λ (front : List Used). output_at top) (length before) outputs [] r.r1 (uses_pair r.used r.r2) lt a.outs in
    let again : more_at (λ front. output_at top) (length before) [] r.r1 ≡ given (uses_pair s.used here) =
    ap (λ (b : List ℕ). more_at (λ front. output_at top) (length before) [] b) first ∙ s.outs ∙ ap (λ (b : List ℕ). given (uses_pair s.used b)) (no_lines top literals s.r2 here s.lines s.gates) in
    let same : o.before ≡ uses_pair s.used here = same_value o.before (uses_pair s.used here) (sym o.first ∙ again) in
    let literals_are : literals_of o.before.0 ≡ before = ap (λ (p : List Used × List ℕ). literals_of p.0) same ∙ s.used_are in
    let spread : uses ≡ before ++ o.item.0.literal ∷ literals_of o.later = sym r.used_are ∙ ap literals_of o.parts ∙ map_append (λ (u : Used). u.literal) o.before.0 (o.item.0 ∷ o.later) ∙ ap (λ (l : List ℕ). l ++ o.item.0.literal ∷ literals_of o.later) literals_are in
    let literal : o.item.0.literal ≡ n = item_at uses before later (literals_of o.later) o.item.0.literal n spread parts in
    let field = output_field top o.before.1 o.item o.read in
    let left : o.item.0.left ≡ length here = field.left ∙ ap (λ (p : List Used × List ℕ). length p.1) same in
    let known_before = subst (AreDefined (defined_by literals xs)) (sym literals_are) good in
    let unknown : IsDefined (defined_by literals xs) o.item.0.literal → ⊥ = λ d. bad (subst (IsDefined (defined_by literals xs)) literal d) in
    let stopped = ap (known_at (defined_by literals xs)) o.parts ∙ known_stops (defined_by literals xs) o.before.0 o.item.0 o.later known_before unknown in (
      undefined_stop o.item.0,
      outputs_unknown top inputs outputs ands literals uses xs bytes a (undefined_stop o.item.0) stopped,
      is ∙ ap (λ (m : ℕ). why.Undefined m) (sym literal),
      omega arith,
    )

-- ---- an operand

outputs_known : (top inputs outputs ands : ℕ) (literals uses : List ℕ) (xs : List And) (bytes : List ℕ) (a : AllGiven top inputs outputs ands literals uses xs bytes) → AreDefined (defined_by literals xs) uses → known_at (literals ++ lhs_of a.read.lines) a.read.used ≡ given tt
outputs_known top inputs outputs ands literals uses xs bytes a good =
    ap (λ (d : List ℕ). known_at d a.read.used) a.defined ∙ all_known (defined_by literals xs) a.read.used (λ at literal is. good at literal (ap (λ (l : List ℕ). slice_get l at) (sym a.read.used_are) ∙ is))

operands_unknown : (top inputs outputs ands : ℕ) (literals uses : List ℕ) (xs : List And) (bytes : List ℕ) (a : AllGiven top inputs outputs ands literals uses xs bytes) (stop : Stop) → AreDefined (defined_by literals xs) uses → known_at (defined_by literals xs) (uses_of a.read.lines) ≡ Err stop
    → text_at bytes ≡ Err stop
unfolding text_at header_for
operands_unknown top inputs outputs ands literals uses xs bytes a stop good e =
    let head = a.read.head in
    let outs = outputs_known top inputs outputs ands literals uses xs bytes a good in
    let unknown = ap (λ (d : List ℕ). known_at d (uses_of a.read.lines)) a.defined ∙ e in
    rw (head, a.ins, a.outs, a.gates, a.symbols, outs, unknown) refl

lines_pair : List Line → List ℕ → List Line × List ℕ
lines_pair lines rest = (lines, rest)

and_item_at : (xs before later more : List And) (m n : And) → xs ≡ before ++ m ∷ more → xs ≡ before ++ n ∷ later → m ≡ n
and_item_at xs before later more m n one two =
    let here : length before ≡ length before + 0 = omega arith in
    one_at xs before more m n (length before) one refl (ap (slice_get xs) here ∙ ap (λ (l : List And). slice_get l (length before + 0)) two ∙ get_behind before (n ∷ later) 0)

pub operand_stops : (bytes : List ℕ) (offset : ℕ) (cause : AigerWhy) → BreaksInOperand bytes offset cause → StopsAt (text_at bytes) bytes offset cause
unfolding lines_pair undefined_stop
operand_stops bytes offset cause (top, inputs, outputs, ands, at, literals, uses, here, one, xs, before, later, all, parts, front, outs_good, good, misses, there) = stop_at misses where
  a : AllGiven top inputs outputs ands literals uses xs bytes
  a = all_given top inputs outputs ands literals uses xs bytes all

  s : FrontRead top inputs outputs ands literals uses before bytes here
  s = front_read top inputs outputs ands literals uses before bytes here front

  first : a.read.r2 ≡ s.r2
  first = same_outputs top inputs outputs ands literals uses xs before bytes a.rest here a.read s

  lt : length before < ands
  lt = (let sum : length xs ≡ length before + suc (length later) = ap length parts ∙ length-append before (one ∷ later) in let whole = all.all_ands in omega arith)

  o : OneOf (λ (front : List Line). and_line_at top (literals ++ lhs_of front)) (length before) [] a.read.r2 a.read.lines
  o = one_of (λ (front : List Line). and_line_at top (literals ++ lhs_of front)) (length before) ands [] a.read.r2 (lines_pair a.read.lines a.rest) lt a.gates

  same : o.before ≡ lines_pair s.lines here
  same = same_value o.before (lines_pair s.lines here) (sym o.first ∙ ap (λ (b : List ℕ). more_at (λ front. and_line_at top (literals ++ lhs_of front)) (length before) [] b) first ∙ s.gates)

  ands_are : map and_of o.before.0 ≡ before
  ands_are = ap (λ (p : List Line × List ℕ). map and_of p.0) same ∙ s.lines_are

  item : and_of o.item.0 ≡ one
  item = and_item_at xs before later (map and_of o.later) (and_of o.item.0) one (sym a.read.lines_are ∙ ap (map and_of) o.parts ∙ map_append and_of o.before.0 (o.item.0 ∷ o.later) ∙ ap (λ (l : List And). l ++ and_of o.item.0 ∷ map and_of o.later) ands_are) parts

  fields : LineFields here o.item.0
  fields = subst (λ (b : List ℕ). LineFields b o.item.0) (ap (λ (p : List Line × List ℕ). p.1) same) (line_fields_of top (literals ++ lhs_of o.before.0) o.before.1 o.item o.read)

  stopped : (stop : Stop) → known_at (defined_by literals xs) (o.item.0.rhs0 ∷ o.item.0.rhs1 ∷ uses_of o.later) ≡ Err stop → text_at bytes ≡ Err stop
  stopped stop e =
      operands_unknown top inputs outputs ands literals uses xs bytes a stop outs_good
      (ap (λ (l : List Line). known_at (defined_by literals xs) (uses_of l)) o.parts ∙ lines_known (defined_by literals xs) o.before.0 o.item.0 o.later stop (subst (AreDefinedAnds (defined_by literals xs)) (sym ands_are) good) e)

  rhs0 : o.item.0.rhs0.literal ≡ one.rhs0
  rhs0 = ap (λ (g : And). g.rhs0) item

  rhs1 : o.item.0.rhs1.literal ≡ one.rhs1
  rhs1 = ap (λ (g : And). g.rhs1) item

  stop_at : MissesOperand (defined_by literals xs) one here at cause → StopsAt (text_at bytes) bytes offset cause
  stop_at (text, tail, w, written, inl (is, none, place)) =
      let p = operand_places here text tail o.item.0 one w fields written in
      let left = p.first in (
        undefined_stop o.item.0.rhs0,
        stopped (undefined_stop o.item.0.rhs0) (first_missing (defined_by literals xs) o.item.0 o.later (λ d. none (subst (IsDefined (defined_by literals xs)) rhs0 d))),
        is ∙ ap (λ (m : ℕ). why.Undefined m) (sym rhs0),
        omega arith,
      )
  stop_at (text, tail, w, written, inr (is, known_first, none, place)) =
      let p = operand_places here text tail o.item.0 one w fields written in
      let left = p.second in (
        undefined_stop o.item.0.rhs1,
        stopped (undefined_stop o.item.0.rhs1) (second_missing (defined_by literals xs) o.item.0 o.later (subst (IsDefined (defined_by literals xs)) (sym rhs0) known_first) (λ d. none (subst (IsDefined (defined_by literals xs)) rhs1 d))),
        is ∙ ap (λ (m : ℕ). why.Undefined m) (sym rhs1),
        omega arith,
      )

-- ---- rings

text_for : (top : ℕ) (literals : List ℕ) (used : List Used) (lines : List Line) (left : ℕ) (names : Entries × Entries) → Text
text_for top literals used lines left names = record { top = top; inputs = literals; outputs = used; lines = lines; left = left; in_names = names.0; out_names = names.1 }

text_read : (top inputs outputs ands : ℕ) (literals uses : List ℕ) (xs : List And) (bytes : List ℕ) (a : AllGiven top inputs outputs ands literals uses xs bytes) → AreDefined (defined_by literals xs) uses → AreDefinedAnds (defined_by literals xs) xs
    → text_at bytes ≡ given (text_for top literals a.read.used a.read.lines (length a.read.r2) a.names)
unfolding text_at header_for text_for
text_read top inputs outputs ands literals uses xs bytes a good operands =
    let head = a.read.head in
    let outs = outputs_known top inputs outputs ands literals uses xs bytes a good in
    let all : known_at (literals ++ lhs_of a.read.lines) (uses_of a.read.lines) ≡ given tt =
    ap (λ (d : List ℕ). known_at d (uses_of a.read.lines)) a.defined ∙ uses_known (defined_by literals xs) a.read.lines (λ at one is. operands at one (ap (λ (l : List And). slice_get l at) (sym a.read.lines_are) ∙ is)) in
    rw (head, a.ins, a.outs, a.gates, a.symbols, outs, all) refl

-- the text is read, and it has the ring
pub ring_read : (bytes : List ℕ) (offset : ℕ) (cause : AigerWhy) → BreaksInRing bytes offset cause → (text : Text) × (text_at bytes ≡ Ok text) × IsRingFault (length bytes) text (record { offset = offset; why = cause })
unfolding text_for
ring_read bytes offset cause (top, inputs, outputs, ands, literals, uses, here, ring, xs, all, good, operands, front, there, is, round) =
    let a = all_given top inputs outputs ands literals uses xs bytes all in
    let s = front_read top inputs outputs ands literals uses [] bytes here front in
    let text = text_for top literals a.read.used a.read.lines (length a.read.r2) a.names in
    let place : a.read.r2 ≡ here = same_outputs top inputs outputs ands literals uses xs [] bytes a.rest here a.read s ∙ no_lines top literals s.r2 here s.lines s.gates in
    let left = ap length place in
    let around = subst (λ (l : List And). IsRingOfAnds l ring) (sym a.read.lines_are) round in (
      text,
      text_read top inputs outputs ands literals uses xs bytes a good operands,
      record { ring = ring; why = is; around = around; none = no_graph (listing_of text) ring around; offset = omega arith },
    )
