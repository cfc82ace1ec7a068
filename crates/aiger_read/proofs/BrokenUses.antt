-- Literals that nothing defines, and rings, from what a reader answers.
use Rattle.std.proofs.Common.{◌≡◌, ◌⊎◌, ◌∙◌, inl, inr, ◌<◌, ◌+◌, ◌*◌, ℕ, cond, zero, suc, refl, ap, sym, subst, arith, List, [], ◌∷◌, ◌++◌, length, length-append, append_assoc, None, Some, Result, Ok, Err}
use Rattle.std.specs.Prelude.{nat_lt, slice_get, map, replicate}
use Rattle.std.proofs.lemmas.List.{append-nil, length-replicate}
use Rattle.std.proofs.lemmas.Option.{same_Some, slice_get_within}
use Rattle.golden_aig.specs.declared.graph.And.{And}
use Rattle.aiger_order.specs.Listing.{IsDefined, defined_by}
use Rattle.aiger_order.proofs.Lists.{get_behind, get_more}
use Rattle.aiger_parts.specs.declared.fault.AigerWhy.{AigerWhy}
use Rattle.aiger_parts.specs.declared.fault.AigerWhy.TheVariants as why
use Rattle.aiger_parts.specs.declared.fault.Stop.{Stop}
use Rattle.aiger_parts.specs.declared.header.Form.TheVariants as form
use Rattle.aiger_parts.specs.declared.header.Header.{Header}
use Rattle.aiger_read.specs.declared.lines.Used.{Used}
use Rattle.aiger_read.specs.declared.lines.Line.{Line}
use Rattle.aiger_parts.specs.Reading.{◌>>=◌, fault, number_at, line_end_at}
use Rattle.aiger_parts.specs.Symbols.{Entries, symbols_at}
use Rattle.aiger_read.specs.Lines.{lhs_of, more_at, start_at, gap_at, definition_at, use_at, input_at, output_at, and_line_at}
use Rattle.aiger_read.specs.Text.{is_known, use_known_at, known_at, uses_of, and_of}
use Rattle.aiger_read.specs.Spelled.{in_fields, IsAndLine}
use Rattle.aiger_read.specs.Broken.{HasSymbols, HasAllLines, AreDefined, AreDefinedAnds, MissesOperand, BreaksInOutputUse, BreaksInOperand}
use Rattle.aiger_read.proofs.WellFormed as formed
use Rattle.aiger_read.proofs.WellFormed.{given, same_value, bind_ok, unless_ok}
use Rattle.aiger_read.proofs.Listings.{used_defined, all_defined, uses_at, unmapped, fused, more_many}
use Rattle.aiger_read.proofs.FileLines.{written}
use Rattle.aiger_read.proofs.FieldTexts.{FieldAt, number_read}
use Rattle.aiger_read.proofs.HeadLines.{HeadAt}
use Rattle.aiger_read.proofs.SymbolFiles.{symbols_read}
use Rattle.aiger_read.proofs.SymbolSets.{lines_are}
use Rattle.aiger_read.proofs.AsciiLines.{use_pair, three_parts, start_same, definition_number, use_number, gap_read}
use Rattle.aiger_read.proofs.AsciiFiles.{le_self, known}
use Rattle.aiger_read.proofs.BrokenLines.{bind_err, when_err, no_stop, IsPlace}
use Rattle.aiger_read.proofs.BrokenAscii.{literals_of, ascii_front, front_shorter, number_of_inputs, number_of_outputs, number_of_lines}

-- ---- one of many

-- One of those that were read: what was read before it, and it.
pub record OneOf {A : Type 0} (one : List A → List ℕ → Result (A × List ℕ) Stop) (place : ℕ) (front : List A) (bytes : List ℕ) (xs : List A) : Type 0 where
  pub before : List A × List ℕ
  pub item : A × List ℕ
  pub later : List A
  pub first : more_at one place front bytes ≡ given before
  pub read : one before.0 before.1 ≡ given item
  pub parts : xs ≡ before.0 ++ item.0 ∷ later

-- what was read begins with what was there
keeps_front : {A : Type 0} (one : List A → List ℕ → Result (A × List ℕ) Stop) (count : ℕ) (front : List A) (bytes : List ℕ) (xs : List A × List ℕ) → more_at one count front bytes ≡ given xs → (items : List A) × (xs.0 ≡ front ++ items)
keeps_front {A} one zero front bytes xs e = ([], sym (ap (λ (p : List A × List ℕ). p.0) (same_value (front, bytes) xs e)) ∙ sym (append-nil front))
keeps_front one (suc count) front bytes xs e =
    let first = bind_ok (one front bytes) (λ x. more_at one count (front ++ x.0 ∷ []) x.1) xs e in
    let more = keeps_front one count (front ++ first.0.0 ∷ []) first.0.1 xs first.2 in
    (first.0.0 ∷ more.0, more.1 ∙ append_assoc front (first.0.0 ∷ []) more.0)

pub one_of : {A : Type 0} (one : List A → List ℕ → Result (A × List ℕ) Stop) (place count : ℕ) (front : List A) (bytes : List ℕ) (xs : List A × List ℕ) → place < count → more_at one count front bytes ≡ given xs → OneOf one place front bytes xs.0
one_of one place zero front bytes xs lt e = absurd (omega arith)
one_of one zero (suc count) front bytes xs lt e =
    let first = bind_ok (one front bytes) (λ x. more_at one count (front ++ x.0 ∷ []) x.1) xs e in
    let more = keeps_front one count (front ++ first.0.0 ∷ []) first.0.1 xs first.2 in
    record { before = (front, bytes); item = first.0; later = more.0; first = refl; read = first.1; parts = more.1 ∙ append_assoc front (first.0.0 ∷ []) more.0 }
one_of {A} one (suc place) (suc count) front bytes xs lt e =
    let first = bind_ok (one front bytes) (λ x. more_at one count (front ++ x.0 ∷ []) x.1) xs e in
    let more = one_of one place count (front ++ first.0.0 ∷ []) first.0.1 xs (omega arith) first.2 in
    record {
      before = more.before;
      item = more.item;
      later = more.later;
      first = ap (λ (r : Result (A × List ℕ) Stop). r >>= λ y. more_at one place (front ++ y.0 ∷ []) y.1) first.1 ∙ more.first;
      read = more.read;
      parts = more.parts;
    }

-- the one at a place stands behind so many
pub one_at : {A : Type 0} (xs before later : List A) (x y : A) (place : ℕ) → xs ≡ before ++ x ∷ later → length before ≡ place → slice_get xs place ≡ Some y → x ≡ y
one_at xs before later x y place parts many is =
    let here : length before + 0 ≡ place = omega arith in
    let there : slice_get xs place ≡ Some x = ap (slice_get xs) (sym here) ∙ ap (λ l. slice_get l (length before + 0)) parts ∙ get_behind before (x ∷ later) 0 in
    same_Some x y (sym there ∙ is)

pub map_append : {A B : Type 0} (f : A → B) (xs ys : List A) → map f (xs ++ ys) ≡ map f xs ++ map f ys
map_append f [] ys = refl
map_append f (x ∷ xs) ys = ap (λ l. f x ∷ l) (map_append f xs ys)

-- ---- the first literal that nothing defines

unfoldable pub undefined_stop : Used → Stop
undefined_stop used = record { left = used.left; why = why.Undefined used.literal }

record UseStop (definitions : List ℕ) (uses : List Used) (stop : Stop) : Type 0 where
  place : ℕ
  used : Used
  there : slice_get uses place ≡ Some used
  good : (at : ℕ) (other : Used) → at < place → slice_get uses at ≡ Some other → IsDefined definitions other.literal
  bad : IsDefined definitions used.literal → ⊥
  same : undefined_stop used ≡ stop

use_stop : (definitions : List ℕ) (used : Used) (stop : Stop) → use_known_at definitions used ≡ Err stop → (IsDefined definitions used.literal → ⊥) × (undefined_stop used ≡ stop)
unfolding undefined_stop
use_stop definitions used stop e = (
  λ d. no_stop {A = Unit {0}} tt stop (sym (known definitions used d) ∙ e),
  elim (when_err {A = Unit {0}} (is_known definitions used.literal) (record { left = used.left; why = why.Undefined used.literal }) (Ok tt) stop e) [ inl bad ↦ bad.1 | inr good ↦ absurd (no_stop {A = Unit {0}} tt stop good.1) ],
)

known_err : (definitions : List ℕ) (uses : List Used) (stop : Stop) → known_at definitions uses ≡ Err stop → UseStop definitions uses stop
known_err definitions [] stop e = absurd (no_stop {A = Unit {0}} tt stop e)
known_err definitions (u ∷ uses) stop e = elim (bind_err (use_known_at definitions u) (λ _. known_at definitions uses) stop e) [
  | inl bad ↦ (let b = use_stop definitions u stop bad in record { place = 0; used = u; there = refl; good = λ at other lt is. absurd (omega arith); bad = b.0; same = b.1 })
  | inr (x, ok, more) ↦ (let m = known_err definitions uses stop more in record { place = suc m.place; used = m.used; there = m.there; good = first m.place ok m.good; bad = m.bad; same = m.same })
] where
  first : (place : ℕ) → use_known_at definitions u ≡ Ok tt → ((at : ℕ) (other : Used) → at < place → slice_get uses at ≡ Some other → IsDefined definitions other.literal)
      → (at : ℕ) (other : Used) → at < suc place → slice_get (u ∷ uses) at ≡ Some other → IsDefined definitions other.literal
  first place ok more zero other lt is = subst (λ (v : Used). IsDefined definitions v.literal) (same_Some u other is) (used_defined definitions u ok)
  first place ok more (suc at) other lt is = more at other (omega arith) is

abbrev BothDefined : List ℕ → Line → Type 0
BothDefined definitions line = IsDefined definitions line.rhs0.literal × IsDefined definitions line.rhs1.literal

record FirstMissing (definitions : List ℕ) (line : Line) (stop : Stop) : Type 0 where
  none : IsDefined definitions line.rhs0.literal → ⊥
  same : undefined_stop line.rhs0 ≡ stop

record SecondMissing (definitions : List ℕ) (line : Line) (stop : Stop) : Type 0 where
  one : IsDefined definitions line.rhs0.literal
  none : IsDefined definitions line.rhs1.literal → ⊥
  same : undefined_stop line.rhs1 ≡ stop

record OperandStop (definitions : List ℕ) (lines : List Line) (stop : Stop) : Type 0 where
  place : ℕ
  line : Line
  there : slice_get lines place ≡ Some line
  good : (at : ℕ) (other : Line) → at < place → slice_get lines at ≡ Some other → BothDefined definitions other
  which : FirstMissing definitions line stop ⊎ SecondMissing definitions line stop

operands_err : (definitions : List ℕ) (lines : List Line) (stop : Stop) → known_at definitions (uses_of lines) ≡ Err stop → OperandStop definitions lines stop
operands_err definitions [] stop e = absurd (no_stop {A = Unit {0}} tt stop e)
operands_err definitions (l ∷ lines) stop e = elim (bind_err (use_known_at definitions l.rhs0) (λ _. known_at definitions (l.rhs1 ∷ uses_of lines)) stop e) [
  | inl bad ↦ (let b = use_stop definitions l.rhs0 stop bad in record { place = 0; line = l; there = refl; good = λ at other lt is. absurd (omega arith); which = inl (record { none = b.0; same = b.1 }) })
  | inr (x, ok, more) ↦ elim (bind_err (use_known_at definitions l.rhs1) (λ _. known_at definitions (uses_of lines)) stop more) [
    | inl bad ↦ (let b = use_stop definitions l.rhs1 stop bad in record { place = 0; line = l; there = refl; good = λ at other lt is. absurd (omega arith); which = inr (record { one = used_defined definitions l.rhs0 ok; none = b.0; same = b.1 }) })
    | inr (y, right, rest) ↦ (let m = operands_err definitions lines stop rest in record { place = suc m.place; line = m.line; there = m.there; good = first m.place ok right m.good; which = m.which })
  ]
] where
  first : (place : ℕ) → use_known_at definitions l.rhs0 ≡ Ok tt → use_known_at definitions l.rhs1 ≡ Ok tt → ((at : ℕ) (other : Line) → at < place → slice_get lines at ≡ Some other → BothDefined definitions other)
      → (at : ℕ) (other : Line) → at < suc place → slice_get (l ∷ lines) at ≡ Some other → BothDefined definitions other
  first place ok right more zero other lt is = subst (BothDefined definitions) (same_Some l other is) (used_defined definitions l.rhs0 ok, used_defined definitions l.rhs1 right)
  first place ok right more (suc at) other lt is = more at other (omega arith) is

-- ---- where it stands

pub record UseField (bytes : List ℕ) (used : Used) : Type 0 where
  pub tail : List ℕ
  pub field : FieldAt bytes used.literal tail
  pub left : used.left ≡ length bytes

use_left : (top : ℕ) (bytes : List ℕ) (x : Used × List ℕ) → use_at top bytes ≡ Ok x → x.0.left ≡ length bytes
unfolding use_at
use_left top bytes x e =
    let number = bind_ok (number_at bytes) (λ n. cond (nat_lt (2 * top + 1) n.0) (Err (fault (why.Range n.0) bytes)) (Ok (record { literal = n.0; left = length bytes }, n.1))) x e in
    let made : Used × List ℕ = (record { literal = number.0.0; left = length bytes }, number.0.1) in
    let range = unless_ok (nat_lt (2 * top + 1) number.0.0) (fault (why.Range number.0.0) bytes) (Ok made) x number.2 in
    ap (λ (p : Used × List ℕ). p.0.left) (sym (same_value made x range.1))

use_field : (top : ℕ) (bytes : List ℕ) (x : Used × List ℕ) → use_at top bytes ≡ Ok x → UseField bytes x.0
use_field top bytes x e = record { tail = x.1; field = number_read bytes x.0.literal x.1 (use_number top bytes x e); left = use_left top bytes x e }

-- a place so many bytes behind the first
record PlaceStop (bytes : List ℕ) (n at : ℕ) (stop : Stop) : Type 0 where
  cause : stop.why ≡ why.Undefined n
  left : stop.left + at ≡ length bytes

undefined_place : (bytes : List ℕ) (used : Used) (stop : Stop) → used.left ≡ length bytes → undefined_stop used ≡ stop → PlaceStop bytes used.literal 0 stop
unfolding undefined_stop
undefined_place bytes used stop left same =
    let here : stop.left ≡ used.left = ap (λ (s : Stop). s.left) (sym same) in
    record { cause = ap (λ (s : Stop). s.why) (sym same); left = omega arith }

pub output_field : (top : ℕ) (bytes : List ℕ) (x : Used × List ℕ) → output_at top bytes ≡ Ok x → UseField bytes x.0
unfolding output_at
output_field top bytes x e =
    let start = bind_ok (start_at bytes) (λ line. use_at top line >>= λ y. line_end_at y.1 >>= λ behind. Ok (use_pair y.0 behind)) x e in
    let used = bind_ok (use_at top start.0) (λ y. line_end_at y.1 >>= λ behind. Ok (use_pair y.0 behind)) x start.2 in
    let behind = bind_ok (line_end_at used.0.1) (λ behind. Ok (use_pair used.0.0 behind)) x used.2 in
    let is : used.0.0 ≡ x.0 = ap (λ (p : Used × List ℕ). p.0) (same_value (use_pair used.0.0 behind.0) x behind.2) in
    let line : bytes ≡ start.0 = start_same bytes start.0 start.1 in
    subst (UseField bytes) is (subst (λ (b : List ℕ). UseField b used.0.0) (sym line) (use_field top start.0 used.0 used.1))

-- the fields of the line of an AND
pub record LineFields (bytes : List ℕ) (line : Line) : Type 0 where
  pub t0 : List ℕ
  pub b1 : List ℕ
  pub b2 : List ℕ
  pub lhs : FieldAt bytes line.lhs t0
  pub gap0 : t0 ≡ 32 ∷ b1
  pub rhs0 : UseField b1 line.rhs0
  pub gap1 : rhs0.tail ≡ 32 ∷ b2
  pub rhs1 : UseField b2 line.rhs1

line_of : ℕ → Used → Used → Line
line_of lhs rhs0 rhs1 = record { lhs = lhs; rhs0 = rhs0; rhs1 = rhs1 }

pub line_fields_of : (top : ℕ) (defined bytes : List ℕ) (x : Line × List ℕ) → and_line_at top defined bytes ≡ Ok x → LineFields bytes x.0
unfolding and_line_at line_of
line_fields_of top defined bytes x e =
    let start = bind_ok (start_at bytes) (λ line. definition_at top defined line >>= λ lhs. gap_at lhs.1 >>= λ one. use_at top one >>= λ rhs0. gap_at rhs0.1 >>= λ two. use_at top two >>= λ rhs1. line_end_at rhs1.1 >>= λ behind. Ok (line_of lhs.0 rhs0.0 rhs1.0, behind)) x e in
    let lhs = bind_ok (definition_at top defined start.0) (λ lhs. gap_at lhs.1 >>= λ one. use_at top one >>= λ rhs0. gap_at rhs0.1 >>= λ two. use_at top two >>= λ rhs1. line_end_at rhs1.1 >>= λ behind. Ok (line_of lhs.0 rhs0.0 rhs1.0, behind)) x start.2 in
    let one = bind_ok (gap_at lhs.0.1) (λ one. use_at top one >>= λ rhs0. gap_at rhs0.1 >>= λ two. use_at top two >>= λ rhs1. line_end_at rhs1.1 >>= λ behind. Ok (line_of lhs.0.0 rhs0.0 rhs1.0, behind)) x lhs.2 in
    let rhs0 = bind_ok (use_at top one.0) (λ rhs0. gap_at rhs0.1 >>= λ two. use_at top two >>= λ rhs1. line_end_at rhs1.1 >>= λ behind. Ok (line_of lhs.0.0 rhs0.0 rhs1.0, behind)) x one.2 in
    let two = bind_ok (gap_at rhs0.0.1) (λ two. use_at top two >>= λ rhs1. line_end_at rhs1.1 >>= λ behind. Ok (line_of lhs.0.0 rhs0.0.0 rhs1.0, behind)) x rhs0.2 in
    let rhs1 = bind_ok (use_at top two.0) (λ rhs1. line_end_at rhs1.1 >>= λ behind. Ok (line_of lhs.0.0 rhs0.0.0 rhs1.0, behind)) x two.2 in
    let behind = bind_ok (line_end_at rhs1.0.1) (λ behind. Ok (line_of lhs.0.0 rhs0.0.0 rhs1.0.0, behind)) x rhs1.2 in
    let is : line_of lhs.0.0 rhs0.0.0 rhs1.0.0 ≡ x.0 = ap (λ (p : Line × List ℕ). p.0) (same_value (line_of lhs.0.0 rhs0.0.0 rhs1.0.0, behind.0) x behind.2) in
    let line : bytes ≡ start.0 = start_same bytes start.0 start.1 in
    subst (LineFields bytes) is (record {
      t0 = lhs.0.1;
      b1 = one.0;
      b2 = two.0;
      lhs = number_read bytes lhs.0.0 lhs.0.1 (ap number_at line ∙ definition_number top defined start.0 lhs.0 lhs.1);
      gap0 = gap_read lhs.0.1 one.0 one.1;
      rhs0 = record { tail = rhs0.0.1; field = number_read one.0 rhs0.0.0.literal rhs0.0.1 (use_number top one.0 rhs0.0 rhs0.1); left = use_left top one.0 rhs0.0 rhs0.1 };
      gap1 = gap_read rhs0.0.1 two.0 two.1;
      rhs1 = use_field top two.0 rhs1.0 rhs1.1;
    })

-- the operand that is missing, in its line
operand_place : (definitions bytes : List ℕ) (line : Line) (stop : Stop) (cause : AigerWhy) → LineFields bytes line → cause ≡ stop.why → FirstMissing definitions line stop ⊎ SecondMissing definitions line stop
    → (at : ℕ) × MissesOperand definitions (and_of line) bytes at cause × (stop.left + at ≡ length bytes)
unfolding undefined_stop
operand_place definitions bytes line stop cause f cause_is which = go which where
  made : IsAndLine (f.lhs.field ++ in_fields (f.rhs0.field.field ∷ f.rhs1.field.field ∷ [])) (and_of line)
  made = record { lhs = f.lhs.field; rhs0 = f.rhs0.field.field; rhs1 = f.rhs1.field.field; line_is = refl; lhs_writes = f.lhs.writes; rhs0_writes = f.rhs0.field.writes; rhs1_writes = f.rhs1.field.writes }

  whole : bytes ≡ (f.lhs.field ++ in_fields (f.rhs0.field.field ∷ f.rhs1.field.field ∷ [])) ++ f.rhs1.tail
  whole =
      f.lhs.parts ∙ ap (λ (r : List ℕ). f.lhs.field ++ r) (f.gap0 ∙ ap (λ (r : List ℕ). 32 ∷ r) (f.rhs0.field.parts ∙ ap (λ (r : List ℕ). f.rhs0.field.field ++ r) (f.gap1 ∙ ap (λ (r : List ℕ). 32 ∷ r) f.rhs1.field.parts)))
      ∙ sym (three_parts f.lhs.field f.rhs0.field.field f.rhs1.field.field f.rhs1.tail)

  first_long : length bytes ≡ length f.lhs.field + 1 + length f.b1
  first_long = (let one = ap length f.lhs.parts ∙ length-append f.lhs.field f.t0 in let two = ap length f.gap0 in omega arith)

  second_long : length f.b1 ≡ length f.rhs0.field.field + 1 + length f.b2
  second_long = (let one = ap length f.rhs0.field.parts ∙ length-append f.rhs0.field.field f.rhs0.tail in let two = ap length f.gap1 in omega arith)

  go : FirstMissing definitions line stop ⊎ SecondMissing definitions line stop → (at : ℕ) × MissesOperand definitions (and_of line) bytes at cause × (stop.left + at ≡ length bytes)
  go (inl m) =
      let p = undefined_place f.b1 line.rhs0 stop f.rhs0.left m.same in
      let left = p.left in
      let long = first_long in
      (length f.lhs.field + 1, (f.lhs.field ++ in_fields (f.rhs0.field.field ∷ f.rhs1.field.field ∷ []), f.rhs1.tail, made, whole, inl (cause_is ∙ p.cause, m.none, refl)), omega arith)
  go (inr m) =
      let p = undefined_place f.b2 line.rhs1 stop f.rhs1.left m.same in
      let left = p.left in
      let long = first_long in
      let more = second_long in
      (length f.lhs.field + 1 + length f.rhs0.field.field + 1, (f.lhs.field ++ in_fields (f.rhs0.field.field ∷ f.rhs1.field.field ∷ []), f.rhs1.tail, made, whole, inr (cause_is ∙ p.cause, m.one, m.none, refl)), omega arith)

-- ---- all lines

has_symbols : (inputs outputs : ℕ) (rest : List ℕ) (names : Entries × Entries) → symbols_at (length rest) (replicate inputs None, replicate outputs None) rest ≡ given names → HasSymbols inputs outputs rest
has_symbols inputs outputs rest names e =
    let rs = symbols_read (length rest) (replicate inputs None, replicate outputs None) names rest e (le_self (length rest)) in
    let kept = formed.symbols_ok (length rest) (replicate inputs None, replicate outputs None) names rest e in
    record {
      names = names;
      symbols = rs.lines;
      last = rs.rest;
      ins = kept.0 ∙ length-replicate inputs None;
      outs = kept.1 ∙ length-replicate outputs None;
      symbol_lines = lines_are inputs outputs rs.lines names rs.one rs.put;
      lines_are = written rs.lines rest rs.rest rs.at;
      end = elim rs.end [ inl none ↦ inl none | inr (more, line) ↦ inr (more, written ((99 ∷ []) ∷ []) rs.rest more (more, line, refl)) ];
    }

-- What was read of a whole file.
pub record AllRead (bytes : List ℕ) (h : Header) (r0 : List ℕ) (ins : List ℕ × List ℕ) (outs : List Used × List ℕ) (lines : List Line × List ℕ) : Type 0 where
  pub head : HeadAt form.Ascii h bytes r0
  pub inputs : more_at (input_at h.variables) h.inputs [] r0 ≡ given ins
  pub outputs : more_at (λ front. output_at h.variables) h.outputs [] ins.1 ≡ given outs
  pub ands : more_at (λ front. and_line_at h.variables (ins.0 ++ lhs_of front)) h.ands [] outs.1 ≡ given lines
  pub names : Entries × Entries
  pub symbols : symbols_at (length lines.1) (replicate h.inputs None, replicate h.outputs None) lines.1 ≡ given names

pub all_lines : (bytes : List ℕ) (h : Header) (r0 : List ℕ) (ins : List ℕ × List ℕ) (outs : List Used × List ℕ) (lines : List Line × List ℕ) → AllRead bytes h r0 ins outs lines
    → HasAllLines h.variables h.inputs h.outputs h.ands ins.0 (literals_of outs.0) (map and_of lines.0) bytes
all_lines bytes h r0 ins outs lines a = record {
  rest = lines.1;
  front = ascii_front bytes h r0 h.inputs h.outputs h.ands ins outs lines a.head a.inputs a.outputs a.ands;
  all_inputs = number_of_inputs h.variables h.inputs r0 ins a.inputs;
  all_outputs = number_of_outputs h.variables h.outputs ins.1 outs a.outputs;
  all_ands = number_of_lines h.variables h.ands ins.0 outs.1 lines a.ands;
  symbols = has_symbols h.inputs h.outputs lines.1 a.names a.symbols;
}

pub same_definitions : (inputs : List ℕ) (lines : List Line) → inputs ++ lhs_of lines ≡ defined_by inputs (map and_of lines)
same_definitions inputs lines = ap (λ (l : List ℕ). inputs ++ l) (sym (fused lines))

pub outputs_defined : (definitions : List ℕ) (uses : List Used) → known_at definitions uses ≡ Ok tt → AreDefined definitions (literals_of uses)
outputs_defined definitions uses e at literal is =
    let from = unmapped (λ (u : Used). u.literal) uses at literal is in
    subst (IsDefined definitions) from.2 (all_defined definitions uses e at from.0 from.1)

pub operands_defined : (definitions : List ℕ) (lines : List Line) → known_at definitions (uses_of lines) ≡ Ok tt → AreDefinedAnds definitions (map and_of lines)
operands_defined definitions lines e at one is =
    let from = unmapped and_of lines at one is in
    let uses = uses_at lines at from.0 from.1 in
    subst (λ (g : And). IsDefined definitions g.rhs0 × IsDefined definitions g.rhs1) from.2 (all_defined definitions (uses_of lines) e uses.0 from.0.rhs0 uses.1, all_defined definitions (uses_of lines) e (suc uses.0) from.0.rhs1 uses.2)

-- ---- the files

pub output_undefined : (bytes : List ℕ) (h : Header) (r0 : List ℕ) (ins : List ℕ × List ℕ) (outs : List Used × List ℕ) (lines : List Line × List ℕ) (offset : ℕ) (cause : AigerWhy) (stop : Stop) → AllRead bytes h r0 ins outs lines
    → known_at (defined_by ins.0 (map and_of lines.0)) outs.0 ≡ Err stop → IsPlace bytes offset cause stop → BreaksInOutputUse bytes offset cause
output_undefined bytes h r0 ins outs lines offset cause stop a e place =
    let definitions = defined_by ins.0 (map and_of lines.0) in
    let k = known_err (defined_by ins.0 (map and_of lines.0)) outs.0 stop e in
    let within = slice_get_within outs.0 k.place k.used k.there in
    let many = more_many (λ front. output_at h.variables) h.outputs [] ins.1 outs a.outputs in
    let o = one_of (λ front. output_at h.variables) k.place h.outputs [] ins.1 outs (omega arith) a.outputs in
    let some : length o.before.0 ≡ k.place = (let count = more_many (λ front. output_at h.variables) k.place [] ins.1 o.before o.first in omega arith) in
    let item : o.item.0 ≡ k.used = one_at outs.0 o.before.0 o.later o.item.0 k.used k.place o.parts some k.there in
    let front = ascii_front bytes h r0 h.inputs k.place 0 ins o.before ([], o.before.1) a.head a.inputs o.first refl in
    let shorter = front_shorter h.variables h.inputs h.outputs h.ands ins.0 (literals_of o.before.0) [] bytes o.before.1 front in
    let field = subst (UseField o.before.1) item (output_field h.variables o.before.1 o.item o.read) in
    let f = undefined_place o.before.1 k.used stop field.left k.same in
    let left = f.left in
    let at = place.1 in (
      h.variables,
      h.inputs,
      h.outputs,
      h.ands,
      k.used.literal,
      ins.0,
      literals_of outs.0,
      literals_of o.before.0,
      literals_of o.later,
      o.before.1,
      map and_of lines.0,
      all_lines bytes h r0 ins outs lines a,
      ap literals_of o.parts ∙ map_append (λ (u : Used). u.literal) o.before.0 (o.item.0 ∷ o.later) ∙ ap (λ (u : Used). literals_of o.before.0 ++ u.literal ∷ literals_of o.later) item,
      front,
      before (defined_by ins.0 (map and_of lines.0)) o.before.0 (o.item.0 ∷ o.later) k.place some k.good o.parts,
      k.bad,
      place.0 ∙ f.cause,
      omega arith,
    )
  where
    before : (definitions : List ℕ) (first later : List Used) (number : ℕ) → length first ≡ number → ((at : ℕ) (other : Used) → at < number → slice_get outs.0 at ≡ Some other → IsDefined definitions other.literal) → outs.0 ≡ first ++ later → AreDefined definitions (literals_of first)
    before definitions first later number many good parts at literal is =
        let from = unmapped (λ (u : Used). u.literal) first at literal is in
        let within = slice_get_within first at from.0 from.1 in
        let there : slice_get outs.0 at ≡ Some from.0 = ap (λ (l : List Used). slice_get l at) parts ∙ get_more first later at from.0 from.1 in
        subst (IsDefined definitions) from.2 (good at from.0 (omega arith) there)

pub operand_undefined : (bytes : List ℕ) (h : Header) (r0 : List ℕ) (ins : List ℕ × List ℕ) (outs : List Used × List ℕ) (lines : List Line × List ℕ) (offset : ℕ) (cause : AigerWhy) (stop : Stop) → AllRead bytes h r0 ins outs lines
    → known_at (defined_by ins.0 (map and_of lines.0)) outs.0 ≡ Ok tt → known_at (defined_by ins.0 (map and_of lines.0)) (uses_of lines.0) ≡ Err stop → IsPlace bytes offset cause stop → BreaksInOperand bytes offset cause
operand_undefined bytes h r0 ins outs lines offset cause stop a outputs e place =
    let k = operands_err (defined_by ins.0 (map and_of lines.0)) lines.0 stop e in
    let within = slice_get_within lines.0 k.place k.line k.there in
    let many = more_many (λ (front : List Line). and_line_at h.variables (ins.0 ++ lhs_of front)) h.ands [] outs.1 lines a.ands in
    let o = one_of (λ (front : List Line). and_line_at h.variables (ins.0 ++ lhs_of front)) k.place h.ands [] outs.1 lines (omega arith) a.ands in
    let some : length o.before.0 ≡ k.place = (let count = more_many (λ (front : List Line). and_line_at h.variables (ins.0 ++ lhs_of front)) k.place [] outs.1 o.before o.first in omega arith) in
    let item : o.item.0 ≡ k.line = one_at lines.0 o.before.0 o.later o.item.0 k.line k.place o.parts some k.there in
    let front = ascii_front bytes h r0 h.inputs h.outputs k.place ins outs o.before a.head a.inputs a.outputs o.first in
    let shorter = front_shorter h.variables h.inputs h.outputs h.ands ins.0 (literals_of outs.0) (map and_of o.before.0) bytes o.before.1 front in
    let fields = subst (LineFields o.before.1) item (line_fields_of h.variables (ins.0 ++ lhs_of o.before.0) o.before.1 o.item o.read) in
    let f = operand_place (defined_by ins.0 (map and_of lines.0)) o.before.1 k.line stop cause fields place.0 k.which in
    let left = f.2 in
    let at = place.1 in (
      h.variables,
      h.inputs,
      h.outputs,
      h.ands,
      f.0,
      ins.0,
      literals_of outs.0,
      o.before.1,
      and_of k.line,
      map and_of lines.0,
      map and_of o.before.0,
      map and_of o.later,
      all_lines bytes h r0 ins outs lines a,
      ap (map and_of) o.parts ∙ map_append and_of o.before.0 (o.item.0 ∷ o.later) ∙ ap (λ (l : Line). map and_of o.before.0 ++ and_of l ∷ map and_of o.later) item,
      front,
      outputs_defined (defined_by ins.0 (map and_of lines.0)) outs.0 outputs,
      before (defined_by ins.0 (map and_of lines.0)) o.before.0 (o.item.0 ∷ o.later) k.place some k.good o.parts,
      f.1,
      omega arith,
    )
  where
    before : (definitions : List ℕ) (first later : List Line) (number : ℕ) → length first ≡ number → ((at : ℕ) (other : Line) → at < number → slice_get lines.0 at ≡ Some other → BothDefined definitions other) → lines.0 ≡ first ++ later → AreDefinedAnds definitions (map and_of first)
    before definitions first later number many good parts at one is =
        let from = unmapped and_of first at one is in
        let within = slice_get_within first at from.0 from.1 in
        let there : slice_get lines.0 at ≡ Some from.0 = ap (λ (l : List Line). slice_get l at) parts ∙ get_more first later at from.0 from.1 in
        subst (λ (g : And). IsDefined definitions g.rhs0 × IsDefined definitions g.rhs1) from.2 (good at from.0 (omega arith) there)
