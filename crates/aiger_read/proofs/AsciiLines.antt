-- The lines of ASCII files, read and written.
use Rattle.std.proofs.Common.{◌≡◌, ◌≢◌, ◌∙◌, ◌≤◌, ◌+◌, ◌*◌, ◌%◌, ◌==◌, ℕ, Bool, true, false, cond, zero, suc, refl, ap, sym, subst, arith, List, [], ◌∷◌, ◌++◌, length, length-append, append_assoc, Some, Result, Ok, Err}
use Rattle.std.specs.Prelude.{nat_lt, slice_get, map}
use Rattle.std.specs.List.{AllZip}
use Rattle.std.proofs.lemmas.Bool.{le-ltb, eqb-true}
use Rattle.std.proofs.lemmas.List.{append-nil}
use Rattle.std.proofs.lemmas.Option.{slice_get_within}
use Rattle.golden_aig.specs.declared.graph.And.{And}
use Rattle.aiger_order.proofs.Lists.{get_more, get_behind}
use Rattle.aiger_parts.specs.declared.fault.Stop.{Stop}
use Rattle.aiger_parts.specs.declared.fault.AigerWhy.TheVariants as why
use Rattle.aiger_read.specs.declared.lines.Used.{Used}
use Rattle.aiger_read.specs.declared.lines.Line.{Line}
use Rattle.aiger_parts.specs.Reading.{◌>>=◌, fault, number_at, line_end_at}
use Rattle.aiger_read.specs.Lines.{is_in, is_out, lhs_of, more_at, start_at, gap_at, definition_at, use_at, input_at, output_at, and_line_at}
use Rattle.aiger_read.specs.Text.{and_of}
use Rattle.aiger_read.specs.Spelling.{WritesNumber}
use Rattle.aiger_read.specs.Spelled.{in_fields, IsAndLine}
use Rattle.aiger_read.proofs.WellFormed.{given, same_value, bind_ok, unless_ok, when_ok}
use Rattle.aiger_read.proofs.Marks.{not_out, definition_ok}
use Rattle.aiger_read.proofs.Listings.{AreGood, at_in, lhs_more}
use Rattle.aiger_read.proofs.FileLines.{IsTail, LineAt, LinesAt, line_end, line_end_again}
use Rattle.aiger_read.proofs.FieldTexts.{FieldAt, number_read, number_written, field_some, tail_stops}
use Rattle.aiger_read.proofs.BinaryFiles.{field_line, some_bytes}

-- ---- many lines

pub record MoreRead {A : Type 0} (R : List ℕ → A → Type 0) (front : List A) (bytes : List ℕ) (xs : List A × List ℕ) : Type 0 where
  pub lines : List (List ℕ)
  pub items : List A
  pub are : xs.0 ≡ front ++ items
  pub write : AllZip R lines items
  pub at : LinesAt lines bytes xs.1

abbrev pub ReadsLines : {A : Type 0} → (List ℕ → A → Type 0) → (List A → List ℕ → Result (A × List ℕ) Stop) → Type 0
ReadsLines {A} R one = (front : List A) (bytes : List ℕ) (x : A × List ℕ) → one front bytes ≡ given x → (text : List ℕ) × R text x.0 × LineAt text bytes x.1

pub more_read : {A : Type 0} (R : List ℕ → A → Type 0) (one : List A → List ℕ → Result (A × List ℕ) Stop) → ReadsLines R one → (count : ℕ) (front : List A) (bytes : List ℕ) (xs : List A × List ℕ) → more_at one count front bytes ≡ given xs → MoreRead R front bytes xs
more_read R one step zero front bytes xs e =
    let is = same_value (front, bytes) xs e in
    subst (MoreRead R front bytes) is (record { lines = []; items = []; are = sym (append-nil front); write = tt; at = refl })
more_read R one step (suc count) front bytes xs e =
    let first = bind_ok (one front bytes) (λ x. more_at one count (front ++ x.0 ∷ []) x.1) xs e in
    let line = step front bytes first.0 first.1 in
    let more = more_read R one step count (front ++ first.0.0 ∷ []) first.0.1 xs first.2 in
    record { lines = line.0 ∷ more.lines; items = first.0.0 ∷ more.items; are = more.are ∙ append_assoc front (first.0.0 ∷ []) more.items; write = (line.1, more.write); at = (first.0.1, line.2, more.at) }

pub record Written {A : Type 0} (one : List A → List ℕ → Result (A × List ℕ) Stop) (front : List A) (bytes rest : List ℕ) (Next : A → Type 0) : Type 0 where
  pub item : A
  pub is : one front bytes ≡ given (item, rest)
  pub next : Next item

pub record MoreWritten {A B : Type 0} (one : List A → List ℕ → Result (A × List ℕ) Stop) (f : A → B) (front : List A) (bs : List B) (bytes rest : List ℕ) : Type 0 where
  pub items : List A
  pub is : more_at one (length bs) front bytes ≡ given (front ++ items, rest)
  pub same : map f items ≡ bs

abbrev pub WritesLines : {A B : Type 0} → (List ℕ → B → Type 0) → (A → B) → (List A → List B → Type 0) → (List A → List ℕ → Result (A × List ℕ) Stop) → Type 0
WritesLines {A} {B} R f P one = (front : List A) (text bytes rest : List ℕ) (b : B) (bs : List B) → P front (b ∷ bs) → R text b → LineAt text bytes rest → Written one front bytes rest (λ x. (f x ≡ b) × P (front ++ x ∷ []) bs)

pub more_written : {A B : Type 0} (R : List ℕ → B → Type 0) (f : A → B) (P : List A → List B → Type 0) (one : List A → List ℕ → Result (A × List ℕ) Stop) → WritesLines R f P one
    → (lines : List (List ℕ)) (bs : List B) (front : List A) (bytes rest : List ℕ) → P front bs → AllZip R lines bs → LinesAt lines bytes rest → MoreWritten one f front bs bytes rest
more_written {A} R f P one step [] [] front bytes rest p write at = record { items = []; is = ap (λ (r : List ℕ). given (front, r)) at ∙ ap (λ (l : List A). given (l, rest)) (sym (append-nil front)); same = refl }
more_written R f P one step [] (b ∷ bs) front bytes rest p write at = absurd write
more_written R f P one step (line ∷ lines) [] front bytes rest p write at = absurd write
more_written {A} {B} R f P one step (line ∷ lines) (b ∷ bs) front bytes rest p write (next, at, more) =
    let first = step front line bytes next b bs p write.0 at in
    let others = more_written R f P one step lines bs (front ++ first.item ∷ []) next rest first.next.1 write.1 more in
    record {
      items = first.item ∷ others.items;
      is = ap (λ (r : Result (A × List ℕ) Stop). r >>= λ x. more_at one (length bs) (front ++ x.0 ∷ []) x.1) first.is ∙ others.is ∙ ap (λ (l : List A). given (l, rest)) (append_assoc front (first.item ∷ []) others.items);
      same = ap (λ (c : B). c ∷ map f others.items) first.next.0 ∙ ap (λ (cs : List B). b ∷ cs) others.same;
    }

-- ---- numbers in a line

pub definition_number : (top : ℕ) (defined bytes : List ℕ) (x : ℕ × List ℕ) → definition_at top defined bytes ≡ given x → number_at bytes ≡ given x
unfolding definition_at
definition_number top defined bytes x e =
    let number = bind_ok (number_at bytes) (λ n. cond (is_out top n.0) (Err (fault (why.Range n.0) bytes)) (Ok n) >>= λ y. cond (is_in defined y.0) (Err (fault (why.Defined y.0) bytes)) (Ok (y.0, y.1))) x e in
    let inside = bind_ok (cond (is_out top number.0.0) (Err (fault (why.Range number.0.0) bytes)) (Ok number.0)) (λ y. cond (is_in defined y.0) (Err (fault (why.Defined y.0) bytes)) (Ok (y.0, y.1))) x number.2 in
    let range = unless_ok (is_out top number.0.0) (fault (why.Range number.0.0) bytes) (Ok number.0) inside.0 inside.1 in
    let new = unless_ok (is_in defined inside.0.0) (fault (why.Defined inside.0.0) bytes) (Ok (inside.0.0, inside.0.1)) x inside.2 in
    let same : number.0 ≡ inside.0 = same_value number.0 inside.0 range.1 in
    let last : inside.0 ≡ x = same_value inside.0 x new.1 in
    number.1 ∙ ap given same ∙ ap given last

abbrev pub number_pair : ℕ → List ℕ → ℕ × List ℕ
number_pair n rest = (n, rest)

pub use_number : (top : ℕ) (bytes : List ℕ) (x : Used × List ℕ) → use_at top bytes ≡ given x → number_at bytes ≡ given (number_pair x.0.literal x.1)
unfolding use_at
use_number top bytes x e =
    let number = bind_ok (number_at bytes) (λ n. cond (nat_lt (2 * top + 1) n.0) (Err (fault (why.Range n.0) bytes)) (Ok (record { literal = n.0; left = length bytes }, n.1))) x e in
    let made : Used × List ℕ = (record { literal = number.0.0; left = length bytes }, number.0.1) in
    let range = unless_ok (nat_lt (2 * top + 1) number.0.0) (fault (why.Range number.0.0) bytes) (Ok made) x number.2 in
    let same : made ≡ x = same_value made x range.1 in
    number.1 ∙ ap (λ (p : Used × List ℕ). given (number_pair p.0.literal p.1)) same

pub use_written : (top n : ℕ) (bytes rest : List ℕ) → number_at bytes ≡ given (number_pair n rest) → n ≤ 2 * top + 1 → use_at top bytes ≡ given (record { literal = n; left = length bytes }, rest)
unfolding use_at
use_written top n bytes rest read le = rw (read, le-ltb (2 * top + 1) n le) refl

pub start_same : (bytes line : List ℕ) → start_at bytes ≡ given line → bytes ≡ line
start_same bytes line e = let s = unless_ok (length bytes == 0) (fault why.Truncated []) (Ok bytes) line e in same_value bytes line s.1

start_written : (text bytes rest : List ℕ) → LineAt text bytes rest → start_at bytes ≡ given bytes
start_written text bytes rest at = rw (some_bytes text bytes rest at) refl

-- ---- inputs and outputs

pub input_read : (top : ℕ) → ReadsLines WritesNumber (input_at top)
unfolding input_at
input_read top defined bytes x e =
    let start = bind_ok (start_at bytes) (λ line. definition_at top defined line >>= λ y. line_end_at y.1 >>= λ behind. Ok (y.0, behind)) x e in
    let literal = bind_ok (definition_at top defined start.0) (λ y. line_end_at y.1 >>= λ behind. Ok (y.0, behind)) x start.2 in
    let behind = bind_ok (line_end_at literal.0.1) (λ behind. Ok (literal.0.0, behind)) x literal.2 in
    let is = same_value (number_pair literal.0.0 behind.0) x behind.2 in
    let line : bytes ≡ start.0 = start_same bytes start.0 start.1 in
    let read = number_read bytes literal.0.0 literal.0.1 (ap number_at line ∙ definition_number top defined start.0 literal.0 literal.1) in
    let made = field_line bytes literal.0.1 behind.0 literal.0.0 read behind.1 in
    subst (λ (y : ℕ × List ℕ). (text : List ℕ) × WritesNumber text y.0 × LineAt text bytes y.1) is (made.field, made.writes, made.at)

abbrev pub WritesUse : List ℕ → Used → Type 0
WritesUse text used = WritesNumber text used.literal

abbrev pub use_pair : Used → List ℕ → Used × List ℕ
use_pair used rest = (used, rest)

pub output_read : (top : ℕ) → ReadsLines WritesUse (λ front. output_at top)
unfolding output_at
output_read top front bytes x e =
    let start = bind_ok (start_at bytes) (λ line. use_at top line >>= λ y. line_end_at y.1 >>= λ behind. Ok (y.0, behind)) x e in
    let used = bind_ok (use_at top start.0) (λ y. line_end_at y.1 >>= λ behind. Ok (y.0, behind)) x start.2 in
    let behind = bind_ok (line_end_at used.0.1) (λ behind. Ok (used.0.0, behind)) x used.2 in
    let is = same_value (use_pair used.0.0 behind.0) x behind.2 in
    let line : bytes ≡ start.0 = start_same bytes start.0 start.1 in
    let read = number_read bytes used.0.0.literal used.0.1 (ap number_at line ∙ use_number top start.0 used.0 used.1) in
    let made = field_line bytes used.0.1 behind.0 used.0.0.literal read behind.1 in
    subst (λ (y : Used × List ℕ). (text : List ℕ) × WritesNumber text y.0.literal × LineAt text bytes y.1) is (made.field, made.writes, made.at)

-- what a literal that is defined here is
pub good_new : (top literal : ℕ) (defined more : List ℕ) → AreGood top (defined ++ literal ∷ more) → (is_out top literal ≡ false) × (is_in defined literal ≡ false)
good_new top literal defined more good = (inside, new (is_in defined literal) refl) where
  there : slice_get (defined ++ literal ∷ more) (length defined) ≡ Some literal
  there = (let at : length defined ≡ length defined + 0 = omega arith in ap (slice_get (defined ++ literal ∷ more)) at ∙ get_behind defined (literal ∷ more) 0)

  inside : is_out top literal ≡ false
  inside =
      let d = good.0 (length defined) literal there in
      let is = d.1 in
      let low = d.2 in
      let high = d.3 in
      let even : literal % 2 ≢ 1 = λ e. absurd (omega arith) in
      not_out top literal (omega arith) even (omega arith)

  new : (b : Bool) → is_in defined literal ≡ b → is_in defined literal ≡ false
  new false is = is
  new true is =
      let old = at_in defined literal is in
      let lt = slice_get_within defined old.0 literal old.1 in
      let same : old.0 ≡ length defined = good.1 old.0 (length defined) literal (get_more defined (literal ∷ more) old.0 literal old.1) there in
      absurd (omega arith)

pub input_written : (top : ℕ) → WritesLines WritesNumber (λ (x : ℕ). x) (λ (front bs : List ℕ). AreGood top (front ++ bs)) (input_at top)
unfolding input_at
input_written top front text bytes rest b bs good w at =
    let new = good_new top b front bs good in
    let read : number_at bytes ≡ given (number_pair b at.tail) = ap number_at at.parts ∙ number_written text at.tail b w (tail_stops at.tail rest at.ends) in
    let defined : definition_at top front bytes ≡ given (number_pair b at.tail) = definition_ok top b front bytes at.tail read new.0 new.1 in
    record {
      item = b;
      is = rw (start_written text bytes rest at, defined, line_end_again at.tail rest at.ends) refl;
      next = (refl, subst (AreGood top) (sym (append_assoc front (b ∷ []) bs)) good);
    }

abbrev pub AreLow : ℕ → List ℕ → Type 0
AreLow top literals = (at literal : ℕ) → slice_get literals at ≡ Some literal → literal ≤ 2 * top + 1

pub output_written : (top : ℕ) → WritesLines WritesNumber (λ (u : Used). u.literal) (λ (front : List Used) (bs : List ℕ). AreLow top bs) (λ front. output_at top)
unfolding output_at
output_written top front text bytes rest b bs low w at =
    let read : number_at bytes ≡ given (number_pair b at.tail) = ap number_at at.parts ∙ number_written text at.tail b w (tail_stops at.tail rest at.ends) in
    let used = use_written top b bytes at.tail read (low 0 b refl) in
    record {
      item = record { literal = b; left = length bytes };
      is = rw (start_written text bytes rest at, used, line_end_again at.tail rest at.ends) refl;
      next = (refl, λ k literal is. low (suc k) literal is);
    }

-- ---- ANDs

pub gap_read : (bytes rest : List ℕ) → gap_at bytes ≡ given rest → bytes ≡ 32 ∷ rest
gap_read [] rest e = absurd cc
gap_read (b ∷ bs) rest e =
    let test = when_ok (b == 32) (fault why.Number (b ∷ bs)) (Ok bs) rest e in
    let space : b ≡ 32 = eqb-true b 32 test.0 in
    ap (λ (x : ℕ). x ∷ bs) space ∙ ap (λ (r : List ℕ). 32 ∷ r) (same_value bs rest test.1)

line_of : ℕ → Used → Used → Line
line_of lhs rhs0 rhs1 = record { lhs = lhs; rhs0 = rhs0; rhs1 = rhs1 }

abbrev pub WritesLine : List ℕ → Line → Type 0
WritesLine text line = IsAndLine text (and_of line)

pub three_parts : (a b c tail : List ℕ) → (a ++ in_fields (b ∷ c ∷ [])) ++ tail ≡ a ++ 32 ∷ (b ++ 32 ∷ (c ++ tail))
three_parts a b c tail =
    append_assoc a (in_fields (b ∷ c ∷ [])) tail
    ∙ ap (λ (r : List ℕ). a ++ 32 ∷ r) (append_assoc b (in_fields (c ∷ [])) tail ∙ ap (λ (r : List ℕ). b ++ 32 ∷ r) (append_assoc c [] tail))

-- three fields and the end of their line
three_fields : (bytes t0 b1 t1 b2 t2 rest : List ℕ) (lhs : ℕ) (rhs0 rhs1 : Used) → FieldAt bytes lhs t0 → t0 ≡ 32 ∷ b1 → FieldAt b1 rhs0.literal t1 → t1 ≡ 32 ∷ b2 → FieldAt b2 rhs1.literal t2 → IsTail t2 rest
    → (text : List ℕ) × WritesLine text (line_of lhs rhs0 rhs1) × LineAt text bytes rest
unfolding line_of
three_fields bytes t0 b1 t1 b2 t2 rest lhs rhs0 rhs1 one gap0 two gap1 three ends = (
  one.field ++ in_fields (two.field ∷ three.field ∷ []),
  record { lhs = one.field; rhs0 = two.field; rhs1 = three.field; line_is = refl; lhs_writes = one.writes; rhs0_writes = two.writes; rhs1_writes = three.writes },
  record {
    tail = t2;
    parts =
        one.parts ∙ ap (λ (r : List ℕ). one.field ++ r) (gap0 ∙ ap (λ (r : List ℕ). 32 ∷ r) (two.parts ∙ ap (λ (r : List ℕ). two.field ++ r) (gap1 ∙ ap (λ (r : List ℕ). 32 ∷ r) three.parts)))
        ∙ sym (three_parts one.field two.field three.field t2);
    ends = ends;
    some = (let len = length-append one.field (in_fields (two.field ∷ three.field ∷ [])) in let some = field_some one.field lhs one.writes in omega arith);
  },
)

abbrev line_pair : Line → List ℕ → Line × List ℕ
line_pair line rest = (line, rest)

pub and_line_read : (top : ℕ) (inputs : List ℕ) → ReadsLines WritesLine (λ (front : List Line). and_line_at top (inputs ++ lhs_of front))
unfolding and_line_at line_of
and_line_read top inputs front bytes x e =
    let defined = inputs ++ lhs_of front in
    let start = bind_ok (start_at bytes) (λ line. definition_at top defined line >>= λ lhs. gap_at lhs.1 >>= λ one. use_at top one >>= λ rhs0. gap_at rhs0.1 >>= λ two. use_at top two >>= λ rhs1. line_end_at rhs1.1 >>= λ behind. Ok (line_of lhs.0 rhs0.0 rhs1.0, behind)) x e in
    let lhs = bind_ok (definition_at top defined start.0) (λ lhs. gap_at lhs.1 >>= λ one. use_at top one >>= λ rhs0. gap_at rhs0.1 >>= λ two. use_at top two >>= λ rhs1. line_end_at rhs1.1 >>= λ behind. Ok (line_of lhs.0 rhs0.0 rhs1.0, behind)) x start.2 in
    let one = bind_ok (gap_at lhs.0.1) (λ one. use_at top one >>= λ rhs0. gap_at rhs0.1 >>= λ two. use_at top two >>= λ rhs1. line_end_at rhs1.1 >>= λ behind. Ok (line_of lhs.0.0 rhs0.0 rhs1.0, behind)) x lhs.2 in
    let rhs0 = bind_ok (use_at top one.0) (λ rhs0. gap_at rhs0.1 >>= λ two. use_at top two >>= λ rhs1. line_end_at rhs1.1 >>= λ behind. Ok (line_of lhs.0.0 rhs0.0 rhs1.0, behind)) x one.2 in
    let two = bind_ok (gap_at rhs0.0.1) (λ two. use_at top two >>= λ rhs1. line_end_at rhs1.1 >>= λ behind. Ok (line_of lhs.0.0 rhs0.0.0 rhs1.0, behind)) x rhs0.2 in
    let rhs1 = bind_ok (use_at top two.0) (λ rhs1. line_end_at rhs1.1 >>= λ behind. Ok (line_of lhs.0.0 rhs0.0.0 rhs1.0, behind)) x two.2 in
    let behind = bind_ok (line_end_at rhs1.0.1) (λ behind. Ok (line_of lhs.0.0 rhs0.0.0 rhs1.0.0, behind)) x rhs1.2 in
    let is = same_value (line_pair (line_of lhs.0.0 rhs0.0.0 rhs1.0.0) behind.0) x behind.2 in
    let line : bytes ≡ start.0 = start_same bytes start.0 start.1 in
    let f0 = number_read bytes lhs.0.0 lhs.0.1 (ap number_at line ∙ definition_number top defined start.0 lhs.0 lhs.1) in
    let f1 = number_read one.0 rhs0.0.0.literal rhs0.0.1 (use_number top one.0 rhs0.0 rhs0.1) in
    let f2 = number_read two.0 rhs1.0.0.literal rhs1.0.1 (use_number top two.0 rhs1.0 rhs1.1) in
    subst (λ (y : Line × List ℕ). (text : List ℕ) × WritesLine text y.0 × LineAt text bytes y.1) is
    (three_fields bytes lhs.0.1 one.0 rhs0.0.1 two.0 rhs1.0.1 behind.0 lhs.0.0 rhs0.0.0 rhs1.0.0 f0 (gap_read lhs.0.1 one.0 one.1) f1 (gap_read rhs0.0.1 two.0 two.1) f2 (line_end rhs1.0.1 behind.0 behind.1))

abbrev pub lhs_of_all : List And → List ℕ
lhs_of_all ands = map (λ one. one.lhs) ands

abbrev pub AreLowAnds : ℕ → List And → Type 0
AreLowAnds top ands = (at : ℕ) (one : And) → slice_get ands at ≡ Some one → (one.rhs0 ≤ 2 * top + 1) × (one.rhs1 ≤ 2 * top + 1)

abbrev pub AreNewAnds : ℕ → List ℕ → List Line → List And → Type 0
AreNewAnds top inputs front bs = AreGood top ((inputs ++ lhs_of front) ++ lhs_of_all bs) × AreLowAnds top bs

lhs_grown : (inputs : List ℕ) (front : List Line) (line : Line) (more : List ℕ) → (inputs ++ lhs_of front) ++ line.lhs ∷ more ≡ (inputs ++ lhs_of (front ++ line ∷ [])) ++ more
lhs_grown inputs front line more =
    sym (append_assoc (inputs ++ lhs_of front) (line.lhs ∷ []) more) ∙ ap (λ (l : List ℕ). l ++ more) (append_assoc inputs (lhs_of front) (line.lhs ∷ []) ∙ ap (λ (l : List ℕ). inputs ++ l) (sym (lhs_more front line)))

pub and_line_written : (top : ℕ) (inputs : List ℕ) → WritesLines IsAndLine and_of (AreNewAnds top inputs) (λ (front : List Line). and_line_at top (inputs ++ lhs_of front))
unfolding and_line_at
and_line_written top inputs front text bytes rest b bs good w at =
    let defined = inputs ++ lhs_of front in
    let new = good_new top b.lhs defined (lhs_of_all bs) good.0 in
    let low = good.1 0 b refl in
    let t2 = at.tail in
    let b2 = w.rhs1 ++ t2 in
    let b1 = w.rhs0 ++ 32 ∷ b2 in
    let whole : bytes ≡ w.lhs ++ 32 ∷ b1 = at.parts ∙ ap (λ (t : List ℕ). t ++ t2) w.line_is ∙ three_parts w.lhs w.rhs0 w.rhs1 t2 in
    let read0 : number_at bytes ≡ given (number_pair b.lhs (32 ∷ b1)) = ap number_at whole ∙ number_written w.lhs (32 ∷ b1) b.lhs w.lhs_writes refl in
    let read1 : number_at b1 ≡ given (number_pair b.rhs0 (32 ∷ b2)) = number_written w.rhs0 (32 ∷ b2) b.rhs0 w.rhs0_writes refl in
    let read2 : number_at b2 ≡ given (number_pair b.rhs1 t2) = number_written w.rhs1 t2 b.rhs1 w.rhs1_writes (tail_stops t2 rest at.ends) in
    let lhs : definition_at top defined bytes ≡ given (number_pair b.lhs (32 ∷ b1)) = definition_ok top b.lhs defined bytes (32 ∷ b1) read0 new.0 new.1 in
    let rhs0 = use_written top b.rhs0 b1 (32 ∷ b2) read1 low.0 in
    let rhs1 = use_written top b.rhs1 b2 t2 read2 low.1 in
    let line : Line = record { lhs = b.lhs; rhs0 = record { literal = b.rhs0; left = length b1 }; rhs1 = record { literal = b.rhs1; left = length b2 } } in
    record {
      item = line;
      is = rw (start_written text bytes rest at, lhs, rhs0, rhs1, line_end_again t2 rest at.ends) refl;
      next = (refl, (subst (AreGood top) (lhs_grown inputs front line (lhs_of_all bs)) good.0, λ k one is. good.1 (suc k) one is));
    }
