-- Binary files that break, from what a reader answers.
use Rattle.std.proofs.Common.{◌≡◌, ◌≢◌, ◌⊎◌, ◌∙◌, inl, inr, ◌<◌, ◌≤◌, ◌+◌, ◌-◌, ◌*◌, ◌^◌, ◌==◌, ℕ, Bool, true, false, cond, zero, suc, refl, ap, sym, subst, arith, List, [], ◌∷◌, ◌++◌, length, length-append, take, get_or, Option, None, Some, Result, Ok, Err}
use Rattle.rsfq_ids.specs.declared.limits.TheConstants.{AIG_LIMIT}
use Rattle.std.specs.Prelude.{nat_lt, slice_get, ◌||◌}
use Rattle.std.specs.List.{concat}
use Rattle.std.proofs.lemmas.Bool.{ltb-true, ltb-false, eqb-true, eqb-false}
use Rattle.std.proofs.lemmas.Option.{slice_get_within, get_or_from_slice_get}
use Rattle.golden_aig.specs.declared.graph.And.{And}
use Rattle.golden_aig.specs.Aig.{IsAndAt}
use Rattle.aiger_parts.specs.declared.fault.AigerWhy.{AigerWhy}
use Rattle.aiger_parts.specs.declared.fault.AigerWhy.TheVariants as why
use Rattle.aiger_parts.specs.declared.fault.Stop.{Stop}
use Rattle.aiger_parts.specs.declared.header.Form.TheVariants as form
use Rattle.aiger_parts.specs.declared.header.Header.{Header}
use Rattle.aiger_parts.specs.Reading.{◌>>=◌, fault, number_at, line_end_at, literal_at, groups_at, is_cut, difference_or, difference_at, and_at, many_at}
use Rattle.aiger_read.specs.Spelling.{WriteGroups, BeginsWithDifference}
use Rattle.aiger_read.specs.Spelled.{IsHeadLine}
use Rattle.aiger_read.specs.Broken.{used_literal, AreHigh, BreaksDifference, BreaksSecond, BreaksAnd, BinaryFront, BreaksInOutputs, BreaksInAnds}
use Rattle.aiger_read.proofs.WellFormed.{given, unless_ok, or_false, many_ok, literal_ok, and_ok, and_at_place}
use Rattle.aiger_read.proofs.Groups.{more_groups, differences}
use Rattle.aiger_read.proofs.FileLines.{LinesAt, written}
use Rattle.aiger_read.proofs.FieldTexts.{number_read}
use Rattle.aiger_read.proofs.HeadLines.{HeadAt}
use Rattle.aiger_read.proofs.BinaryFiles.{literals_read, ands_read, many_count, head_counts}
use Rattle.aiger_read.proofs.BrokenLines.{failed, same_stop, bind_err, unless_err, no_stop, many_err, lines_shorter, no_number, wrong_number, FieldsStop, field_first, IsRight, field_end, LineStop, end_stop, some_rest, IsPlace, line_breaks}

-- ---- lines of outputs

pub used_right : (top n : ℕ) → n ≤ 2 * top + 1 → IsRight (used_literal top) n
used_right top n le cause wrong = (let lt = wrong.1 in absurd (omega arith))

-- behind the number of a line of one literal
abbrev literal_behind : ℕ → List ℕ → ℕ × List ℕ → Result (ℕ × List ℕ) Stop
literal_behind top bytes x = cond (nat_lt (2 * top + 1) x.0) (Err (fault (why.Range x.0) bytes)) (line_end_at x.1) >>= λ behind. Ok (x.0, behind)

literal_bad : (top : ℕ) (bytes : List ℕ) (stop : Stop) → literal_at (2 * top + 1) bytes ≡ Err stop → LineStop (used_literal top ∷ []) bytes stop
unfolding literal_at
literal_bad top bytes stop e = elim (unless_err (length bytes == 0) (fault why.Truncated []) (number_at bytes >>= literal_behind top bytes) stop e) [
  | inl (none, same) ↦ inl (end_stop bytes stop none same)
  | inr (some, line) ↦ inr (some_rest bytes some, number line)
] where
  behind_number : (x : ℕ × List ℕ) → number_at bytes ≡ Ok x → cond (nat_lt (2 * top + 1) x.0) (Err (fault (why.Range x.0) bytes)) (line_end_at x.1) ≡ Err stop → FieldsStop (used_literal top ∷ []) bytes stop
  behind_number x is h = elim (unless_err (nat_lt (2 * top + 1) x.0) (fault (why.Range x.0) bytes) (line_end_at x.1) stop h) [
    | inl (high, same) ↦ field_first (used_literal top) [] bytes stop (wrong_number (used_literal top) bytes stop x (why.Range x.0) is same (refl, ltb-true (2 * top + 1) x.0 high))
    | inr (low, ends) ↦ field_end (used_literal top) bytes x.0 x.1 stop (number_read bytes x.0 x.1 is) (used_right top x.0 (ltb-false (2 * top + 1) x.0 low)) ends
  ]

  number : (number_at bytes >>= literal_behind top bytes) ≡ failed stop → FieldsStop (used_literal top ∷ []) bytes stop
  number h = elim (bind_err (number_at bytes) (literal_behind top bytes) stop h) [
    | inl bad ↦ field_first (used_literal top) [] bytes stop (no_number (used_literal top) bytes stop bad)
    | inr (x, is, more) ↦ elim (bind_err (cond (nat_lt (2 * top + 1) x.0) (Err (fault (why.Range x.0) bytes)) (line_end_at x.1)) (λ behind. Ok (x.0, behind)) stop more) [
      | inl bad ↦ behind_number x is bad
      | inr (behind, ok, none) ↦ absurd (no_stop {A = ℕ × List ℕ} (x.0, behind) stop none)
    ]
  ]

-- what holds of each by its place, at each place
each_at : {A : Type 0} (P : ℕ → A → Type 0) (xs : List A) → ((k : ℕ) (d : A) → k < length xs → P (0 + k) (get_or xs k d)) → (at : ℕ) (x : A) → slice_get xs at ≡ Some x → P at x
each_at P xs each at x is =
    let lt = slice_get_within xs at x is in
    let same : get_or xs at x ≡ x = get_or_from_slice_get xs at x x is in
    let here : 0 + at ≡ at = omega arith in
    subst (λ (n : ℕ). P n x) here (subst (P (0 + at)) same (each at x lt))

abbrev at_most : ℕ → ℕ → ℕ → Type 0
at_most top place literal = literal ≤ 2 * top + 1

pub outputs_low : (top number : ℕ) (bytes : List ℕ) (xs : List ℕ × List ℕ) → many_at (λ p. literal_at (2 * top + 1)) 0 number bytes ≡ given xs → (at literal : ℕ) → slice_get xs.0 at ≡ Some literal → literal ≤ 2 * top + 1
outputs_low top number bytes xs e = each_at (at_most top) xs.0 (many_ok (at_most top) (λ p. literal_at (2 * top + 1)) (λ place bs x is. literal_ok (2 * top + 1) bs x is) number 0 bytes xs e).1

pub head_of_binary : (h : Header) (bytes rest : List ℕ) (head : HeadAt form.Binary h bytes rest) → IsHeadLine form.Binary (h.inputs + h.ands) h.inputs h.outputs h.ands head.line
head_of_binary h bytes rest head = head_counts h head.line h.outputs h.ands refl refl head.fits head.is

pub small_head : (h : Header) (bytes rest : List ℕ) (head : HeadAt form.Binary h bytes rest) → h.inputs + h.ands ≤ AIG_LIMIT
small_head h bytes rest head = (let sum : h.variables ≡ h.inputs + h.ands = eqb-true h.variables (h.inputs + h.ands) head.fits in let limit = head.limit in omega arith)

pub outputs_break : (bytes : List ℕ) (h : Header) (r0 : List ℕ) (offset : ℕ) (cause : AigerWhy) (stop : Stop) → HeadAt form.Binary h bytes r0 → many_at (λ p. literal_at (2 * (h.inputs + h.ands) + 1)) 0 h.outputs r0 ≡ Err stop → IsPlace bytes offset cause stop → BreaksInOutputs bytes offset cause
outputs_break bytes h r0 offset cause stop head e place =
    let top = h.inputs + h.ands in
    let m = many_err (λ p. literal_at (2 * (h.inputs + h.ands) + 1)) h.outputs 0 r0 stop e in
    let lines = literals_read (2 * (h.inputs + h.ands) + 1) m.number 0 r0 m.xs.0 m.xs.1 m.good in
    let many : length m.xs.0 ≡ m.number = many_count (λ p. literal_at (2 * (h.inputs + h.ands) + 1)) m.number 0 r0 m.xs m.good in
    let fewer = m.fewer in
    let at : LinesAt (head.line ∷ lines.lines) bytes m.xs.1 = (r0, head.at, lines.at) in (
      h.inputs,
      h.outputs,
      h.ands,
      m.xs.0,
      m.xs.1,
      record {
        head = head.line;
        head_line = head_of_binary h bytes r0 head;
        limit = small_head h bytes r0 head;
        lines = lines.lines;
        texts = [];
        between = m.xs.1;
        output_lines = lines.write;
        low = outputs_low (h.inputs + h.ands) m.number r0 m.xs m.good;
        and_bytes = tt;
        each = λ k one is. absurd cc;
        lines_are = written (head.line ∷ lines.lines) bytes m.xs.1 at;
        parts = refl;
      },
      omega arith,
      line_breaks (used_literal (h.inputs + h.ands) ∷ []) bytes m.xs.1 offset cause stop (lines_shorter (head.line ∷ lines.lines) bytes m.xs.1 at) place (literal_bad (h.inputs + h.ands) m.xs.1 stop m.bad),
    )

-- ---- what is before

pub ands_shorter : (inputs number : ℕ) (bytes : List ℕ) (xs : List And × List ℕ) → many_at (λ p. and_at (2 * (inputs + p + 1))) 0 number bytes ≡ given xs → length xs.1 ≤ length bytes
ands_shorter inputs number bytes xs e =
    let texts = ands_read inputs number 0 bytes xs.0 xs.1 e in
    let long : length bytes ≡ length (concat texts.texts) + length xs.1 = ap length texts.parts ∙ length-append (concat texts.texts) xs.1 in
    omega arith

-- what is written before an AND or a symbol
pub binary_front : (bytes : List ℕ) (h : Header) (r0 : List ℕ) (literals : List ℕ) (r1 : List ℕ) (number : ℕ) (xs : List And × List ℕ) → HeadAt form.Binary h bytes r0 → many_at (λ p. literal_at (2 * (h.inputs + h.ands) + 1)) 0 h.outputs r0 ≡ given (literals, r1)
    → many_at (λ p. and_at (2 * (h.inputs + p + 1))) 0 number r1 ≡ given xs → BinaryFront h.inputs h.outputs h.ands literals xs.0 bytes xs.1
binary_front bytes h r0 literals r1 number xs head outputs good =
    let lines = literals_read (2 * (h.inputs + h.ands) + 1) h.outputs 0 r0 literals r1 outputs in
    let texts = ands_read h.inputs number 0 r1 xs.0 xs.1 good in
    record {
      head = head.line;
      head_line = head_of_binary h bytes r0 head;
      limit = small_head h bytes r0 head;
      lines = lines.lines;
      texts = texts.texts;
      between = r1;
      output_lines = lines.write;
      low = outputs_low (h.inputs + h.ands) h.outputs r0 (literals, r1) outputs;
      and_bytes = texts.write;
      each = each_at (IsAndAt h.inputs) xs.0 (many_ok (IsAndAt h.inputs) (λ p. and_at (2 * (h.inputs + p + 1))) (λ place bs x is. and_at_place h.inputs place x.0 (and_ok (2 * (h.inputs + place + 1)) bs x is)) number 0 r1 xs good).1;
      lines_are = written (head.line ∷ lines.lines) bytes r1 (r0, head.at, lines.at);
      parts = texts.parts;
    }

-- ---- differences

record Cut (most : ℕ) (bytes : List ℕ) : Type 0 where
  short : length bytes < most
  high : AreHigh bytes
  cut : is_cut most bytes ≡ true

record Long (most : ℕ) (bytes : List ℕ) : Type 0 where
  long : most ≤ length bytes
  high : AreHigh (take most bytes)
  whole : is_cut most bytes ≡ false

record Groups (most : ℕ) (bytes : List ℕ) : Type 0 where
  front : List ℕ
  rest : List ℕ
  n : ℕ
  parts : bytes ≡ front ++ rest
  few : length front ≤ most
  groups : WriteGroups front n
  whole : is_cut most bytes ≡ false

sorts : (most : ℕ) (bytes : List ℕ) → Cut most bytes ⊎ (Long most bytes ⊎ Groups most bytes)
sorts zero bytes = inr (inl (record { long = omega arith; high = tt; whole = refl }))
sorts (suc most) [] = inl (record { short = omega arith; high = tt; cut = refl })
sorts (suc most) (b ∷ bs) = go (nat_lt b 128) refl (sorts most bs) where
  go : (t : Bool) → nat_lt b 128 ≡ t → Cut most bs ⊎ (Long most bs ⊎ Groups most bs) → Cut (suc most) (b ∷ bs) ⊎ (Long (suc most) (b ∷ bs) ⊎ Groups (suc most) (b ∷ bs))
  go true is more = inr (inr (record { front = b ∷ []; rest = bs; n = b; parts = refl; few = omega arith; groups = (ltb-true b 128 is, refl); whole = rw is refl }))
  go false is (inl c) = (let short = c.short in inl (record { short = omega arith; high = (ltb-false b 128 is, c.high); cut = rw is c.cut }))
  go false is (inr (inl l)) = (let long = l.long in inr (inl (record { long = omega arith; high = (ltb-false b 128 is, l.high); whole = rw is l.whole })))
  go false is (inr (inr g)) =
      let le = ltb-false b 128 is in
      let few = g.few in
      inr (inr (record { front = b ∷ g.front; rest = g.rest; n = b - 128 + 128 * g.n; parts = ap (λ (r : List ℕ). b ∷ r) g.parts; few = omega arith; groups = more_groups b g.n (b - 128 + 128 * g.n) g.front le (omega arith) g.groups; whole = rw is g.whole }))

record DifferenceStop (bytes : List ℕ) (stop : Stop) : Type 0 where
  at : ℕ
  breaks : BreaksDifference bytes at stop.why
  place : stop.left + at ≡ length bytes

cut_stop : Stop
cut_stop = fault why.Truncated []

number_stop : List ℕ → Stop
number_stop bytes = fault why.Number bytes

-- how a difference fails
difference_cases : (bytes : List ℕ) (stop : Stop) → difference_at bytes ≡ Err stop → ((is_cut 5 bytes ≡ true) × (cut_stop ≡ stop)) ⊎ ((is_cut 5 bytes ≡ false) × (number_stop bytes ≡ stop))
unfolding difference_at cut_stop number_stop
difference_cases bytes stop e = elim (unless_err (is_cut 5 bytes) (fault why.Truncated []) (difference_or bytes (groups_at 5 bytes)) stop e) [
  | inl cut ↦ inl cut
  | inr (whole, h) ↦ inr (whole, go (groups_at 5 bytes) h)
] where
  go : (o : Option (ℕ × List ℕ)) → difference_or bytes o ≡ Err stop → fault why.Number bytes ≡ stop
  go None h = same_stop {A = ℕ × List ℕ} (fault why.Number bytes) stop h
  go (Some x) h = absurd (no_stop x stop h)

true_false : (b : Bool) → b ≡ true → b ≡ false → ⊥
true_false b on off = let bad : true ≡ false = sym on ∙ off in absurd cc

number_break : (bytes : List ℕ) (stop : Stop) → number_stop bytes ≡ stop → BreaksDifference bytes 0 why.Number → DifferenceStop bytes stop
unfolding number_stop
number_break bytes stop same breaks = subst (DifferenceStop bytes) same (record { at = 0; breaks = breaks; place = omega arith })

difference_bad : (bytes : List ℕ) (stop : Stop) → difference_at bytes ≡ Err stop → DifferenceStop bytes stop
unfolding cut_stop
difference_bad bytes stop e = go (sorts 5 bytes) (difference_cases bytes stop e) where
  large : (g : Groups 5 bytes) → (t : Bool) → nat_lt g.n (2 ^ 32) ≡ t → 2 ^ 32 ≤ g.n
  large g false is = ltb-false g.n (2 ^ 32) is
  large g true is = absurd (no_stop {A = ℕ × List ℕ} (g.n, g.rest) stop (sym ((differences bytes g.rest g.n).1 (record { front = g.front; parts = g.parts; few = g.few; groups = g.groups; small = ltb-true g.n (2 ^ 32) is })) ∙ e))

  go : Cut 5 bytes ⊎ (Long 5 bytes ⊎ Groups 5 bytes) → ((is_cut 5 bytes ≡ true) × (cut_stop ≡ stop)) ⊎ ((is_cut 5 bytes ≡ false) × (number_stop bytes ≡ stop)) → DifferenceStop bytes stop
  go (inl c) (inl (cut, same)) = subst (DifferenceStop bytes) same (record { at = length bytes; breaks = inl (refl, refl, c.short, c.high); place = omega arith })
  go (inl c) (inr (whole, same)) = absurd (true_false (is_cut 5 bytes) c.cut whole)
  go (inr (inl l)) (inl (cut, same)) = absurd (true_false (is_cut 5 bytes) cut l.whole)
  go (inr (inl l)) (inr (whole, same)) = number_break bytes stop same (inr (inl (refl, refl, l.long, l.high)))
  go (inr (inr g)) (inl (cut, same)) = absurd (true_false (is_cut 5 bytes) cut g.whole)
  go (inr (inr g)) (inr (whole, same)) = number_break bytes stop same (inr (inr (refl, refl, g.front, g.rest, g.n, g.parts, g.few, g.groups, large g (nat_lt g.n (2 ^ 32)) refl)))

-- ---- ANDs

record AndStop (lhs : ℕ) (bytes : List ℕ) (stop : Stop) : Type 0 where
  at : ℕ
  breaks : BreaksAnd lhs bytes at stop.why
  place : stop.left + at ≡ length bytes

record SecondStop (rhs0 : ℕ) (bytes : List ℕ) (stop : Stop) : Type 0 where
  later : ℕ
  breaks : BreaksSecond rhs0 bytes later stop.why
  place : stop.left + later ≡ length bytes

or_true : (a b : Bool) → (a || b) ≡ true → (a ≡ true) ⊎ (b ≡ true)
or_true true b e = inl refl
or_true false b e = inr e

order_first : (lhs : ℕ) (bytes rest : List ℕ) (first : ℕ) (stop : Stop) → fault why.Order bytes ≡ stop → BeginsWithDifference bytes first rest → (first ≡ 0) ⊎ (lhs < first) → AndStop lhs bytes stop
order_first lhs bytes rest first stop same begins wrong = subst (AndStop lhs bytes) same (record { at = 0; breaks = inr (inl (refl, refl, first, rest, begins, wrong)); place = omega arith })

order_second : (rhs0 : ℕ) (bytes rest : List ℕ) (second : ℕ) (stop : Stop) → fault why.Order bytes ≡ stop → BeginsWithDifference bytes second rest → rhs0 < second → SecondStop rhs0 bytes stop
order_second rhs0 bytes rest second stop same begins wrong = subst (SecondStop rhs0 bytes) same (record { later = 0; breaks = inr (refl, refl, second, rest, begins, wrong); place = omega arith })

second_stop : (lhs : ℕ) (bytes rest : List ℕ) (first : ℕ) (stop : Stop) → BeginsWithDifference bytes first rest → (first == 0 || nat_lt lhs first) ≡ false → SecondStop (lhs - first) rest stop → AndStop lhs bytes stop
second_stop lhs bytes rest first stop begins test s =
    let both = or_false (first == 0) (nat_lt lhs first) test in
    let some : first ≢ 0 = eqb-false first 0 both.0 in
    let le : first ≤ lhs = ltb-false lhs first both.1 in
    let long : length bytes ≡ length begins.front + length rest = ap length begins.parts ∙ length-append begins.front rest in
    let place = s.place in
    record { at = length begins.front + s.later; breaks = inr (inr (first, s.later, lhs - first, rest, begins, omega arith, omega arith, s.breaks, omega arith)); place = omega arith }

second_bad : (rhs0 : ℕ) (bytes : List ℕ) (stop : Stop) → difference_at bytes ≡ Err stop → SecondStop rhs0 bytes stop
second_bad rhs0 bytes stop e = let d = difference_bad bytes stop e in record { later = d.at; breaks = inl d.breaks; place = d.place }

and_bad : (lhs : ℕ) (bytes : List ℕ) (stop : Stop) → and_at lhs bytes ≡ Err stop → AndStop lhs bytes stop
unfolding and_at
and_bad lhs bytes stop e = elim (bind_err (difference_at bytes) (λ first. cond (first.0 == 0 || nat_lt lhs first.0) (Err (fault why.Order bytes)) (difference_at first.1) >>= λ second. cond (nat_lt (lhs - first.0) second.0) (Err (fault why.Order first.1)) (Ok (record { lhs = lhs; rhs0 = lhs - first.0; rhs1 = lhs - first.0 - second.0 }, second.1))) stop e) [
  | inl bad ↦ (let d = difference_bad bytes stop bad in record { at = d.at; breaks = inl d.breaks; place = d.place })
  | inr (first, is, more) ↦ elim (bind_err (cond (first.0 == 0 || nat_lt lhs first.0) (Err (fault why.Order bytes)) (difference_at first.1)) (λ second. cond (nat_lt (lhs - first.0) second.0) (Err (fault why.Order first.1)) (Ok (record { lhs = lhs; rhs0 = lhs - first.0; rhs1 = lhs - first.0 - second.0 }, second.1))) stop more) [
    | inl bad ↦ elim (unless_err (first.0 == 0 || nat_lt lhs first.0) (fault why.Order bytes) (difference_at first.1) stop bad) [
      | inl (wrong, same) ↦ order_first lhs bytes first.1 first.0 stop same ((differences bytes first.1 first.0).0 is) (elim (or_true (first.0 == 0) (nat_lt lhs first.0) wrong) [ inl none ↦ inl (eqb-true first.0 0 none) | inr high ↦ inr (ltb-true lhs first.0 high) ])
      | inr (right, next) ↦ second_stop lhs bytes first.1 first.0 stop ((differences bytes first.1 first.0).0 is) right (second_bad (lhs - first.0) first.1 stop next)
    ]
    | inr (second, good, last) ↦ behind first second is (unless_ok (first.0 == 0 || nat_lt lhs first.0) (fault why.Order bytes) (difference_at first.1) second good) (unless_err (nat_lt (lhs - first.0) second.0) (fault why.Order first.1) (Ok (record { lhs = lhs; rhs0 = lhs - first.0; rhs1 = lhs - first.0 - second.0 }, second.1)) stop last)
  ]
] where
  behind : (first second : ℕ × List ℕ) → difference_at bytes ≡ Ok first → ((first.0 == 0 || nat_lt lhs first.0) ≡ false) × (difference_at first.1 ≡ Ok second)
      → ((nat_lt (lhs - first.0) second.0 ≡ true) × (fault why.Order first.1 ≡ stop)) ⊎ ((nat_lt (lhs - first.0) second.0 ≡ false) × (given {A = And × List ℕ} (record { lhs = lhs; rhs0 = lhs - first.0; rhs1 = lhs - first.0 - second.0 }, second.1) ≡ Err stop)) → AndStop lhs bytes stop
  behind first second is (right, good) (inl (high, same)) =
      second_stop lhs bytes first.1 first.0 stop ((differences bytes first.1 first.0).0 is) right
      (order_second (lhs - first.0) first.1 second.1 second.0 stop same ((differences first.1 second.1 second.0).0 good) (ltb-true (lhs - first.0) second.0 high))
  behind first second is (right, good) (inr (low, none)) = absurd (no_stop {A = And × List ℕ} (record { lhs = lhs; rhs0 = lhs - first.0; rhs1 = lhs - first.0 - second.0 }, second.1) stop none)

pub ands_break : (bytes : List ℕ) (h : Header) (r0 : List ℕ) (literals : List ℕ) (r1 : List ℕ) (offset : ℕ) (cause : AigerWhy) (stop : Stop) → HeadAt form.Binary h bytes r0 → many_at (λ p. literal_at (2 * (h.inputs + h.ands) + 1)) 0 h.outputs r0 ≡ given (literals, r1)
    → many_at (λ p. and_at (2 * (h.inputs + p + 1))) 0 h.ands r1 ≡ Err stop → IsPlace bytes offset cause stop → BreaksInAnds bytes offset cause
ands_break bytes h r0 literals r1 offset cause stop head outputs e place =
    let m = many_err (λ p. and_at (2 * (h.inputs + p + 1))) h.ands 0 r1 stop e in
    let front = binary_front bytes h r0 literals r1 m.number m.xs head outputs m.good in
    let lines = literals_read (2 * (h.inputs + h.ands) + 1) h.outputs 0 r0 literals r1 outputs in
    let many : length m.xs.0 ≡ m.number = many_count (λ p. and_at (2 * (h.inputs + p + 1))) m.number 0 r1 m.xs m.good in
    let wanted : 2 * (h.inputs + (0 + m.number) + 1) ≡ 2 * (h.inputs + length m.xs.0 + 1) = omega arith in
    let stopped = and_bad (2 * (h.inputs + length m.xs.0 + 1)) m.xs.1 stop (ap (λ (l : ℕ). and_at l m.xs.1) (sym wanted) ∙ m.bad) in
    let fewer = m.fewer in
    let left = stopped.place in
    let shorter = lines_shorter lines.lines r0 r1 lines.at in
    let first = lines_shorter (head.line ∷ []) bytes r0 (r0, head.at, refl) in
    let last = ands_shorter h.inputs m.number r1 m.xs m.good in
    let at = place.1 in (
      h.inputs,
      h.outputs,
      h.ands,
      stopped.at,
      literals,
      m.xs.1,
      m.xs.0,
      front,
      many_count (λ p. literal_at (2 * (h.inputs + h.ands) + 1)) h.outputs 0 r0 (literals, r1) outputs,
      omega arith,
      subst (BreaksAnd (2 * (h.inputs + length m.xs.0 + 1)) m.xs.1 stopped.at) (sym place.0) stopped.breaks,
      omega arith,
    )
