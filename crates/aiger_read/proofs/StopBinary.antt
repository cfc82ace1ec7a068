-- Binary files that break, and what a reader answers.
use Rattle.std.proofs.Common.{◌≡◌, ◌⊎◌, ◌∙◌, inl, inr, ◌<◌, ◌≤◌, ◌+◌, ◌-◌, ◌*◌, ◌^◌, ◌==◌, ℕ, Bool, true, false, cond, zero, suc, refl, ap, sym, subst, arith, List, [], ◌∷◌, ◌++◌, length, take, get_or, None, Some, Result, Ok, Err}
use Rattle.std.specs.Prelude.{nat_lt, replicate, ◌||◌}
use Rattle.std.proofs.lemmas.Bool.{ltb-true, ltb-false, lt-ltb, le-ltb, eq-eqb}
use Rattle.std.proofs.lemmas.Option.{slice_get-get_or}
use Rattle.golden_aig.specs.declared.graph.And.{And}
use Rattle.golden_aig.specs.Aig.{IsAndAt}
use Rattle.aiger_parts.specs.declared.fault.AigerWhy.{AigerWhy}
use Rattle.aiger_parts.specs.declared.fault.AigerWhy.TheVariants as why
use Rattle.aiger_parts.specs.declared.fault.Stop.{Stop}
use Rattle.aiger_parts.specs.declared.header.Form.TheVariants as form
use Rattle.aiger_parts.specs.declared.header.Header.{Header}
use Rattle.aiger_parts.specs.Reading.{◌>>=◌, fault, number_at, line_end_at, literal_at, groups_at, is_cut, difference_at, and_at, many_at}
use Rattle.aiger_parts.specs.Header.{header_at}
use Rattle.aiger_parts.specs.Symbols.{symbols_at}
use Rattle.aiger_read.specs.Graph.{graph_at}
use Rattle.aiger_read.specs.Spelling.{WriteGroups, BeginsWithDifference}
use Rattle.aiger_read.specs.Broken.{used_literal, IsWrong, BreaksFields, BreaksLine, AreHigh, BreaksDifference, BreaksSecond, BreaksAnd, BinaryFront, BreaksInOutputs, BreaksInAnds, BreaksInBinarySymbols, BreaksBinary}
use Rattle.aiger_read.proofs.WellFormed.{given, same_value}
use Rattle.aiger_read.proofs.Groups.{groups_again, cut_again, differences}
use Rattle.aiger_read.proofs.AndLaws.{some_test}
use Rattle.aiger_read.proofs.FieldTexts.{all_some}
use Rattle.aiger_read.proofs.HeadLines.{head_written}
use Rattle.aiger_read.proofs.BinaryFiles.{literals_written, ands_written}
use Rattle.aiger_read.proofs.BrokenLines.{failed}
use Rattle.aiger_read.proofs.StopLines.{Stops, stops_here, stops_as, many_stops, number_begins, field_stops, low_right, no_line_end, field_long, number_stop, StopsAt, at_as, stops_at, line_stops}
use Rattle.aiger_read.proofs.StopHead.{lines_at, head_long, head_stops}
use Rattle.aiger_read.proofs.StopSymbols.{symbols_stop}

-- ---- lines of outputs

abbrev number_behind : ℕ → List ℕ → ℕ × List ℕ → Result (ℕ × List ℕ) Stop
number_behind top bytes x = cond (nat_lt (2 * top + 1) x.0) (Err (fault (why.Range x.0) bytes)) (line_end_at x.1) >>= λ behind. Ok (x.0, behind)

literal_fields : (top : ℕ) (bytes : List ℕ) (at : ℕ) (cause : AigerWhy) → BreaksFields (used_literal top ∷ []) bytes at cause → Stops (number_at bytes >>= number_behind top bytes) bytes at cause
literal_fields top bytes at cause (inl (here, breaks)) =
    subst (λ (n : ℕ). Stops (number_at bytes >>= number_behind top bytes) bytes n cause) (sym here) (stops_here (number_at bytes >>= number_behind top bytes) bytes cause (field_stops (used_literal top) bytes cause (number_behind top bytes) refuses breaks))
  where
    refuses : (x : ℕ × List ℕ) → IsWrong (used_literal top) x.0 cause → number_behind top bytes x ≡ Err (fault cause bytes)
    refuses x (is, high) = rw (lt-ltb (2 * top + 1) x.0 high) (ap (λ (c : AigerWhy). failed {A = ℕ × List ℕ} (fault c bytes)) (sym is))
literal_fields top bytes at cause (inr (field, tail, b, is, there, ends)) =
    let long = field_long (used_literal top) bytes field tail b in
    let low = low_right top b.number b.right in
    stops_as (line_end_at tail) (number_at bytes >>= number_behind top bytes) bytes tail at 0 cause
    (λ stop e. rw (number_begins (used_literal top) bytes field tail b, le-ltb (2 * top + 1) b.number low, e) refl) (omega arith)
    (number_stop (line_end_at tail) tail cause is (no_line_end tail ends))

literal_stops : (top : ℕ) (bytes rest : List ℕ) (offset : ℕ) (cause : AigerWhy) → BreaksLine (used_literal top ∷ []) bytes rest offset cause → StopsAt (literal_at (2 * top + 1) rest) bytes offset cause
unfolding literal_at
literal_stops top bytes rest offset cause breaks = line_stops (λ line. number_at line >>= number_behind top line) (used_literal top ∷ []) bytes rest offset cause (λ at b. literal_fields top rest at cause b) breaks

-- ---- differences

high_cut : (most : ℕ) (bytes : List ℕ) → length bytes < most → AreHigh bytes → is_cut most bytes ≡ true
high_cut zero bytes lt high = absurd (omega arith)
high_cut (suc most) [] lt high = refl
high_cut (suc most) (b ∷ bs) lt high = rw (le-ltb b 128 high.0) (high_cut most bs (omega arith) high.1)

high_long : (most : ℕ) (bytes : List ℕ) → most ≤ length bytes → AreHigh (take most bytes) → (is_cut most bytes ≡ false) × (groups_at most bytes ≡ None)
high_long zero bytes le high = (refl, refl)
high_long (suc most) [] le high = absurd (omega arith)
high_long (suc most) (b ∷ bs) le high =
    let more = high_long most bs (omega arith) high.1 in
    (rw (le-ltb b 128 high.0) more.0, rw (le-ltb b 128 high.0, more.1) refl)

-- groups of a number that is too large
groups_large : (front : List ℕ) (most n : ℕ) (rest : List ℕ) → length front ≤ most → WriteGroups front n → 2 ^ 32 ≤ n → groups_at most (front ++ rest) ≡ None
groups_large [] most n rest le groups large = absurd groups
groups_large (b ∷ []) zero n rest le groups large = absurd (omega arith)
groups_large (b ∷ []) (suc most) n rest le (low, is) large = absurd (omega arith)
groups_large (b ∷ c ∷ bs) zero n rest le groups large = absurd (omega arith)
groups_large (b ∷ c ∷ bs) (suc most) n rest le (high_bit, high, sum, groups) large = go (nat_lt high (2 ^ 32)) refl (λ more. groups_large (c ∷ bs) most high rest (omega arith) groups more) where
  go : (t : Bool) → nat_lt high (2 ^ 32) ≡ t → (2 ^ 32 ≤ high → groups_at most (c ∷ bs ++ rest) ≡ None) → groups_at (suc most) (b ∷ c ∷ bs ++ rest) ≡ None
  go true is more =
      let inner : groups_at most (c ∷ bs ++ rest) ≡ Some (high, rest) = groups_again (c ∷ bs) most high rest (omega arith) groups (ltb-true high (2 ^ 32) is) in
      let value : b - 128 + 128 * high ≡ n = omega arith in
      rw (le-ltb b 128 high_bit, inner, value, le-ltb n (2 ^ 32) large) refl
  go false is more =
      let inner : groups_at most (c ∷ bs ++ rest) ≡ None = more (ltb-false high (2 ^ 32) is) in
      rw (le-ltb b 128 high_bit, inner) refl

no_difference : (bytes : List ℕ) → is_cut 5 bytes ≡ false → groups_at 5 bytes ≡ None → difference_at bytes ≡ Err (fault why.Number bytes)
unfolding difference_at
no_difference bytes whole none = rw (whole, none) refl

cut_difference : (bytes : List ℕ) → is_cut 5 bytes ≡ true → difference_at bytes ≡ Err (fault why.Truncated [])
unfolding difference_at
cut_difference bytes cut = rw cut refl

difference_stops : (bytes : List ℕ) (at : ℕ) (cause : AigerWhy) → BreaksDifference bytes at cause → Stops (difference_at bytes) bytes at cause
difference_stops bytes at cause (inl (is, end, short, high)) = record { stop = fault why.Truncated []; is = cut_difference bytes (high_cut 5 bytes short high); cause_is = is; place = omega arith }
difference_stops bytes at cause (inr (inl (is, here, long, high))) = (let l = high_long 5 bytes long high in record { stop = fault why.Number bytes; is = no_difference bytes l.0 l.1; cause_is = is; place = omega arith })
difference_stops bytes at cause (inr (inr (is, here, front, rest, n, parts, few, groups, large))) =
    record { stop = fault why.Number bytes; is = no_difference bytes (ap (is_cut 5) parts ∙ cut_again front 5 n rest few groups) (ap (groups_at 5) parts ∙ groups_large front 5 n rest few groups large); cause_is = is; place = omega arith }

-- ---- ANDs

difference_given : (bytes : List ℕ) (n : ℕ) (rest : List ℕ) → BeginsWithDifference bytes n rest → difference_at bytes ≡ given (n, rest)
difference_given bytes n rest b = (differences bytes rest n).1 b

or_right : (a b : Bool) → b ≡ true → (a || b) ≡ true
or_right true b e = refl
or_right false b e = e

order_test : (first lhs : ℕ) → (first ≡ 0) ⊎ (lhs < first) → (first == 0 || nat_lt lhs first) ≡ true
order_test first lhs (inl none) = rw (eq-eqb first 0 none) refl
order_test first lhs (inr high) = or_right (first == 0) (nat_lt lhs first) (lt-ltb lhs first high)

and_stops : (lhs : ℕ) (bytes : List ℕ) (at : ℕ) (cause : AigerWhy) → BreaksAnd lhs bytes at cause → Stops (and_at lhs bytes) bytes at cause
unfolding and_at
and_stops lhs bytes at cause (inl breaks) =
    let d = difference_stops bytes at cause breaks in
    record { stop = d.stop; is = (let e = d.is in rw e refl); cause_is = d.cause_is; place = d.place }
and_stops lhs bytes at cause (inr (inl (is, here, first, rest, begins, wrong))) =
    let read = difference_given bytes first rest begins in
    record { stop = fault why.Order bytes; is = rw (read, order_test first lhs wrong) refl; cause_is = is; place = omega arith }
and_stops lhs bytes at cause (inr (inr (first, later, rhs0, rest, begins, some, sum, breaks, there))) = second breaks where
  read : difference_at bytes ≡ given (first, rest)
  read = difference_given bytes first rest begins

  test : (first == 0 || nat_lt lhs first) ≡ false
  test = some_test first lhs some (omega arith)

  second : BreaksSecond rhs0 rest later cause → Stops (and_at lhs bytes) bytes at cause
  second (inl broken) = stops_as (difference_at rest) (and_at lhs bytes) bytes rest at later cause (λ stop e. rw (read, test, e) refl) there (difference_stops rest later cause broken)
  second (inr (is, here, number, behind, stands, high)) =
      let again = difference_given rest number behind stands in
      let below : nat_lt (lhs - first) number ≡ true = lt-ltb (lhs - first) number (omega arith) in
      record { stop = fault why.Order rest; is = rw (read, test, again, below) refl; cause_is = is; place = omega arith }

-- ---- a file up to a place

header_for : ℕ → ℕ → ℕ → Header
header_for inputs outputs ands = record { variables = inputs + ands; inputs = inputs; outputs = outputs; ands = ands }

record FrontRead (inputs outputs ands : ℕ) (literals : List ℕ) (xs : List And) (bytes rest : List ℕ) : Type 0 where
  r0 : List ℕ
  r1 : List ℕ
  head : header_at form.Binary bytes ≡ given (header_for inputs outputs ands, r0)
  lines : many_at (λ p. literal_at (2 * (inputs + ands) + 1)) 0 (length literals) r0 ≡ given (literals, r1)
  gates : many_at (λ p. and_at (2 * (inputs + p + 1))) 0 (length xs) r1 ≡ given (xs, rest)

front_read : (inputs outputs ands : ℕ) (literals : List ℕ) (xs : List And) (bytes rest : List ℕ) → BinaryFront inputs outputs ands literals xs bytes rest → FrontRead inputs outputs ands literals xs bytes rest
unfolding header_for
front_read inputs outputs ands literals xs bytes rest f =
    let at = lines_at (f.head ∷ f.lines) bytes f.between (head_long form.Binary (inputs + ands) inputs outputs ands f.head f.head_line, all_some f.lines literals f.output_lines) f.lines_are in
    record {
      r0 = at.0;
      r1 = f.between;
      head = head_written form.Binary bytes (header_for inputs outputs ands) at.0 f.head f.head_line at.1 f.limit (eq-eqb (inputs + ands) (inputs + ands) refl);
      lines = literals_written (2 * (inputs + ands) + 1) f.lines literals 0 at.0 f.between f.output_lines at.2 (λ k d lt. f.low k (get_or literals k d) (slice_get-get_or literals k d lt));
      gates = ap (many_at (λ p. and_at (2 * (inputs + p + 1))) 0 (length xs)) f.parts ∙ ands_written inputs f.texts xs 0 rest f.and_bytes (λ k one is. (let here : k ≡ 0 + k = omega arith in subst (λ (p : ℕ). IsAndAt inputs p one) here (f.each k one is)));
    }

no_gates : (inputs : ℕ) (r1 rest : List ℕ) → many_at (λ p. and_at (2 * (inputs + p + 1))) 0 0 r1 ≡ given ([], rest) → r1 ≡ rest
unfolding many_at
no_gates inputs r1 rest e = ap (λ (p : List And × List ℕ). p.1) (same_value ([], r1) ([], rest) e)

-- ---- the whole file

outputs_stop : (bytes : List ℕ) (offset : ℕ) (cause : AigerWhy) → BreaksInOutputs bytes offset cause → StopsAt (graph_at bytes) bytes offset cause
unfolding graph_at header_for
outputs_stop bytes offset cause (inputs, outputs, ands, literals, rest, front, fewer, breaks) =
    let r = front_read inputs outputs ands literals [] bytes rest front in
    let head = r.head in
    let lines = r.lines ∙ ap (λ (b : List ℕ). given (literals, b)) (no_gates inputs r.r1 rest r.gates) in
    at_as (literal_at (2 * (inputs + ands) + 1) rest) (graph_at bytes) bytes offset cause
    (λ stop e. (
    let all = many_stops (λ p. literal_at (2 * (inputs + ands) + 1)) (length literals) outputs 0 r.r0 (literals, rest) stop fewer lines e in
    rw (head, all) refl
    ))
    (literal_stops (inputs + ands) bytes rest offset cause breaks)

ands_stop : (bytes : List ℕ) (offset : ℕ) (cause : AigerWhy) → BreaksInAnds bytes offset cause → StopsAt (graph_at bytes) bytes offset cause
unfolding graph_at header_for
ands_stop bytes offset cause (inputs, outputs, ands, at, literals, rest, xs, front, all, fewer, breaks, there) =
    let r = front_read inputs outputs ands literals xs bytes rest front in
    let head = r.head in
    let lines : many_at (λ p. literal_at (2 * (inputs + ands) + 1)) 0 outputs r.r0 ≡ given (literals, r.r1) = ap (λ (n : ℕ). many_at (λ p. literal_at (2 * (inputs + ands) + 1)) 0 n r.r0) (sym all) ∙ r.lines in
    let here : 2 * (inputs + (0 + length xs) + 1) ≡ 2 * (inputs + length xs + 1) = omega arith in
    at_as (and_at (2 * (inputs + length xs + 1)) rest) (graph_at bytes) bytes offset cause
    (λ stop e. (
    let gates = many_stops (λ p. and_at (2 * (inputs + p + 1))) (length xs) ands 0 r.r1 (xs, rest) stop fewer r.gates (ap (λ (l : ℕ). and_at l rest) here ∙ e) in
    rw (head, lines, gates) refl
    ))
    (stops_at (and_at (2 * (inputs + length xs + 1)) rest) bytes rest offset at cause there (and_stops (2 * (inputs + length xs + 1)) rest at cause breaks))

names_stop : (bytes : List ℕ) (offset : ℕ) (cause : AigerWhy) → BreaksInBinarySymbols bytes offset cause → StopsAt (graph_at bytes) bytes offset cause
unfolding graph_at header_for
names_stop bytes offset cause (inputs, outputs, ands, literals, rest, xs, front, all, every, breaks) =
    let r = front_read inputs outputs ands literals xs bytes rest front in
    let head = r.head in
    let lines : many_at (λ p. literal_at (2 * (inputs + ands) + 1)) 0 outputs r.r0 ≡ given (literals, r.r1) = ap (λ (n : ℕ). many_at (λ p. literal_at (2 * (inputs + ands) + 1)) 0 n r.r0) (sym all) ∙ r.lines in
    let gates : many_at (λ p. and_at (2 * (inputs + p + 1))) 0 ands r.r1 ≡ given (xs, rest) = ap (λ (n : ℕ). many_at (λ p. and_at (2 * (inputs + p + 1))) 0 n r.r1) (sym every) ∙ r.gates in
    at_as (symbols_at (length rest) (replicate inputs None, replicate outputs None) rest) (graph_at bytes) bytes offset cause (λ stop e. rw (head, lines, gates, e) refl) (symbols_stop inputs outputs bytes rest offset cause breaks)

head_stop : (bytes : List ℕ) (stop : Stop) → header_at form.Binary bytes ≡ Err stop → graph_at bytes ≡ Err stop
unfolding graph_at
head_stop bytes stop e = rw e refl

pub graph_stops : (bytes : List ℕ) (offset : ℕ) (cause : AigerWhy) → BreaksBinary bytes offset cause → StopsAt (graph_at bytes) bytes offset cause
graph_stops bytes offset cause (inl head) = at_as (header_at form.Binary bytes) (graph_at bytes) bytes offset cause (head_stop bytes) (head_stops form.Binary bytes offset cause head)
graph_stops bytes offset cause (inr (inl outputs)) = outputs_stop bytes offset cause outputs
graph_stops bytes offset cause (inr (inr (inl ands))) = ands_stop bytes offset cause ands
graph_stops bytes offset cause (inr (inr (inr names))) = names_stop bytes offset cause names
