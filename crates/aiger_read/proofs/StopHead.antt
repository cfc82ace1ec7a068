-- First lines that break, and what a reader answers.
use Rattle.std.proofs.Common.{◌≡◌, ◌⊎◌, ◌∙◌, inl, inr, ◌<◌, ◌+◌, ◌-◌, ◌==◌, ℕ, Bool, true, false, cond, zero, suc, refl, ap, sym, subst, arith, List, [], ◌∷◌, ◌++◌, length, length-append, drop, Result, Ok, Err}
use Rattle.rsfq_ids.specs.declared.limits.TheConstants.{AIG_LIMIT}
use Rattle.std.specs.Prelude.{nat_lt, nat_le, nat_eq, replicate}
use Rattle.std.specs.List.{starts_with}
use Rattle.std.proofs.lemmas.Bool.{eqb-false, ltb-true, lt-ltb, leb-true, le-leb, ne_eqb}
use Rattle.aiger_parts.specs.declared.fault.AigerWhy.{AigerWhy}
use Rattle.aiger_parts.specs.declared.fault.AigerWhy.TheVariants as why
use Rattle.aiger_parts.specs.declared.fault.Stop.{Stop}
use Rattle.aiger_parts.specs.declared.header.Form.{Form}
use Rattle.aiger_parts.specs.declared.header.Form.TheVariants as form
use Rattle.aiger_parts.specs.declared.header.Header.{Header}
use Rattle.aiger_parts.specs.Reading.{◌>>=◌, fault, number_at, field_at}
use Rattle.aiger_parts.specs.Header.{spaces_in, word_of, has_head, fits_form, zeros_at, variables_at, latches_at, counts_at, header_at}
use Rattle.aiger_read.specs.Spelled.{IsHeadLine}
use Rattle.aiger_read.specs.Broken.{Kind, highest, any_count, latch_count, further_count, IsWrong, BreaksField, BeginsWithField, EndsLine, BreaksFields, AreLines, HasHead, FitsForm, head_kinds, BreaksHead}
use Rattle.aiger_read.proofs.WellFormed.{given}
use Rattle.aiger_read.proofs.FileLines.{IsTail, LinesAt, AllSome, lines_of, lines_of_open}
use Rattle.aiger_read.proofs.HeadLines.{field_spaces, is_space, is_end, three_true, begins, word_begins, word_spaces, word_behind, head_tested}
use Rattle.aiger_read.proofs.BrokenLines.{failed, IsRight}
use Rattle.aiger_read.proofs.BrokenHead.{word_long}
use Rattle.aiger_read.proofs.StopLines.{Stops, stops_as, number_begins, field_stops, StopsAt, stops_at}

-- ---- lines in a file

-- lines at the front of bytes, from lines that are written
pub lines_at : (lines : List (List ℕ)) (bytes rest : List ℕ) → AllSome lines → AreLines lines bytes rest → LinesAt lines bytes rest
lines_at lines bytes rest some (inl is) = subst (λ (b : List ℕ). LinesAt lines b rest) (sym is) (lines_of lines rest some)
lines_at [] bytes rest some (inr (lacks, none)) = (let long = ap length lacks in let sum = length-append bytes (10 ∷ []) in absurd (omega arith))
lines_at (line ∷ lines) bytes rest some (inr (lacks, none)) = subst (LinesAt (line ∷ lines) bytes) (sym none) (lines_of_open bytes line lines some lacks)

pub head_long : (form : Form) (variables inputs outputs ands : ℕ) (line : List ℕ) → IsHeadLine form variables inputs outputs ands line → 0 < length line
head_long form.Ascii variables inputs outputs ands line h = (let len = ap length h.line_is in omega arith)
head_long form.Binary variables inputs outputs ands line h = (let len = ap length h.line_is in omega arith)

-- ---- one field

-- The field is read, and behind its space one of the others breaks.
record GoesOn (kind next : Kind) (kinds : List Kind) (bytes : List ℕ) (k at : ℕ) (cause : AigerWhy) : Type 0 where
  n : ℕ
  rest : List ℕ
  later : ℕ
  read : field_at bytes ≡ given (n, rest)
  right : IsRight kind n
  spaces : spaces_in rest ≡ k
  place : at + length rest ≡ length bytes + later
  breaks : BreaksFields (next ∷ kinds) rest later cause

field_given : (bytes : List ℕ) (n : ℕ) (tail : List ℕ) → number_at bytes ≡ given (n, tail) → field_at bytes ≡ given (n, drop 1 tail)
field_given bytes n tail e = rw e refl

tail_count : (kind : Kind) (bytes field tail : List ℕ) (k : ℕ) → BeginsWithField kind bytes field tail → spaces_in bytes ≡ k → spaces_in tail ≡ k
tail_count kind bytes field tail k b count = sym (field_spaces field tail b.number b.writes) ∙ ap spaces_in (sym b.parts) ∙ count

sorts : (kind next : Kind) (kinds : List Kind) (bytes : List ℕ) (k at : ℕ) (cause : AigerWhy) → spaces_in bytes ≡ suc k → BreaksFields (kind ∷ next ∷ kinds) bytes at cause → ((at ≡ 0) × BreaksField kind bytes cause) ⊎ GoesOn kind next kinds bytes k at cause
sorts kind next kinds bytes k at cause count (inl here) = inl here
sorts kind next kinds bytes k at cause count (inr (field, tail, b, inl (is, there, not))) =
    let space = is_space tail (drop 1 tail) k b.stops (tail_count kind bytes field tail (suc k) b count) refl in
    absurd (not (drop 1 tail) space.0)
sorts kind next kinds bytes k at cause count (inr (field, tail, b, inr (rest, later, space, there, breaks))) =
    let is = is_space tail rest k b.stops (tail_count kind bytes field tail (suc k) b count) (ap (drop 1) space) in
    let long : length bytes ≡ length field + length tail = ap length b.parts ∙ length-append field tail in
    let one = ap length space in
    inr (record {
      n = b.number;
      rest = rest;
      later = later;
      read = field_given bytes b.number tail (number_begins kind bytes field tail b) ∙ ap (λ (r : List ℕ). given (b.number, drop 1 r)) space;
      right = b.right;
      spaces = is.1;
      place = omega arith;
      breaks = breaks;
    })

last_sort : (kind : Kind) (bytes : List ℕ) (at : ℕ) (cause : AigerWhy) → spaces_in bytes ≡ 0 → BreaksFields (kind ∷ []) bytes at cause → (at ≡ 0) × BreaksField kind bytes cause
last_sort kind bytes at cause count (inl here) = here
last_sort kind bytes at cause count (inr (field, tail, b, is, there, not)) = absurd (not (ends (is_end tail (drop 1 tail) b.stops (tail_count kind bytes field tail 0 b count) refl))) where
  ends : IsTail tail (drop 1 tail) → EndsLine tail
  ends (inl newline) = inr (drop 1 tail, newline)
  ends (inr none) = inl none.0

-- ---- fields that break

any_stops : (bytes : List ℕ) (cause : AigerWhy) → BreaksField any_count bytes cause → field_at bytes ≡ Err (fault cause bytes)
any_stops bytes cause breaks = field_stops any_count bytes cause (λ x. given (x.0, drop 1 x.1)) (λ x wrong. absurd wrong) breaks

-- a field with a test behind it
tested_stops : {A : Type 0} (kind : Kind) (bytes : List ℕ) (cause : AigerWhy) (f : ℕ × List ℕ → Result A Stop) → ((x : ℕ × List ℕ) → IsWrong kind x.0 cause → f x ≡ Err (fault cause bytes)) → BreaksField kind bytes cause → (field_at bytes >>= f) ≡ Err (fault cause bytes)
tested_stops {A} kind bytes cause f refuses breaks = regroup (number_at bytes) (fault cause bytes) (field_stops kind bytes cause (λ x. f (x.0, drop 1 x.1)) (λ x wrong. refuses (x.0, drop 1 x.1) wrong) breaks) where
  regroup : (r : Result (ℕ × List ℕ) Stop) (stop : Stop) → (r >>= λ x. f (x.0, drop 1 x.1)) ≡ failed {A = A} stop → ((r >>= λ x. given (x.0, drop 1 x.1)) >>= f) ≡ failed {A = A} stop
  regroup (Ok x) stop e = e
  regroup (Err s) stop e = e

highest_stops : (bytes : List ℕ) (cause : AigerWhy) → BreaksField highest bytes cause → variables_at bytes ≡ Err (fault cause bytes)
highest_stops bytes cause breaks = tested_stops highest bytes cause (λ x. cond (nat_lt AIG_LIMIT x.0) (Err (fault (why.Limit x.0) bytes)) (Ok (x.0, x.1))) refuses breaks where
  refuses : (x : ℕ × List ℕ) → IsWrong highest x.0 cause → cond (nat_lt AIG_LIMIT x.0) (Err (fault (why.Limit x.0) bytes)) (Ok (x.0, x.1)) ≡ failed {A = ℕ × List ℕ} (fault cause bytes)
  refuses x (is, high) = rw (lt-ltb AIG_LIMIT x.0 high) (ap (λ (c : AigerWhy). failed {A = ℕ × List ℕ} (fault c bytes)) (sym is))

latch_stops : (bytes : List ℕ) (cause : AigerWhy) → BreaksField latch_count bytes cause → latches_at bytes ≡ Err (fault cause bytes)
latch_stops bytes cause breaks = tested_stops latch_count bytes cause (λ x. cond (x.0 == 0) (Ok x.1) (Err (fault why.Latches bytes))) refuses breaks where
  refuses : (x : ℕ × List ℕ) → IsWrong latch_count x.0 cause → cond (x.0 == 0) (Ok x.1) (Err (fault why.Latches bytes)) ≡ failed {A = List ℕ} (fault cause bytes)
  refuses x (is, some) = rw (ne_eqb x.0 0 some) (ap (λ (c : AigerWhy). failed {A = List ℕ} (fault c bytes)) (sym is))

further_stops : (z : ℕ) (bytes : List ℕ) (cause : AigerWhy) → BreaksField further_count bytes cause → zeros_at (suc z) bytes ≡ Err (fault cause bytes)
further_stops z bytes cause breaks = tested_stops further_count bytes cause (λ x. cond (x.0 == 0) (Ok x.1) (Err (fault why.Extended bytes)) >>= λ r. zeros_at z r) refuses breaks where
  refuses : (x : ℕ × List ℕ) → IsWrong further_count x.0 cause → (cond (x.0 == 0) (Ok x.1) (Err (fault why.Extended bytes)) >>= λ r. zeros_at z r) ≡ failed {A = List ℕ} (fault cause bytes)
  refuses x (is, some) = rw (ne_eqb x.0 0 some) (ap (λ (c : AigerWhy). failed {A = List ℕ} (fault c bytes)) (sym is))

-- ---- fields that are right

highest_goes : (bytes : List ℕ) (n : ℕ) (rest : List ℕ) → field_at bytes ≡ given (n, rest) → IsRight highest n → variables_at bytes ≡ given (n, rest)
highest_goes bytes n rest e right = rw (e, low (nat_lt AIG_LIMIT n) refl) refl where
  low : (t : Bool) → nat_lt AIG_LIMIT n ≡ t → nat_lt AIG_LIMIT n ≡ false
  low false is = is
  low true is = absurd (right (why.Limit n) (refl, ltb-true AIG_LIMIT n is))

latch_goes : (bytes : List ℕ) (n : ℕ) (rest : List ℕ) → field_at bytes ≡ given (n, rest) → IsRight latch_count n → latches_at bytes ≡ given rest
latch_goes bytes n rest e right = rw (e, none (n == 0) refl) refl where
  none : (t : Bool) → (n == 0) ≡ t → (n == 0) ≡ true
  none true is = is
  none false is = absurd (right why.Latches (refl, eqb-false n 0 is))

further_goes : (z : ℕ) (bytes : List ℕ) (n : ℕ) (rest : List ℕ) → field_at bytes ≡ given (n, rest) → IsRight further_count n → zeros_at (suc z) bytes ≡ zeros_at z rest
further_goes z bytes n rest e right = rw (e, none (n == 0) refl) refl where
  none : (t : Bool) → (n == 0) ≡ t → (n == 0) ≡ true
  none true is = is
  none false is = absurd (right why.Extended (refl, eqb-false n 0 is))

-- ---- the last needed number and the further ones

-- The number is read, and one of the further ones breaks.
record LaterStops (z : ℕ) (kind : Kind) (bytes : List ℕ) (at : ℕ) (cause : AigerWhy) : Type 0 where
  n : ℕ
  rest : List ℕ
  read : field_at bytes ≡ given (n, rest)
  right : IsRight kind n
  stops : Stops (zeros_at z rest) bytes at cause

later_stops : (z : ℕ) (kind : Kind) (bytes : List ℕ) (at : ℕ) (cause : AigerWhy) → spaces_in bytes ≡ z → BreaksFields (kind ∷ replicate z further_count) bytes at cause → ((at ≡ 0) × BreaksField kind bytes cause) ⊎ LaterStops z kind bytes at cause
later_stops zero kind bytes at cause count breaks = inl (last_sort kind bytes at cause count breaks)
later_stops (suc z) kind bytes at cause count breaks = elim (sorts kind further_count (replicate z further_count) bytes z at cause count breaks) [
  | inl here ↦ inl here
  | inr g ↦ inr (record { n = g.n; rest = g.rest; read = g.read; right = g.right; stops = behind g (later_stops z further_count g.rest g.later cause g.spaces g.breaks) })
] where
  behind : (g : GoesOn kind further_count (replicate z further_count) bytes z at cause) → ((g.later ≡ 0) × BreaksField further_count g.rest cause) ⊎ LaterStops z further_count g.rest g.later cause → Stops (zeros_at (suc z) g.rest) bytes at cause
  behind g (inl (here, broken)) = (let place = g.place in record { stop = fault cause g.rest; is = further_stops z g.rest cause broken; cause_is = refl; place = omega arith })
  behind g (inr l) = stops_as (zeros_at z l.rest) (zeros_at (suc z) g.rest) bytes g.rest at g.later cause (λ stop e. further_goes z g.rest l.n l.rest l.read l.right ∙ e) g.place l.stops

-- ---- I, L, O and A, and the further ones

abbrev head_at : ℕ → ℕ → ℕ → ℕ → Header
head_at variables inputs outputs ands = record { variables = variables; inputs = inputs; outputs = outputs; ands = ands }

-- behind M one of the numbers breaks, whatever comes then
counts_stop : {A : Type 0} (z variables : ℕ) (bytes : List ℕ) (at : ℕ) (cause : AigerWhy) (k : Header → List ℕ → Result A Stop) → spaces_in bytes ≡ suc (suc (suc z)) → BreaksFields (any_count ∷ latch_count ∷ any_count ∷ any_count ∷ replicate z further_count) bytes at cause
    → Stops (counts_at variables bytes >>= λ c. zeros_at z c.1 >>= k c.0) bytes at cause
unfolding counts_at
counts_stop {A} z variables bytes at cause k count breaks = elim (sorts any_count latch_count (any_count ∷ any_count ∷ replicate z further_count) bytes (suc (suc z)) at cause count breaks) [
  | inl (here, broken) ↦ (let e = any_stops bytes cause broken in record { stop = fault cause bytes; is = rw e refl; cause_is = refl; place = omega arith })
  | inr g ↦ latches g (sorts latch_count any_count (any_count ∷ replicate z further_count) g.rest (suc z) g.later cause g.spaces g.breaks)
] where
  last : (g : GoesOn any_count latch_count (any_count ∷ any_count ∷ replicate z further_count) bytes (suc (suc z)) at cause) (h : GoesOn latch_count any_count (any_count ∷ replicate z further_count) g.rest (suc z) g.later cause)
      (i : GoesOn any_count any_count (replicate z further_count) h.rest z h.later cause) → ((i.later ≡ 0) × BreaksField any_count i.rest cause) ⊎ LaterStops z any_count i.rest i.later cause → Stops (counts_at variables bytes >>= λ c. zeros_at z c.1 >>= k c.0) bytes at cause
  last g h i (inl (here, broken)) =
      let p = g.place in
      let q = h.place in
      let r = i.place in
      let e = any_stops i.rest cause broken in
      let l = latch_goes g.rest h.n h.rest h.read h.right in
      record { stop = fault cause i.rest; is = rw (g.read, l, i.read, e) refl; cause_is = refl; place = omega arith }
  last g h i (inr t) =
      let p = g.place in
      let q = h.place in
      let r = i.place in
      let s = t.stops.place in
      let e = t.stops.is in
      let l = latch_goes g.rest h.n h.rest h.read h.right in
      record { stop = t.stops.stop; is = rw (g.read, l, i.read, t.read, e) refl; cause_is = t.stops.cause_is; place = omega arith }

  outputs : (g : GoesOn any_count latch_count (any_count ∷ any_count ∷ replicate z further_count) bytes (suc (suc z)) at cause) (h : GoesOn latch_count any_count (any_count ∷ replicate z further_count) g.rest (suc z) g.later cause)
      → ((h.later ≡ 0) × BreaksField any_count h.rest cause) ⊎ GoesOn any_count any_count (replicate z further_count) h.rest z h.later cause → Stops (counts_at variables bytes >>= λ c. zeros_at z c.1 >>= k c.0) bytes at cause
  outputs g h (inl (here, broken)) =
      let p = g.place in
      let q = h.place in
      let e = any_stops h.rest cause broken in
      let l = latch_goes g.rest h.n h.rest h.read h.right in
      record { stop = fault cause h.rest; is = rw (g.read, l, e) refl; cause_is = refl; place = omega arith }
  outputs g h (inr i) = last g h i (later_stops z any_count i.rest i.later cause i.spaces i.breaks)

  latches : (g : GoesOn any_count latch_count (any_count ∷ any_count ∷ replicate z further_count) bytes (suc (suc z)) at cause) → ((g.later ≡ 0) × BreaksField latch_count g.rest cause) ⊎ GoesOn latch_count any_count (any_count ∷ replicate z further_count) g.rest (suc z) g.later cause
      → Stops (counts_at variables bytes >>= λ c. zeros_at z c.1 >>= k c.0) bytes at cause
  latches g (inl (here, broken)) =
      let p = g.place in
      let e = latch_stops g.rest cause broken in
      record { stop = fault cause g.rest; is = rw (g.read, e) refl; cause_is = refl; place = omega arith }
  latches g (inr h) = outputs g h (sorts any_count any_count (replicate z further_count) h.rest z h.later cause h.spaces h.breaks)

-- ---- the whole line

head_there : (form : Form) (bytes : List ℕ) → HasHead form bytes → has_head form bytes ≡ true
head_there form bytes ((rest, is), low, high) =
    let word : starts_with nat_eq bytes (word_of form) ≡ true = ap (λ (b : List ℕ). starts_with nat_eq b (word_of form)) is ∙ word_begins form rest in
    rw (word, le-leb 5 (spaces_in bytes) low, le-leb (spaces_in bytes) 9 high) refl

no_head : (form : Form) (bytes : List ℕ) → (HasHead form bytes → ⊥) → has_head form bytes ≡ false
no_head form bytes none = go (has_head form bytes) refl where
  go : (t : Bool) → has_head form bytes ≡ t → has_head form bytes ≡ false
  go false is = is
  go true is =
      let tests = three_true (starts_with nat_eq bytes (word_of form)) (nat_le 5 (spaces_in bytes)) (nat_le (spaces_in bytes) 9) is in
      absurd (none ((drop 4 bytes, begins form bytes tests.0), leb-true 5 (spaces_in bytes) tests.1, leb-true (spaces_in bytes) 9 tests.2))

no_fit : (form : Form) (h : Header) → (FitsForm form h.variables h.inputs h.ands → ⊥) → fits_form form h ≡ false
no_fit form.Ascii h none = go (nat_le (h.inputs + h.ands) h.variables) refl where
  go : (t : Bool) → nat_le (h.inputs + h.ands) h.variables ≡ t → nat_le (h.inputs + h.ands) h.variables ≡ false
  go false is = is
  go true is = absurd (none (leb-true (h.inputs + h.ands) h.variables is))
no_fit form.Binary h none = ne_eqb h.variables (h.inputs + h.ands) none

-- a field of the first line breaks
fields_stop : (form : Form) (bytes rest : List ℕ) (at : ℕ) (cause : AigerWhy) → HasHead form bytes → bytes ≡ word_of form ++ rest → BreaksFields (head_kinds (spaces_in bytes - 5)) rest at cause → Stops (header_at form bytes) rest at cause
unfolding header_at
fields_stop form bytes rest at cause head is breaks = elim (sorts highest any_count (latch_count ∷ any_count ∷ any_count ∷ replicate (spaces_in bytes - 5) further_count) rest (suc (suc (suc (spaces_in bytes - 5)))) at cause spaces breaks) [
  | inl (here, broken) ↦ (let e = highest_stops rest cause broken in record { stop = fault cause rest; is = rw (there, behind, e) refl; cause_is = refl; place = omega arith })
  | inr g ↦ more g
] where
  there : has_head form bytes ≡ true
  there = head_there form bytes head

  behind : drop 4 bytes ≡ rest
  behind = ap (drop 4) is ∙ word_behind form rest

  spaces : spaces_in rest ≡ suc (suc (suc (suc (spaces_in bytes - 5))))
  spaces = (let count : spaces_in bytes ≡ suc (spaces_in rest) = ap spaces_in is ∙ word_spaces form rest in let low = head.1 in omega arith)

  more : GoesOn highest any_count (latch_count ∷ any_count ∷ any_count ∷ replicate (spaces_in bytes - 5) further_count) rest (suc (suc (suc (spaces_in bytes - 5)))) at cause → Stops (header_at form bytes) rest at cause
  more g =
      let v = highest_goes rest g.n g.rest g.read g.right in
      stops_as (counts_at g.n g.rest >>= λ c. zeros_at (spaces_in bytes - 5) c.1 >>= λ r. cond (fits_form form c.0) (Ok (c.0, r)) (Err (fault why.Header bytes))) (header_at form bytes) rest g.rest at g.later cause
      (λ stop e. rw (there, behind, v) e) g.place
      (counts_stop (spaces_in bytes - 5) g.n g.rest g.later cause (λ c r. cond (fits_form form c) (Ok (c, r)) (Err (fault why.Header bytes))) g.spaces g.breaks)

not_begun : (form : Form) (bytes : List ℕ) → has_head form bytes ≡ false → header_at form bytes ≡ Err (fault why.Header bytes)
unfolding header_at
not_begun form bytes none = rw none refl

header_fault : (form : Form) (bytes : List ℕ) (offset : ℕ) (cause : AigerWhy) → cause ≡ why.Header → offset ≡ 0 → header_at form bytes ≡ Err (fault why.Header bytes) → StopsAt (header_at form bytes) bytes offset cause
header_fault form bytes offset cause is at e = (fault why.Header bytes, e, is, omega arith)

pub head_stops : (form : Form) (bytes : List ℕ) (offset : ℕ) (cause : AigerWhy) → BreaksHead form bytes offset cause → StopsAt (header_at form bytes) bytes offset cause
head_stops form bytes offset cause (inl (is, at, none)) = header_fault form bytes offset cause is at (not_begun form bytes (no_head form bytes none))
head_stops form bytes offset cause (inr (inl (rest, at, head, is, breaks, there))) =
    let long : length bytes ≡ 4 + length rest = ap length is ∙ word_long form rest in
    stops_at (header_at form bytes) bytes rest offset at cause (omega arith) (fields_stop form bytes rest at cause head is breaks)
head_stops form bytes offset cause (inr (inr (variables, inputs, outputs, ands, line, rest, h, lines, limit, unfit, is, at))) =
    let made = lines_at (line ∷ []) bytes rest (head_long form variables inputs outputs ands line h, tt) lines in
    let bad = no_fit form (head_at variables inputs outputs ands) unfit in
    header_fault form bytes offset cause is at (head_tested form bytes (head_at variables inputs outputs ands) made.0 line h made.1 limit ∙ rw bad refl)
