-- Fields and lines that break, and what a reader answers.
use Rattle.std.proofs.Common.{◌≡◌, ◌≢◌, ◌∙◌, inl, inr, ◌<◌, ◌≤◌, ◌+◌, ◌-◌, ◌*◌, ◌==◌, ℕ, Bool, true, false, cond, zero, suc, refl, ap, sym, subst, arith, List, [], ◌∷◌, ◌++◌, length, length-append, take, drop, Option, None, Some, Result, Ok, Err}
use Rattle.std.specs.Prelude.{nat_lt}
use Rattle.std.proofs.lemmas.Bool.{ltb-true, ltb-false, lt-ltb, ne_eqb}
use Rattle.aiger_order.specs.Listing.{IsDefinition}
use Rattle.aiger_parts.specs.declared.fault.AigerWhy.{AigerWhy}
use Rattle.aiger_parts.specs.declared.fault.AigerWhy.TheVariants as why
use Rattle.aiger_parts.specs.declared.fault.Stop.{Stop}
use Rattle.aiger_read.specs.declared.lines.Used.{Used}
use Rattle.aiger_parts.specs.Reading.{◌>>=◌, fault, field_length, number_of, number_or, number_at, line_end_at, many_at}
use Rattle.aiger_read.specs.Lines.{is_in, is_out, start_at, gap_at, more_at, definition_at, use_at}
use Rattle.aiger_read.specs.Spelling.{WritesNumber}
use Rattle.aiger_read.specs.Broken.{Kind, new_literal, used_literal, IsWrong, BreaksField, BeginsWithField, EndsLine, BreaksFields, BreaksLine}
use Rattle.aiger_read.proofs.WellFormed.{given, same_value, bind_ok}
use Rattle.aiger_read.proofs.Marks.{definition_ok}
use Rattle.aiger_read.proofs.Listings.{in_at, at_in, new_definition}
use Rattle.aiger_read.proofs.Numbers.{numbers}
use Rattle.aiger_read.proofs.FieldTexts.{number_written}
use Rattle.aiger_read.proofs.AsciiLines.{use_written}
use Rattle.aiger_read.proofs.BrokenLines.{failed, IsRight}
use Rattle.aiger_read.proofs.BrokenAscii.{out_none}

-- ---- steps that stop

-- A reader of the bytes stops so many bytes behind their first, for this cause.
pub record Stops {A : Type 0} (r : Result A Stop) (bytes : List ℕ) (at : ℕ) (cause : AigerWhy) : Type 0 where
  pub stop : Stop
  pub is : r ≡ Err stop
  pub cause_is : cause ≡ stop.why
  pub place : stop.left + at ≡ length bytes

pub stops_here : {A : Type 0} (r : Result A Stop) (bytes : List ℕ) (cause : AigerWhy) → r ≡ Err (fault cause bytes) → Stops r bytes 0 cause
stops_here r bytes cause e = record { stop = fault cause bytes; is = e; cause_is = refl; place = omega arith }

-- the same of another reader that stops where this one does, and begins somewhere else
pub stops_as : {A B : Type 0} (r : Result A Stop) (s : Result B Stop) (bytes rest : List ℕ) (at later : ℕ) (cause : AigerWhy) → ((stop : Stop) → r ≡ Err stop → s ≡ Err stop) → at + length rest ≡ length bytes + later → Stops r rest later cause → Stops s bytes at cause
stops_as r s bytes rest at later cause same move t = let place = t.place in record { stop = t.stop; is = same t.stop t.is; cause_is = t.cause_is; place = omega arith }

pub bind_stop : {A B : Type 0} (r : Result A Stop) (f : A → Result B Stop) (stop : Stop) → r ≡ Err stop → (r >>= f) ≡ Err stop
bind_stop r f stop e = ap (λ s. s >>= f) e

pub bind_given : {A B : Type 0} (r : Result A Stop) (f : A → Result B Stop) (x : A) (s : Result B Stop) → r ≡ given x → f x ≡ s → (r >>= f) ≡ s
bind_given r f x s e more = ap (λ t. t >>= f) e ∙ more

-- behind some good ones one fails
pub many_stops : {A : Type 0} (one : ℕ → List ℕ → Result (A × List ℕ) Stop) (number count place : ℕ) (bytes : List ℕ) (xs : List A × List ℕ) (stop : Stop) → number < count → many_at one place number bytes ≡ given xs → one (place + number) xs.1 ≡ Err stop → many_at one place count bytes ≡ Err stop
unfolding many_at
many_stops one number zero place bytes xs stop lt good bad = absurd (omega arith)
many_stops {A} one zero (suc count) place bytes xs stop lt good bad =
    let same : bytes ≡ xs.1 = ap (λ (p : List A × List ℕ). p.1) (same_value {A = List A × List ℕ} ([], bytes) xs good) in
    let here : place ≡ place + 0 = omega arith in
    bind_stop (one place bytes) (λ first. many_at one (place + 1) count first.1 >>= λ others. Ok (first.0 ∷ others.0, others.1)) stop (ap (λ (p : ℕ). one p bytes) here ∙ ap (one (place + 0)) same ∙ bad)
many_stops {A} one (suc number) (suc count) place bytes xs stop lt good bad =
    let first = bind_ok (one place bytes) (λ first. many_at one (place + 1) number first.1 >>= λ others. Ok (first.0 ∷ others.0, others.1)) xs good in
    let others = bind_ok (many_at one (place + 1) number first.0.1) (λ others. Ok (first.0.0 ∷ others.0, others.1)) xs first.2 in
    let rest : others.0.1 ≡ xs.1 = ap (λ (p : List A × List ℕ). p.1) (same_value {A = List A × List ℕ} (first.0.0 ∷ others.0.0, others.0.1) xs others.2) in
    let here : place + 1 + number ≡ place + suc number = omega arith in
    let more = many_stops one number count (place + 1) first.0.1 others.0 stop (omega arith) others.1 (ap (λ (p : ℕ). one p others.0.1) here ∙ ap (one (place + suc number)) rest ∙ bad) in
    bind_given (one place bytes) (λ first. many_at one (place + 1) count first.1 >>= λ others. Ok (first.0 ∷ others.0, others.1)) first.0 (Err stop) first.1
    (bind_stop (many_at one (place + 1) count first.0.1) (λ others. Ok (first.0.0 ∷ others.0, others.1)) stop more)

pub more_stops : {A : Type 0} (one : List A → List ℕ → Result (A × List ℕ) Stop) (number count : ℕ) (front : List A) (bytes : List ℕ) (xs : List A × List ℕ) (stop : Stop) → number < count → more_at one number front bytes ≡ given xs → one xs.0 xs.1 ≡ Err stop → more_at one count front bytes ≡ Err stop
more_stops one number zero front bytes xs stop lt good bad = absurd (omega arith)
more_stops {A} one zero (suc count) front bytes xs stop lt good bad =
    bind_stop (one front bytes) (λ x. more_at one count (front ++ x.0 ∷ []) x.1) stop (ap (λ (p : List A × List ℕ). one p.0 p.1) (same_value {A = List A × List ℕ} (front, bytes) xs good) ∙ bad)
more_stops one (suc number) (suc count) front bytes xs stop lt good bad =
    let first = bind_ok (one front bytes) (λ x. more_at one number (front ++ x.0 ∷ []) x.1) xs good in
    bind_given (one front bytes) (λ x. more_at one count (front ++ x.0 ∷ []) x.1) first.0 (Err stop) first.1 (more_stops one number count (front ++ first.0.0 ∷ []) first.0.1 xs stop (omega arith) first.2 bad)

-- ---- fields

pub number_none : (bytes : List ℕ) → ((n : ℕ) → WritesNumber (take (field_length bytes) bytes) n → ⊥) → number_at bytes ≡ Err (fault why.Number bytes)
number_none bytes none = go (number_of (take (field_length bytes) bytes)) refl where
  go : (o : Option ℕ) → number_of (take (field_length bytes) bytes) ≡ o → number_or bytes (field_length bytes) o ≡ Err (fault why.Number bytes)
  go None is = refl
  go (Some n) is = absurd (none n ((numbers (take (field_length bytes) bytes) n).0 is))

pub number_some : (bytes : List ℕ) (n : ℕ) → WritesNumber (take (field_length bytes) bytes) n → number_at bytes ≡ given (n, drop (field_length bytes) bytes)
number_some bytes n w =
    let read : number_of (take (field_length bytes) bytes) ≡ Some n = (numbers (take (field_length bytes) bytes) n).1 w in
    rw read refl

pub number_begins : (kind : Kind) (bytes field tail : List ℕ) (b : BeginsWithField kind bytes field tail) → number_at bytes ≡ given (b.number, tail)
number_begins kind bytes field tail b = ap number_at b.parts ∙ number_written field tail b.number b.writes b.stops

-- a reader that reads a number first, and refuses one that is wrong there
pub field_stops : {A : Type 0} (kind : Kind) (bytes : List ℕ) (cause : AigerWhy) (f : ℕ × List ℕ → Result A Stop) → ((x : ℕ × List ℕ) → IsWrong kind x.0 cause → f x ≡ Err (fault cause bytes)) → BreaksField kind bytes cause → (number_at bytes >>= f) ≡ Err (fault cause bytes)
field_stops {A} kind bytes cause f refuses (inl (is, none)) =
    bind_stop (number_at bytes) f (fault why.Number bytes) (number_none bytes none) ∙ ap (λ (c : AigerWhy). failed {A = A} (fault c bytes)) (sym is)
field_stops kind bytes cause f refuses (inr (n, writes, wrong)) =
    bind_given (number_at bytes) f (n, drop (field_length bytes) bytes) (Err (fault cause bytes)) (number_some bytes n writes) (refuses (n, drop (field_length bytes) bytes) wrong)

-- A reader of a field of this kind: it refuses one that breaks, and takes one that is right.
pub record Reader (kind : Kind) {B : Type 0} (read : List ℕ → Result (B × List ℕ) Stop) : Type 0 where
  pub bad : (bytes : List ℕ) (cause : AigerWhy) → BreaksField kind bytes cause → read bytes ≡ Err (fault cause bytes)
  pub good : (bytes field tail : List ℕ) → BeginsWithField kind bytes field tail → (x : B) × (read bytes ≡ given (x, tail))

out_is : (top n : ℕ) → (IsDefinition top n → ⊥) → is_out top n ≡ true
out_is top n none = go (is_out top n) refl where
  go : (t : Bool) → is_out top n ≡ t → is_out top n ≡ true
  go true is = is
  go false is = absurd (none (new_definition top n is))

inside_is : (top n : ℕ) → IsDefinition top n → is_out top n ≡ false
inside_is top n d = go (is_out top n) refl where
  go : (t : Bool) → is_out top n ≡ t → is_out top n ≡ false
  go true is = absurd (out_none top n is d)
  go false is = is

pub definition_reader : (top : ℕ) (before : List ℕ) → Reader (new_literal top before) (definition_at top before)
unfolding definition_at
definition_reader top before = record { bad = λ bytes cause breaks. field_stops (new_literal top before) bytes cause (behind bytes) (refuses bytes cause) breaks; good = good } where
  behind : List ℕ → ℕ × List ℕ → Result (ℕ × List ℕ) Stop
  behind bytes x = cond (is_out top x.0) (Err (fault (why.Range x.0) bytes)) (Ok x) >>= λ y. cond (is_in before y.0) (Err (fault (why.Defined y.0) bytes)) (Ok (y.0, y.1))

  refuses : (bytes : List ℕ) (cause : AigerWhy) (x : ℕ × List ℕ) → IsWrong (new_literal top before) x.0 cause → behind bytes x ≡ Err (fault cause bytes)
  refuses bytes cause x (inl (is, none)) = rw (out_is top x.0 none) (ap (λ (c : AigerWhy). failed {A = ℕ × List ℕ} (fault c bytes)) (sym is))
  refuses bytes cause x (inr (is, d, at, there)) = rw (inside_is top x.0 d, in_at before at x.0 there) (ap (λ (c : AigerWhy). failed {A = ℕ × List ℕ} (fault c bytes)) (sym is))

  inside : (n : ℕ) → IsRight (new_literal top before) n → (t : Bool) → is_out top n ≡ t → is_out top n ≡ false
  inside n right false is = is
  inside n right true is = absurd (right (why.Range n) (inl (refl, out_none top n is)))

  new : (n : ℕ) → IsRight (new_literal top before) n → is_out top n ≡ false → (t : Bool) → is_in before n ≡ t → is_in before n ≡ false
  new n right in_range false is = is
  new n right in_range true is = (let at = at_in before n is in absurd (right (why.Defined n) (inr (refl, new_definition top n in_range, at.0, at.1))))

  good : (bytes field tail : List ℕ) → BeginsWithField (new_literal top before) bytes field tail → (x : ℕ) × (definition_at top before bytes ≡ given (x, tail))
  good bytes field tail b =
      let in_range = inside b.number b.right (is_out top b.number) refl in
      (b.number, definition_ok top b.number before bytes tail (number_begins (new_literal top before) bytes field tail b) in_range (new b.number b.right in_range (is_in before b.number) refl))

pub low_right : (top n : ℕ) → IsRight (used_literal top) n → n ≤ 2 * top + 1
low_right top n right = go (nat_lt (2 * top + 1) n) refl where
  go : (t : Bool) → nat_lt (2 * top + 1) n ≡ t → n ≤ 2 * top + 1
  go true is = absurd (right (why.Range n) (refl, ltb-true (2 * top + 1) n is))
  go false is = ltb-false (2 * top + 1) n is

pub use_reader : (top : ℕ) → Reader (used_literal top) (use_at top)
unfolding use_at
use_reader top = record { bad = λ bytes cause breaks. field_stops (used_literal top) bytes cause (behind bytes) (refuses bytes cause) breaks; good = good } where
  behind : List ℕ → ℕ × List ℕ → Result (Used × List ℕ) Stop
  behind bytes x = cond (nat_lt (2 * top + 1) x.0) (Err (fault (why.Range x.0) bytes)) (Ok (record { literal = x.0; left = length bytes }, x.1))

  refuses : (bytes : List ℕ) (cause : AigerWhy) (x : ℕ × List ℕ) → IsWrong (used_literal top) x.0 cause → behind bytes x ≡ Err (fault cause bytes)
  refuses bytes cause x (is, high) = rw (lt-ltb (2 * top + 1) x.0 high) (ap (λ (c : AigerWhy). failed {A = Used × List ℕ} (fault c bytes)) (sym is))

  good : (bytes field tail : List ℕ) → BeginsWithField (used_literal top) bytes field tail → (x : Used) × (use_at top bytes ≡ given (x, tail))
  good bytes field tail b = (record { literal = b.number; left = length bytes }, use_written top b.number bytes tail (number_begins (used_literal top) bytes field tail b) (low_right top b.number b.right))

-- ---- fields of a line

pub no_line_end : (tail : List ℕ) → (EndsLine tail → ⊥) → line_end_at tail ≡ Err (fault why.Number tail)
no_line_end [] not = absurd (not (inl refl))
no_line_end (b ∷ bs) not = rw (ne_eqb b 10 (λ e. not (inr (bs, ap (λ (x : ℕ). x ∷ bs) e)))) refl

no_gap : (tail : List ℕ) → ((rest : List ℕ) → tail ≢ 32 ∷ rest) → gap_at tail ≡ Err (fault why.Number tail)
no_gap [] not = refl
no_gap (b ∷ bs) not = rw (ne_eqb b 32 (λ e. not bs (ap (λ (x : ℕ). x ∷ bs) e))) refl

pub field_long : (kind : Kind) (bytes field tail : List ℕ) → BeginsWithField kind bytes field tail → length bytes ≡ length field + length tail
field_long kind bytes field tail b = ap length b.parts ∙ length-append field tail

pub number_stop : {A : Type 0} (r : Result A Stop) (tail : List ℕ) (cause : AigerWhy) → cause ≡ why.Number → r ≡ Err (fault why.Number tail) → Stops r tail 0 cause
number_stop r tail cause is e = record { stop = fault why.Number tail; is = e; cause_is = is; place = omega arith }

-- the last field of a line
pub last_stops : {A B : Type 0} (kind : Kind) (read : List ℕ → Result (B × List ℕ) Stop) (k : B × List ℕ → List ℕ → Result A Stop) (bytes : List ℕ) (at : ℕ) (cause : AigerWhy) → Reader kind read → BreaksFields (kind ∷ []) bytes at cause
    → Stops (read bytes >>= λ x. line_end_at x.1 >>= k x) bytes at cause
last_stops {A} {B} kind read k bytes at cause r (inl (here, breaks)) =
    subst (λ (n : ℕ). Stops (read bytes >>= λ x. line_end_at x.1 >>= k x) bytes n cause) (sym here) (stops_here (read bytes >>= λ x. line_end_at x.1 >>= k x) bytes cause (bind_stop (read bytes) (λ x. line_end_at x.1 >>= k x) (fault cause bytes) (r.bad bytes cause breaks)))
last_stops {A} {B} kind read k bytes at cause r (inr (field, tail, b, is, there, ends)) =
    let g = r.good bytes field tail b in
    let long = field_long kind bytes field tail b in
    stops_as (line_end_at tail) (read bytes >>= λ x. line_end_at x.1 >>= k x) bytes tail at 0 cause
    (λ stop e. bind_given (read bytes) (λ x. line_end_at x.1 >>= k x) (g.0, tail) (Err stop) g.1 (bind_stop (line_end_at tail) (k (g.0, tail)) stop e)) (omega arith)
    (number_stop (line_end_at tail) tail cause is (no_line_end tail ends))

-- a field before others
pub gap_stops : {A B : Type 0} (kind next : Kind) (kinds : List Kind) (read : List ℕ → Result (B × List ℕ) Stop) (k : B × List ℕ → List ℕ → Result A Stop) (bytes : List ℕ) (at : ℕ) (cause : AigerWhy) → Reader kind read
    → ((x : B × List ℕ) (rest : List ℕ) (later : ℕ) → BreaksFields (next ∷ kinds) rest later cause → Stops (k x rest) rest later cause) → BreaksFields (kind ∷ next ∷ kinds) bytes at cause → Stops (read bytes >>= λ x. gap_at x.1 >>= k x) bytes at cause
gap_stops kind next kinds read k bytes at cause r more (inl (here, breaks)) =
    subst (λ (n : ℕ). Stops (read bytes >>= λ x. gap_at x.1 >>= k x) bytes n cause) (sym here) (stops_here (read bytes >>= λ x. gap_at x.1 >>= k x) bytes cause (bind_stop (read bytes) (λ x. gap_at x.1 >>= k x) (fault cause bytes) (r.bad bytes cause breaks)))
gap_stops kind next kinds read k bytes at cause r more (inr (field, tail, b, inl (is, there, not))) =
    let g = r.good bytes field tail b in
    let long = field_long kind bytes field tail b in
    stops_as (gap_at tail) (read bytes >>= λ x. gap_at x.1 >>= k x) bytes tail at 0 cause
    (λ stop e. bind_given (read bytes) (λ x. gap_at x.1 >>= k x) (g.0, tail) (Err stop) g.1 (bind_stop (gap_at tail) (k (g.0, tail)) stop e)) (omega arith)
    (number_stop (gap_at tail) tail cause is (no_gap tail not))
gap_stops kind next kinds read k bytes at cause r more (inr (field, tail, b, inr (rest, later, space, there, breaks))) =
    let g = r.good bytes field tail b in
    let long = field_long kind bytes field tail b in
    let one = ap length space in
    stops_as (k (g.0, tail) rest) (read bytes >>= λ x. gap_at x.1 >>= k x) bytes rest at later cause
    (λ stop e. bind_given (read bytes) (λ x. gap_at x.1 >>= k x) (g.0, tail) (Err stop) g.1 (bind_given (gap_at tail) (k (g.0, tail)) rest (Err stop) (ap gap_at space) e)) (omega arith)
    (more (g.0, tail) rest later breaks)

-- ---- a needed line, in a file

-- a reader of the file stops at this offset, for this cause
abbrev pub StopsAt : {A : Type 0} → Result A Stop → List ℕ → ℕ → AigerWhy → Type 0
StopsAt {A} r bytes offset cause = (stop : Stop) × (r ≡ Err stop) × (cause ≡ stop.why) × (offset ≡ length bytes - stop.left)

pub at_as : {A B : Type 0} (r : Result A Stop) (s : Result B Stop) (bytes : List ℕ) (offset : ℕ) (cause : AigerWhy) → ((stop : Stop) → r ≡ Err stop → s ≡ Err stop) → StopsAt r bytes offset cause → StopsAt s bytes offset cause
at_as r s bytes offset cause same (stop, is, cause_is, place) = (stop, same stop is, cause_is, place)

-- a part that stops, in its file
pub stops_at : {A : Type 0} (r : Result A Stop) (bytes rest : List ℕ) (offset at : ℕ) (cause : AigerWhy) → offset + length rest ≡ length bytes + at → Stops r rest at cause → StopsAt r bytes offset cause
stops_at r bytes rest offset at cause there s = let place = s.place in (s.stop, s.is, s.cause_is, omega arith)

pub some_length : (rest : List ℕ) → 0 < length rest → (length rest == 0) ≡ false
some_length rest lt = (let ne : length rest ≢ 0 = λ e. absurd (omega arith) in ne_eqb (length rest) 0 ne)

-- a line that is read by the fields, where it is there
pub line_stops : {A : Type 0} (line : List ℕ → Result A Stop) (kinds : List Kind) (bytes rest : List ℕ) (offset : ℕ) (cause : AigerWhy) → ((at : ℕ) → BreaksFields kinds rest at cause → Stops (line rest) rest at cause) → BreaksLine kinds bytes rest offset cause
    → StopsAt (cond (length rest == 0) (Err (fault why.Truncated [])) (line rest)) bytes offset cause
line_stops line kinds bytes rest offset cause fields (inl (none, is, there)) = (fault why.Truncated [], ap (λ (r : List ℕ). cond (length r == 0) (Err (fault why.Truncated [])) (line r)) none, is, omega arith)
line_stops line kinds bytes rest offset cause fields (inr (some, at, breaks, there)) =
    at_as (line rest) (cond (length rest == 0) (Err (fault why.Truncated [])) (line rest)) bytes offset cause (λ stop e. rw (some_length rest some) e) (stops_at (line rest) bytes rest offset at cause there (fields at breaks))

pub start_stops : {A : Type 0} (line : List ℕ → Result A Stop) (kinds : List Kind) (bytes rest : List ℕ) (offset : ℕ) (cause : AigerWhy) → ((at : ℕ) → BreaksFields kinds rest at cause → Stops (line rest) rest at cause) → BreaksLine kinds bytes rest offset cause
    → StopsAt (start_at rest >>= line) bytes offset cause
start_stops {A} line kinds bytes rest offset cause fields breaks =
    at_as (cond (length rest == 0) (Err (fault why.Truncated [])) (line rest)) (start_at rest >>= line) bytes offset cause (λ stop e. same (length rest == 0) stop e) (line_stops line kinds bytes rest offset cause fields breaks)
  where
    same : (t : Bool) (stop : Stop) → cond t (Err (fault why.Truncated [])) (line rest) ≡ failed {A = A} stop → (cond t (Err (fault why.Truncated [])) (Ok rest) >>= line) ≡ failed {A = A} stop
    same true stop e = e
    same false stop e = e
