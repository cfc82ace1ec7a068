-- Lines that break, from what a reader answers.
use Rattle.std.proofs.Common.{◌≡◌, ◌≢◌, ◌⊎◌, ◌∙◌, inl, inr, ◌<◌, ◌≤◌, ◌+◌, ◌-◌, ◌==◌, ℕ, Bool, true, false, cond, zero, suc, refl, ap, sym, subst, arith, List, [], ◌∷◌, ◌++◌, length, length-append, take, drop, Option, None, Some, Result, Ok, Err}
use Rattle.std.proofs.lemmas.Bool.{eqb-true, eqb-false}
use Rattle.aiger_parts.specs.declared.fault.AigerWhy.{AigerWhy}
use Rattle.aiger_parts.specs.declared.fault.AigerWhy.TheVariants as why
use Rattle.aiger_parts.specs.declared.fault.Stop.{Stop}
use Rattle.aiger_parts.specs.Reading.{◌>>=◌, fault, field_length, number_of, number_or, number_at, line_end_at, many_at}
use Rattle.aiger_read.specs.Lines.{more_at, gap_at}
use Rattle.aiger_read.specs.Spelling.{WritesNumber}
use Rattle.aiger_read.specs.Broken.{Kind, IsWrong, BreaksField, BeginsWithField, EndsLine, BreaksFields, BreaksLine}
use Rattle.aiger_read.proofs.WellFormed.{given, same_value}
use Rattle.aiger_read.proofs.Numbers.{numbers}
use Rattle.aiger_read.proofs.FileLines.{LineAt, LinesAt, line_end_again}
use Rattle.aiger_read.proofs.FieldTexts.{FieldAt}
use Rattle.aiger_read.proofs.SymbolFiles.{no_bytes}

-- ---- steps that fail

stop_or : {A : Type 0} → Stop → Result A Stop → Stop
stop_or d (Ok x) = d
stop_or d (Err s) = s

abbrev pub failed : {A : Type 0} → Stop → Result A Stop
failed s = Err s

pub same_stop : {A : Type 0} (s t : Stop) → failed {A = A} s ≡ failed t → s ≡ t
unfolding stop_or
same_stop {A = A} s t e = ap (stop_or {A = A} s) e

-- of two steps in turn that fail, the first fails, or the second behind what the first gave
pub bind_err : {A B : Type 0} (r : Result A Stop) (f : A → Result B Stop) (s : Stop) → (r >>= f) ≡ Err s → (r ≡ Err s) ⊎ ((x : A) × (r ≡ Ok x) × (f x ≡ Err s))
bind_err (Ok x) f s e = inr (x, refl, e)
bind_err {A} {B} (Err t) f s e = inl (ap (failed {A = A}) (same_stop {A = B} t s e))

pub unless_err : {A : Type 0} (b : Bool) (s : Stop) (r : Result A Stop) (t : Stop) → cond b (Err s) r ≡ Err t → ((b ≡ true) × (s ≡ t)) ⊎ ((b ≡ false) × (r ≡ Err t))
unless_err {A} true s r t e = inl (refl, same_stop {A = A} s t e)
unless_err false s r t e = inr (refl, e)

pub when_err : {A : Type 0} (b : Bool) (s : Stop) (r : Result A Stop) (t : Stop) → cond b r (Err s) ≡ Err t → ((b ≡ false) × (s ≡ t)) ⊎ ((b ≡ true) × (r ≡ Err t))
when_err true s r t e = inr (refl, e)
when_err {A} false s r t e = inl (refl, same_stop {A = A} s t e)

pub no_stop : {A : Type 0} (x : A) (s : Stop) → given x ≡ failed s → ⊥
no_stop x s e = absurd cc

-- ---- many that fail: some good ones, and then one that fails

pub record ManyStop {A : Type 0} (one : ℕ → List ℕ → Result (A × List ℕ) Stop) (count place : ℕ) (bytes : List ℕ) (stop : Stop) : Type 0 where
  pub number : ℕ
  pub xs : List A × List ℕ
  pub fewer : number < count
  pub good : many_at one place number bytes ≡ given xs
  pub bad : one (place + number) xs.1 ≡ Err stop

pub many_err : {A : Type 0} (one : ℕ → List ℕ → Result (A × List ℕ) Stop) (count place : ℕ) (bytes : List ℕ) (stop : Stop) → many_at one place count bytes ≡ Err stop → ManyStop one count place bytes stop
unfolding many_at
many_err {A} one zero place bytes stop e = absurd (no_stop {A = List A × List ℕ} ([], bytes) stop e)
many_err {A} one (suc count) place bytes stop e = elim (bind_err (one place bytes) (λ first. many_at one (place + 1) count first.1 >>= λ others. Ok (first.0 ∷ others.0, others.1)) stop e) [
  | inl bad ↦ (let here : place + 0 ≡ place = omega arith in record { number = 0; xs = ([], bytes); fewer = omega arith; good = refl; bad = ap (λ (p : ℕ). one p bytes) here ∙ bad })
  | inr (first, is, more) ↦ elim (bind_err (many_at one (place + 1) count first.1) (λ others. Ok (first.0 ∷ others.0, others.1)) stop more) [
    | inl bad ↦ (
        let m = many_err one count (place + 1) first.1 stop bad in
        let fewer = m.fewer in
        let there : place + suc m.number ≡ place + 1 + m.number = omega arith in
        record { number = suc m.number; xs = (first.0 ∷ m.xs.0, m.xs.1); fewer = omega arith; good = rw (is, m.good) refl; bad = ap (λ (p : ℕ). one p m.xs.1) there ∙ m.bad }
        )
    | inr (others, good, none) ↦ absurd (no_stop {A = List A × List ℕ} (first.0 ∷ others.0, others.1) stop none)
  ]
]

pub record MoreStop {A : Type 0} (one : List A → List ℕ → Result (A × List ℕ) Stop) (count : ℕ) (front : List A) (bytes : List ℕ) (stop : Stop) : Type 0 where
  pub number : ℕ
  pub xs : List A × List ℕ
  pub fewer : number < count
  pub good : more_at one number front bytes ≡ given xs
  pub bad : one xs.0 xs.1 ≡ Err stop

pub more_err : {A : Type 0} (one : List A → List ℕ → Result (A × List ℕ) Stop) (count : ℕ) (front : List A) (bytes : List ℕ) (stop : Stop) → more_at one count front bytes ≡ Err stop → MoreStop one count front bytes stop
more_err {A} one zero front bytes stop e = absurd (no_stop {A = List A × List ℕ} (front, bytes) stop e)
more_err {A} one (suc count) front bytes stop e = elim (bind_err (one front bytes) (λ x. more_at one count (front ++ x.0 ∷ []) x.1) stop e) [
  | inl bad ↦ record { number = 0; xs = (front, bytes); fewer = omega arith; good = refl; bad = bad }
  | inr (x, is, more) ↦ (
      let m = more_err one count (front ++ x.0 ∷ []) x.1 stop more in
      let fewer = m.fewer in
      record { number = suc m.number; xs = m.xs; fewer = omega arith; good = ap (λ (r : Result (A × List ℕ) Stop). r >>= λ y. more_at one m.number (front ++ y.0 ∷ []) y.1) is ∙ m.good; bad = m.bad }
      )
]

-- ---- what is left behind lines

line_shorter : (text bytes rest : List ℕ) → LineAt text bytes rest → length rest ≤ length bytes
line_shorter text bytes rest at = elim at.ends [ inl newline ↦ go (ap length newline) | inr none ↦ last (ap length none.1) ] where
  long : length bytes ≡ length text + length at.tail
  long = ap length at.parts ∙ length-append text at.tail

  go : length at.tail ≡ suc (length rest) → length rest ≤ length bytes
  go e = let l = long in omega arith

  last : length rest ≡ 0 → length rest ≤ length bytes
  last e = omega arith

pub lines_shorter : (texts : List (List ℕ)) (bytes rest : List ℕ) → LinesAt texts bytes rest → length rest ≤ length bytes
lines_shorter [] bytes rest e = let same = ap length e in omega arith
lines_shorter (text ∷ texts) bytes rest (next, at, more) = (
    let one = line_shorter text bytes next at in
    let others = lines_shorter texts next rest more in
    omega arith
    )

-- ---- numbers

pub record NoNumber (bytes : List ℕ) (stop : Stop) : Type 0 where
  pub cause : stop.why ≡ why.Number
  pub left : stop.left ≡ length bytes
  pub none : (n : ℕ) → WritesNumber (take (field_length bytes) bytes) n → ⊥

not_both : (n : ℕ) (o : Option ℕ) → o ≡ None → o ≡ Some n → ⊥
not_both n o none some = let bad : None ≡ Some n = sym none ∙ some in absurd cc

number_stop : List ℕ → Stop
number_stop bytes = fault why.Number bytes

pub number_bad : (bytes : List ℕ) (stop : Stop) → number_at bytes ≡ Err stop → NoNumber bytes stop
unfolding number_stop
number_bad bytes stop e = go (number_of (take (field_length bytes) bytes)) refl e where
  go : (o : Option ℕ) → number_of (take (field_length bytes) bytes) ≡ o → number_or bytes (field_length bytes) o ≡ failed stop → NoNumber bytes stop
  go (Some v) is h = absurd (no_stop {A = ℕ × List ℕ} (v, drop (field_length bytes) bytes) stop h)
  go None is h =
      let same : number_stop bytes ≡ stop = same_stop {A = ℕ × List ℕ} (number_stop bytes) stop h in
      record {
        cause = ap (λ (s : Stop). s.why) (sym same);
        left = ap (λ (s : Stop). s.left) (sym same);
        none = λ n w. not_both n (number_of (take (field_length bytes) bytes)) is ((numbers (take (field_length bytes) bytes) n).1 w);
      }

pub number_good : (bytes : List ℕ) (x : ℕ × List ℕ) → number_at bytes ≡ Ok x → WritesNumber (take (field_length bytes) bytes) x.0
number_good bytes x e = go (number_of (take (field_length bytes) bytes)) refl e where
  go : (o : Option ℕ) → number_of (take (field_length bytes) bytes) ≡ o → number_or bytes (field_length bytes) o ≡ given x → WritesNumber (take (field_length bytes) bytes) x.0
  go None is h = absurd cc
  go (Some value) is h =
      let both = same_value (value, drop (field_length bytes) bytes) x h in
      (numbers (take (field_length bytes) bytes) x.0).0 (is ∙ ap (λ (p : ℕ × List ℕ). Some p.0) both)

-- ---- fields that break

-- a field that breaks where a reader stopped
pub record FieldStop (kind : Kind) (bytes : List ℕ) (stop : Stop) : Type 0 where
  pub breaks : BreaksField kind bytes stop.why
  pub left : stop.left ≡ length bytes

pub no_number : (kind : Kind) (bytes : List ℕ) (stop : Stop) → number_at bytes ≡ Err stop → FieldStop kind bytes stop
no_number kind bytes stop e = let n = number_bad bytes stop e in record { breaks = inl (n.cause, n.none); left = n.left }

pub wrong_number : (kind : Kind) (bytes : List ℕ) (stop : Stop) (x : ℕ × List ℕ) (cause : AigerWhy) → number_at bytes ≡ Ok x → fault cause bytes ≡ stop → IsWrong kind x.0 cause → FieldStop kind bytes stop
wrong_number kind bytes stop x cause read same wrong = subst (FieldStop kind bytes) same (record { breaks = inr (x.0, number_good bytes x read, wrong); left = refl })

-- ---- fields of a line

-- fields that break where a reader stopped
pub record FieldsStop (kinds : List Kind) (bytes : List ℕ) (stop : Stop) : Type 0 where
  pub at : ℕ
  pub breaks : BreaksFields kinds bytes at stop.why
  pub place : stop.left + at ≡ length bytes

pub field_first : (kind : Kind) (kinds : List Kind) (bytes : List ℕ) (stop : Stop) → FieldStop kind bytes stop → FieldsStop (kind ∷ kinds) bytes stop
field_first kind [] bytes stop f = (let left = f.left in record { at = 0; breaks = inl (refl, f.breaks); place = omega arith })
field_first kind (next ∷ kinds) bytes stop f = (let left = f.left in record { at = 0; breaks = inl (refl, f.breaks); place = omega arith })

-- a number that is right there
abbrev pub IsRight : Kind → ℕ → Type 0
IsRight kind n = (cause : AigerWhy) → ¬ IsWrong kind n cause

begins_with : (kind : Kind) (bytes : List ℕ) (n : ℕ) (tail : List ℕ) (f : FieldAt bytes n tail) → IsRight kind n → BeginsWithField kind bytes f.field tail
begins_with kind bytes n tail f right = record { number = n; parts = f.parts; writes = f.writes; right = right; stops = f.stops }

field_long : (bytes : List ℕ) (n : ℕ) (tail : List ℕ) (f : FieldAt bytes n tail) → length bytes ≡ length f.field + length tail
field_long bytes n tail f = ap length f.parts ∙ length-append f.field tail

-- the wrong byte behind a field
record TailStop (tail : List ℕ) (stop : Stop) : Type 0 where
  cause : stop.why ≡ why.Number
  left : stop.left ≡ length tail

tail_stop : (tail : List ℕ) (stop : Stop) → fault why.Number tail ≡ stop → TailStop tail stop
tail_stop tail stop same = record { cause = ap (λ (s : Stop). s.why) (sym same); left = ap (λ (s : Stop). s.left) (sym same) }

line_end_bad : (tail : List ℕ) (stop : Stop) → line_end_at tail ≡ Err stop → TailStop tail stop
line_end_bad [] stop e = absurd (no_stop {A = List ℕ} [] stop e)
line_end_bad (b ∷ bs) stop e = elim (when_err (b == 10) (fault why.Number (b ∷ bs)) (given bs) stop e) [
  | inl bad ↦ tail_stop (b ∷ bs) stop bad.1
  | inr good ↦ absurd (no_stop bs stop good.1)
]

no_end : (tail : List ℕ) (stop : Stop) → line_end_at tail ≡ Err stop → EndsLine tail → ⊥
no_end tail stop e (inl none) = no_stop {A = List ℕ} [] stop (sym (line_end_again tail [] (inr (none, refl))) ∙ e)
no_end tail stop e (inr (rest, newline)) = no_stop rest stop (sym (line_end_again tail rest (inl newline)) ∙ e)

gap_bad : (tail : List ℕ) (stop : Stop) → gap_at tail ≡ Err stop → TailStop tail stop
gap_bad [] stop e = tail_stop [] stop (same_stop {A = List ℕ} (fault why.Number []) stop e)
gap_bad (b ∷ bs) stop e = elim (when_err (b == 32) (fault why.Number (b ∷ bs)) (given bs) stop e) [
  | inl bad ↦ tail_stop (b ∷ bs) stop bad.1
  | inr good ↦ absurd (no_stop bs stop good.1)
]

no_gap : (tail rest : List ℕ) (stop : Stop) → gap_at tail ≡ Err stop → tail ≢ 32 ∷ rest
no_gap tail rest stop e space = no_stop rest stop (sym (ap gap_at space) ∙ e)

pub field_end : (kind : Kind) (bytes : List ℕ) (n : ℕ) (tail : List ℕ) (stop : Stop) → FieldAt bytes n tail → IsRight kind n → line_end_at tail ≡ Err stop → FieldsStop (kind ∷ []) bytes stop
field_end kind bytes n tail stop f right e =
    let t = line_end_bad tail stop e in
    let left = t.left in
    let long = field_long bytes n tail f in
    record { at = length f.field; breaks = inr (f.field, tail, begins_with kind bytes n tail f right, t.cause, refl, no_end tail stop e); place = omega arith }

pub field_gap : (kind next : Kind) (kinds : List Kind) (bytes : List ℕ) (n : ℕ) (tail : List ℕ) (stop : Stop) → FieldAt bytes n tail → IsRight kind n → gap_at tail ≡ Err stop → FieldsStop (kind ∷ next ∷ kinds) bytes stop
field_gap kind next kinds bytes n tail stop f right e =
    let t = gap_bad tail stop e in
    let left = t.left in
    let long = field_long bytes n tail f in
    record { at = length f.field; breaks = inr (f.field, tail, begins_with kind bytes n tail f right, inl (t.cause, refl, λ rest. no_gap tail rest stop e)); place = omega arith }

pub field_more : (kind next : Kind) (kinds : List Kind) (bytes : List ℕ) (n : ℕ) (tail rest : List ℕ) (stop : Stop) → FieldAt bytes n tail → IsRight kind n → tail ≡ 32 ∷ rest → FieldsStop (next ∷ kinds) rest stop → FieldsStop (kind ∷ next ∷ kinds) bytes stop
field_more kind next kinds bytes n tail rest stop f right space more =
    let place = more.place in
    let long = field_long bytes n tail f in
    let one = ap length space in
    record { at = length f.field + 1 + more.at; breaks = inr (f.field, tail, begins_with kind bytes n tail f right, inr (rest, more.at, space, refl, more.breaks)); place = omega arith }

-- ---- a needed line

pub record EndStop (rest : List ℕ) (stop : Stop) : Type 0 where
  pub none : rest ≡ []
  pub cause : stop.why ≡ why.Truncated
  pub left : stop.left ≡ 0

-- the file ended, or the line breaks where a reader stopped
abbrev pub LineStop : List Kind → List ℕ → Stop → Type 0
LineStop kinds rest stop = EndStop rest stop ⊎ ((0 < length rest) × FieldsStop kinds rest stop)

pub end_stop : (rest : List ℕ) (stop : Stop) → (length rest == 0) ≡ true → fault why.Truncated [] ≡ stop → EndStop rest stop
end_stop rest stop none same = record { none = no_bytes rest (let zero_is = eqb-true (length rest) 0 none in omega arith); cause = ap (λ (s : Stop). s.why) (sym same); left = ap (λ (s : Stop). s.left) (sym same) }

pub some_rest : (rest : List ℕ) → (length rest == 0) ≡ false → 0 < length rest
some_rest rest e = (let ne = eqb-false (length rest) 0 e in omega arith)

-- an offset is what stands before the bytes that are left
abbrev pub IsPlace : List ℕ → ℕ → AigerWhy → Stop → Type 0
IsPlace bytes offset cause stop = (cause ≡ stop.why) × (offset ≡ length bytes - stop.left)

pub line_breaks : (kinds : List Kind) (bytes rest : List ℕ) (offset : ℕ) (cause : AigerWhy) (stop : Stop) → length rest ≤ length bytes → IsPlace bytes offset cause stop → LineStop kinds rest stop → BreaksLine kinds bytes rest offset cause
line_breaks kinds bytes rest offset cause stop le is (inl e) = (let left = e.left in let at = is.1 in inl (e.none, is.0 ∙ e.cause, omega arith))
line_breaks kinds bytes rest offset cause stop le is (inr (some, f)) = (
    let place = f.place in
    let at = is.1 in
    inr (some, f.at, subst (BreaksFields kinds rest f.at) (sym is.0) f.breaks, omega arith)
    )
