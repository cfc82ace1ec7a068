-- First lines that break, from what a reader answers.
use Rattle.std.proofs.Common.{◌≡◌, ◌∙◌, inl, inr, ◌<◌, ◌≤◌, ◌+◌, ◌-◌, ◌==◌, ℕ, true, false, cond, zero, suc, refl, ap, sym, subst, arith, List, [], ◌∷◌, ◌++◌, length, drop, Result, Ok, Err}
use Rattle.rsfq_ids.specs.declared.limits.TheConstants.{AIG_LIMIT}
use Rattle.std.specs.Prelude.{nat_lt, nat_le, nat_eq, replicate}
use Rattle.std.specs.List.{starts_with}
use Rattle.std.proofs.lemmas.Bool.{ltb-true, eqb-true, eqb-false, leb-true, le-leb, eq-eqb}
use Rattle.aiger_parts.specs.declared.fault.AigerWhy.{AigerWhy}
use Rattle.aiger_parts.specs.declared.fault.AigerWhy.TheVariants as why
use Rattle.aiger_parts.specs.declared.fault.Stop.{Stop}
use Rattle.aiger_parts.specs.declared.header.Form.{Form}
use Rattle.aiger_parts.specs.declared.header.Form.TheVariants as form
use Rattle.aiger_parts.specs.declared.header.Header.{Header}
use Rattle.aiger_parts.specs.Reading.{◌>>=◌, fault, number_at, field_at}
use Rattle.aiger_parts.specs.Header.{spaces_in, word_of, has_head, fits_form, zeros_at, variables_at, latches_at, counts_at, header_at}
use Rattle.aiger_read.specs.Broken.{Kind, highest, any_count, latch_count, further_count, HasHead, FitsForm, head_kinds, BreaksHead, BreaksFields}
use Rattle.aiger_read.proofs.WellFormed.{given, same_value, bind_ok, when_ok}
use Rattle.aiger_read.proofs.FileLines.{written}
use Rattle.aiger_read.proofs.HeadLines.{Spaced, spaced, further, three_true, begins, word_begins, word_spaces, limited, no_latches, line_made}
use Rattle.aiger_read.proofs.BrokenLines.{failed, bind_err, unless_err, when_err, no_stop, no_number, wrong_number, FieldStop, FieldsStop, field_first, IsRight, field_more, IsPlace}

made_header : ℕ → ℕ → ℕ → ℕ → Header
made_header variables inputs outputs ands = record { variables = variables; inputs = inputs; outputs = outputs; ands = ands }

made_pair : Header → List ℕ → Header × List ℕ
made_pair header rest = (header, rest)

-- ---- one field

-- a field that writes no number
pub bad_field : (kind : Kind) (bytes : List ℕ) (stop : Stop) → field_at bytes ≡ Err stop → FieldStop kind bytes stop
bad_field kind bytes stop e = elim (bind_err (number_at bytes) (λ x. given (x.0, drop 1 x.1)) stop e) [
  | inl bad ↦ no_number kind bytes stop bad
  | inr (x, is, none) ↦ absurd (no_stop {A = ℕ × List ℕ} (x.0, drop 1 x.1) stop none)
]

-- the number that a field writes
field_number : (bytes : List ℕ) (x : ℕ × List ℕ) → field_at bytes ≡ Ok x → (y : ℕ × List ℕ) × (number_at bytes ≡ Ok y) × (y.0 ≡ x.0)
field_number bytes x e =
    let number = bind_ok (number_at bytes) (λ y. given (y.0, drop 1 y.1)) x e in
    (number.0, number.1, ap (λ (p : ℕ × List ℕ). p.0) (same_value (number.0.0, drop 1 number.0.1) x number.2))

-- a field and its space, and a later one that breaks
spaced_more : (kind next : Kind) (kinds : List Kind) (bytes : List ℕ) (n k : ℕ) (rest : List ℕ) (stop : Stop) → Spaced bytes n k rest → IsRight kind n → FieldsStop (next ∷ kinds) rest stop → FieldsStop (kind ∷ next ∷ kinds) bytes stop
spaced_more kind next kinds bytes n k rest stop s right more = field_more kind next kinds bytes n (32 ∷ rest) rest stop (record { field = s.field; parts = s.parts; writes = s.writes; stops = refl }) right refl more

any_right : (n : ℕ) → IsRight any_count n
any_right n cause wrong = wrong

latch_right : IsRight latch_count 0
latch_right cause wrong = wrong.1 refl

further_right : (n : ℕ) → n ≡ 0 → IsRight further_count n
further_right n is cause wrong = wrong.1 is

-- ---- the further ones

further_bad : (z : ℕ) (kind : Kind) (bytes : List ℕ) (n : ℕ) (behind : List ℕ) (stop : Stop) → field_at bytes ≡ given (n, behind) → IsRight kind n → zeros_at z behind ≡ Err stop → spaces_in bytes ≡ z → FieldsStop (kind ∷ replicate z further_count) bytes stop
further_bad zero kind bytes n behind stop read right e count = absurd (no_stop behind stop e)
further_bad (suc z) kind bytes n behind stop read right e count =
    let s = spaced bytes n z behind read count in
    spaced_more kind further_count (replicate z further_count) bytes n z behind stop s right
    (elim (bind_err (field_at behind) (λ x. cond (x.0 == 0) (Ok x.1) (Err (fault why.Extended behind)) >>= λ r. zeros_at z r) stop e) [
      | inl bad ↦ field_first further_count (replicate z further_count) behind stop (bad_field further_count behind stop bad)
      | inr (x, is, more) ↦ elim (bind_err (cond (x.0 == 0) (Ok x.1) (Err (fault why.Extended behind))) (λ r. zeros_at z r) stop more) [
        | inl test ↦ elim (when_err (x.0 == 0) (fault why.Extended behind) (Ok x.1) stop test) [
          | inl (some, same) ↦ (
              let number = field_number behind x is in
              let ne = eqb-false x.0 0 some in
              field_first further_count (replicate z further_count) behind stop (wrong_number further_count behind stop number.0 why.Extended number.1 same (refl, λ zero_is. ne (sym number.2 ∙ zero_is)))
              )
          | inr (none, good) ↦ absurd (no_stop x.1 stop good)
        ]
        | inr (r, test, others) ↦ (
            let none = when_ok (x.0 == 0) (fault why.Extended behind) (Ok x.1) r test in
            let zero_is : x.0 ≡ 0 = eqb-true x.0 0 none.0 in
            let behind_is : x.1 ≡ r = same_value x.1 r none.1 in
            further_bad z further_count behind x.0 x.1 stop is (further_right x.0 zero_is) (ap (zeros_at z) behind_is ∙ others) s.left
            )
      ]
    ])

-- ---- I, L, O and A

latches_bad : (kinds : List Kind) (bytes : List ℕ) (stop : Stop) → latches_at bytes ≡ Err stop → FieldsStop (latch_count ∷ kinds) bytes stop
latches_bad kinds bytes stop e = elim (bind_err (field_at bytes) (λ x. cond (x.0 == 0) (Ok x.1) (Err (fault why.Latches bytes))) stop e) [
  | inl bad ↦ field_first latch_count kinds bytes stop (bad_field latch_count bytes stop bad)
  | inr (x, is, test) ↦ elim (when_err (x.0 == 0) (fault why.Latches bytes) (Ok x.1) stop test) [
    | inl (some, same) ↦ (
        let number = field_number bytes x is in
        let ne = eqb-false x.0 0 some in
        field_first latch_count kinds bytes stop (wrong_number latch_count bytes stop number.0 why.Latches number.1 same (refl, λ zero_is. ne (sym number.2 ∙ zero_is)))
        )
    | inr (none, good) ↦ absurd (no_stop x.1 stop good)
  ]
]

counts_bad : (z variables : ℕ) (bytes : List ℕ) (stop : Stop) → counts_at variables bytes ≡ Err stop → spaces_in bytes ≡ suc (suc (suc z)) → FieldsStop (any_count ∷ latch_count ∷ any_count ∷ any_count ∷ replicate z further_count) bytes stop
unfolding counts_at made_pair made_header
counts_bad z variables bytes stop e count = elim (bind_err (field_at bytes) (λ inputs. latches_at inputs.1 >>= λ r. field_at r >>= λ outputs. field_at outputs.1 >>= λ ands. Ok (made_pair (made_header variables inputs.0 outputs.0 ands.0) ands.1)) stop e) [
  | inl bad ↦ field_first any_count (latch_count ∷ any_count ∷ any_count ∷ replicate z further_count) bytes stop (bad_field any_count bytes stop bad)
  | inr (inputs, i, more) ↦ (
      let si = spaced bytes inputs.0 (suc (suc z)) inputs.1 i count in
      spaced_more any_count latch_count (any_count ∷ any_count ∷ replicate z further_count) bytes inputs.0 (suc (suc z)) inputs.1 stop si (any_right inputs.0)
      (elim (bind_err (latches_at inputs.1) (λ r. field_at r >>= λ outputs. field_at outputs.1 >>= λ ands. Ok (made_pair (made_header variables inputs.0 outputs.0 ands.0) ands.1)) stop more) [
        | inl bad ↦ latches_bad (any_count ∷ any_count ∷ replicate z further_count) inputs.1 stop bad
        | inr (r, l, behind) ↦ (
            let sl = spaced inputs.1 0 (suc z) r (no_latches inputs.1 r l) si.left in
            spaced_more latch_count any_count (any_count ∷ replicate z further_count) inputs.1 0 (suc z) r stop sl latch_right
            (elim (bind_err (field_at r) (λ outputs. field_at outputs.1 >>= λ ands. Ok (made_pair (made_header variables inputs.0 outputs.0 ands.0) ands.1)) stop behind) [
              | inl bad ↦ field_first any_count (any_count ∷ replicate z further_count) r stop (bad_field any_count r stop bad)
              | inr (outputs, o, last) ↦ (
                  let so = spaced r outputs.0 z outputs.1 o sl.left in
                  spaced_more any_count any_count (replicate z further_count) r outputs.0 z outputs.1 stop so (any_right outputs.0)
                  (elim (bind_err (field_at outputs.1) (λ ands. Ok (made_pair (made_header variables inputs.0 outputs.0 ands.0) ands.1)) stop last) [
                    | inl bad ↦ field_first any_count (replicate z further_count) outputs.1 stop (bad_field any_count outputs.1 stop bad)
                    | inr (ands, a, none) ↦ absurd (no_stop (made_pair (made_header variables inputs.0 outputs.0 ands.0) ands.1) stop none)
                  ])
                  )
            ])
            )
      ])
      )
]

-- The numbers behind M, as they stand.
record CountsAt (z variables : ℕ) (bytes : List ℕ) (x : Header × List ℕ) : Type 0 where
  i : ℕ
  o : ℕ
  a : ℕ
  b3 : List ℕ
  b4 : List ℕ
  b5 : List ℕ
  si : Spaced bytes i (suc (suc z)) b3
  sl : Spaced b3 0 (suc z) b4
  so : Spaced b4 o z b5
  ands : field_at b5 ≡ given (a, x.1)
  is : made_header variables i o a ≡ x.0

counts_good : (z variables : ℕ) (bytes : List ℕ) (x : Header × List ℕ) → counts_at variables bytes ≡ Ok x → spaces_in bytes ≡ suc (suc (suc z)) → CountsAt z variables bytes x
unfolding counts_at made_pair made_header
counts_good z variables bytes x e count =
    let inputs = bind_ok (field_at bytes) (λ inputs. latches_at inputs.1 >>= λ r. field_at r >>= λ outputs. field_at outputs.1 >>= λ ands. Ok (made_pair (made_header variables inputs.0 outputs.0 ands.0) ands.1)) x e in
    let latches = bind_ok (latches_at inputs.0.1) (λ r. field_at r >>= λ outputs. field_at outputs.1 >>= λ ands. Ok (made_pair (made_header variables inputs.0.0 outputs.0 ands.0) ands.1)) x inputs.2 in
    let outputs = bind_ok (field_at latches.0) (λ outputs. field_at outputs.1 >>= λ ands. Ok (made_pair (made_header variables inputs.0.0 outputs.0 ands.0) ands.1)) x latches.2 in
    let ands = bind_ok (field_at outputs.0.1) (λ ands. Ok (made_pair (made_header variables inputs.0.0 outputs.0.0 ands.0) ands.1)) x outputs.2 in
    let made : Header = made_header variables inputs.0.0 outputs.0.0 ands.0.0 in
    let counted = same_value (made_pair made ands.0.1) x ands.2 in
    let rest_is : ands.0.1 ≡ x.1 = ap (λ (p : Header × List ℕ). p.1) counted in
    let si = spaced bytes inputs.0.0 (suc (suc z)) inputs.0.1 inputs.1 count in
    let sl = spaced inputs.0.1 0 (suc z) latches.0 (no_latches inputs.0.1 latches.0 latches.1) si.left in
    let so = spaced latches.0 outputs.0.0 z outputs.0.1 outputs.1 sl.left in
    record {
      i = inputs.0.0;
      o = outputs.0.0;
      a = ands.0.0;
      b3 = inputs.0.1;
      b4 = latches.0;
      b5 = outputs.0.1;
      si = si;
      sl = sl;
      so = so;
      ands = ands.1 ∙ ap (λ (r : List ℕ). given (ands.0.0, r)) rest_is;
      is = ap (λ (p : Header × List ℕ). p.0) counted;
    }

zeros_bad : (z variables : ℕ) (bytes : List ℕ) (x : Header × List ℕ) (stop : Stop) → CountsAt z variables bytes x → zeros_at z x.1 ≡ Err stop → FieldsStop (any_count ∷ latch_count ∷ any_count ∷ any_count ∷ replicate z further_count) bytes stop
zeros_bad z variables bytes x stop c e =
    spaced_more any_count latch_count (any_count ∷ any_count ∷ replicate z further_count) bytes c.i (suc (suc z)) c.b3 stop c.si (any_right c.i)
    (spaced_more latch_count any_count (any_count ∷ replicate z further_count) c.b3 0 (suc z) c.b4 stop c.sl latch_right
    (spaced_more any_count any_count (replicate z further_count) c.b4 c.o z c.b5 stop c.so (any_right c.o)
    (further_bad z any_count c.b5 c.a x.1 stop c.ands (any_right c.a) e c.so.left)))

-- ---- the whole line

no_head : (form : Form) (bytes : List ℕ) → has_head form bytes ≡ false → HasHead form bytes → ⊥
no_head form bytes none ((rest, is), low, high) =
    let word : starts_with nat_eq bytes (word_of form) ≡ true = ap (λ (b : List ℕ). starts_with nat_eq b (word_of form)) is ∙ word_begins form rest in
    let there : has_head form bytes ≡ true = rw (word, le-leb 5 (spaces_in bytes) low, le-leb (spaces_in bytes) 9 high) refl in
    let bad : true ≡ false = sym there ∙ none in
    absurd cc

no_fit : (form : Form) (h : Header) → fits_form form h ≡ false → FitsForm form h.variables h.inputs h.ands → ⊥
no_fit form.Ascii h e le = let bad : true ≡ false = sym (le-leb (h.inputs + h.ands) h.variables le) ∙ e in absurd cc
no_fit form.Binary h e same = let bad : true ≡ false = sym (eq-eqb h.variables (h.inputs + h.ands) same) ∙ e in absurd cc

pub word_long : (form : Form) (bytes : List ℕ) → length (word_of form ++ bytes) ≡ 4 + length bytes
word_long form.Ascii bytes = omega arith
word_long form.Binary bytes = omega arith

-- M as it stands, and that there are at most four further numbers
record FirstAt (form : Form) (bytes : List ℕ) (x : ℕ × List ℕ) : Type 0 where
  word : bytes ≡ word_of form ++ drop 4 bytes
  few : spaces_in bytes - 5 ≤ 4
  m : Spaced (drop 4 bytes) x.0 (suc (suc (suc (spaces_in bytes - 5)))) x.1
  limit : x.0 ≤ AIG_LIMIT

highest_right : (n : ℕ) → n ≤ AIG_LIMIT → IsRight highest n
highest_right n le cause wrong = (let lt = wrong.1 in absurd (omega arith))

-- a field of the first line that breaks
fields_break : (form : Form) (bytes : List ℕ) (offset : ℕ) (cause : AigerWhy) (stop : Stop) → has_head form bytes ≡ true → IsPlace bytes offset cause stop → FieldsStop (head_kinds (spaces_in bytes - 5)) (drop 4 bytes) stop → BreaksHead form bytes offset cause
fields_break form bytes offset cause stop head place f =
    let tests = three_true (starts_with nat_eq bytes (word_of form)) (nat_le 5 (spaces_in bytes)) (nat_le (spaces_in bytes) 9) head in
    let word = begins form bytes tests.0 in
    let long : length bytes ≡ 4 + length (drop 4 bytes) = ap length word ∙ word_long form (drop 4 bytes) in
    let left = f.place in
    let at = place.1 in
    inr (inl (drop 4 bytes, f.at, ((drop 4 bytes, word), leb-true 5 (spaces_in bytes) tests.1, leb-true (spaces_in bytes) 9 tests.2), word, subst (λ (w : AigerWhy). BreaksFields (head_kinds (spaces_in bytes - 5)) (drop 4 bytes) f.at w) (sym place.0) f.breaks, omega arith))

first_at : (form : Form) (bytes : List ℕ) (x : ℕ × List ℕ) → has_head form bytes ≡ true → variables_at (drop 4 bytes) ≡ Ok x → FirstAt form bytes x
first_at form bytes x head e =
    let tests = three_true (starts_with nat_eq bytes (word_of form)) (nat_le 5 (spaces_in bytes)) (nat_le (spaces_in bytes) 9) head in
    let word = begins form bytes tests.0 in
    let low = leb-true 5 (spaces_in bytes) tests.1 in
    let high = leb-true (spaces_in bytes) 9 tests.2 in
    let spaces : spaces_in bytes ≡ suc (spaces_in (drop 4 bytes)) = ap spaces_in word ∙ word_spaces form (drop 4 bytes) in
    let m = limited (drop 4 bytes) x e in
    record { word = word; few = omega arith; m = spaced (drop 4 bytes) x.0 (suc (suc (suc (spaces_in bytes - 5)))) x.1 m.0 (omega arith); limit = m.1 }

variables_bad : (kinds : List Kind) (bytes : List ℕ) (stop : Stop) → variables_at bytes ≡ Err stop → FieldsStop (highest ∷ kinds) bytes stop
variables_bad kinds bytes stop e = elim (bind_err (field_at bytes) (λ n. cond (nat_lt AIG_LIMIT n.0) (Err (fault (why.Limit n.0) bytes)) (given (n.0, n.1))) stop e) [
  | inl bad ↦ field_first highest kinds bytes stop (bad_field highest bytes stop bad)
  | inr (x, is, test) ↦ elim (unless_err (nat_lt AIG_LIMIT x.0) (fault (why.Limit x.0) bytes) (given (x.0, x.1)) stop test) [
    | inl (high, same) ↦ (
        let number = field_number bytes x is in
        let above : AIG_LIMIT < x.0 = ltb-true AIG_LIMIT x.0 high in
        let value = number.2 in
        field_first highest kinds bytes stop (wrong_number highest bytes stop number.0 (why.Limit x.0) number.1 same (ap (λ (n : ℕ). why.Limit n) (sym value), omega arith))
        )
    | inr (low, good) ↦ absurd (no_stop {A = ℕ × List ℕ} (x.0, x.1) stop good)
  ]
]

header_place : (bytes : List ℕ) (offset : ℕ) (cause : AigerWhy) (stop : Stop) → IsPlace bytes offset cause stop → fault why.Header bytes ≡ stop → (cause ≡ why.Header) × (offset ≡ 0)
header_place bytes offset cause stop place same =
    let left : length bytes ≡ stop.left = ap (λ (s : Stop). s.left) same in
    let at = place.1 in
    (place.0 ∙ ap (λ (s : Stop). s.why) (sym same), omega arith)

-- the rule on M, what is behind I, L, O and A, and what is behind M
abbrev last_test : Form → List ℕ → Header → List ℕ → Result (Header × List ℕ) Stop
last_test form bytes header behind = cond (fits_form form header) (Ok (header, behind)) (Err (fault why.Header bytes))

abbrev behind_numbers : Form → List ℕ → Header × List ℕ → Result (Header × List ℕ) Stop
behind_numbers form bytes counts = zeros_at (spaces_in bytes - 5) counts.1 >>= last_test form bytes counts.0

abbrev behind_variables : Form → List ℕ → ℕ × List ℕ → Result (Header × List ℕ) Stop
behind_variables form bytes variables = counts_at variables.0 variables.1 >>= behind_numbers form bytes

pub head_breaks : (form : Form) (bytes : List ℕ) (offset : ℕ) (cause : AigerWhy) (stop : Stop) → header_at form bytes ≡ Err stop → IsPlace bytes offset cause stop → BreaksHead form bytes offset cause
unfolding header_at made_header
head_breaks form bytes offset cause stop e place = elim (bind_err (cond (has_head form bytes) (variables_at (drop 4 bytes)) (Err (fault why.Header bytes))) (behind_variables form bytes) stop e) [
  | inl first ↦ elim (when_err (has_head form bytes) (fault why.Header bytes) (variables_at (drop 4 bytes)) stop first) [
    | inl (none, same) ↦ (let at = header_place bytes offset cause stop place same in inl (at.0, at.1, no_head form bytes none))
    | inr (head, bad) ↦ fields_break form bytes offset cause stop head place (variables_bad (any_count ∷ latch_count ∷ any_count ∷ any_count ∷ replicate (spaces_in bytes - 5) further_count) (drop 4 bytes) stop bad)
  ]
  | inr (variables, v, more) ↦ behind_first variables (when_ok (has_head form bytes) (fault why.Header bytes) (variables_at (drop 4 bytes)) variables v) more
] where
  behind_counts : (variables : ℕ × List ℕ) (counts : Header × List ℕ) → has_head form bytes ≡ true → FirstAt form bytes variables → CountsAt (spaces_in bytes - 5) variables.0 variables.1 counts
      → behind_numbers form bytes counts ≡ failed stop → BreaksHead form bytes offset cause
  behind_counts variables counts head f k h = elim (bind_err (zeros_at (spaces_in bytes - 5) counts.1) (last_test form bytes counts.0) stop h) [
    | inl bad ↦ fields_break form bytes offset cause stop head place (spaced_more highest any_count (latch_count ∷ any_count ∷ any_count ∷ replicate (spaces_in bytes - 5) further_count) (drop 4 bytes) variables.0 (suc (suc (suc (spaces_in bytes - 5)))) variables.1 stop f.m (highest_right variables.0 f.limit) (zeros_bad (spaces_in bytes - 5) variables.0 variables.1 counts stop k bad))
    | inr (behind, zs, fit) ↦ elim (when_err (fits_form form counts.0) (fault why.Header bytes) (given (counts.0, behind)) stop fit) [
      | inl (unfit, same) ↦ (
          let at = header_place bytes offset cause stop place same in
          let others = further (spaces_in bytes - 5) k.b5 k.a counts.1 behind k.ands zs k.so.left in
          let made = line_made form bytes (drop 4 bytes) variables.1 k.b3 k.b4 k.b5 behind variables.0 k.i k.o k.a (spaces_in bytes - 5) f.word f.m k.si k.sl k.so others f.few in
          inr (inr (variables.0, k.i, k.o, k.a, made.0, behind, made.1, written (made.0 ∷ []) bytes behind (behind, made.2, refl), f.limit, no_fit form (made_header variables.0 k.i k.o k.a) (ap (fits_form form) k.is ∙ unfit), at.0, at.1))
          )
      | inr (fits, none) ↦ absurd (no_stop {A = Header × List ℕ} (counts.0, behind) stop none)
    ]
  ]

  behind_first : (variables : ℕ × List ℕ) → (has_head form bytes ≡ true) × (variables_at (drop 4 bytes) ≡ Ok variables)
      → behind_variables form bytes variables ≡ failed stop → BreaksHead form bytes offset cause
  behind_first variables (head, v) h =
      let f = first_at form bytes variables head v in
      elim (bind_err (counts_at variables.0 variables.1) (behind_numbers form bytes) stop h) [
        | inl bad ↦ fields_break form bytes offset cause stop head place (spaced_more highest any_count (latch_count ∷ any_count ∷ any_count ∷ replicate (spaces_in bytes - 5) further_count) (drop 4 bytes) variables.0 (suc (suc (suc (spaces_in bytes - 5)))) variables.1 stop f.m (highest_right variables.0 f.limit) (counts_bad (spaces_in bytes - 5) variables.0 variables.1 stop bad f.m.left))
        | inr (counts, c, rest) ↦ behind_counts variables counts head f (counts_good (spaces_in bytes - 5) variables.0 variables.1 counts c f.m.left) rest
      ]
