-- The text of a log that has ended is accepted.
use Rattle.std.proofs.Common.{◌≡◌, ◌∙◌, ◌<◌, ◌≤◌, ◌+◌, ◌-◌, ◌*◌, ◌/◌, ◌^◌, ◌⊎◌, ℕ, Bool, true, false, zero, suc, refl, sym, ap, ap₂, subst, arith, List, [], ◌∷◌, ◌++◌, length, map, take, get_or, inl, inr, Option, Some, None, Result, Ok, decimal, append_assoc, length-append, add-one}
use Rattle.std.specs.Prelude.{◌==◌, ◌||◌, nat_lt, slice_get, IsSomeAnd}
use Rattle.std.specs.List.{All, list_any, flat_map}
use Rattle.std.specs.Str.{bytes_eq}
use Rattle.std.specs.Str.Parse.{AllDigits}
use Rattle.std.proofs.lemmas.Bool.{cases_Bool}
use Rattle.std.proofs.lemmas.Bool.Decides.{leb_tells}
use Rattle.std.proofs.lemmas.List.Elements.{All-head, All-tail}
use Rattle.std.proofs.lemmas.List.Folds.{list_any-append}
use Rattle.std.proofs.lemmas.Slice.Eq.{bytes_eq-Decides}
use Rattle.std.proofs.lemmas.Fmt.{decimal_is_IsNumeral}
use Rattle.std.proofs.lemmas.Str.Parse.{digit_from_value}
use Rattle.rsfq_ids.specs.Formula.{Clause, IsOver}
use Rattle.rsfq_ids.specs.declared.circuit.Cnf.{Cnf}
use Rattle.proof_arena.specs.Step.{StepHolds, is_among, is_tautology, reading, after_hint, after_clause, ends_in_conflict}
use Rattle.proof_arena.specs.Log.{Log, LogStep, StepsHold, HasEnded}
use Rattle.proof_arena.specs.declared.hint.HintReading.{HintReading}
use Rattle.proof_arena.specs.declared.hint.HintReading.TheVariants.{Conflict, Passed, Unit as UnitLit, NotUnit}
use Rattle.dimacs_text.specs.Parts.{Part, words, lines, is_newline, is_space, is_empty}
use Rattle.dimacs_text.specs.Number.{signed_of}
use Rattle.dimacs_text.specs.Text.{literal_text, spaced_literal}
use Rattle.dimacs_text.specs.declared.number.Signed.{Signed}
use Rattle.dimacs_text.proofs.Written.{Separates, newlines, spaces, apart, or_left, part_first, word_first, literal_free, literal_some, literals_free, signed_literal, literal_back, signed_read, signed_number, decimal_free, decimal_some, number_read, regroup}
use Rattle.lrat_lines.specs.Lines.{addition, number_field, field_of, list_from, list_of, with_hints, addition_of, behind_id, with_id, fields_say, has_outer_space, line_of}
use Rattle.lrat_table.specs.Found.{Found, given_at, with_clause}
use Rattle.lrat_check.specs.Check.{Known, at_reading, at_clause, hints_fault, range_fault, clause_of, addition_fault, added, unless_why, after_line, on_from, lines_fault}
use Rattle.lrat_check.specs.declared.fault.LratWhy.{LratWhy}
use Rattle.lrat_check.specs.Written.{spaced_hint, step_lines, lrat_of, StandsFor, IsAccepted}
use Rattle.lrat_table.proofs.GivenSays.{given_more}
use Rattle.lrat_check.proofs.CheckSays.{is_judged}

-- ---- fields

-- a list that was found and what stands behind it
abbrev Listed : Type 0
Listed = Option (List Signed × List Part)

abbrev listed : List Signed → List Part → Listed
listed numbers rest = Some (numbers, rest)

abbrev pub signed_hint : ℕ → Signed
signed_hint hint = record { negative = false; size = hint + 1 }

number_listed : (number : Signed) (fields : List Part) (numbers : List Signed) (rest : List Part) → (number.size ≡ 0 → ⊥)
    → list_from (number_field (Some number)) fields (listed numbers rest) ≡ listed (number ∷ numbers) rest
number_listed number fields numbers rest some = rw (apart number.size 0 some) refl

zero_signed : signed_of (48 ∷ []) ≡ Some (record { negative = false; size = 0 })
zero_signed = refl

field_listed : (bytes : List ℕ) (number : Signed) (fields : List Part) (numbers : List Signed) (rest : List Part) → signed_of bytes ≡ Some number → (number.size ≡ 0 → ⊥)
    → list_from (field_of bytes) fields (listed numbers rest) ≡ listed (number ∷ numbers) rest
field_listed bytes number fields numbers rest is some = elim (cases_Bool (bytes_eq bytes (48 ∷ []))) [
  | inl e ↦
      let same : bytes ≡ 48 ∷ [] = (bytes_eq-Decides bytes (48 ∷ [])).0 e in
      let both : Some number ≡ Some (record { negative = false; size = 0 }) = sym is ∙ ap signed_of same ∙ zero_signed in
      absurd (some (let size : number.size ≡ 0 = cc in size))
  | inr e ↦ rw e (ap (λ (n : Option Signed). list_from (number_field n) fields (listed numbers rest)) is ∙ number_listed number fields numbers rest some)
]

one_more : (bytes : List ℕ) (start : ℕ) (number : Signed) (fields : List Part) (numbers : List Signed) (rest : List Part) → signed_of bytes ≡ Some number → (number.size ≡ 0 → ⊥)
    → list_of fields ≡ listed numbers rest → list_of (record { start = start; bytes = bytes } ∷ fields) ≡ listed (number ∷ numbers) rest
one_more bytes start number fields numbers rest is some behind =
    ap (list_from (field_of bytes) fields) behind ∙ field_listed bytes number fields numbers rest is some

lits_listed : (at : ℕ) (lits : List ℕ) (after : List ℕ) → All (λ lit. lit / 2 + 1 ≤ 4294967295) lits
    → (place : ℕ) × (list_of (words is_space at (flat_map spaced_literal lits ++ 48 ∷ 32 ∷ after)) ≡ listed (map signed_literal lits) (words is_space place after))
lits_listed at [] after small = (at + 2, ap list_of (word_first is_space at (48 ∷ []) 32 after (omega arith) refl refl))
lits_listed at (lit ∷ lits) after small =
    let here : lit / 2 + 1 ≤ 4294967295 = All-head (λ l. l / 2 + 1 ≤ 4294967295) lit lits small in
    let behind = lits_listed (at + suc (length (literal_text lit))) lits after (All-tail (λ l. l / 2 + 1 ≤ 4294967295) lit lits small) in
    let split : words is_space at (flat_map spaced_literal (lit ∷ lits) ++ 48 ∷ 32 ∷ after)
    ≡ record { start = at; bytes = literal_text lit } ∷ words is_space (at + suc (length (literal_text lit))) (flat_map spaced_literal lits ++ 48 ∷ 32 ∷ after) =
    ap (words is_space at) (regroup (literal_text lit) (flat_map spaced_literal lits) (48 ∷ 32 ∷ after))
    ∙ word_first is_space at (literal_text lit) 32 (flat_map spaced_literal lits ++ 48 ∷ 32 ∷ after) (literal_some lit (omega arith)) (literal_free is_space spaces lit (omega arith)) refl in (
      behind.0,
      ap list_of split ∙ one_more (literal_text lit) at (signed_literal lit) (words is_space (at + suc (length (literal_text lit))) (flat_map spaced_literal lits ++ 48 ∷ 32 ∷ after))
          (map signed_literal lits) (words is_space behind.0 after) (signed_read lit here) (λ e. omega arith) behind.1,
    )

hints_listed : (at : ℕ) (hints : List ℕ) → All (λ hint. hint + 1 ≤ 4294967295) hints
    → list_of (words is_space at (flat_map spaced_hint hints ++ 48 ∷ [])) ≡ listed (map signed_hint hints) []
hints_listed at [] small = refl
hints_listed at (hint ∷ hints) small =
    let here : hint + 1 ≤ 4294967295 = All-head (λ h. h + 1 ≤ 4294967295) hint hints small in
    let behind = hints_listed (at + suc (length (decimal (hint + 1)))) hints (All-tail (λ h. h + 1 ≤ 4294967295) hint hints small) in
    let split : words is_space at (flat_map spaced_hint (hint ∷ hints) ++ 48 ∷ [])
    ≡ record { start = at; bytes = decimal (hint + 1) } ∷ words is_space (at + suc (length (decimal (hint + 1)))) (flat_map spaced_hint hints ++ 48 ∷ []) =
    ap (words is_space at) (regroup (decimal (hint + 1)) (flat_map spaced_hint hints) (48 ∷ []))
    ∙ word_first is_space at (decimal (hint + 1)) 32 (flat_map spaced_hint hints ++ 48 ∷ []) (decimal_some (hint + 1) (omega arith)) (decimal_free is_space spaces (hint + 1) (omega arith)) refl in
    ap list_of split ∙ one_more (decimal (hint + 1)) at (signed_hint hint) (words is_space (at + suc (length (decimal (hint + 1)))) (flat_map spaced_hint hints ++ 48 ∷ []))
    (map signed_hint hints) [] (signed_number (hint + 1) here) (λ e. omega arith) behind

-- ---- a line

-- fields that begin with a list begin no deletion
begins_list : (id : ℕ) (fields : List Part) (numbers : List Signed) (rest : List Part) → list_of fields ≡ listed numbers rest → behind_id id fields ≡ addition_of id (listed numbers rest)
begins_list id [] numbers rest is = absurd cc
begins_list id (field ∷ fields) numbers rest is = elim (cases_Bool (bytes_eq field.bytes (100 ∷ []))) [
  | inl e ↦
      let same : field.bytes ≡ 100 ∷ [] = (bytes_eq-Decides field.bytes (100 ∷ [])).0 e in
      let none : None ≡ listed numbers rest = ap (λ (bytes : List ℕ). list_from (field_of bytes) fields (list_of fields)) (sym same) ∙ is in
      absurd cc
  | inr e ↦ rw e (ap (addition_of id) is)
]

abbrev line_bytes : ℕ → LogStep → List ℕ
line_bytes id step = decimal id ++ 32 ∷ (flat_map spaced_literal step.lits ++ 48 ∷ 32 ∷ (flat_map spaced_hint step.hints ++ 48 ∷ []))

record AreSmall (id : ℕ) (step : LogStep) : Type 0 where
  pub id_fits : id ≤ 4294967295
  pub lits : All (λ lit. lit / 2 + 1 ≤ 4294967295) step.lits
  pub hints : All (λ hint. hint + 1 ≤ 4294967295) step.hints

hints_free : (p : ℕ → Bool) → Separates p → p 32 ≡ false → (hints : List ℕ) → All (λ hint. hint + 1 ≤ 4294967295) hints → list_any p (flat_map spaced_hint hints) ≡ false
hints_free p apart space [] small = refl
hints_free p apart space (hint ∷ hints) small =
    let le : hint + 1 ≤ 4294967295 = All-head (λ h. h + 1 ≤ 4294967295) hint hints small in
    let here = decimal_free p apart (hint + 1) (omega arith) in
    let rest = hints_free p apart space hints (All-tail (λ h. h + 1 ≤ 4294967295) hint hints small) in
    rw (list_any-append p (spaced_hint hint) (flat_map spaced_hint hints), list_any-append p (decimal (hint + 1)) (32 ∷ []), here, space) rest

in_range : (lits : List ℕ) → All (λ lit. lit / 2 + 1 ≤ 4294967295) lits → All (λ lit. lit < 2 ^ 33) lits
in_range lits small = λ k d lt. let here : get_or lits k d / 2 + 1 ≤ 4294967295 = small k d lt in omega arith

line_free : (p : ℕ → Bool) → Separates p → p 32 ≡ false → (id : ℕ) (step : LogStep) → AreSmall id step → list_any p (line_bytes id step) ≡ false
line_free p apart space id step small =
    let zero_free : p 48 ≡ false = apart.digit 48 (omega arith) (omega arith) in
    let fits = small.id_fits in
    let one = decimal_free p apart id (omega arith) in
    let two = literals_free p apart space step.lits (in_range step.lits small.lits) in
    let three = hints_free p apart space step.hints small.hints in
    let last : list_any p (flat_map spaced_hint step.hints ++ 48 ∷ []) ≡ false = rw (list_any-append p (flat_map spaced_hint step.hints) (48 ∷ []), three, zero_free) refl in
    let middle : list_any p (flat_map spaced_literal step.lits ++ 48 ∷ 32 ∷ (flat_map spaced_hint step.hints ++ 48 ∷ [])) ≡ false =
    rw (list_any-append p (flat_map spaced_literal step.lits) (48 ∷ 32 ∷ (flat_map spaced_hint step.hints ++ 48 ∷ [])), two, zero_free, space) last in
    rw (list_any-append p (decimal id) (32 ∷ (flat_map spaced_literal step.lits ++ 48 ∷ 32 ∷ (flat_map spaced_hint step.hints ++ 48 ∷ []))), one, space) middle

letters : Separates (λ b. b == 99)
letters = record { digit = λ b low high. apart b 99 (λ e. omega arith); hyphen = refl }

line_is : (bytes : List ℕ) → 0 < length bytes → list_any (λ b. b == 99) bytes ≡ false → has_outer_space bytes ≡ false → line_of bytes ≡ fields_say (words is_space 0 bytes)
line_is [] some free outer = absurd (omega arith)
line_is (b ∷ bytes) some free outer =
    let here : (b == 99) ≡ false = or_left (b == 99) (list_any (λ x. x == 99) bytes) free in
    rw (here, outer) refl

first_digit : (ds xs : List ℕ) → 0 < length ds → AllDigits 10 ds → (get_or (ds ++ xs) 0 0 == 32) ≡ false
first_digit [] xs some all = absurd (omega arith)
first_digit (d ∷ ds) xs some all = let range = digit_from_value d all.0 in let low = range.0 in apart d 32 (λ e. omega arith)

last_at : (xs : List ℕ) (b : ℕ) → get_or (xs ++ b ∷ []) (length xs) 0 ≡ b
last_at [] b = refl
last_at (x ∷ xs) b = last_at xs b

ends_in : (xs : List ℕ) (b : ℕ) → get_or (xs ++ b ∷ []) (length (xs ++ b ∷ []) - 1) 0 ≡ b
ends_in xs b =
    let size : length (xs ++ b ∷ []) ≡ length xs + length (b ∷ []) = length-append xs (b ∷ []) in
    let place : length (xs ++ b ∷ []) - 1 ≡ length xs = omega arith in
    ap (λ n. get_or (xs ++ b ∷ []) n 0) place ∙ last_at xs b

no_outer : (id : ℕ) (step : LogStep) → AreSmall id step → has_outer_space (line_bytes id step) ≡ false
no_outer id step small =
    let fits = small.id_fits in
    let is = decimal_is_IsNumeral id (omega arith) in
    let first = first_digit (decimal id) (32 ∷ (flat_map spaced_literal step.lits ++ 48 ∷ 32 ∷ (flat_map spaced_hint step.hints ++ 48 ∷ []))) is.0.0 is.0.1 in
    let shape : line_bytes id step ≡ (decimal id ++ 32 ∷ (flat_map spaced_literal step.lits ++ 48 ∷ 32 ∷ flat_map spaced_hint step.hints)) ++ 48 ∷ [] = sym (simp append_assoc) in
    let last : (get_or (line_bytes id step) (length (line_bytes id step) - 1) 0 == 32) ≡ false =
    ap (λ (bytes : List ℕ). get_or bytes (length bytes - 1) 0 == 32) shape
    ∙ ap (λ b. b == 32) (ends_in (decimal id ++ 32 ∷ (flat_map spaced_literal step.lits ++ 48 ∷ 32 ∷ flat_map spaced_hint step.hints)) 48) in
    ap₂ (λ (a b : Bool). a || b) first last

some_line : (id : ℕ) (step : LogStep) → id ≤ 4294967295 → 0 < length (line_bytes id step)
some_line id step fits =
    let more = decimal_some id (omega arith) in
    let size = length-append (decimal id) (32 ∷ (flat_map spaced_literal step.lits ++ 48 ∷ 32 ∷ (flat_map spaced_hint step.hints ++ 48 ∷ []))) in
    omega arith

line_read : (id : ℕ) (step : LogStep) → AreSmall id step → line_of (line_bytes id step) ≡ addition id (map signed_literal step.lits) (map signed_hint step.hints)
line_read id step small =
    let fits = small.id_fits in
    let list = lits_listed (0 + suc (length (decimal id))) step.lits (flat_map spaced_hint step.hints ++ 48 ∷ []) small.lits in
    let split : words is_space 0 (line_bytes id step)
    ≡ record { start = 0; bytes = decimal id } ∷ words is_space (0 + suc (length (decimal id))) (flat_map spaced_literal step.lits ++ 48 ∷ 32 ∷ (flat_map spaced_hint step.hints ++ 48 ∷ [])) =
    word_first is_space 0 (decimal id) 32 (flat_map spaced_literal step.lits ++ 48 ∷ 32 ∷ (flat_map spaced_hint step.hints ++ 48 ∷ [])) (decimal_some id (omega arith)) (decimal_free is_space spaces id (omega arith)) refl in
    line_is (line_bytes id step) (some_line id step fits) (line_free (λ b. b == 99) letters refl id step small) (no_outer id step small)
    ∙ ap fields_say split
    ∙ ap (λ (n : Option ℕ). with_id n (words is_space (0 + suc (length (decimal id))) (flat_map spaced_literal step.lits ++ 48 ∷ 32 ∷ (flat_map spaced_hint step.hints ++ 48 ∷ [])))) (number_read 4294967295 id fits (omega arith))
    ∙ begins_list id (words is_space (0 + suc (length (decimal id))) (flat_map spaced_literal step.lits ++ 48 ∷ 32 ∷ (flat_map spaced_hint step.hints ++ 48 ∷ []))) (map signed_literal step.lits)
    (words is_space list.0 (flat_map spaced_hint step.hints ++ 48 ∷ [])) list.1
    ∙ ap (with_hints id (map signed_literal step.lits)) (hints_listed list.0 step.hints small.hints)

-- ---- an addition

clause_back : (lits : Clause) → clause_of (map signed_literal lits) ≡ lits
clause_back [] = refl
clause_back (lit ∷ lits) = ap₂ (λ (l : ℕ) (ls : List ℕ). l ∷ ls) (literal_back lit) (clause_back lits)

not_below : (a b : ℕ) → b ≤ a → nat_lt a b ≡ false
not_below a b le = elim (leb_tells (suc a) b) [ inl t ↦ let more = t.1 in absurd (omega arith) | inr t ↦ t.0 ]

no_range_fault : (vars : ℕ) (lits : Clause) → IsOver vars lits → range_fault vars (map signed_literal lits) ≡ None
no_range_fault vars [] over = refl
no_range_fault vars (lit ∷ lits) over =
    let lt : lit < 2 * vars = All-head (λ l. l < 2 * vars) lit lits over in
    rw (not_below vars (lit / 2 + 1) (omega arith)) (no_range_fault vars lits (All-tail (λ l. l < 2 * vars) lit lits over))

on_reading : (id : ℕ) (falses : ℕ → Bool) (rest : (ℕ → Bool) → Bool) (fault : (ℕ → Bool) → Option LratWhy) → ((f : ℕ → Bool) → rest f ≡ true → fault f ≡ None) → (said : HintReading)
    → after_hint falses rest said ≡ true → at_reading id falses fault said ≡ None
on_reading id falses rest fault onward Conflict is = refl
on_reading id falses rest fault onward Passed is = onward falses is
on_reading id falses rest fault onward (UnitLit lit) is = onward _ is
on_reading id falses rest fault onward NotUnit is = absurd (let e : false ≡ true = is in cc)

on_clause : (id : ℕ) (falses : ℕ → Bool) (rest : (ℕ → Bool) → Bool) (fault : (ℕ → Bool) → Option LratWhy) → ((f : ℕ → Bool) → rest f ≡ true → fault f ≡ None) → (clause : Option Clause)
    → after_clause falses rest clause ≡ true → at_clause id falses fault clause ≡ None
on_clause id falses rest fault onward None is = absurd (let e : false ≡ true = is in cc)
on_clause id falses rest fault onward (Some clause) is = on_reading id falses rest fault onward (reading falses clause) is

no_hints_fault : (clauses : List Clause) (falses : ℕ → Bool) (hints : List ℕ) → ends_in_conflict clauses falses hints ≡ true → hints_fault (given_at clauses) falses (map signed_hint hints) ≡ None
no_hints_fault clauses falses [] is = absurd (let e : false ≡ true = is in cc)
no_hints_fault clauses falses (hint ∷ hints) is =
    let found : given_at clauses (hint + 1) ≡ slice_get clauses hint = ap (given_at clauses) (add-one hint) in
    ap (at_clause (hint + 1) falses (λ next. hints_fault (given_at clauses) next (map signed_hint hints))) found
    ∙ on_clause (hint + 1) falses (λ next. ends_in_conflict clauses next hints) (λ next. hints_fault (given_at clauses) next (map signed_hint hints))
    (λ next e. no_hints_fault clauses next hints e) (slice_get clauses hint) is

abbrev known_from : List Clause → Bool → Known
known_from clauses refuted = record { found = given_at clauses; last = length clauses; refuted = refuted }

parts_of_hold : (vars : ℕ) (clauses : List Clause) (lits : Clause) (hints : List ℕ) → StepHolds vars clauses lits hints
    → IsOver vars lits × (is_tautology lits ≡ false) × (ends_in_conflict clauses (is_among lits) hints ≡ true)
unfolding StepHolds
parts_of_hold vars clauses lits hints holds = holds

no_addition_fault : (vars : ℕ) (clauses : List Clause) (refuted : Bool) (step : LogStep) → StepHolds vars clauses step.lits step.hints
    → addition_fault vars (known_from clauses refuted) (length clauses + 1) (map signed_literal step.lits) (map signed_hint step.hints) ≡ None
no_addition_fault vars clauses refuted step holds =
    let parts = parts_of_hold vars clauses step.lits step.hints holds in
    let back = clause_back step.lits in
    is_judged vars (known_from clauses refuted) (length clauses + 1) (map signed_literal step.lits) (map signed_hint step.hints) (omega arith) (no_range_fault vars step.lits parts.0) (ap is_tautology back ∙ parts.1)
    ∙ ap (λ (c : Clause). hints_fault (given_at clauses) (is_among c) (map signed_hint step.hints)) back
    ∙ no_hints_fault clauses (is_among step.lits) step.hints parts.2

more_found : (clauses : List Clause) (lits : Clause) → with_clause (given_at clauses) (length clauses + 1) lits ≡ given_at (clauses ++ lits ∷ [])
more_found clauses lits =
    let size : length (clauses ++ lits ∷ []) ≡ length clauses + length (lits ∷ []) = length-append clauses (lits ∷ []) in
    ap (λ (c : List Clause). with_clause (given_at c) (length clauses + 1) lits) (sym (front_of clauses (lits ∷ [])))
    ∙ given_more (clauses ++ lits ∷ []) (length clauses) lits (omega arith) (sym (there clauses lits))
    ∙ ap given_at (all_of (clauses ++ lits ∷ []) (length clauses + 1) (omega arith))
  where
    front_of : (xs ys : List Clause) → take (length xs) (xs ++ ys) ≡ xs
    front_of [] ys = refl
    front_of (x ∷ xs) ys = ap (λ (l : List Clause). x ∷ l) (front_of xs ys)

    there : (xs : List Clause) (x : Clause) → get_or (xs ++ x ∷ []) (length xs) x ≡ x
    there [] x = refl
    there (y ∷ xs) x = there xs x

    all_of : (xs : List Clause) (n : ℕ) → length xs ≤ n → take n xs ≡ xs
    all_of [] zero le = refl
    all_of [] (suc n) le = refl
    all_of (x ∷ xs) zero le = absurd (omega arith)
    all_of (x ∷ xs) (suc n) le = ap (λ (l : List Clause). x ∷ l) (all_of xs n (omega arith))

one_added : (clauses : List Clause) (refuted : Bool) (lits : Clause) → added (known_from clauses refuted) (length clauses + 1) lits ≡ known_from (clauses ++ lits ∷ []) (refuted || is_empty lits)
one_added clauses refuted lits =
    let size : length clauses + 1 ≡ length (clauses ++ lits ∷ []) = sym (length-append clauses (lits ∷ [])) in
    ap₂ (λ (f : Found) (n : ℕ). let k : Known = record { found = f; last = n; refuted = refuted || is_empty lits } in k) (more_found clauses lits) size

step_taken : (vars : ℕ) (clauses : List Clause) (refuted : Bool) (step : LogStep) → StepHolds vars clauses step.lits step.hints
    → after_line vars (known_from clauses refuted) (addition (length clauses + 1) (map signed_literal step.lits) (map signed_hint step.hints)) ≡ Ok (known_from (clauses ++ step.lits ∷ []) (refuted || is_empty step.lits))
step_taken vars clauses refuted step holds =
    ap (λ (f : Option LratWhy). unless_why f (added (known_from clauses refuted) (length clauses + 1) (clause_of (map signed_literal step.lits)))) (no_addition_fault vars clauses refuted step holds)
    ∙ ap (λ (c : Clause). let r : Result Known LratWhy = Ok (added (known_from clauses refuted) (length clauses + 1) c) in r) (clause_back step.lits)
    ∙ ap (λ (k : Known). let r : Result Known LratWhy = Ok k in r) (one_added clauses refuted step.lits)

-- ---- the text

-- an empty clause was added, or the last of the steps adds it
abbrev Refutes : Bool → List LogStep → Type 0
Refutes refuted steps = (refuted ≡ true) ⊎ HasEnded steps

or_true : (b : Bool) → (b || true) ≡ true
or_true true = refl
or_true false = refl

still : (refuted : Bool) (step : LogStep) (steps : List LogStep) → Refutes refuted (step ∷ steps) → Refutes (refuted || is_empty step.lits) steps
still refuted step steps (inl e) = inl (rw e refl)
still refuted step [] (inr e) = inl (rw (let none : step.lits ≡ [] = e in none) (or_true refuted))
still refuted step (next ∷ steps) (inr e) =
    let place : length (step ∷ next ∷ steps) - 1 ≡ suc (length (next ∷ steps) - 1) = omega arith in
    inr (subst (λ k. IsSomeAnd (slice_get (step ∷ next ∷ steps) k) (λ (s : LogStep). s.lits ≡ [])) place e)

small_step : (vars : ℕ) (clauses : List Clause) (step : LogStep) → vars < 2 ^ 32 → length clauses + 1 < 2 ^ 32 → IsOver vars step.lits → All (λ hint. hint < 2 ^ 32 - 1) step.hints → AreSmall (length clauses + 1) step
small_step vars clauses step fits few over printed = record {
  id_fits = omega arith;
  lits = λ k d lt. let here : get_or step.lits k d < 2 * vars = over k d lt in omega arith;
  hints = λ k d lt. let here : get_or step.hints k d < 2 ^ 32 - 1 = printed k d lt in omega arith;
}

steps_accepted : (vars : ℕ) (clauses : List Clause) (refuted : Bool) (count at : ℕ) (steps : List LogStep) → vars < 2 ^ 32 → length clauses + length steps < 2 ^ 32 → StepsHold vars clauses steps
    → Refutes refuted steps → lines_fault vars (known_from clauses refuted) count (lines at (step_lines (length clauses + 1) steps)) ≡ None
steps_accepted vars clauses refuted count at [] fits few holds (inl e) = rw e refl
steps_accepted vars clauses refuted count at [] fits few holds (inr e) = absurd e
steps_accepted vars clauses refuted count at (step ∷ steps) fits few holds ended =
    let over = (parts_of_hold vars clauses step.lits step.hints holds.0.holds).0 in
    let small = small_step vars clauses step fits (omega arith) over holds.0.printed in
    let shape : step_lines (length clauses + 1) (step ∷ steps) ≡ line_bytes (length clauses + 1) step ++ 10 ∷ step_lines (length clauses + 1 + 1) steps = simp append_assoc in
    let split : lines at (step_lines (length clauses + 1) (step ∷ steps))
    ≡ record { start = at; bytes = line_bytes (length clauses + 1) step } ∷ lines (at + suc (length (line_bytes (length clauses + 1) step))) (step_lines (length clauses + 1 + 1) steps) =
    ap (lines at) shape
    ∙ part_first is_newline at (line_bytes (length clauses + 1) step) 10 (step_lines (length clauses + 1 + 1) steps) (line_free is_newline newlines refl (length clauses + 1) step small) refl in
    let taken : after_line vars (known_from clauses refuted) (line_of (line_bytes (length clauses + 1) step)) ≡ Ok (known_from (clauses ++ step.lits ∷ []) (refuted || is_empty step.lits)) =
    ap (after_line vars (known_from clauses refuted)) (line_read (length clauses + 1) step small) ∙ step_taken vars clauses refuted step holds.0.holds in
    let size : length (clauses ++ step.lits ∷ []) ≡ length clauses + 1 = length-append clauses (step.lits ∷ []) in
    ap (lines_fault vars (known_from clauses refuted) count) split
    ∙ ap (on_from (count + 1) (λ next. lines_fault vars next (count + 1) (lines (at + suc (length (line_bytes (length clauses + 1) step))) (step_lines (length clauses + 1 + 1) steps)))) taken
    ∙ ap (λ n. lines_fault vars (known_from (clauses ++ step.lits ∷ []) (refuted || is_empty step.lits)) (count + 1) (lines (at + suc (length (line_bytes (length clauses + 1) step))) (step_lines (n + 1) steps))) (sym size)
    ∙ steps_accepted vars (clauses ++ step.lits ∷ []) (refuted || is_empty step.lits) (count + 1) (at + suc (length (line_bytes (length clauses + 1) step))) steps fits (omega arith) holds.1 (still refuted step steps ended)

pub log_accepted : (cnf : Cnf) (log : Log) → StandsFor log cnf → log.vars < 2 ^ 32 → length log.given + length log.steps < 2 ^ 32 → StepsHold log.vars log.given log.steps → IsAccepted cnf log
log_accepted cnf log stands fits few holds ended =
    ap₂ (λ (v : ℕ) (g : List Clause). lines_fault v (known_from g false) 0 (lines 0 (lrat_of log))) (sym stands.vars) (sym stands.given)
    ∙ steps_accepted log.vars log.given false 0 0 log.steps fits few holds (inr ended)
