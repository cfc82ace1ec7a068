-- What was read of a text whose lines all end with a newline is a tail.
use Rattle.std.proofs.Common.{◌≡◌, ◌∙◌, ◌<◌, ◌≤◌, ◌+◌, ◌*◌, ◌/◌, ◌%◌, ℕ, Bool, true, false, zero, suc, refl, sym, ap, subst, arith, List, [], ◌∷◌, ◌++◌, length, append_assoc, append-nil, length-append, inl, inr, Option, Some, None, Result, Ok, Err}
use Rattle.std.specs.Prelude.{◌==◌, ◌&&◌, ◌⊎◌}
use Rattle.std.specs.List.{list_any}
use Rattle.std.proofs.lemmas.Bool.{cases_Bool, eqb-true}
use Rattle.std.proofs.lemmas.Bool.Decides.{leb_tells, eqb_tells}
use Rattle.rsfq_ids.specs.Formula.{Clause}
use Rattle.dimacs_text.specs.Parts.{lines, is_blank, is_newline, is_empty}
use Rattle.dimacs_text.specs.Number.{signed_of, literal_of}
use Rattle.dimacs_text.specs.Reading.{Said, after_number, after_word, unless_fault, once, is_comment}
use Rattle.dimacs_text.specs.Spelled.{WritesNumber}
use Rattle.dimacs_text.specs.declared.number.Signed.{Signed}
use Rattle.dimacs_text.specs.declared.fault.TextFault.{TextFault}
use Rattle.dimacs_text.proofs.Cases.{no_ok, same_ok, and_none}
use Rattle.dimacs_text.proofs.Fields.{number_written, literal_is}
use Rattle.dimacs_text.proofs.Middle.{middle, middle_blank, middle_word, middle_line}
use Rattle.dimacs_text.proofs.Tails.{Tail, nothing, blank_first, comment_first, literal_first, end_first, said, note_line}

-- ---- texts that end with a newline

abbrev pub ends_well : List ℕ → Bool
ends_well [] = true
ends_well (b ∷ []) = b == 10
ends_well (b ∷ c ∷ bs) = ends_well (c ∷ bs)

pub ends_later : (xs : List ℕ) (y : ℕ) (ys : List ℕ) → ends_well (xs ++ y ∷ ys) ≡ true → ends_well (y ∷ ys) ≡ true
ends_later [] y ys well = well
ends_later (x ∷ []) y ys well = well
ends_later (x ∷ z ∷ xs) y ys well = ends_later (z ∷ xs) y ys well

rest_ends : (b : ℕ) (bs : List ℕ) → ends_well (b ∷ bs) ≡ true → ends_well bs ≡ true
rest_ends b [] well = refl
rest_ends b (c ∷ bs) well = well

pub closed_ends : (text : List ℕ) → ends_well (text ++ 10 ∷ []) ≡ true
closed_ends [] = refl
closed_ends (b ∷ []) = refl
closed_ends (b ∷ c ∷ bs) = closed_ends (c ∷ bs)

-- bytes up to the first that ends a part
pub record IsCut (p : ℕ → Bool) (bytes : List ℕ) : Type 0 where
  pub first : List ℕ
  pub end : ℕ
  pub rest : List ℕ
  pub is : bytes ≡ first ++ end ∷ rest
  pub free : list_any p first ≡ false
  pub ends : p end ≡ true
  pub shorter : length rest < length bytes

longer_cut : (p : ℕ → Bool) (b : ℕ) (bs : List ℕ) → p b ≡ false → IsCut p bs → IsCut p (b ∷ bs)
longer_cut p b bs e cut =
    let shorter = cut.shorter in
    record { first = b ∷ cut.first; end = cut.end; rest = cut.rest; is = ap (λ (l : List ℕ). b ∷ l) cut.is; free = rw e cut.free; ends = cut.ends; shorter = omega arith }

pub cut_at : (p : ℕ → Bool) (b : ℕ) (bs : List ℕ) → p 10 ≡ true → ends_well (b ∷ bs) ≡ true → IsCut p (b ∷ bs)
cut_at p b [] newline well = record { first = []; end = b; rest = []; is = refl; free = refl; ends = ap p (eqb-true b 10 well) ∙ newline; shorter = omega arith }
cut_at p b (c ∷ bs) newline well = elim (cases_Bool (p b)) [
  | inl e ↦ record { first = []; end = b; rest = c ∷ bs; is = refl; free = refl; ends = e; shorter = omega arith }
  | inr e ↦ longer_cut p b (c ∷ bs) e (cut_at p c bs newline well)
]

-- ---- words

-- a word closes the clause, or it is a literal
pub record Ends (closed : List Clause) (pending : Clause) (field : List ℕ) (to : Said) : Type 0 where
  pub negative : Bool
  pub writes : WritesNumber field negative 0
  pub to_is : to ≡ said (closed ++ once pending ∷ []) []

pub record Grows (vars : ℕ) (closed : List Clause) (pending : Clause) (field : List ℕ) (to : Said) : Type 0 where
  pub lit : ℕ
  pub writes : WritesNumber field (lit % 2 == 1) (lit / 2 + 1)
  pub within : lit < 2 * vars
  pub to_is : to ≡ said closed (pending ++ lit ∷ [])

literal_written : (field : List ℕ) (number : Signed) → (number.size ≡ 0 → ⊥) → WritesNumber field number.negative number.size → WritesNumber field (literal_of number % 2 == 1) (literal_of number / 2 + 1)
literal_written field number some writes =
    let is = literal_is number some in
    subst (λ (n : ℕ). WritesNumber field (literal_of number % 2 == 1) n) (sym is.size) (subst (λ (s : Bool). WritesNumber field s number.size) (sym is.sign) writes)

number_says : (vars : ℕ) (closed : List Clause) (pending : Clause) (field : List ℕ) (at : ℕ) (o : Option Signed) (to : Said) → signed_of field ≡ o
    → after_number vars (said closed pending) at o ≡ Ok to → Ends closed pending field to ⊎ Grows vars closed pending field to
number_says vars closed pending field at None to read is = absurd (no_ok _ _ is)
number_says vars closed pending field at (Some number) to read is = elim (eqb_tells number.size 0) [
  | inl t ↦
      let same = same_ok _ _ (rw t.0 at is) in
      let writes = number_written field number read in
      inl (record { negative = number.negative; writes = subst (λ (n : ℕ). WritesNumber field number.negative n) t.1 writes; to_is = sym same })
  | inr t ↦ elim (leb_tells (suc vars) number.size) [
    | inl u ↦ absurd (no_ok _ _ (rw (t.0, u.0) at is))
    | inr u ↦
        let same = same_ok _ _ (rw (t.0, u.0) at is) in
        let some = t.1 in
        let within = u.1 in
        let size = (literal_is number some).size in
        inr (record { lit = literal_of number; writes = literal_written field number some (number_written field number read); within = omega arith; to_is = sym same })
  ]
]

word_says : (vars : ℕ) (closed : List Clause) (pending : Clause) (field : List ℕ) (at : ℕ) (to : Said)
    → after_word vars (said closed pending) (record { start = at; bytes = field }) ≡ Ok to → Ends closed pending field to ⊎ Grows vars closed pending field to
unfolding after_word
word_says vars closed pending field at to is = number_says vars closed pending field at (signed_of field) to refl is

-- ---- a tail is found

pub record Found (vars : ℕ) (closed : List Clause) (pending : Clause) (bytes : List ℕ) (to : Said) : Type 0 where
  pub clauses : List Clause
  pub closed_is : to.closed ≡ closed ++ clauses
  pub tail : Tail vars pending bytes clauses

abbrev pub Finds : ℕ → ℕ → Type 0
Finds vars n = (bytes : List ℕ) (at : ℕ) (closed : List Clause) (pending : Clause) (to : Said) → length bytes ≤ n → ends_well bytes ≡ true
    → middle vars (said closed pending) (lines at bytes) ≡ Ok to → to.pending ≡ [] → Found vars closed pending bytes to

with_blank : (vars : ℕ) (closed : List Clause) (pending : Clause) (b : ℕ) (bytes : List ℕ) (to : Said) → is_blank b ≡ true → Found vars closed pending bytes to → Found vars closed pending (b ∷ bytes) to
with_blank vars closed pending b bytes to is found = record { clauses = found.clauses; closed_is = found.closed_is; tail = blank_first b is found.tail }

with_note : (vars : ℕ) (closed : List Clause) (note bytes : List ℕ) (to : Said) → list_any is_newline note ≡ false → Found vars closed [] (10 ∷ bytes) to
    → Found vars closed [] (10 ∷ 99 ∷ (note ++ 10 ∷ bytes)) to
with_note vars closed note bytes to free found = record { clauses = found.clauses; closed_is = found.closed_is; tail = comment_first note free found.tail }

note_found : (vars n : ℕ) → Finds vars n → (bytes : List ℕ) (at : ℕ) (closed : List Clause) (to : Said) → length (99 ∷ bytes) ≤ n → ends_well (99 ∷ bytes) ≡ true
    → middle vars (said closed []) (lines at (10 ∷ 99 ∷ bytes)) ≡ Ok to → to.pending ≡ [] → Found vars closed [] (10 ∷ 99 ∷ bytes) to
note_found vars n finds [] at closed to few well is over = absurd cc
note_found vars n finds (b ∷ bs) at closed to few well is over =
    let cut = cut_at is_newline b bs refl well in
    let shorter = cut.shorter in
    let newline : cut.end ≡ 10 = eqb-true cut.end 10 cut.ends in
    let shape : b ∷ bs ≡ cut.first ++ 10 ∷ cut.rest = cut.is ∙ ap (λ (x : ℕ). cut.first ++ x ∷ cut.rest) newline in
    let tail_ends : ends_well (10 ∷ cut.rest) ≡ true = ends_later (99 ∷ cut.first) 10 cut.rest (ap (λ (l : List ℕ). ends_well (99 ∷ l)) (sym shape) ∙ well) in
    let read : middle vars (said closed []) (lines (at + suc (suc (length cut.first))) (10 ∷ cut.rest)) ≡ Ok to =
    sym (note_line vars closed at cut.first cut.rest cut.free) ∙ ap (λ (l : List ℕ). middle vars (said closed []) (lines at (10 ∷ 99 ∷ l))) (sym shape) ∙ is in
    let found = finds (10 ∷ cut.rest) (at + suc (suc (length cut.first))) closed [] to (omega arith) tail_ends read over in
    subst (λ (l : List ℕ). Found vars closed [] (10 ∷ 99 ∷ l) to) (sym shape) (with_note vars closed cut.first cut.rest to cut.free found)

line_found : (vars n : ℕ) → Finds vars n → (bytes : List ℕ) (at : ℕ) (closed : List Clause) (pending : Clause) (to : Said) → (is_empty pending && is_comment bytes) ≡ false → length bytes ≤ n → ends_well bytes ≡ true
    → middle vars (said closed pending) (lines at (10 ∷ bytes)) ≡ Ok to → to.pending ≡ [] → Found vars closed pending (10 ∷ bytes) to
line_found vars n finds bytes at closed pending to other few well is over =
    with_blank vars closed pending 10 bytes to refl
    (finds bytes (at + 1) closed pending to few well (sym (middle_line vars (said closed pending) (at + 1) bytes other) ∙ is) over)

newline_found : (vars n : ℕ) → Finds vars n → (bytes : List ℕ) (at : ℕ) (closed : List Clause) (pending : Clause) (to : Said) → length bytes ≤ n → ends_well bytes ≡ true
    → middle vars (said closed pending) (lines at (10 ∷ bytes)) ≡ Ok to → to.pending ≡ [] → Found vars closed pending (10 ∷ bytes) to
newline_found vars n finds [] at closed pending to few well is over = line_found vars n finds [] at closed pending to (and_none (is_empty pending) false refl) few well is over
newline_found vars n finds (b ∷ bytes) at closed (lit ∷ lits) to few well is over = line_found vars n finds (b ∷ bytes) at closed (lit ∷ lits) to refl few well is over
newline_found vars n finds (b ∷ bytes) at closed [] to few well is over = elim (eqb_tells b 99) [
  | inl t ↦
      let c = t.1 in
      subst (λ (x : ℕ). Found vars closed [] (10 ∷ x ∷ bytes) to) (sym c)
      (note_found vars n finds bytes at closed to few (subst (λ (x : ℕ). ends_well (x ∷ bytes) ≡ true) c well) (subst (λ (x : ℕ). middle vars (said closed []) (lines at (10 ∷ x ∷ bytes)) ≡ Ok to) c is) over)
  | inr t ↦ line_found vars n finds (b ∷ bytes) at closed [] to t.0 few well is over
]

-- one more piece was read, and then the rest
record Between (from : Said → Result Said TextFault) (r : Result Said TextFault) (to : Said) : Type 0 where
  pub mid : Said
  pub first : r ≡ Ok mid
  pub then : from mid ≡ Ok to

between : (from : Said → Result Said TextFault) (r : Result Said TextFault) (to : Said) → unless_fault from r ≡ Ok to → Between from r to
between from (Ok s) to is = record { mid = s; first = refl; then = is }
between from (Err f) to is = absurd (no_ok _ _ is)

end_found : (vars : ℕ) (closed : List Clause) (pending : Clause) (field : List ℕ) (negative : Bool) (b : ℕ) (bytes : List ℕ) (to : Said) → WritesNumber field negative 0 → is_blank b ≡ true
    → Found vars (closed ++ once pending ∷ []) [] (b ∷ bytes) to → Found vars closed pending (field ++ b ∷ bytes) to
end_found vars closed pending field negative b bytes to writes is found =
    record { clauses = once pending ∷ found.clauses; closed_is = found.closed_is ∙ append_assoc closed (once pending ∷ []) found.clauses; tail = end_first field negative b writes is found.tail }

literal_found : (vars : ℕ) (closed : List Clause) (pending : Clause) (field : List ℕ) (lit b : ℕ) (bytes : List ℕ) (to : Said) → WritesNumber field (lit % 2 == 1) (lit / 2 + 1) → lit < 2 * vars → is_blank b ≡ true
    → Found vars closed (pending ++ lit ∷ []) (b ∷ bytes) to → Found vars closed pending (field ++ b ∷ bytes) to
literal_found vars closed pending field lit b bytes to writes within is found =
    record { clauses = found.clauses; closed_is = found.closed_is; tail = literal_first field lit b writes within is found.tail }

word_found : (vars n : ℕ) → Finds vars n → (field : List ℕ) (b : ℕ) (bytes : List ℕ) (at : ℕ) (closed : List Clause) (pending : Clause) (to : Said) → 0 < length field → list_any is_blank field ≡ false → is_blank b ≡ true
    → length (b ∷ bytes) ≤ n → ends_well (b ∷ bytes) ≡ true → middle vars (said closed pending) (lines at (field ++ b ∷ bytes)) ≡ Ok to → to.pending ≡ [] → Found vars closed pending (field ++ b ∷ bytes) to
word_found vars n finds field b bytes at closed pending to some free blank few well is over =
    let steps = between (λ (next : Said). middle vars next (lines (at + length field) (b ∷ bytes))) (after_word vars (said closed pending) (record { start = at; bytes = field })) to
    (sym (middle_word vars (said closed pending) at field b bytes some free blank) ∙ is) in
    elim (word_says vars closed pending field at steps.mid steps.first) [
      | inl e ↦ end_found vars closed pending field e.negative b bytes to e.writes blank
          (finds (b ∷ bytes) (at + length field) (closed ++ once pending ∷ []) [] to few well (subst (λ (s : Said). middle vars s (lines (at + length field) (b ∷ bytes)) ≡ Ok to) e.to_is steps.then) over)
      | inr g ↦ literal_found vars closed pending field g.lit b bytes to g.writes g.within blank
          (finds (b ∷ bytes) (at + length field) closed (pending ++ g.lit ∷ []) to few well (subst (λ (s : Said). middle vars s (lines (at + length field) (b ∷ bytes)) ≡ Ok to) g.to_is steps.then) over)
    ]

some_first : (b : ℕ) (bs first : List ℕ) (end : ℕ) (rest : List ℕ) → b ∷ bs ≡ first ++ end ∷ rest → is_blank b ≡ false → is_blank end ≡ true → 0 < length first
some_first b bs [] end rest is other blank =
    let same : b ≡ end = cc in
    let no : false ≡ true = sym other ∙ ap is_blank same ∙ blank in absurd cc
some_first b bs (x ∷ first) end rest is other blank = omega arith

nothing_found : (vars : ℕ) (closed : List Clause) (pending : Clause) (to : Said) → said closed pending ≡ to → to.pending ≡ [] → Found vars closed pending [] to
nothing_found vars closed pending to same over =
    let none : pending ≡ [] = ap (λ (s : Said). s.pending) same ∙ over in
    record { clauses = []; closed_is = ap (λ (s : Said). s.closed) (sym same) ∙ sym (append-nil closed); tail = subst (λ (p : Clause). Tail vars p [] []) (sym none) nothing }

pub found : (vars n : ℕ) → Finds vars n
found vars n [] at closed pending to few well is over = nothing_found vars closed pending to (same_ok _ _ is) over
found vars zero (b ∷ bytes) at closed pending to few well is over = absurd (omega arith)
found vars (suc n) (b ∷ bytes) at closed pending to few well is over = elim (cases_Bool (is_blank b)) [
  | inl e ↦ elim (eqb_tells b 10) [
    | inl t ↦
        let newline = t.1 in
        subst (λ (x : ℕ). Found vars closed pending (x ∷ bytes) to) (sym newline)
        (newline_found vars n (found vars n) bytes at closed pending to (omega arith) (rest_ends b bytes well) (subst (λ (x : ℕ). middle vars (said closed pending) (lines at (x ∷ bytes)) ≡ Ok to) newline is) over)
    | inr t ↦
        with_blank vars closed pending b bytes to e
        (found vars n bytes (at + 1) closed pending to (omega arith) (rest_ends b bytes well) (sym (middle_blank vars (said closed pending) at b bytes e t.0) ∙ is) over)
  ]
  | inr e ↦
      let cut = cut_at is_blank b bytes refl well in
      let some = some_first b bytes cut.first cut.end cut.rest cut.is e cut.ends in
      let size : length (b ∷ bytes) ≡ length cut.first + length (cut.end ∷ cut.rest) = ap length cut.is ∙ length-append cut.first (cut.end ∷ cut.rest) in
      subst (λ (l : List ℕ). Found vars closed pending l to) (sym cut.is)
      (word_found vars n (found vars n) cut.first cut.end cut.rest at closed pending to some cut.free cut.ends (omega arith)
      (ends_later cut.first cut.end cut.rest (subst (λ (l : List ℕ). ends_well l ≡ true) cut.is well))
      (subst (λ (l : List ℕ). middle vars (said closed pending) (lines at l) ≡ Ok to) cut.is is) over)
]
