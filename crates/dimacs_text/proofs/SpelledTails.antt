-- Clauses that are spelled, one behind the other, are what of a text is still to come behind its head.
use Rattle.std.proofs.Common.{◌≡◌, ◌∙◌, ℕ, Bool, true, false, refl, sym, ap, subst, arith, List, [], ◌∷◌, ◌++◌, length, append_assoc, append-nil, inl, inr}
use Rattle.std.specs.Prelude.{◌==◌, ◌||◌, not, ◌⊎◌}
use Rattle.std.specs.List.{AllZip, list_any, list_all, concat}
use Rattle.std.proofs.lemmas.Bool.Decides.{eqb_tells}
use Rattle.rsfq_ids.specs.Formula.{Clause}
use Rattle.dimacs_text.specs.Parts.{is_blank, is_newline}
use Rattle.dimacs_text.specs.Reading.{once}
use Rattle.dimacs_text.specs.Spelled.{in_lines, is_comment_line, SpellsLiteral, begins_blank, is_between, IsGap, SpellsClause}
use Rattle.dimacs_text.proofs.Cases.{and_true, not_true}
use Rattle.dimacs_text.proofs.EachOnce.{once_is}
use Rattle.dimacs_text.proofs.Tails.{Tail, nothing, blank_first, comment_first, literal_first, end_first}

-- ---- gaps

-- a comment's line is `c` and a note
pub record IsNote (line : List ℕ) : Type 0 where
  pub note : List ℕ
  pub is : line ≡ 99 ∷ note
  pub free : list_any is_newline note ≡ false

pub as_note : (line : List ℕ) → is_comment_line line ≡ true → IsNote line
as_note [] e = absurd cc
as_note (b ∷ bs) e =
    let both = and_true (not (list_any is_newline (b ∷ bs))) (b == 99) e in
    elim (eqb_tells b 99) [
      | inl t ↦
          let c = t.1 in
          let free = not_true (list_any is_newline (b ∷ bs)) both.0 in
          record { note = bs; is = ap (λ (x : ℕ). x ∷ bs) c; free = subst (λ (x : ℕ). list_any is_newline (x ∷ bs) ≡ false) c free }
      | inr t ↦ let no : false ≡ true = sym t.0 ∙ both.1 in absurd cc
    ]

blanks_first : {vars : ℕ} {pending : Clause} {xs : List ℕ} {clauses : List Clause} (bs : List ℕ) → list_all is_blank bs ≡ true → Tail vars pending xs clauses → Tail vars pending (bs ++ xs) clauses
blanks_first [] all tail = tail
blanks_first (b ∷ bs) all tail =
    let both = and_true (is_blank b) (list_all is_blank bs) all in
    blank_first b both.0 (blanks_first bs both.1 tail)

or_cases : (a b : Bool) → (a || b) ≡ true → (a ≡ true) ⊎ (b ≡ true)
or_cases true b e = inl refl
or_cases false b e = inr e

note_first : {vars : ℕ} {clauses : List Clause} (line ys : List ℕ) → IsNote line → Tail vars [] (10 ∷ ys) clauses → Tail vars [] (10 ∷ (line ++ 10 ∷ ys)) clauses
note_first {vars} {clauses} line ys note tail = subst (λ (l : List ℕ). Tail vars [] (10 ∷ (l ++ 10 ∷ ys)) clauses) (sym note.is) (comment_first note.note note.free tail)

lines_first : (vars : ℕ) (clauses : List Clause) (lines : List (List ℕ)) (ys : List ℕ) → list_all is_between lines ≡ true → Tail vars [] (10 ∷ ys) clauses → Tail vars [] (10 ∷ (in_lines lines ++ ys)) clauses
lines_first vars clauses [] ys all tail = tail
lines_first vars clauses (line ∷ lines) ys all tail =
    let both = and_true (is_between line) (list_all is_between lines) all in
    let rest = lines_first vars clauses lines ys both.1 tail in
    let shape : line ++ 10 ∷ (in_lines lines ++ ys) ≡ (line ++ 10 ∷ in_lines lines) ++ ys = sym (append_assoc line (10 ∷ in_lines lines) ys) in
    subst (λ (l : List ℕ). Tail vars [] (10 ∷ l) clauses) shape
    (elim (or_cases (is_comment_line line) (list_all is_blank line) both.0) [
      | inl e ↦ note_first line (in_lines lines ++ ys) (as_note line e) rest
      | inr e ↦ blank_first 10 refl (blanks_first line e rest)
    ])

-- a line that begins with a blank, or ends before, is no comment
pub first_blank : (line rest : List ℕ) → is_between line ≡ true → begins_blank (line ++ rest) ≡ true → list_all is_blank line ≡ true
first_blank [] rest between begins = refl
first_blank (b ∷ bs) rest between begins = elim (or_cases (is_comment_line (b ∷ bs)) (list_all is_blank (b ∷ bs)) between) [
  | inr e ↦ e
  | inl e ↦
      let note = as_note (b ∷ bs) e in
      let no : true ≡ false = sym begins ∙ ap (λ (l : List ℕ). begins_blank (l ++ rest)) note.is in
      absurd cc
]

gap_of : (vars : ℕ) (clauses : List Clause) (lines : List (List ℕ)) (last xs : List ℕ) → begins_blank (in_lines lines ++ last) ≡ true → list_all is_between lines ≡ true → list_all is_blank last ≡ true
    → Tail vars [] xs clauses → Tail vars [] ((in_lines lines ++ last) ++ xs) clauses
gap_of vars clauses [] last xs begins all blank tail = blanks_first last blank tail
gap_of vars clauses (line ∷ lines) last xs begins all blank tail =
    let both = and_true (is_between line) (list_all is_between lines) all in
    let shape : (line ++ 10 ∷ in_lines lines) ++ last ≡ line ++ 10 ∷ (in_lines lines ++ last) = append_assoc line (10 ∷ in_lines lines) last in
    let line_blank = first_blank line (10 ∷ (in_lines lines ++ last)) both.0 (subst (λ (l : List ℕ). begins_blank l ≡ true) shape begins) in
    let rest = lines_first vars clauses lines (last ++ xs) both.1 (blank_first 10 refl (blanks_first last blank tail)) in
    let whole : line ++ 10 ∷ (in_lines lines ++ (last ++ xs)) ≡ ((line ++ 10 ∷ in_lines lines) ++ last) ++ xs = sym (simp append_assoc) in
    subst (λ (l : List ℕ). Tail vars [] l clauses) whole (blanks_first line line_blank rest)

gap_first : {vars : ℕ} {clauses : List Clause} (gap xs : List ℕ) → IsGap gap → Tail vars [] xs clauses → Tail vars [] (gap ++ xs) clauses
gap_first {vars} {clauses} gap xs is tail =
    subst (λ (l : List ℕ). Tail vars [] (l ++ xs) clauses) (sym is.gap_is)
    (gap_of vars clauses is.lines is.last xs (subst (λ (l : List ℕ). begins_blank l ≡ true) is.gap_is is.begins) is.lines_are is.last_blank tail)

-- ---- clauses

spaced_first : (vars : ℕ) (pending : Clause) (bytes xs : List ℕ) (lit : ℕ) (clauses : List Clause) (behind : List ℕ) (is : SpellsLiteral vars bytes lit) → is.behind ≡ behind
    → Tail vars (pending ++ lit ∷ []) xs clauses → Tail vars pending (bytes ++ xs) clauses
spaced_first vars pending bytes xs lit clauses [] is empty tail =
    let some = is.some in
    let none : length is.behind ≡ 0 = ap length empty in
    absurd (omega arith)
spaced_first vars pending bytes xs lit clauses (b ∷ bs) is behind tail =
    let blank : list_all is_blank (b ∷ bs) ≡ true = subst (λ (l : List ℕ). list_all is_blank l ≡ true) behind is.blank in
    let first = (and_true (is_blank b) (list_all is_blank bs) blank).0 in
    let shape : is.field ++ b ∷ (bs ++ xs) ≡ bytes ++ xs =
    sym (append_assoc is.field (b ∷ bs) xs) ∙ ap (λ (l : List ℕ). (is.field ++ l) ++ xs) (sym behind) ∙ ap (λ (l : List ℕ). l ++ xs) (sym is.bytes_are) in
    subst (λ (l : List ℕ). Tail vars pending l clauses) shape (literal_first is.field lit b is.writes is.within first (blanks_first (b ∷ bs) blank tail))

literals_first : (vars : ℕ) (pending : Clause) (spaced : List (List ℕ)) (lits : List ℕ) (xs : List ℕ) (clauses : List Clause) → AllZip (SpellsLiteral vars) spaced lits
    → Tail vars (pending ++ lits) xs clauses → Tail vars pending (concat spaced ++ xs) clauses
literals_first vars pending [] [] xs clauses all tail = subst (λ (p : Clause). Tail vars p xs clauses) (append-nil pending) tail
literals_first vars pending [] (lit ∷ lits) xs clauses all tail = absurd all
literals_first vars pending (s ∷ spaced) [] xs clauses all tail = absurd all
literals_first vars pending (s ∷ spaced) (lit ∷ lits) xs clauses all tail =
    let again : pending ++ lit ∷ lits ≡ (pending ++ lit ∷ []) ++ lits = sym (append_assoc pending (lit ∷ []) lits) in
    let rest = literals_first vars (pending ++ lit ∷ []) spaced lits xs clauses all.1 (subst (λ (p : Clause). Tail vars p xs clauses) again tail) in
    subst (λ (l : List ℕ). Tail vars pending l clauses) (sym (append_assoc s (concat spaced) xs)) (spaced_first vars pending s (concat spaced ++ xs) lit clauses all.0.behind all.0 refl rest)

clause_first : (vars : ℕ) (bytes xs : List ℕ) (clause : Clause) (clauses : List Clause) → SpellsClause vars bytes clause → begins_blank xs ≡ true → Tail vars [] xs clauses → Tail vars [] (bytes ++ xs) (clause ∷ clauses)
clause_first vars bytes [] clause clauses is begins tail = absurd cc
clause_first vars bytes (b ∷ bs) clause clauses is begins tail =
    let ended : Tail vars is.lits (is.ending ++ b ∷ bs) (once is.lits ∷ clauses) = end_first is.ending is.negative b is.ends begins tail in
    let named : Tail vars is.lits (is.ending ++ b ∷ bs) (clause ∷ clauses) = subst (λ (c : Clause). Tail vars is.lits (is.ending ++ b ∷ bs) (c ∷ clauses)) (once_is is.lits ∙ sym is.clause_is) ended in
    let lits = literals_first vars [] is.spaced is.lits (is.ending ++ b ∷ bs) (clause ∷ clauses) is.literals named in
    let whole : is.gap ++ (concat is.spaced ++ (is.ending ++ b ∷ bs)) ≡ bytes ++ b ∷ bs = sym (ap (λ (l : List ℕ). l ++ b ∷ bs) is.bytes_are ∙ simp append_assoc) in
    subst (λ (l : List ℕ). Tail vars [] l (clause ∷ clauses)) whole (gap_first is.gap (concat is.spaced ++ (is.ending ++ b ∷ bs)) is.gap_is lits)

pub begins_before : (xs ys : List ℕ) → begins_blank xs ≡ true → begins_blank (xs ++ ys) ≡ true
begins_before [] ys e = absurd cc
begins_before (x ∷ xs) ys e = e

clause_begins : (vars : ℕ) (bytes xs : List ℕ) (clause : Clause) → SpellsClause vars bytes clause → begins_blank (bytes ++ xs) ≡ true
clause_begins vars bytes xs clause is =
    begins_before bytes xs (subst (λ (l : List ℕ). begins_blank l ≡ true) (sym is.bytes_are) (begins_before (is.gap ++ concat is.spaced) is.ending (begins_before is.gap (concat is.spaced) is.gap_is.begins)))

rest_begins : (vars : ℕ) (pieces : List (List ℕ)) (behind : List ℕ) (clauses : List Clause) → AllZip (SpellsClause vars) pieces clauses → IsGap behind → begins_blank (concat pieces ++ behind) ≡ true
rest_begins vars [] behind clauses all gap = gap.begins
rest_begins vars (piece ∷ pieces) behind [] all gap = absurd all
rest_begins vars (piece ∷ pieces) behind (clause ∷ clauses) all gap =
    subst (λ (l : List ℕ). begins_blank l ≡ true) (sym (append_assoc piece (concat pieces) behind)) (clause_begins vars piece (concat pieces ++ behind) clause all.0)

pub spelled_tail : (vars : ℕ) (pieces : List (List ℕ)) (behind : List ℕ) (clauses : List Clause) → AllZip (SpellsClause vars) pieces clauses → IsGap behind → Tail vars [] (concat pieces ++ behind) clauses
spelled_tail vars [] behind [] all gap = subst (λ (l : List ℕ). Tail vars [] l []) (append-nil behind) (gap_first behind [] gap nothing)
spelled_tail vars [] behind (clause ∷ clauses) all gap = absurd all
spelled_tail vars (piece ∷ pieces) behind [] all gap = absurd all
spelled_tail vars (piece ∷ pieces) behind (clause ∷ clauses) all gap =
    subst (λ (l : List ℕ). Tail vars [] l (clause ∷ clauses)) (sym (append_assoc piece (concat pieces) behind))
    (clause_first vars piece (concat pieces ++ behind) clause clauses all.0 (rest_begins vars pieces behind clauses all.1 gap) (spelled_tail vars pieces behind clauses all.1 gap))
