-- A text says a formula exactly where it spells it.
use Rattle.std.proofs.Common.{◌≡◌, ◌∙◌, ◌≤◌, ◌+◌, ℕ, true, false, zero, suc, refl, sym, ap, subst, arith, List, [], ◌∷◌, ◌++◌, length, append_assoc, append-nil, inl, inr, Option, Some, None, Result, Ok, Err}
use Rattle.rsfq_ids.specs.declared.limits.TheConstants.{FORMULA_LIMIT}
use Rattle.std.specs.Prelude.{not, ◌⊎◌, IfOk, IfErr, ◌≢◌}
use Rattle.std.specs.List.{list_any, list_all}
use Rattle.std.proofs.lemmas.Bool.{cases_Bool, eqb-true, eq-eqb}
use Rattle.std.proofs.lemmas.Bool.Decides.{eqb_tells}
use Rattle.rsfq_ids.specs.Formula.{Clause}
use Rattle.rsfq_ids.specs.declared.circuit.Cnf.{Cnf}
use Rattle.dimacs_text.specs.Parts.{Part, lines, is_newline, is_empty}
use Rattle.dimacs_text.specs.Reading.{Said, after_lines, unless_fault, is_comment, at_end, nothing_said, with_head, from_head, head_of, without_comments, reading}
use Rattle.dimacs_text.specs.Spelled.{in_lines, is_comment_line, IsHeadLine, Spells, ReadingsAreSpelled, SpellOne}
use Rattle.dimacs_text.specs.declared.head.Head.{Head}
use Rattle.dimacs_text.specs.declared.fault.TextFault.{TextFault}
use Rattle.dimacs_text.specs.declared.fault.TextWhy.TheVariants.{Memory}
use Rattle.dimacs_text.proofs.Cases.{no_ok, same_ok, and_true, and_both, not_true}
use Rattle.dimacs_text.proofs.Written.{part_first}
use Rattle.dimacs_text.proofs.WordSays.{passed, stands}
use Rattle.dimacs_text.proofs.HeadSays.{as_head}
use Rattle.dimacs_text.proofs.Middle.{middle}
use Rattle.dimacs_text.proofs.Tails.{said, tail_read}
use Rattle.dimacs_text.proofs.TailsFound.{ends_well, ends_later, closed_ends, cut_at, found}
use Rattle.dimacs_text.proofs.SpelledTails.{spelled_tail}
use Rattle.dimacs_text.proofs.TailsSpelled.{tail_spelled}
use Rattle.dimacs_text.proofs.SpelledHeads.{head_read, head_free, head_no_comment, head_spelled}
use Rattle.dimacs_text.proofs.ClosedTexts.{to_closed, from_closed}

-- ---- lines of comments, and the head

abbrev part : ℕ → List ℕ → Part
part at bytes = record { start = at; bytes = bytes }

comment_says : (line : List ℕ) → is_comment_line line ≡ true → is_comment line ≡ true
comment_says line e = (and_true (not (list_any is_newline line)) (is_comment line) e).1

comment_free : (line : List ℕ) → is_comment_line line ≡ true → list_any is_newline line ≡ false
comment_free line e = not_true (list_any is_newline line) (and_true (not (list_any is_newline line)) (is_comment line) e).0

comments_dropped : (comments : List (List ℕ)) (at : ℕ) (rest : List ℕ) → list_all is_comment_line comments ≡ true
    → (from : ℕ) × (without_comments (lines at (in_lines comments ++ rest)) ≡ without_comments (lines from rest))
comments_dropped [] at rest all = (at, refl)
comments_dropped (line ∷ comments) at rest all =
    let both = and_true (is_comment_line line) (list_all is_comment_line comments) all in
    let more = comments_dropped comments (at + suc (length line)) rest both.1 in (
      more.0,
      ap (λ (l : List ℕ). without_comments (lines at l)) (append_assoc line (10 ∷ in_lines comments) rest)
          ∙ ap without_comments (part_first is_newline at line 10 (in_lines comments ++ rest) (comment_free line both.0) refl)
          ∙ passed (part at line) (lines (at + suc (length line)) (in_lines comments ++ rest)) (comment_says line both.0)
          ∙ more.1,
    )

-- a text with a head
record Opens (text : List ℕ) (comments : List (List ℕ)) (head rest : List ℕ) : Type 0 where
  pub text_is : text ≡ in_lines comments ++ (head ++ 10 ∷ rest)
  pub comments_are : list_all is_comment_line comments ≡ true
  pub free : list_any is_newline head ≡ false
  pub other : is_comment head ≡ false

opened : (text : List ℕ) (comments : List (List ℕ)) (head rest : List ℕ) → Opens text comments head rest
    → (from : ℕ) × (reading text ≡ with_head (length text) from (lines (from + suc (length head)) rest) (head_of head))
opened text comments head rest is =
    let skipped = comments_dropped comments 0 (head ++ 10 ∷ rest) is.comments_are in (
      skipped.0,
      ap (λ (l : List ℕ). from_head (length text) (without_comments (lines 0 l))) is.text_is
          ∙ ap (from_head (length text)) skipped.1
          ∙ ap (λ (ls : List Part). from_head (length text) (without_comments ls)) (part_first is_newline skipped.0 head 10 rest is.free refl)
          ∙ ap (from_head (length text)) (stands (part skipped.0 head) (lines (skipped.0 + suc (length head)) rest) is.other),
    )

-- ---- a spelled text is read

ended : (len : ℕ) (vars : ℕ) (clauses : List Clause) → at_end len (as_head vars (length clauses)) (said clauses []) ≡ Ok (record { vars = vars; clauses = clauses })
ended len vars clauses = rw (eq-eqb (length clauses) (length clauses) refl) refl

read : (text : List ℕ) (cnf : Cnf) → Spells text cnf → reading (text ++ 10 ∷ []) ≡ Ok cnf
read text cnf is =
    let head = as_head cnf.vars (length cnf.clauses) in
    let whole = text ++ 10 ∷ [] in
    let opens : Opens whole is.comments is.head is.rest = record {
      text_is = is.text_is ∙ append_assoc (in_lines is.comments) is.head (10 ∷ is.rest);
      comments_are = is.comments_are;
      free = head_free is.head cnf.vars (length cnf.clauses) is.head_is;
      other = head_no_comment is.head cnf.vars (length cnf.clauses) is.head_is;
    } in
    let from = opened whole is.comments is.head is.rest opens in
    let small : cnf.vars ≤ FORMULA_LIMIT = is.head_is.first_small in
    let tail = spelled_tail cnf.vars is.clauses is.behind cnf.clauses is.clauses_are is.behind_is in
    let says : middle cnf.vars (said [] []) (lines (from.0 + length is.head) (10 ∷ is.rest)) ≡ Ok (said cnf.clauses []) =
    ap (λ (l : List ℕ). middle cnf.vars (said [] []) (lines (from.0 + length is.head) l)) is.rest_is ∙ tail_read small [] tail (from.0 + length is.head) in
    let place : from.0 + suc (length is.head) ≡ from.0 + length is.head + 1 = omega arith in
    from.1
    ∙ ap (with_head (length whole) from.0 (lines (from.0 + suc (length is.head)) is.rest)) (head_read is.head cnf.vars (length cnf.clauses) is.head_is)
    ∙ ap (λ (k : ℕ). unless_fault (at_end (length whole) head) (after_lines cnf.vars nothing_said (lines k is.rest))) place
    ∙ ap (unless_fault (at_end (length whole) head)) says
    ∙ ended (length whole) cnf.vars cnf.clauses

-- ---- what was read of a text spells it

-- where the head is, if a line is no comment
record HasHead (text : List ℕ) : Type 0 where
  pub comments : List (List ℕ)
  pub head : List ℕ
  pub rest : List ℕ
  pub opens : Opens text comments head rest

record HasNone (text : List ℕ) : Type 0 where
  pub comments : List (List ℕ)
  pub text_is : text ≡ in_lines comments
  pub comments_are : list_all is_comment_line comments ≡ true

comment_line : (line : List ℕ) → list_any is_newline line ≡ false → is_comment line ≡ true → is_comment_line line ≡ true
comment_line line free is = rw (free, is) refl

comment_more : (line rest : List ℕ) → is_comment_line line ≡ true → HasNone rest ⊎ HasHead rest → HasNone (line ++ 10 ∷ rest) ⊎ HasHead (line ++ 10 ∷ rest)
comment_more line rest is more = elim more [
  | inl n ↦ inl (record { comments = line ∷ n.comments; text_is = ap (λ (l : List ℕ). line ++ 10 ∷ l) n.text_is; comments_are = and_both (is_comment_line line) (list_all is_comment_line n.comments) is n.comments_are })
  | inr h ↦ inr (record {
    comments = line ∷ h.comments;
    head = h.head;
    rest = h.rest;
    opens = record {
      text_is = ap (λ (l : List ℕ). line ++ 10 ∷ l) h.opens.text_is ∙ sym (append_assoc line (10 ∷ in_lines h.comments) (h.head ++ 10 ∷ h.rest));
      comments_are = and_both (is_comment_line line) (list_all is_comment_line h.comments) is h.opens.comments_are;
      free = h.opens.free;
      other = h.opens.other;
    };
  })
]

rest_ends : (line rest : List ℕ) → ends_well (line ++ 10 ∷ rest) ≡ true → ends_well rest ≡ true
rest_ends line [] well = refl
rest_ends line (b ∷ rest) well = ends_later line 10 (b ∷ rest) well

head_found : (n : ℕ) (text : List ℕ) → length text ≤ n → ends_well text ≡ true → HasNone text ⊎ HasHead text
head_found n [] few well = inl (record { comments = []; text_is = refl; comments_are = refl })
head_found zero (b ∷ bs) few well = absurd (omega arith)
head_found (suc n) (b ∷ bs) few well =
    let cut = cut_at is_newline b bs refl well in
    let shorter = cut.shorter in
    let newline : cut.end ≡ 10 = eqb-true cut.end 10 cut.ends in
    let shape : b ∷ bs ≡ cut.first ++ 10 ∷ cut.rest = cut.is ∙ ap (λ (x : ℕ). cut.first ++ x ∷ cut.rest) newline in
    subst (λ (l : List ℕ). HasNone l ⊎ HasHead l) (sym shape)
    (elim (cases_Bool (is_comment cut.first)) [
      | inl e ↦ comment_more cut.first cut.rest (comment_line cut.first cut.free e) (head_found n cut.rest (omega arith) (rest_ends cut.first cut.rest (subst (λ (l : List ℕ). ends_well l ≡ true) shape well)))
      | inr e ↦ inr (record { comments = []; head = cut.first; rest = cut.rest; opens = record { text_is = refl; comments_are = refl; free = cut.free; other = e } })
    ])

none_says : (text : List ℕ) (cnf : Cnf) → HasNone text → reading text ≡ Ok cnf → ⊥
none_says text cnf is says =
    let skipped = comments_dropped is.comments 0 [] is.comments_are in
    let none : without_comments (lines 0 text) ≡ [] = ap (λ (l : List ℕ). without_comments (lines 0 l)) (is.text_is ∙ sym (append-nil (in_lines is.comments))) ∙ skipped.1 in
    no_ok _ cnf (sym (ap (from_head (length text)) none) ∙ says)

-- the end of a text that says a formula
record IsEnd (head : Head) (to : Said) (cnf : Cnf) : Type 0 where
  pub closed : to.pending ≡ []
  pub count : length to.closed ≡ head.clauses
  pub cnf_is : cnf ≡ record { vars = head.vars; clauses = to.closed }

none_pending : (pending : Clause) → not (is_empty pending) ≡ false → pending ≡ []
none_pending [] e = refl
none_pending (lit ∷ lits) e = absurd cc

end_is : (len : ℕ) (head : Head) (to : Said) (cnf : Cnf) → at_end len head to ≡ Ok cnf → IsEnd head to cnf
end_is len head to cnf is = elim (cases_Bool (not (is_empty to.pending))) [
  | inl e ↦ absurd (no_ok _ _ (rw e at is))
  | inr e ↦ elim (eqb_tells (length to.closed) head.clauses) [
    | inr t ↦ absurd (no_ok _ _ (rw (e, t.0) at is))
    | inl t ↦ record { closed = none_pending to.pending e; count = t.1; cnf_is = sym (same_ok _ _ (rw (e, t.0) at is)) }
  ]
]

record IsRead (len : ℕ) (head : Head) (rest : List Part) (cnf : Cnf) : Type 0 where
  pub to : Said
  pub read : after_lines head.vars nothing_said rest ≡ Ok to
  pub end : IsEnd head to cnf

is_read : (len : ℕ) (head : Head) (rest : List Part) (cnf : Cnf) (r : Result Said TextFault) → after_lines head.vars nothing_said rest ≡ r → unless_fault (at_end len head) r ≡ Ok cnf → IsRead len head rest cnf
is_read len head rest cnf (Ok to) read is = record { to = to; read = read; end = end_is len head to cnf is }
is_read len head rest cnf (Err f) read is = absurd (no_ok _ _ is)

-- from the head on
spelled_with : (text : List ℕ) (comments : List (List ℕ)) (head rest : List ℕ) (from : ℕ) (o : Option Head) (cnf : Cnf) → Opens (text ++ 10 ∷ []) comments head rest → head_of head ≡ o
    → with_head (length (text ++ 10 ∷ [])) from (lines (from + suc (length head)) rest) o ≡ Ok cnf → Spells text cnf
spelled_with text comments head rest from None cnf opens says is = absurd (no_ok _ _ is)
spelled_with text comments head rest from (Some sizes) cnf opens says is =
    let end = is_read (length (text ++ 10 ∷ [])) sizes (lines (from + suc (length head)) rest) cnf (after_lines sizes.vars nothing_said (lines (from + suc (length head)) rest)) refl is in
    let place : from + suc (length head) ≡ from + length head + 1 = omega arith in
    let reads : middle sizes.vars (said [] []) (lines (from + length head) (10 ∷ rest)) ≡ Ok end.to =
    ap (λ (k : ℕ). after_lines sizes.vars nothing_said (lines k rest)) (sym place) ∙ end.read in
    let well : ends_well (10 ∷ rest) ≡ true =
    ends_later (in_lines comments ++ head) 10 rest (ap ends_well (append_assoc (in_lines comments) head (10 ∷ rest) ∙ sym opens.text_is) ∙ closed_ends text) in
    let tail = found sizes.vars (length (10 ∷ rest)) (10 ∷ rest) (from + length head) [] [] end.to (omega arith) well reads end.end.closed in
    let clauses = tail_spelled sizes.vars rest tail.clauses tail.tail in
    let count : sizes.clauses ≡ length tail.clauses = sym end.end.count ∙ ap length tail.closed_is in
    let cnf_is : record { vars = sizes.vars; clauses = tail.clauses } ≡ cnf = ap (λ (c : List Clause). let f : Cnf = record { vars = sizes.vars; clauses = c } in f) (sym tail.closed_is) ∙ sym end.end.cnf_is in
    let head_is : IsHeadLine head sizes.vars (length tail.clauses) = subst (IsHeadLine head sizes.vars) count (head_spelled head sizes says) in
    subst (Spells text) cnf_is (record {
      comments = comments;
      head = head;
      rest = rest;
      clauses = clauses.pieces;
      behind = clauses.behind;
      text_is = opens.text_is ∙ sym (append_assoc (in_lines comments) head (10 ∷ rest));
      comments_are = opens.comments_are;
      head_is = head_is;
      rest_is = clauses.bytes_are;
      clauses_are = clauses.clauses_are;
      behind_is = clauses.behind_is;
    })

spelled : (text : List ℕ) (cnf : Cnf) → reading (text ++ 10 ∷ []) ≡ Ok cnf → Spells text cnf
spelled text cnf is = elim (head_found (length (text ++ 10 ∷ [])) (text ++ 10 ∷ []) (omega arith) (closed_ends text)) [
  | inl n ↦ absurd (none_says (text ++ 10 ∷ []) cnf n is)
  | inr h ↦
      let from = opened (text ++ 10 ∷ []) h.comments h.head h.rest h.opens in
      spelled_with text h.comments h.head h.rest from.0 (head_of h.head) cnf h.opens refl (sym from.1 ∙ is)
]

pub readings_spelled : ReadingsAreSpelled
readings_spelled text cnf = (λ is. spelled text cnf (to_closed text cnf is), λ is. from_closed text cnf (read text cnf is))

pub spell_one : SpellOne
spell_one text one other is also = same_ok one other (sym ((readings_spelled text one).1 is) ∙ (readings_spelled text other).1 also)

-- ---- answers

pub answer_spelled : (text : List ℕ) (answer : Result Cnf TextFault) → IfOk answer (λ cnf. reading text ≡ Ok cnf) → IfOk answer (Spells text)
answer_spelled text (Ok cnf) is = (readings_spelled text cnf).0 is
answer_spelled text (Err f) is = is

pub refusal_unspelled : (text : List ℕ) (f : TextFault) → reading text ≡ Err f → (cnf : Cnf) → Spells text cnf → ⊥
refusal_unspelled text f is cnf spells = no_ok f cnf (sym is ∙ (readings_spelled text cnf).1 spells)

pub answer_unspelled : (text : List ℕ) (answer : Result Cnf TextFault) → IfErr answer (λ f. f.why ≢ Memory → reading text ≡ Err f)
    → IfErr answer (λ f. f.why ≢ Memory → (cnf : Cnf) → Spells text cnf → ⊥)
answer_unspelled text (Ok cnf) is = is
answer_unspelled text (Err f) is = λ other. refusal_unspelled text f (is other)
