-- What of a text is still to come behind its head is clauses that are spelled, one behind the other.
use Rattle.std.proofs.Common.{◌≡◌, ◌∙◌, ◌<◌, ◌+◌, ◌*◌, ◌/◌, ◌%◌, ℕ, Bool, true, false, refl, sym, ap, subst, arith, List, [], ◌∷◌, ◌++◌, length, append_assoc, append-nil, inl, inr}
use Rattle.std.specs.Prelude.{◌==◌, ◌||◌, ◌⊎◌}
use Rattle.std.specs.List.{AllZip, list_any, list_all, concat}
use Rattle.rsfq_ids.specs.Formula.{Clause}
use Rattle.dimacs_text.specs.Parts.{is_blank, is_newline}
use Rattle.dimacs_text.specs.Reading.{once}
use Rattle.dimacs_text.specs.Spelled.{in_lines, is_comment_line, WritesNumber, SpellsLiteral, begins_blank, is_between, IsGap, each_once, SpellsClause}
use Rattle.dimacs_text.proofs.Cases.{and_true, and_both}
use Rattle.dimacs_text.proofs.Fronts.{same_tail}
use Rattle.dimacs_text.proofs.Fields.{field_begins}
use Rattle.dimacs_text.proofs.EachOnce.{once_is}
use Rattle.dimacs_text.proofs.Tails.{Tail, nothing, blank_first, comment_first, literal_first, end_first}
use Rattle.dimacs_text.proofs.SpelledTails.{first_blank}

-- ---- gaps that grow at the front

or_true : (a b : Bool) → b ≡ true → (a || b) ≡ true
or_true true b e = refl
or_true false b e = e

longer : (b : ℕ) (gap : List ℕ) (lines : List (List ℕ)) (last : List ℕ) → is_blank b ≡ true → gap ≡ in_lines lines ++ last → begins_blank gap ≡ true → list_all is_between lines ≡ true → list_all is_blank last ≡ true
    → IsGap (b ∷ gap)
longer b gap [] last blank is begins lines_are last_blank =
    record { lines = []; last = b ∷ last; gap_is = ap (λ (l : List ℕ). b ∷ l) is; begins = blank; lines_are = refl; last_blank = and_both (is_blank b) (list_all is_blank last) blank last_blank }
longer b gap (line ∷ lines) last blank is begins lines_are last_blank =
    let both = and_true (is_between line) (list_all is_between lines) lines_are in
    let shape : gap ≡ line ++ 10 ∷ (in_lines lines ++ last) = is ∙ append_assoc line (10 ∷ in_lines lines) last in
    let line_blank = first_blank line (10 ∷ (in_lines lines ++ last)) both.0 (subst (λ (l : List ℕ). begins_blank l ≡ true) shape begins) in
    let longer_line : is_between (b ∷ line) ≡ true = or_true (is_comment_line (b ∷ line)) (list_all is_blank (b ∷ line)) (and_both (is_blank b) (list_all is_blank line) blank line_blank) in
    record { lines = (b ∷ line) ∷ lines; last = last; gap_is = ap (λ (l : List ℕ). b ∷ l) is; begins = blank; lines_are = and_both (is_between (b ∷ line)) (list_all is_between lines) longer_line both.1; last_blank = last_blank }

-- a gap, or nothing
abbrev MayBeGap : List ℕ → Type 0
MayBeGap gap = (gap ≡ []) ⊎ IsGap gap

blank_gap : (b : ℕ) (gap : List ℕ) → is_blank b ≡ true → MayBeGap gap → IsGap (b ∷ gap)
blank_gap b gap blank is = elim is [
  | inl e ↦ record { lines = []; last = b ∷ []; gap_is = ap (λ (l : List ℕ). b ∷ l) e; begins = blank; lines_are = refl; last_blank = and_both (is_blank b) true blank refl }
  | inr g ↦ longer b gap g.lines g.last blank g.gap_is g.begins g.lines_are g.last_blank
]

note_between : (note : List ℕ) → list_any is_newline note ≡ false → is_between (99 ∷ note) ≡ true
note_between note free = rw free refl

noted : (note gap : List ℕ) (lines : List (List ℕ)) (last : List ℕ) → list_any is_newline note ≡ false → 10 ∷ gap ≡ in_lines lines ++ last → list_all is_between lines ≡ true → list_all is_blank last ≡ true
    → IsGap (10 ∷ 99 ∷ (note ++ 10 ∷ gap))
noted note gap [] [] free is lines_are last_blank = absurd cc
noted note gap [] (x ∷ last) free is lines_are last_blank =
    let same : gap ≡ last = same_tail 10 x gap last is in
    record {
      lines = [] ∷ (99 ∷ note) ∷ [];
      last = last;
      gap_is = ap (λ (l : List ℕ). 10 ∷ 99 ∷ (note ++ 10 ∷ l)) same ∙ ap (λ (l : List ℕ). 10 ∷ 99 ∷ l) (sym (append_assoc note (10 ∷ []) last));
      begins = refl;
      lines_are = and_both (is_between (99 ∷ note)) true (note_between note free) refl;
      last_blank = (and_true (is_blank x) (list_all is_blank last) last_blank).1;
    }
noted note gap ([] ∷ lines) last free is lines_are last_blank =
    let same : gap ≡ in_lines lines ++ last = same_tail 10 10 gap (in_lines lines ++ last) is in
    record {
      lines = [] ∷ (99 ∷ note) ∷ lines;
      last = last;
      gap_is = ap (λ (l : List ℕ). 10 ∷ 99 ∷ (note ++ 10 ∷ l)) same ∙ ap (λ (l : List ℕ). 10 ∷ 99 ∷ l) (sym (append_assoc note (10 ∷ in_lines lines) last));
      begins = refl;
      lines_are = and_both (is_between (99 ∷ note)) (list_all is_between lines) (note_between note free) lines_are;
      last_blank = last_blank;
    }
noted note gap ((x ∷ line) ∷ lines) last free is lines_are last_blank =
    let both = and_true (is_between (x ∷ line)) (list_all is_between lines) lines_are in
    let same : gap ≡ (line ++ 10 ∷ in_lines lines) ++ last = same_tail 10 x gap ((line ++ 10 ∷ in_lines lines) ++ last) is in
    let begins : begins_blank ((x ∷ line) ++ (10 ∷ in_lines lines ++ last)) ≡ true = ap begins_blank (sym (is ∙ append_assoc (x ∷ line) (10 ∷ in_lines lines) last)) in
    let line_blank = first_blank (x ∷ line) (10 ∷ in_lines lines ++ last) both.0 begins in
    let shorter : is_between line ≡ true = or_true (is_comment_line line) (list_all is_blank line) (and_true (is_blank x) (list_all is_blank line) line_blank).1 in
    record {
      lines = [] ∷ (99 ∷ note) ∷ line ∷ lines;
      last = last;
      gap_is = ap (λ (l : List ℕ). 10 ∷ 99 ∷ (note ++ 10 ∷ l)) same ∙ ap (λ (l : List ℕ). 10 ∷ 99 ∷ l) (sym (append_assoc note (10 ∷ (line ++ 10 ∷ in_lines lines)) last));
      begins = refl;
      lines_are = and_both (is_between (99 ∷ note)) (list_all is_between (line ∷ lines)) (note_between note free) (and_both (is_between line) (list_all is_between lines) shorter both.1);
      last_blank = last_blank;
    }

note_gap : (note gap : List ℕ) → list_any is_newline note ≡ false → IsGap (10 ∷ gap) → IsGap (10 ∷ 99 ∷ (note ++ 10 ∷ gap))
note_gap note gap free is = noted note gap is.lines is.last free is.gap_is is.lines_are is.last_blank

-- ---- tails

-- clauses, one behind the other, and what stands behind the last
pub record Clauses (vars : ℕ) (bytes : List ℕ) (clauses : List Clause) : Type 0 where
  pub pieces : List (List ℕ)
  pub behind : List ℕ
  pub bytes_are : bytes ≡ concat pieces ++ behind
  pub clauses_are : AllZip (SpellsClause vars) pieces clauses
  pub behind_is : IsGap behind

-- what parts a clause from the text before it, or one of its words from the one before
abbrev IsLead : Clause → List ℕ → Type 0
IsLead [] lead = MayBeGap lead
IsLead (lit ∷ lits) lead = list_all is_blank lead ≡ true

-- no more clause
record IsOver (pending : Clause) (bytes : List ℕ) (clauses : List Clause) : Type 0 where
  pub no_literal : pending ≡ []
  pub no_clause : clauses ≡ []
  pub gap : MayBeGap bytes

-- the rest of a clause, and more clauses
record GoesOn (vars : ℕ) (pending : Clause) (bytes : List ℕ) (clauses : List Clause) : Type 0 where
  pub lead : List ℕ
  pub spaced : List (List ℕ)
  pub lits : List ℕ
  pub ending : List ℕ
  pub negative : Bool
  pub rest : List ℕ
  pub others : List Clause
  pub bytes_are : bytes ≡ lead ++ (concat spaced ++ (ending ++ rest))
  pub lead_is : IsLead pending lead
  pub literals : AllZip (SpellsLiteral vars) spaced lits
  pub ends : WritesNumber ending negative 0
  pub clauses_are : clauses ≡ each_once (pending ++ lits) ∷ others
  pub rest_is : Clauses vars rest others

abbrev Shape : ℕ → Clause → List ℕ → List Clause → Type 0
Shape vars pending bytes clauses = IsOver pending bytes clauses ⊎ GoesOn vars pending bytes clauses

field_no_blank : (field rest : List ℕ) (negative : Bool) (n : ℕ) → WritesNumber field negative n → begins_blank (field ++ rest) ≡ false
field_no_blank field rest negative n writes =
    let begins = field_begins field negative n writes in
    ap (λ (l : List ℕ). begins_blank (l ++ rest)) begins.is ∙ begins.blank

words_no_blank : (vars : ℕ) (spaced : List (List ℕ)) (lits ending rest : List ℕ) (negative : Bool) → AllZip (SpellsLiteral vars) spaced lits → WritesNumber ending negative 0
    → begins_blank (concat spaced ++ (ending ++ rest)) ≡ false
words_no_blank vars [] lits ending rest negative all ends = field_no_blank ending rest negative 0 ends
words_no_blank vars (s ∷ spaced) [] ending rest negative all ends = absurd all
words_no_blank vars (s ∷ spaced) (lit ∷ lits) ending rest negative all ends =
    let literal = all.0 in
    let shape : (s ++ concat spaced) ++ (ending ++ rest) ≡ literal.field ++ (literal.behind ++ (concat spaced ++ (ending ++ rest))) =
    ap (λ (l : List ℕ). (l ++ concat spaced) ++ (ending ++ rest)) literal.bytes_are ∙ simp append_assoc in
    ap begins_blank shape ∙ field_no_blank literal.field (literal.behind ++ (concat spaced ++ (ending ++ rest))) (lit % 2 == 1) (lit / 2 + 1) literal.writes

-- before a blank, the lead has it
some_lead : (b : ℕ) (bytes lead words : List ℕ) → is_blank b ≡ true → begins_blank words ≡ false → b ∷ bytes ≡ lead ++ words → (more : List ℕ) × (lead ≡ b ∷ more)
some_lead b bytes [] words blank other is = let no : true ≡ false = sym blank ∙ ap begins_blank is ∙ other in absurd cc
some_lead b bytes (x ∷ lead) words blank other is = (lead, ap (λ (y : ℕ). y ∷ lead) (let same : x ≡ b = cc in same))

lead_of : (vars : ℕ) (pending : Clause) (b : ℕ) (bytes : List ℕ) (clauses : List Clause) → is_blank b ≡ true → (g : GoesOn vars pending (b ∷ bytes) clauses) → (more : List ℕ) × (g.lead ≡ b ∷ more)
lead_of vars pending b bytes clauses blank g =
    some_lead b bytes g.lead (concat g.spaced ++ (g.ending ++ g.rest)) blank (words_no_blank vars g.spaced g.lits g.ending g.rest g.negative g.literals g.ends) g.bytes_are

lead_gap : (b : ℕ) (lead more : List ℕ) → lead ≡ b ∷ more → MayBeGap lead → IsGap lead
lead_gap b lead more some is = elim is [
  | inl e ↦ let no : [] ≡ b ∷ more = sym e ∙ some in absurd cc
  | inr g ↦ g
]

-- nothing, or a gap, or clauses
as_clauses : (vars b : ℕ) (bytes : List ℕ) (clauses : List Clause) → is_blank b ≡ true → Shape vars [] (b ∷ bytes) clauses → Clauses vars (b ∷ bytes) clauses
as_clauses vars b bytes clauses blank shape = elim shape [
  | inl o ↦
      subst (λ (c : List Clause). Clauses vars (b ∷ bytes) c) (sym o.no_clause)
      (record { pieces = []; behind = b ∷ bytes; bytes_are = refl; clauses_are = tt; behind_is = lead_gap b (b ∷ bytes) bytes refl o.gap })
  | inr g ↦
      let some = lead_of vars [] b bytes clauses blank g in
      let piece = (g.lead ++ concat g.spaced) ++ g.ending in
      let spells : SpellsClause vars piece (each_once g.lits) = record {
        gap = g.lead;
        spaced = g.spaced;
        lits = g.lits;
        ending = g.ending;
        negative = g.negative;
        bytes_are = refl;
        gap_is = lead_gap b g.lead some.0 some.1 g.lead_is;
        literals = g.literals;
        ends = g.ends;
        clause_is = refl;
      } in
      let bytes_are : b ∷ bytes ≡ (piece ++ concat g.rest_is.pieces) ++ g.rest_is.behind =
      g.bytes_are ∙ ap (λ (l : List ℕ). g.lead ++ (concat g.spaced ++ (g.ending ++ l))) g.rest_is.bytes_are ∙ sym (simp append_assoc) in
      subst (λ (c : List Clause). Clauses vars (b ∷ bytes) c) (sym g.clauses_are)
      (record { pieces = piece ∷ g.rest_is.pieces; behind = g.rest_is.behind; bytes_are = bytes_are; clauses_are = (spells, g.rest_is.clauses_are); behind_is = g.rest_is.behind_is })
]

no_lead : (pending : Clause) → IsLead pending []
no_lead [] = inl refl
no_lead (lit ∷ lits) = refl

longer_lead : (pending : Clause) (b : ℕ) (lead : List ℕ) → is_blank b ≡ true → IsLead pending lead → IsLead pending (b ∷ lead)
longer_lead [] b lead blank is = inr (blank_gap b lead blank is)
longer_lead (lit ∷ lits) b lead blank is = and_both (is_blank b) (list_all is_blank lead) blank is

open_lead : (pending : Clause) (lit : ℕ) (lead : List ℕ) → IsLead (pending ++ lit ∷ []) lead → list_all is_blank lead ≡ true
open_lead [] lit lead is = is
open_lead (l ∷ ls) lit lead is = is

blank_shape : (vars : ℕ) (pending : Clause) (b : ℕ) (bytes : List ℕ) (clauses : List Clause) → is_blank b ≡ true → Shape vars pending bytes clauses → Shape vars pending (b ∷ bytes) clauses
blank_shape vars pending b bytes clauses blank shape = elim shape [
  | inl o ↦ inl (record { no_literal = o.no_literal; no_clause = o.no_clause; gap = inr (blank_gap b bytes blank o.gap) })
  | inr g ↦ inr (record {
    lead = b ∷ g.lead;
    spaced = g.spaced;
    lits = g.lits;
    ending = g.ending;
    negative = g.negative;
    rest = g.rest;
    others = g.others;
    bytes_are = ap (λ (l : List ℕ). b ∷ l) g.bytes_are;
    lead_is = longer_lead pending b g.lead blank g.lead_is;
    literals = g.literals;
    ends = g.ends;
    clauses_are = g.clauses_are;
    rest_is = g.rest_is;
  })
]

note_shape : (vars : ℕ) (note bytes : List ℕ) (clauses : List Clause) → list_any is_newline note ≡ false → Shape vars [] (10 ∷ bytes) clauses → Shape vars [] (10 ∷ 99 ∷ (note ++ 10 ∷ bytes)) clauses
note_shape vars note bytes clauses free shape = elim shape [
  | inl o ↦ inl (record { no_literal = refl; no_clause = o.no_clause; gap = inr (note_gap note bytes free (lead_gap 10 (10 ∷ bytes) bytes refl o.gap)) })
  | inr g ↦
      let some = lead_of vars [] 10 bytes clauses refl g in
      let words = concat g.spaced ++ (g.ending ++ g.rest) in
      let gap : IsGap (10 ∷ some.0) = subst IsGap some.1 (lead_gap 10 g.lead some.0 some.1 g.lead_is) in
      let shorter : bytes ≡ some.0 ++ words = same_tail 10 10 bytes (some.0 ++ words) (g.bytes_are ∙ ap (λ (l : List ℕ). l ++ words) some.1) in
      inr (record {
        lead = 10 ∷ 99 ∷ (note ++ 10 ∷ some.0);
        spaced = g.spaced;
        lits = g.lits;
        ending = g.ending;
        negative = g.negative;
        rest = g.rest;
        others = g.others;
        bytes_are = ap (λ (l : List ℕ). 10 ∷ 99 ∷ (note ++ 10 ∷ l)) shorter ∙ ap (λ (l : List ℕ). 10 ∷ 99 ∷ l) (sym (append_assoc note (10 ∷ some.0) words));
        lead_is = inr (note_gap note some.0 free gap);
        literals = g.literals;
        ends = g.ends;
        clauses_are = g.clauses_are;
        rest_is = g.rest_is;
      })
]

not_empty : (pending : Clause) (lit : ℕ) → pending ++ lit ∷ [] ≡ [] → ⊥
not_empty [] lit e = cc
not_empty (l ∷ ls) lit e = cc

literal_shape : (vars : ℕ) (pending : Clause) (field : List ℕ) (lit b : ℕ) (bytes : List ℕ) (clauses : List Clause) → WritesNumber field (lit % 2 == 1) (lit / 2 + 1) → lit < 2 * vars → is_blank b ≡ true
    → Shape vars (pending ++ lit ∷ []) (b ∷ bytes) clauses → Shape vars pending (field ++ b ∷ bytes) clauses
literal_shape vars pending field lit b bytes clauses writes within blank shape = elim shape [
  | inl o ↦ absurd (not_empty pending lit o.no_literal)
  | inr g ↦
      let some = lead_of vars (pending ++ lit ∷ []) b bytes clauses blank g in
      let long : 0 < length g.lead = rw some.1 (omega arith) in
      let literal : SpellsLiteral vars (field ++ g.lead) lit = record { field = field; behind = g.lead; bytes_are = refl; writes = writes; within = within; blank = open_lead pending lit g.lead g.lead_is; some = long } in
      inr (record {
        lead = [];
        spaced = (field ++ g.lead) ∷ g.spaced;
        lits = lit ∷ g.lits;
        ending = g.ending;
        negative = g.negative;
        rest = g.rest;
        others = g.others;
        bytes_are = ap (λ (l : List ℕ). field ++ l) g.bytes_are ∙ sym (simp append_assoc);
        lead_is = no_lead pending;
        literals = (literal, g.literals);
        ends = g.ends;
        clauses_are = g.clauses_are ∙ ap (λ (l : List ℕ). each_once l ∷ g.others) (append_assoc pending (lit ∷ []) g.lits);
        rest_is = g.rest_is;
      })
]

end_shape : (vars : ℕ) (pending : Clause) (field : List ℕ) (negative : Bool) (b : ℕ) (bytes : List ℕ) (clauses : List Clause) → WritesNumber field negative 0 → is_blank b ≡ true
    → Shape vars [] (b ∷ bytes) clauses → Shape vars pending (field ++ b ∷ bytes) (once pending ∷ clauses)
end_shape vars pending field negative b bytes clauses writes blank shape = inr (record {
  lead = [];
  spaced = [];
  lits = [];
  ending = field;
  negative = negative;
  rest = b ∷ bytes;
  others = clauses;
  bytes_are = refl;
  lead_is = no_lead pending;
  literals = tt;
  ends = writes;
  clauses_are = ap (λ (c : Clause). c ∷ clauses) (once_is pending ∙ ap each_once (sym (append-nil pending)));
  rest_is = as_clauses vars b bytes clauses blank shape;
})

shape_of : {vars : ℕ} {pending : Clause} {bytes : List ℕ} {clauses : List Clause} → Tail vars pending bytes clauses → Shape vars pending bytes clauses
shape_of nothing = inl (record { no_literal = refl; no_clause = refl; gap = inl refl })
shape_of {vars} {pending} {bytes = _} {clauses} (blank_first {bytes = bytes} b is rest) = blank_shape vars pending b bytes clauses is (shape_of rest)
shape_of {vars} {clauses = clauses} (comment_first {bytes = bytes} note free rest) = note_shape vars note bytes clauses free (shape_of rest)
shape_of {vars} {pending} {bytes = _} {clauses} (literal_first {bytes = bytes} field lit b writes within is rest) = literal_shape vars pending field lit b bytes clauses writes within is (shape_of rest)
shape_of {vars} {pending} (end_first {bytes = bytes} {clauses = clauses} field negative b writes is rest) = end_shape vars pending field negative b bytes clauses writes is (shape_of rest)

pub tail_spelled : (vars : ℕ) (bytes : List ℕ) (clauses : List Clause) → Tail vars [] (10 ∷ bytes) clauses → Clauses vars (10 ∷ bytes) clauses
tail_spelled vars bytes clauses tail = as_clauses vars 10 bytes clauses refl (shape_of tail)
