-- A line is said exactly where it is spelled.
use Rattle.std.proofs.Common.{◌≡◌, ◌∙◌, ℕ, true, false, refl, sym, ap, subst, List, [], ◌∷◌, ◌++◌, inl, inr, Option, Some, None, append_assoc}
use Rattle.std.specs.Prelude.{◌⊎◌, not, if◌then◌else◌}
use Rattle.std.specs.List.{AllZip, list_any, list_all, concat}
use Rattle.std.specs.Char.{is_ascii_digit}
use Rattle.std.specs.Str.{bytes_eq}
use Rattle.std.proofs.lemmas.Bool.{cases_Bool, and_parts, or_parts, not-true}
use Rattle.std.proofs.lemmas.Bool.Decides.{eqb_tells}
use Rattle.std.proofs.lemmas.List.Folds.{list_all-append}
use Rattle.std.proofs.lemmas.Slice.Eq.{bytes_eq-Decides}
use Rattle.dimacs_text.specs.Parts.{Part, words, is_space}
use Rattle.decimal_text.specs.Number.{number_up_to}
use Rattle.dimacs_text.specs.declared.number.Signed.{Signed}
use Rattle.lrat_lines.specs.Lines.{Line, skipped, broken, addition, deletion, field_of, list_from, list_of, deletion_of, with_hints, addition_of, behind_id, with_id, fields_say, has_outer_space, line_of}
use Rattle.lrat_lines.specs.Spelled.{WritesId, WritesListed, zero_field, letter_d, HasFields, WritesAddition, WritesDeletion, WritesLine, SpellsLine, LinesAreSpelled}
use Rattle.lrat_lines.proofs.FieldSays.{deletes}
use Rattle.lrat_lines.proofs.SpelledFields.{bytes_of, is_field, has_words, words_fields}
use Rattle.lrat_lines.proofs.SpelledLists.{digit_apart, number_field_is, listed_fields, id_begins, id_read, id_found, list_found, list_read}

-- ---- a line that is written is read

said_by : (d : ℕ) (bs : List ℕ) → is_ascii_digit d ≡ true → has_outer_space (d ∷ bs) ≡ false → line_of (d ∷ bs) ≡ fields_say (words is_space 0 (d ∷ bs))
said_by d bs digit inner = rw (digit_apart d 99 refl digit, inner) refl

-- the first word writes an id
record BehindId (says : Line) (id : ℕ) (others : List (List ℕ)) : Type 0 where
  pub words : List Part
  pub is : says ≡ behind_id id words
  pub words_are : bytes_of words ≡ others

id_said : (ws : List Part) (first : List ℕ) (others : List (List ℕ)) (id : ℕ) → bytes_of ws ≡ first ∷ others → WritesId first id → BehindId (fields_say ws) id others
id_said [] first others id are writes = absurd cc
id_said (word ∷ ws) first others id are writes =
    let bytes : word.bytes ≡ first = cc in
    let rest : bytes_of ws ≡ others = cc in
    record { words = ws; is = ap (λ (o : Option ℕ). with_id o ws) (ap (number_up_to 4294967295) bytes ∙ id_read first id writes); words_are = rest }

line_said : (line first : List ℕ) (others : List (List ℕ)) (id : ℕ) → HasFields line first others → WritesId first id → list_all is_field others ≡ true → BehindId (line_of line) id others
line_said line first others id has writes good =
    let begins = id_begins first id writes in
    let line_is : line ≡ begins.first ∷ (begins.others ++ concat has.spaced) = has.line_is ∙ ap (λ (l : List ℕ). l ++ concat has.spaced) begins.is in
    let are = has_words first others line (number_field_is first false id writes.writes) good has in
    let says : line_of line ≡ fields_say (words is_space 0 line) =
    subst (λ (l : List ℕ). line_of l ≡ fields_say (words is_space 0 l)) (sym line_is)
    (said_by begins.first (begins.others ++ concat has.spaced) begins.digit (subst (λ (l : List ℕ). has_outer_space l ≡ false) line_is are.inner)) in
    let behind = id_said (words is_space 0 line) first others id are.words_are writes in
    record { words = behind.words; is = says ∙ behind.is; words_are = behind.words_are }

no_words : (ws : List Part) → bytes_of ws ≡ [] → ws ≡ []
no_words [] are = refl
no_words (word ∷ ws) are = absurd cc

-- the word behind the id is not `d` where a list begins with it
adds : (id : ℕ) (ws : List Part) (found : List Signed × List Part) → list_of ws ≡ Some found → behind_id id ws ≡ addition_of id (Some found)
adds id [] found is = absurd cc
adds id (word ∷ ws) found is = elim (cases_Bool (bytes_eq word.bytes letter_d)) [
  | inl e ↦
      let letter : word.bytes ≡ letter_d = (bytes_eq-Decides word.bytes letter_d).0 e in
      let no : None ≡ Some found = ap (λ (l : List ℕ). list_from (field_of l) ws (list_of ws)) (sym letter) ∙ is in
      absurd cc
  | inr e ↦ rw e (ap (addition_of id) is)
]

adds_behind : (id : ℕ) (ws : List Part) (lit_fields hint_fields : List (List ℕ)) (lits hints : List Signed) → bytes_of ws ≡ lit_fields ++ zero_field ∷ (hint_fields ++ zero_field ∷ []) → AllZip WritesListed lit_fields lits
    → AllZip WritesListed hint_fields hints → behind_id id ws ≡ addition id lits hints
adds_behind id ws lit_fields hint_fields lits hints are lits_write hints_write =
    let first = list_read lit_fields lits ws (hint_fields ++ zero_field ∷ []) lits_write are in
    let second = list_read hint_fields hints first.others [] hints_write first.others_are in
    adds id ws (lits, first.others) first.is ∙ ap (with_hints id lits) (second.is ∙ ap (λ (r : List Part). Some (hints, r)) (no_words second.others second.others_are))

good_lists : (lit_fields hint_fields : List (List ℕ)) → list_all is_field lit_fields ≡ true → list_all is_field hint_fields ≡ true → list_all is_field (lit_fields ++ zero_field ∷ (hint_fields ++ zero_field ∷ [])) ≡ true
good_lists lit_fields hint_fields lits_good hints_good =
    rw (list_all-append is_field lit_fields (zero_field ∷ (hint_fields ++ zero_field ∷ [])), lits_good, list_all-append is_field hint_fields (zero_field ∷ []), hints_good) refl

addition_read : (line : List ℕ) (id : ℕ) (lits hints : List Signed) → WritesAddition line id lits hints → line_of line ≡ addition id lits hints
addition_read line id lits hints is =
    let others = is.lit_fields ++ zero_field ∷ (is.hint_fields ++ zero_field ∷ []) in
    let has : HasFields line is.id_field others = subst (HasFields line is.id_field) (append_assoc is.lit_fields (zero_field ∷ is.hint_fields) (zero_field ∷ [])) is.fields_are in
    let good = good_lists is.lit_fields is.hint_fields (listed_fields is.lit_fields lits is.lits_write) (listed_fields is.hint_fields hints is.hints_write) in
    let said = line_said line is.id_field others id has is.id_writes good in
    said.is ∙ adds_behind id said.words is.lit_fields is.hint_fields lits hints said.words_are is.lits_write is.hints_write

plain : (ids : List Signed) → list_all (λ (id : Signed). not id.negative) ids ≡ true → list_any (λ (id : Signed). id.negative) ids ≡ false
plain [] all = refl
plain (id ∷ ids) all =
    let both = and_parts (not id.negative) (list_all (λ (other : Signed). not other.negative) ids) all in
    rw (not-true id.negative both.0) (plain ids both.1)

deletes_behind : (own : ℕ) (ws : List Part) (fields : List (List ℕ)) (ids : List Signed) → bytes_of ws ≡ letter_d ∷ fields ++ zero_field ∷ [] → AllZip WritesListed fields ids
    → list_any (λ (id : Signed). id.negative) ids ≡ false → behind_id own ws ≡ deletion ids
deletes_behind own [] fields ids are write free = absurd cc
deletes_behind own (word ∷ ws) fields ids are write free =
    let letter : word.bytes ≡ letter_d = cc in
    let rest : bytes_of ws ≡ fields ++ zero_field ∷ [] = cc in
    let read = list_read fields ids ws [] write rest in
    ap (λ (l : List ℕ). if bytes_eq l letter_d then deletion_of (list_of ws) else addition_of own (list_of (word ∷ ws))) letter
    ∙ deletes (list_of ws) ids read.others read.is (no_words read.others read.others_are) free

deletion_read : (line : List ℕ) (ids : List Signed) → WritesDeletion line ids → line_of line ≡ deletion ids
deletion_read line ids is =
    let id_good = listed_fields is.id_fields ids is.ids_write in
    let good : list_all is_field (letter_d ∷ is.id_fields ++ zero_field ∷ []) ≡ true = rw (list_all-append is_field is.id_fields (zero_field ∷ []), id_good) refl in
    let said = line_said line is.own_field (letter_d ∷ is.id_fields ++ zero_field ∷ []) is.own is.fields_are is.own_writes good in
    said.is ∙ deletes_behind is.own said.words is.id_fields ids said.words_are is.ids_write (plain ids is.no_hyphen)

line_read : (bytes : List ℕ) (line : Line) → WritesLine bytes line → line_of bytes ≡ line
line_read bytes skipped writes = elim writes [ inl e ↦ ap line_of e | inr w ↦ ap line_of w.1 ]
line_read bytes broken writes = absurd writes
line_read bytes (addition id lits hints) writes = addition_read bytes id lits hints writes
line_read bytes (deletion ids) writes = deletion_read bytes ids writes

-- ---- a line that is read is written

abbrev Written : List ℕ → Line → Type 0
Written bytes line = WritesLine bytes line ⊎ (line ≡ broken)

all_plain : (ids : List Signed) → list_any (λ (id : Signed). id.negative) ids ≡ false → list_all (λ (id : Signed). not id.negative) ids ≡ true
all_plain [] free = refl
all_plain (id ∷ ids) free =
    let both = or_parts id.negative (list_any (λ (other : Signed). other.negative) ids) free in
    rw both.0 (all_plain ids both.1)

deletion_written : (bytes first : List ℕ) (own : ℕ) (ws : List Part) (found : Option (List Signed × List Part)) → HasFields bytes first (letter_d ∷ bytes_of ws) → WritesId first own → list_of ws ≡ found
    → Written bytes (deletion_of found)
deletion_written bytes first own ws None has writes is = inr refl
deletion_written bytes first own ws (Some (ids, [])) has writes is = elim (cases_Bool (list_any (λ (id : Signed). id.negative) ids)) [
  | inl e ↦ rw e (inr refl)
  | inr e ↦
      let list = list_found ws ids [] is in
      let deleted : WritesDeletion bytes ids = record {
        own = own;
        own_field = first;
        id_fields = list.fields;
        fields_are = subst (λ (fs : List (List ℕ)). HasFields bytes first (letter_d ∷ fs)) list.fields_are has;
        own_writes = writes;
        ids_write = list.write;
        no_hyphen = all_plain ids e;
      } in
      rw e (inl deleted)
]
deletion_written bytes first own ws (Some (ids, word ∷ rest)) has writes is = inr refl

hints_written : (bytes first : List ℕ) (id : ℕ) (ws rest : List Part) (lits : List Signed) (found : Option (List Signed × List Part)) → HasFields bytes first (bytes_of ws) → WritesId first id
    → list_of ws ≡ Some (lits, rest) → list_of rest ≡ found → Written bytes (with_hints id lits found)
hints_written bytes first id ws rest lits None has writes is also = inr refl
hints_written bytes first id ws rest lits (Some (hints, [])) has writes is also =
    let list = list_found ws lits rest is in
    let behind = list_found rest hints [] also in
    inl (record {
      id_field = first;
      lit_fields = list.fields;
      hint_fields = behind.fields;
      fields_are = subst (HasFields bytes first)
          (list.fields_are ∙ ap (λ (fs : List (List ℕ)). list.fields ++ zero_field ∷ fs) behind.fields_are ∙ sym (append_assoc list.fields (zero_field ∷ behind.fields) (zero_field ∷ []))) has;
      id_writes = writes;
      lits_write = list.write;
      hints_write = behind.write;
    })
hints_written bytes first id ws rest lits (Some (hints, word ∷ others)) has writes is also = inr refl

addition_written : (bytes first : List ℕ) (id : ℕ) (ws : List Part) (found : Option (List Signed × List Part)) → HasFields bytes first (bytes_of ws) → WritesId first id → list_of ws ≡ found
    → Written bytes (addition_of id found)
addition_written bytes first id ws None has writes is = inr refl
addition_written bytes first id ws (Some (lits, rest)) has writes is = hints_written bytes first id ws rest lits (list_of rest) has writes is refl

behind_written : (bytes first : List ℕ) (id : ℕ) (ws : List Part) → HasFields bytes first (bytes_of ws) → WritesId first id → Written bytes (behind_id id ws)
behind_written bytes first id [] has writes = inr refl
behind_written bytes first id (word ∷ ws) has writes = elim (cases_Bool (bytes_eq word.bytes letter_d)) [
  | inl e ↦
      let letter : word.bytes ≡ letter_d = (bytes_eq-Decides word.bytes letter_d).0 e in
      let lettered : HasFields bytes first (letter_d ∷ bytes_of ws) = subst (λ (l : List ℕ). HasFields bytes first (l ∷ bytes_of ws)) letter has in
      rw e (deletion_written bytes first id ws (list_of ws) lettered writes refl)
  | inr e ↦ rw e (addition_written bytes first id (word ∷ ws) (list_of (word ∷ ws)) has writes refl)
]

id_written : (bytes first : List ℕ) (ws : List Part) (o : Option ℕ) → HasFields bytes first (bytes_of ws) → number_up_to 4294967295 first ≡ o → Written bytes (with_id o ws)
id_written bytes first ws None has is = inr refl
id_written bytes first ws (Some id) has is = behind_written bytes first id ws has (id_found first id is)

fields_written : (b : ℕ) (bs : List ℕ) (ws : List Part) → has_outer_space (b ∷ bs) ≡ false → words is_space 0 (b ∷ bs) ≡ ws → Written (b ∷ bs) (fields_say ws)
fields_written b bs [] inner is = inr refl
fields_written b bs (word ∷ ws) inner is = id_written (b ∷ bs) word.bytes ws (number_up_to 4294967295 word.bytes) (words_fields b bs word ws inner is) refl

line_written : (bytes : List ℕ) → Written bytes (line_of bytes)
line_written [] = inl (inl refl)
line_written (b ∷ bs) = elim (eqb_tells b 99) [
  | inl t ↦ rw t.0 (inl (inr (bs, ap (λ (x : ℕ). x ∷ bs) t.1)))
  | inr t ↦ elim (cases_Bool (has_outer_space (b ∷ bs))) [
    | inl e ↦ rw (t.0, e) (inr refl)
    | inr e ↦ rw (t.0, e) (fields_written b bs (words is_space 0 (b ∷ bs)) e refl)
  ]
]

-- ---- the law

-- what is said, and is not broken, is written
written_as : (bytes : List ℕ) (line : Line) → line_of bytes ≡ line → (line ≡ broken → ⊥) → WritesLine bytes line
written_as bytes line is some = elim (subst (Written bytes) is (line_written bytes)) [ inl w ↦ w | inr e ↦ absurd (some e) ]

spelled : (bytes : List ℕ) (line : Line) → line_of bytes ≡ line → SpellsLine bytes line
spelled bytes skipped is = written_as bytes skipped is (λ e. cc)
spelled bytes broken is = λ other writes. subst (WritesLine bytes) (sym (line_read bytes other writes) ∙ is) writes
spelled bytes (addition id lits hints) is = written_as bytes (addition id lits hints) is (λ e. cc)
spelled bytes (deletion ids) is = written_as bytes (deletion ids) is (λ e. cc)

said : (bytes : List ℕ) (line : Line) → SpellsLine bytes line → line_of bytes ≡ line
said bytes skipped spells = line_read bytes skipped spells
said bytes broken spells = elim (line_written bytes) [ inl w ↦ absurd (spells (line_of bytes) w) | inr e ↦ e ]
said bytes (addition id lits hints) spells = line_read bytes (addition id lits hints) spells
said bytes (deletion ids) spells = line_read bytes (deletion ids) spells

pub lines_spelled : LinesAreSpelled
lines_spelled bytes line = (spelled bytes line, said bytes line)
