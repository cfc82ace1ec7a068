-- The words of a line that has fields, and the fields of a line that has words.
use Rattle.std.proofs.Common.{◌≡◌, ◌∙◌, ◌<◌, ◌+◌, ◌-◌, ℕ, Bool, true, false, suc, refl, sym, ap, subst, arith, List, [], ◌∷◌, ◌++◌, length, inl, inr, append_assoc, append-nil}
use Rattle.std.specs.Prelude.{◌==◌, ◌&&◌, not, if◌then◌else◌, map, slice_index}
use Rattle.std.specs.List.{AllZip, filter, list_any, list_all, concat}
use Rattle.std.proofs.lemmas.Bool.{cases_Bool, and_parts, or_parts, not-true}
use Rattle.dimacs_text.specs.Parts.{Part, front, parts, words, with_byte, has_bytes, is_empty, is_space}
use Rattle.lrat_lines.specs.Lines.{has_outer_space}
use Rattle.lrat_lines.specs.Spelled.{IsSpaced, HasFields}

-- the bytes of each part
abbrev pub bytes_of : List Part → List (List ℕ)
bytes_of ws = map (λ (w : Part). w.bytes) ws

-- a field more, unless it has no byte
abbrev with_field : List ℕ → List (List ℕ) → List (List ℕ)
with_field [] fields = fields
with_field (b ∷ bs) fields = (b ∷ bs) ∷ fields

-- the fields behind the first space
abbrev behind : List ℕ → List (List ℕ)
behind [] = []
behind (b ∷ bs) = if is_space b then with_field (front is_space bs) (behind bs) else behind bs

-- ---- words

abbrev part : ℕ → List ℕ → Part
part at bytes = record { start = at; bytes = bytes }

kept : (at : ℕ) (field : List ℕ) (ps : List Part) → bytes_of (filter has_bytes (part at field ∷ ps)) ≡ with_field field (bytes_of (filter has_bytes ps))
kept at [] ps = refl
kept at (b ∷ bs) ps = refl

-- the first part, and the fields behind it
record Begins (ps : List Part) (at : ℕ) (first : List ℕ) (fields : List (List ℕ)) : Type 0 where
  pub others : List Part
  pub is : ps ≡ part at first ∷ others
  pub fields_are : bytes_of (filter has_bytes others) ≡ fields

begins : (at b : ℕ) (bs : List ℕ) → Begins (parts is_space at (b ∷ bs)) at (front is_space (b ∷ bs)) (behind (b ∷ bs))
begins at b [] = elim (cases_Bool (is_space b)) [
  | inl e ↦ rw e (record { others = []; is = refl; fields_are = refl })
  | inr e ↦ rw e (record { others = []; is = refl; fields_are = refl })
]
begins at b (c ∷ bs) =
    let rest = begins (at + 1) c bs in
    let first = front is_space (c ∷ bs) in
    elim (cases_Bool (is_space b)) [
      | inl e ↦ rw e (record {
        others = parts is_space (at + 1) (c ∷ bs);
        is = refl;
        fields_are = ap (λ (ps : List Part). bytes_of (filter has_bytes ps)) rest.is ∙ kept (at + 1) first rest.others ∙ ap (with_field first) rest.fields_are;
      })
      | inr e ↦ rw e (record { others = rest.others; is = ap (with_byte at b) rest.is; fields_are = rest.fields_are })
    ]

words_are : (at : ℕ) (bytes : List ℕ) → bytes_of (words is_space at bytes) ≡ with_field (front is_space bytes) (behind bytes)
words_are at [] = refl
words_are at (b ∷ bs) =
    let first = begins at b bs in
    ap (λ (ps : List Part). bytes_of (filter has_bytes ps)) first.is ∙ kept at (front is_space (b ∷ bs)) first.others ∙ ap (with_field (front is_space (b ∷ bs))) first.fields_are

-- ---- spaces at the ends

abbrev ends_spaced : List ℕ → Bool
ends_spaced [] = false
ends_spaced (b ∷ []) = is_space b
ends_spaced (b ∷ c ∷ bs) = ends_spaced (c ∷ bs)

last_is : (b : ℕ) (bs : List ℕ) → (slice_index (b ∷ bs) (length (b ∷ bs) - 1) == 32) ≡ ends_spaced (b ∷ bs)
last_is b [] = refl
last_is b (c ∷ bs) = let place : suc (suc (length bs)) - 1 ≡ suc (suc (length bs) - 1) = omega arith in rw place (last_is c bs)

inner : (b : ℕ) (bs : List ℕ) → has_outer_space (b ∷ bs) ≡ false → (is_space b ≡ false) × (ends_spaced (b ∷ bs) ≡ false)
inner b bs e =
    let both = or_parts (is_space b) (slice_index (b ∷ bs) (length (b ∷ bs) - 1) == 32) e in
    (both.0, sym (last_is b bs) ∙ both.1)

no_outer : (b : ℕ) (bs : List ℕ) → is_space b ≡ false → ends_spaced (b ∷ bs) ≡ false → has_outer_space (b ∷ bs) ≡ false
no_outer b bs first last = rw (first, last_is b bs) last

-- ---- from words to fields

-- a space more
spaced_more : (b : ℕ) (bs first : List ℕ) (fields : List (List ℕ)) → is_space b ≡ true → 0 < length bs → (spaced : List (List ℕ)) → bs ≡ first ++ concat spaced → AllZip IsSpaced spaced fields
    → HasFields (b ∷ bs) [] (with_field first fields)
spaced_more b bs (x ∷ xs) fields space some spaced is all = record {
  spaced = (b ∷ x ∷ xs) ∷ spaced;
  line_is = ap (λ (l : List ℕ). b ∷ l) is;
  others_are = (record { gap = b ∷ []; bytes_are = refl; gap_is = rw space refl; some = omega arith }, all);
}
spaced_more b bs [] fields space some [] is all = let none : length bs ≡ 0 = ap length is in absurd (omega arith)
spaced_more b bs [] [] space some (s ∷ spaced) is all = absurd all
spaced_more b bs [] (field ∷ fields) space some (s ∷ spaced) is all =
    let first = all.0 in
    record {
      spaced = (b ∷ s) ∷ spaced;
      line_is = ap (λ (l : List ℕ). b ∷ l) is;
      others_are = (record { gap = b ∷ first.gap; bytes_are = ap (λ (l : List ℕ). b ∷ l) first.bytes_are; gap_is = rw space first.gap_is; some = omega arith }, all.1);
    }

has_fields : (bytes : List ℕ) → ends_spaced bytes ≡ false → HasFields bytes (front is_space bytes) (behind bytes)
has_fields [] e = record { spaced = []; line_is = refl; others_are = tt }
has_fields (b ∷ []) e = rw e (record { spaced = []; line_is = refl; others_are = tt })
has_fields (b ∷ c ∷ bs) e =
    let rest = has_fields (c ∷ bs) e in
    elim (cases_Bool (is_space b)) [
      | inl d ↦ rw d (spaced_more b (c ∷ bs) (front is_space (c ∷ bs)) (behind (c ∷ bs)) d (omega arith) rest.spaced rest.line_is rest.others_are)
      | inr d ↦ rw d (record { spaced = rest.spaced; line_is = ap (λ (l : List ℕ). b ∷ l) rest.line_is; others_are = rest.others_are })
    ]

-- ---- from fields to words

-- one byte or more, and no space
abbrev pub is_field : List ℕ → Bool
is_field bytes = not (is_empty bytes) && not (list_any is_space bytes)

record IsField (field : List ℕ) : Type 0 where
  pub first : ℕ
  pub others : List ℕ
  pub is : field ≡ first ∷ others
  pub free : list_any is_space field ≡ false

taken : (field : List ℕ) → is_field field ≡ true → IsField field
taken [] e = absurd cc
taken (b ∷ bs) e = record { first = b; others = bs; is = refl; free = not-true (list_any is_space (b ∷ bs)) e }

front_first : (field rest : List ℕ) → list_any is_space field ≡ false → front is_space rest ≡ [] → front is_space (field ++ rest) ≡ field
front_first [] rest free stops = stops
front_first (x ∷ xs) rest free stops =
    let both = or_parts (is_space x) (list_any is_space xs) free in
    rw both.0 (ap (λ (l : List ℕ). x ∷ l) (front_first xs rest both.1 stops))

behind_first : (field rest : List ℕ) → list_any is_space field ≡ false → behind (field ++ rest) ≡ behind rest
behind_first [] rest free = refl
behind_first (x ∷ xs) rest free = let both = or_parts (is_space x) (list_any is_space xs) free in rw both.0 (behind_first xs rest both.1)

-- spaces, a field, and what does not go on with it
spaces_first : (gap field rest : List ℕ) → list_all is_space gap ≡ true → IsField field → front is_space rest ≡ []
    → with_field (front is_space (gap ++ (field ++ rest))) (behind (gap ++ (field ++ rest))) ≡ field ∷ behind rest
spaces_first [] field rest all is stops =
    ap (λ (l : List ℕ). with_field l (behind (field ++ rest))) (front_first field rest is.free stops)
    ∙ ap (with_field field) (behind_first field rest is.free)
    ∙ ap (λ (l : List ℕ). with_field l (behind rest)) is.is
    ∙ ap (λ (l : List ℕ). l ∷ behind rest) (sym is.is)
spaces_first (g ∷ gap) field rest all is stops =
    let both = and_parts (is_space g) (list_all is_space gap) all in
    rw both.0 (spaces_first gap field rest both.1 is stops)

ends_later : (xs ys : List ℕ) (y : ℕ) → ends_spaced (xs ++ y ∷ ys) ≡ ends_spaced (y ∷ ys)
ends_later [] ys y = refl
ends_later (x ∷ []) ys y = refl
ends_later (x ∷ z ∷ xs) ys y = ends_later (z ∷ xs) ys y

ends_field : (field : List ℕ) → list_any is_space field ≡ false → ends_spaced field ≡ false
ends_field [] free = refl
ends_field (x ∷ []) free = (or_parts (is_space x) false free).0
ends_field (x ∷ y ∷ xs) free = ends_field (y ∷ xs) (or_parts (is_space x) (list_any is_space (y ∷ xs)) free).1

-- what stands behind the first field
record Follow (rest : List ℕ) (fields : List (List ℕ)) : Type 0 where
  pub stops : front is_space rest ≡ []
  pub fields_are : behind rest ≡ fields
  pub end : (field : List ℕ) → IsField field → ends_spaced (field ++ rest) ≡ false

gap_follows : (gap field rest : List ℕ) (fields : List (List ℕ)) → 0 < length gap → list_all is_space gap ≡ true → IsField field → Follow rest fields → Follow (gap ++ (field ++ rest)) (field ∷ fields)
gap_follows [] field rest fields some all is more = absurd (omega arith)
gap_follows (g ∷ gap) field rest fields some all is more =
    let both = and_parts (is_space g) (list_all is_space gap) all in
    record {
      stops = rw both.0 refl;
      fields_are = rw both.0 (spaces_first gap field rest both.1 is more.stops ∙ ap (λ (fs : List (List ℕ)). field ∷ fs) more.fields_are);
      end = λ other first.
          ap (λ (l : List ℕ). ends_spaced (other ++ (g ∷ (gap ++ (l ++ rest))))) is.is
          ∙ ap ends_spaced (sym (append_assoc other (g ∷ gap) (is.first ∷ (is.others ++ rest))))
          ∙ ends_later (other ++ (g ∷ gap)) (is.others ++ rest) is.first
          ∙ ap (λ (l : List ℕ). ends_spaced (l ++ rest)) (sym is.is)
          ∙ more.end field is;
    }

follow : (spaced fields : List (List ℕ)) → AllZip IsSpaced spaced fields → list_all is_field fields ≡ true → Follow (concat spaced) fields
follow [] [] all good = record { stops = refl; fields_are = refl; end = λ field is. ap ends_spaced (append-nil field) ∙ ends_field field is.free }
follow [] (field ∷ fields) all good = absurd all
follow (s ∷ spaced) [] all good = absurd all
follow (s ∷ spaced) (field ∷ fields) all good =
    let both = and_parts (is_field field) (list_all is_field fields) good in
    let first = all.0 in
    let whole : first.gap ++ (field ++ concat spaced) ≡ s ++ concat spaced = sym (append_assoc first.gap field (concat spaced)) ∙ ap (λ (l : List ℕ). l ++ concat spaced) (sym first.bytes_are) in
    subst (λ (l : List ℕ). Follow l (field ∷ fields)) whole (gap_follows first.gap field (concat spaced) fields first.some first.gap_is (taken field both.0) (follow spaced fields all.1 both.1))

-- the words of a line that has fields
pub record HasWords (line first : List ℕ) (others : List (List ℕ)) : Type 0 where
  pub inner : has_outer_space line ≡ false
  pub words_are : bytes_of (words is_space 0 line) ≡ first ∷ others

pub has_words : (first : List ℕ) (others : List (List ℕ)) (line : List ℕ) → is_field first ≡ true → list_all is_field others ≡ true → HasFields line first others → HasWords line first others
has_words [] others line good goods has = absurd cc
has_words (b ∷ bs) others line good goods has =
    let is = taken (b ∷ bs) good in
    let rest = follow has.spaced others has.others_are goods in
    let whole = concat has.spaced in
    let front_is : front is_space (b ∷ (bs ++ whole)) ≡ b ∷ bs = front_first (b ∷ bs) whole is.free rest.stops in
    let behind_is : behind (b ∷ (bs ++ whole)) ≡ others = behind_first (b ∷ bs) whole is.free ∙ rest.fields_are in
    subst (λ (l : List ℕ). HasWords l (b ∷ bs) others) (sym has.line_is) (record {
      inner = no_outer b (bs ++ whole) (or_parts (is_space b) (list_any is_space bs) is.free).0 (rest.end (b ∷ bs) is);
      words_are = words_are 0 (b ∷ (bs ++ whole)) ∙ ap (λ (l : List ℕ). with_field l (behind (b ∷ (bs ++ whole)))) front_is ∙ ap (λ (fs : List (List ℕ)). (b ∷ bs) ∷ fs) behind_is;
    })

-- a line with no outer space has the fields that its words are
pub words_fields : (b : ℕ) (bs : List ℕ) (word : Part) (ws : List Part) → has_outer_space (b ∷ bs) ≡ false → words is_space 0 (b ∷ bs) ≡ word ∷ ws → HasFields (b ∷ bs) word.bytes (bytes_of ws)
words_fields b bs word ws outer is =
    let both = inner b bs outer in
    let has = has_fields (b ∷ bs) both.1 in
    let front_is : front is_space (b ∷ bs) ≡ b ∷ front is_space bs = rw both.0 refl in
    let same : word.bytes ∷ bytes_of ws ≡ with_field (front is_space (b ∷ bs)) (behind (b ∷ bs)) = ap bytes_of (sym is) ∙ words_are 0 (b ∷ bs) in
    let split : word.bytes ∷ bytes_of ws ≡ front is_space (b ∷ bs) ∷ behind (b ∷ bs) =
    same ∙ ap (λ (l : List ℕ). with_field l (behind (b ∷ bs))) front_is ∙ ap (λ (l : List ℕ). l ∷ behind (b ∷ bs)) (sym front_is) in
    let first : word.bytes ≡ front is_space (b ∷ bs) = cc in
    let others : bytes_of ws ≡ behind (b ∷ bs) = cc in
    subst (λ (l : List ℕ). HasFields (b ∷ bs) l (bytes_of ws)) (sym first) (subst (λ (fs : List (List ℕ)). HasFields (b ∷ bs) (front is_space (b ∷ bs)) fs) (sym others) has)
