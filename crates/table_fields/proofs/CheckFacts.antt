-- What a field of digits and a front of good fields say of the checks.
use Rattle.std.proofs.Common.{◌≡◌, ◌∙◌, ℕ, zero, suc, zero-add, add-zero, ◌+◌, ◌<◌, ◌≤◌, ◌&&◌, Bool, true, false, not, sym, refl, ap, arith, List, [], ◌∷◌, length, map, get_or, Option, Some, None, Result, Ok, Err, eqb}
use Rattle.rsfq_ids.specs.declared.limits.TheConstants.{TIME_LIMIT}
use Rattle.std.proofs.lemmas.Bool.{eqb-false, ne_eqb}
use Rattle.std.specs.Prelude.{nat_le}
use Rattle.std.specs.List.{list_all, range_with_len}
use Rattle.std.proofs.lemmas.List.FromFn.{get_or-range_with_len, length-range_with_len}
use Rattle.std.specs.Result.{IsOk, MatchResult}
use Rattle.std.specs.Borrow.{Bor}
use Rattle.std.proofs.Math.ListN.{get_or-map}
use Rattle.std.specs.Str.{IsUtf8, bytes_eq, is_utf8}
use Rattle.std.proofs.lemmas.List.{length-map}
use Rattle.std.proofs.lemmas.Bool.{false≢true}
use Rattle.std.proofs.lemmas.List.Folds.{list_all_at}
use Rattle.std.proofs.lemmas.Str.{IsUtf8-from_is_utf8}
use Rattle.std.specs.Str.{all_ascii_digits}
use Rattle.std.specs.Str.Parse.{IsNumeral, digits_value}
use Rattle.std.proofs.lemmas.Str.Parse.{IsNumeralModel, numerals_by_value, tells_all_ascii_digits}
use Rattle.rsfq_ids.specs.declared.table_fault.TableWhy.{TableWhy}
use Rattle.rsfq_ids.specs.declared.table_fault.TableWhy.TheVariants.{Number, OutOfRange, Utf8}
use Rattle.table_fields.specs.Records.{are_fields, field, text_fault, first_of, is_empty, is_in_range, is_number, time_fault, unless}

pub false_from : (b : Bool) → ¬ (b ≡ true) → b ≡ false
false_from true not_so = absurd (not_so refl)
false_from false not_so = refl

own : IsNumeralModel (λ ds. all_ascii_digits ds ≡ true) (digits_value 10)
own = numerals_by_value (λ ds. all_ascii_digits ds ≡ true) tells_all_ascii_digits

pub and_left : (a b : Bool) → (a && b) ≡ true → a ≡ true
and_left true b e = refl
and_left false b e = cc

pub and_right : (a b : Bool) → (a && b) ≡ true → b ≡ true
and_right true b e = e
and_right false b e = cc

pub number_from : (text : List ℕ) → IsNumeral 10 text → is_number text ≡ true
number_from text numeral =
    let some : eqb (length text) 0 ≡ false = ne_eqb (length text) 0 (omega (arith, numeral.0)) in
    rw (some, own.from text numeral.1) refl

pub numeral_from : (text : List ℕ) → is_number text ≡ true → IsNumeral 10 text
numeral_from text is = (some (is_empty text) refl (and_left (not (is_empty text)) (all_ascii_digits text) is), own.to text (and_right (not (is_empty text)) (all_ascii_digits text) is))
  where
    some : (b : Bool) → is_empty text ≡ b → not b ≡ true → 0 < length text
    some true e bad = cc
    some false e good = let other = eqb-false (length text) 0 e in omega arith

pub time_malformed : (column least : ℕ) (text : List ℕ) → ¬ IsNumeral 10 text → time_fault column least text ≡ Some (Number column)
unfolding first_of
time_malformed column least text not_so =
    let bad : is_number text ≡ false = false_from (is_number text) (λ is. not_so (numeral_from text is)) in
    ap (λ b. first_of (unless b (Number column) ∷ unless (is_in_range least text) (OutOfRange column) ∷ [])) bad

pub time_within : (column least : ℕ) (text : List ℕ) (b : Bool) → IsNumeral 10 text → is_in_range least text ≡ b → time_fault column least text ≡ unless b (OutOfRange column)
unfolding first_of
time_within column least text b numeral within =
    ap (λ n. first_of (unless n (Number column) ∷ unless (is_in_range least text) (OutOfRange column) ∷ [])) (number_from text numeral)
    ∙ (ap (λ r. first_of (unless r (OutOfRange column) ∷ [])) within ∙ alone b)
  where
    alone : (b : Bool) → first_of (unless b (OutOfRange column) ∷ []) ≡ unless b (OutOfRange column)
    alone true = refl
    alone false = refl

range_false : (least value : ℕ) → (value < least) → (nat_le least value && nat_le value TIME_LIMIT) ≡ false
range_false least value less = grind arith

range_far : (least value : ℕ) → (TIME_LIMIT < value) → (nat_le least value && nat_le value TIME_LIMIT) ≡ false
range_far least value less = grind arith

range_true : (least value : ℕ) → least ≤ value → value ≤ TIME_LIMIT → (nat_le least value && nat_le value TIME_LIMIT) ≡ true
range_true least value low high = grind arith

pub time_small : (column least : ℕ) (text : List ℕ) → IsNumeral 10 text → digits_value 10 text < least → time_fault column least text ≡ Some (OutOfRange column)
time_small column least text numeral less = time_within column least text false numeral (range_false least (digits_value 10 text) less)

pub time_large : (column least : ℕ) (text : List ℕ) → IsNumeral 10 text → TIME_LIMIT < digits_value 10 text → time_fault column least text ≡ Some (OutOfRange column)
time_large column least text numeral less = time_within column least text false numeral (range_far least (digits_value 10 text) less)

pub time_good : (column least : ℕ) (text : List ℕ) → IsNumeral 10 text → least ≤ digits_value 10 text → digits_value 10 text ≤ TIME_LIMIT → time_fault column least text ≡ None
time_good column least text numeral low high = time_within column least text true numeral (range_true least (digits_value 10 text) low high)

pub no_time : (column least : ℕ) (text : List ℕ) → time_fault column least text ≡ None → (is_number text ≡ true) × (is_in_range least text ≡ true)
unfolding first_of
no_time column least text none = go (is_number text) (is_in_range least text) none
  where
    go : (a b : Bool) → first_of (unless a (Number column) ∷ unless b (OutOfRange column) ∷ []) ≡ None → (a ≡ true) × (b ≡ true)
    go true true none = (refl, refl)
    go true false none = cc
    go false b none = cc

pub passed : (b : Bool) (why : TableWhy) → unless b why ≡ None → b ≡ true
passed true why none = refl
passed false why none = cc

-- a list of causes, one by one: the first does not stand
pub skip : (cause : Option TableWhy) (more : List (Option TableWhy)) (r : Option TableWhy) → cause ≡ None → first_of more ≡ r → first_of (cause ∷ more) ≡ r
unfolding first_of
skip None more r none later = later
skip (Some why) more r none later = cc

-- the first stands
pub stop : (cause : Option TableWhy) (more : List (Option TableWhy)) (why : TableWhy) → cause ≡ Some why → first_of (cause ∷ more) ≡ Some why
unfolding first_of
stop None more why some = cc
stop (Some one) more why some = some

-- none stands
pub skipped : first_of [] ≡ None
unfolding first_of
skipped = refl

-- where none stands, the first does not, nor any other
pub none_first : (cause : Option TableWhy) (more : List (Option TableWhy)) → first_of (cause ∷ more) ≡ None → cause ≡ None
unfolding first_of
none_first None more none = refl
none_first (Some why) more none = cc

pub none_later : (cause : Option TableWhy) (more : List (Option TableWhy)) → first_of (cause ∷ more) ≡ None → first_of more ≡ None
unfolding first_of
none_later None more none = none
none_later (Some why) more none = cc

pub is_ok_from : {T E : Type 0} (r : Result T E) (good : T → Type 0) (not_so : E → Type 0) → MatchResult r good not_so → ((e : E) → not_so e → ⊥) → IsOk r
is_ok_from (Ok x) good not_so h bad = refl
is_ok_from (Err e) good not_so h bad = absurd (bad e h)

-- a field of a record whose fields are all text is text
pub field_is_text : (fields : List (List ℕ)) (place : ℕ) → place < length fields → text_fault fields ≡ None → IsUtf8 (field fields place)
field_is_text fields place less none = IsUtf8-from_is_utf8 (field fields place) (pick (is_utf8 (field fields place)) refl)
  where
    pick : (b : Bool) → is_utf8 (field fields place) ≡ b → is_utf8 (field fields place) ≡ true
    pick true is = is
    pick false is =
        let bad = list_all_at is_utf8 fields place [] less is in
        let good = passed (list_all is_utf8 fields) Utf8 none in
        absurd (false≢true (sym bad ∙ good))

-- one more place at which a test passes
range_from : (p : ℕ → Bool) (at count : ℕ) → list_all p (range_with_len at count) ≡ true → p (at + count) ≡ true → list_all p (range_with_len at (count + 1)) ≡ true
range_from p at zero so_far here = rw (ap p (sym (add-zero at)) ∙ here) refl
range_from p at (suc count) so_far here =
    let more : suc count + 1 ≡ suc (count + 1) = omega arith in
    let place : at + 1 + count ≡ at + suc count = omega arith in
    let first : p at ≡ true = and_left (p at) (list_all p (range_with_len (at + 1) count)) so_far in
    let later : list_all p (range_with_len (at + 1) (count + 1)) ≡ true =
    range_from p (at + 1) count (and_right (p at) (list_all p (range_with_len (at + 1) count)) so_far) (ap p place ∙ here) in
    ap (λ n. list_all p (range_with_len at n)) more ∙ (ap (λ b. b && list_all p (range_with_len (at + 1) (count + 1))) first ∙ later)

pub range_more : (p : ℕ → Bool) (count : ℕ) → list_all p (range_with_len 0 count) ≡ true → p count ≡ true → list_all p (range_with_len 0 (count + 1)) ≡ true
range_more p count so_far here = range_from p 0 count so_far (ap p (zero-add count) ∙ here)

-- a place at which a test fails
pub range_fails : (p : ℕ → Bool) (count place : ℕ) → place < count → p place ≡ false → list_all p (range_with_len 0 count) ≡ false
range_fails p count place less here =
    let within : place < length (range_with_len 0 count) = rw length-range_with_len less in
    list_all_at p (range_with_len 0 count) place 0 within (ap p (get_or-range_with_len 0 count place 0 less ∙ zero-add place) ∙ here)

-- what stands for a text past the end of a list
abbrev pub nowhere : Bor (List ℕ)
nowhere = record { ref_ptr = (0, 0); now = [] }

field_same : (fields : List (List ℕ)) (wanted : List (Bor (List ℕ))) (place : ℕ) (got word : List ℕ) (b : Bool) → place < length wanted
    → got ≡ field fields place → word ≡ (get_or wanted place nowhere).now → b ≡ bytes_eq got word → bytes_eq (field fields place) (field (map (λ w. w.now) wanted) place) ≡ b
field_same fields wanted place got word b less is_got is_word is =
    let there : field (map (λ w. w.now) wanted) place ≡ (get_or wanted place nowhere).now = get_or-map (λ (w : Bor (List ℕ)). w.now) wanted place nowhere in
    sym (is ∙ (ap (λ g. bytes_eq g word) is_got ∙ ap (bytes_eq (field fields place)) (is_word ∙ sym there)))

-- the loop over the fields of a head: one more that is right, and one that is not
pub field_more : (fields : List (List ℕ)) (wanted : List (Bor (List ℕ))) (place : ℕ) (got word : List ℕ) → place < length wanted
    → got ≡ field fields place → word ≡ (get_or wanted place nowhere).now → true ≡ bytes_eq got word
    → list_all (λ at. bytes_eq (field fields at) (field (map (λ w. w.now) wanted) at)) (range_with_len 0 place) ≡ true
    → list_all (λ at. bytes_eq (field fields at) (field (map (λ w. w.now) wanted) at)) (range_with_len 0 (place + 1)) ≡ true
field_more fields wanted place got word less is_got is_word is so_far =
    range_more (λ at. bytes_eq (field fields at) (field (map (λ w. w.now) wanted) at)) place so_far (field_same fields wanted place got word true less is_got is_word is)

pub field_other : (fields : List (List ℕ)) (wanted : List (Bor (List ℕ))) (place : ℕ) (got word : List ℕ) → place < length wanted
    → got ≡ field fields place → word ≡ (get_or wanted place nowhere).now → false ≡ bytes_eq got word → false ≡ are_fields (map (λ w. w.now) wanted) fields
field_other fields wanted place got word less is_got is_word is =
    let many : length (map (λ (w : Bor (List ℕ)). w.now) wanted) ≡ length wanted = length-map wanted (λ w. w.now) in
    let fails = range_fails (λ at. bytes_eq (field fields at) (field (map (λ w. w.now) wanted) at)) (length (map (λ (w : Bor (List ℕ)). w.now) wanted)) place (omega (arith, many))
    (field_same fields wanted place got word false less is_got is_word is) in
    sym (ap (λ b. eqb (length fields) (length (map (λ (w : Bor (List ℕ)). w.now) wanted)) && b) fails ∙ and_false (eqb (length fields) (length (map (λ (w : Bor (List ℕ)). w.now) wanted))))
  where
    and_false : (b : Bool) → (b && false) ≡ false
    and_false true = refl
    and_false false = refl
