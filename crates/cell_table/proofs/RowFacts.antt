-- What the checks of a cell say of its row.
use Rattle.std.proofs.Common.{◌≡◌, ◌∙◌, ◌&&◌, ◌||◌, ◌+◌, ◌*◌, ◌-◌, ◌/◌, ◌^◌, ℕ, zero, suc, ◌<◌, ◌≤◌, pos, Bool, true, false, not, sym, refl, ap, subst, arith, List, [], ◌∷◌, ◌++◌, length, get_or, eqb, eqb-true, Option, Some, None}
use Rattle.std.specs.Prelude.{is_some, nat_le, option_to_list, slice_index, unwrap_or}
use Rattle.std.specs.Int.{bit_at}
use Rattle.table_fields.specs.Names.{is_plain_name}
use Rattle.std.specs.List.{list_all, list_any}
use Rattle.std.specs.Str.{bytes_eq}
use Rattle.std.specs.Str.Parse.{digits_value}
use Rattle.std.proofs.Math.Pow.{pow_mono}
use Rattle.std.proofs.lemmas.Bool.{false≢true}
use Rattle.std.proofs.lemmas.Nat.Bits.{bit_at_lowest, bit_at-suc}
use Rattle.std.proofs.lemmas.Slice.Eq.{bytes_eq-Decides}
use Rattle.std.proofs.Math.Nat.{pow-suc}
use Rattle.rsfq_ids.specs.declared.table.Kind.{Kind}
use Rattle.rsfq_ids.specs.declared.table.Kind.TheVariants as kind
use Rattle.rsfq_ids.specs.declared.table.CellRow.{CellRow}
use Rattle.rsfq_ids.specs.declared.table_fault.TableWhy.{TableWhy}
use Rattle.rsfq_ids.specs.declared.table_fault.TableWhy.TheVariants.{Function, Interval, Kind as NoKind, Name, Number, Pins}
use Rattle.rsfq_ids.specs.WellFormed.{AreDistinct, FitsKind, IsPositiveTime, IsRow, IsTime}
use Rattle.table_fields.specs.Records.{count_fault, empty_fault, field, text_fault, first_of, is_empty, time_fault, time_of, unless}
use Rattle.table_fields.proofs.CheckFacts.{and_left, and_right, none_first, none_later, passed}
use Rattle.table_fields.proofs.TimeFacts.{interval, nat_le-true, time_any, time_within}
use Rattle.cell_table.specs.Cells.{HasDigits, HasPlainNames, StandsFor, cell_fault, kind_in, repeated_fault, start_fault}
use Rattle.cell_table.specs.Fields.{fits_function, function_fault, guard_fault, is_bit, least_dead, times_fault, truth_of}
use Rattle.cell_table.specs.Kinds.{are_distinct, are_pins, clock_of, clock_pins, fits_inputs, fits_outputs, has_counts, kind_of, kind_text, names_in, pins_fault, pins_of}

empty_text : (text : List ℕ) → is_empty text ≡ true → text ≡ []
empty_text [] e = refl
empty_text (x ∷ xs) e = let none = eqb-true (length (x ∷ xs)) 0 e in absurd (omega arith)

-- ---- truth strings

few_gate : (inputs : ℕ) (digits : List ℕ) → inputs ≤ 4 → eqb (length digits) (2 ^ inputs) ≡ true → length digits ≤ 16
few_gate inputs digits few e =
    let same = eqb-true (length digits) (2 ^ inputs) e in
    let bound : 2 ^ inputs ≤ 2 ^ 4 = pow_mono {i = inputs} {j = 4} few in
    omega arith

few_none : (digits : List ℕ) → is_empty digits ≡ true → length digits ≤ 16
few_none digits e = rw (empty_text digits e) (omega arith)

pub few_digits : (of : Kind) (inputs : ℕ) (digits : List ℕ) → inputs ≤ 4 → fits_function of inputs digits ≡ true → length digits ≤ 16
few_digits kind.Jtl inputs digits few fits = few_none digits fits
few_digits kind.Split inputs digits few fits = few_none digits fits
few_digits kind.Merge inputs digits few fits = few_none digits fits
few_digits kind.Gate inputs digits few fits = few_gate inputs digits few (and_left (eqb (length digits) (2 ^ inputs)) (list_all is_bit digits) fits)

bits_none : (digits : List ℕ) → is_empty digits ≡ true → list_all is_bit digits ≡ true
bits_none digits e = rw (empty_text digits e) refl

pub all_bits : (of : Kind) (inputs : ℕ) (digits : List ℕ) → fits_function of inputs digits ≡ true → list_all is_bit digits ≡ true
all_bits kind.Jtl inputs digits fits = bits_none digits fits
all_bits kind.Split inputs digits fits = bits_none digits fits
all_bits kind.Merge inputs digits fits = bits_none digits fits
all_bits kind.Gate inputs digits fits = and_right (eqb (length digits) (2 ^ inputs)) (list_all is_bit digits) fits

small_digit : (digit : ℕ) → is_bit digit ≡ true → digit - 48 ≤ 1
small_digit digit e = go (eqb digit 48) refl (eqb digit 49) refl e
  where
    go : (a : Bool) → eqb digit 48 ≡ a → (b : Bool) → eqb digit 49 ≡ b → (a || b) ≡ true → digit - 48 ≤ 1
    go true is b at e = let same = eqb-true digit 48 is in omega arith
    go false is true at e = let same = eqb-true digit 49 at in omega arith
    go false is false at e = cc

truth_small : (digits : List ℕ) → list_all is_bit digits ≡ true → truth_of digits < 2 ^ length digits
truth_small [] e = omega arith
truth_small (digit ∷ digits) e =
    let double : 2 ^ suc (length digits) ≡ 2 ^ length digits * 2 = pow-suc 2 (length digits) in
    let here = small_digit digit (and_left (is_bit digit) (list_all is_bit digits) e) in
    let later = truth_small digits (and_right (is_bit digit) (list_all is_bit digits) e) in
    omega (arith, double, here, later)

truth_digit : (digits : List ℕ) → list_all is_bit digits ≡ true → (place : ℕ) → place < length digits → bit_at (truth_of digits) place ≡ slice_index digits place - 48
truth_digit [] e place less = absurd (omega arith)
truth_digit (digit ∷ digits) e zero less =
    let here = small_digit digit (and_left (is_bit digit) (list_all is_bit digits) e) in
    bit_at_lowest ((digit - 48) + 2 * truth_of digits) ∙ omega (arith, here)
truth_digit (digit ∷ digits) e (suc place) less =
    let here = small_digit digit (and_left (is_bit digit) (list_all is_bit digits) e) in
    let half : ((digit - 48) + 2 * truth_of digits) / 2 ≡ truth_of digits = omega (arith, here) in
    bit_at-suc ((digit - 48) + 2 * truth_of digits) place
    ∙ (ap (λ n. bit_at n place) half ∙ truth_digit digits (and_right (is_bit digit) (list_all is_bit digits) e) place (omega arith))

-- ---- times

nothing : (column : ℕ) (text : List ℕ) → empty_fault column text ≡ None → time_of text ≡ pos 0
nothing column text none = ap time_of (empty_text text (passed (is_empty text) (Number column) none))

-- ---- pins

pins_same : (of : Kind) (clock : List ℕ) → clock_pins of clock ≡ option_to_list (clock_of of clock)
pins_same kind.Jtl clock = refl
pins_same kind.Split clock = refl
pins_same kind.Merge clock = refl
pins_same kind.Gate clock = refl

-- where no name stands twice, any two names differ
pub any_here : (p : List ℕ → Bool) (names : List (List ℕ)) (at : ℕ) (d : List ℕ) → at < length names → p (get_or names at d) ≡ true → list_any p names ≡ true
any_here p [] at d less here = absurd (omega arith)
any_here p (name ∷ names) zero d less here = rw here refl
any_here p (name ∷ names) (suc at) d less here = rw (any_here p names at d (omega arith) here) (or_true (p name))
  where
    or_true : (b : Bool) → (b || true) ≡ true
    or_true true = refl
    or_true false = refl

pub distinct_from : (names : List (List ℕ)) → are_distinct names ≡ true → AreDistinct names
distinct_from [] e i j d less within same = absurd (omega arith)
distinct_from (name ∷ names) e zero zero d less within same = absurd (omega arith)
distinct_from (name ∷ names) e zero (suc j) d less within same = go (list_any (bytes_eq name) names) refl (and_left (not (list_any (bytes_eq name) names)) (are_distinct names) e)
  where
    go : (b : Bool) → list_any (bytes_eq name) names ≡ b → not b ≡ true → ⊥
    go true is bad = cc
    go false is good =
        let there = any_here (bytes_eq name) names j d (omega arith) ((bytes_eq-Decides name (get_or names j d)).1 same) in
        absurd (false≢true (sym is ∙ there))
distinct_from (name ∷ names) e (suc i) zero d less within same = absurd (omega arith)
distinct_from (name ∷ names) e (suc i) (suc j) d less within same =
    distinct_from names (and_right (not (list_any (bytes_eq name) names)) (are_distinct names) e) i j d (omega arith) (omega arith) same

-- ---- kinds

pub kind_of_text : (of : Kind) → kind_of (kind_text of) ≡ Some of
kind_of_text kind.Jtl = refl
kind_of_text kind.Split = refl
kind_of_text kind.Merge = refl
kind_of_text kind.Gate = refl

pub kind_read : (fields : List (List ℕ)) (of : Kind) → field fields 1 ≡ kind_text of → kind_in fields ≡ of
kind_read fields of is = ap (λ text. unwrap_or (kind_of text) kind.Jtl) is ∙ ap (λ o. unwrap_or o kind.Jtl) (kind_of_text of)

one_name : (text : List ℕ) (n : ℕ) → eqb (length (names_in text)) n ≡ true → length (names_in text) ≡ n
one_name text n e = eqb-true (length (names_in text)) n e

passive : (row : CellRow) (f s h : List ℕ) → row.truth ≡ truth_of f → row.setup ≡ time_of s → row.hold ≡ time_of h
    → is_empty f ≡ true → empty_fault 8 s ≡ None → empty_fault 9 h ≡ None → (row.setup ≡ pos 0) × (row.hold ≡ pos 0) × (row.truth ≡ 0)
passive row f s h truth setup hold none_f none_s none_h =
    (setup ∙ nothing 8 s none_s, hold ∙ nothing 9 h none_h, truth ∙ ap truth_of (empty_text f none_f))

-- the pins and times of a row are those of its kind
fits_kind : (of : Kind) (row : CellRow) (i c o f s h d : List ℕ)
    → row.inputs ≡ names_in i → row.clock ≡ clock_of of c → row.outputs ≡ names_in o → row.truth ≡ truth_of f → row.setup ≡ time_of s → row.hold ≡ time_of h → row.dead ≡ time_of d
    → has_counts of i c o ≡ true → fits_function of (length (names_in i)) f ≡ true → guard_fault of 8 s ≡ None → guard_fault of 9 h ≡ None → time_fault 10 (least_dead of) d ≡ None
    → FitsKind of row
fits_kind kind.Jtl row i c o f s h d inputs clock outputs truth setup hold dead counts function no_s no_h no_d =
    let three = passive row f s h truth setup hold function no_s no_h in
    let first = and_left (fits_inputs kind.Jtl (length (names_in i)) && fits_outputs kind.Jtl (length (names_in o))) (is_empty c) counts in (
      ap length inputs ∙ one_name i 1 (and_left (fits_inputs kind.Jtl (length (names_in i))) (fits_outputs kind.Jtl (length (names_in o))) first),
      clock,
      ap length outputs ∙ one_name o 1 (and_right (fits_inputs kind.Jtl (length (names_in i))) (fits_outputs kind.Jtl (length (names_in o))) first),
      three.0,
      three.1,
      three.2,
    )
fits_kind kind.Split row i c o f s h d inputs clock outputs truth setup hold dead counts function no_s no_h no_d =
    let three = passive row f s h truth setup hold function no_s no_h in
    let first = and_left (fits_inputs kind.Split (length (names_in i)) && fits_outputs kind.Split (length (names_in o))) (is_empty c) counts in (
      ap length inputs ∙ one_name i 1 (and_left (fits_inputs kind.Split (length (names_in i))) (fits_outputs kind.Split (length (names_in o))) first),
      clock,
      ap length outputs ∙ one_name o 2 (and_right (fits_inputs kind.Split (length (names_in i))) (fits_outputs kind.Split (length (names_in o))) first),
      three.0,
      three.1,
      three.2,
    )
fits_kind kind.Merge row i c o f s h d inputs clock outputs truth setup hold dead counts function no_s no_h no_d =
    let three = passive row f s h truth setup hold function no_s no_h in
    let first = and_left (fits_inputs kind.Merge (length (names_in i)) && fits_outputs kind.Merge (length (names_in o))) (is_empty c) counts in (
      ap length inputs ∙ one_name i 2 (and_left (fits_inputs kind.Merge (length (names_in i))) (fits_outputs kind.Merge (length (names_in o))) first),
      clock,
      ap length outputs ∙ one_name o 1 (and_right (fits_inputs kind.Merge (length (names_in i))) (fits_outputs kind.Merge (length (names_in o))) first),
      three.0,
      three.1,
      three.2,
    )
fits_kind kind.Gate row i c o f s h d inputs clock outputs truth setup hold dead counts function no_s no_h no_d =
    let n : ℕ = length (names_in i) in
    let first = and_left (fits_inputs kind.Gate n && fits_outputs kind.Gate (length (names_in o))) true counts in
    let many = and_left (fits_inputs kind.Gate n) (fits_outputs kind.Gate (length (names_in o))) first in
    let low : 1 ≤ n = nat_le-true 1 n (and_left (nat_le 1 n) (nat_le n 3) many) in
    let high : n ≤ 3 = nat_le-true n 3 (and_right (nat_le 1 n) (nat_le n 3) many) in
    let same : length row.inputs ≡ n = ap length inputs in
    let digits : length f ≡ 2 ^ n = eqb-true (length f) (2 ^ n) (and_left (eqb (length f) (2 ^ n)) (list_all is_bit f) function) in
    let small : truth_of f < 2 ^ length f = truth_small f (and_right (eqb (length f) (2 ^ n)) (list_all is_bit f) function) in
    let small_row : row.truth < 2 ^ (2 ^ length row.inputs) =
    subst (λ t. t < 2 ^ (2 ^ length row.inputs)) (sym truth) (subst (λ k. truth_of f < 2 ^ k) (digits ∙ ap (λ m. 2 ^ m) (sym same)) small) in (
      omega (arith, same, low),
      omega (arith, same, high),
      ap (λ k. length (option_to_list k)) clock,
      ap length outputs ∙ one_name o 1 (and_right (fits_inputs kind.Gate n) (fits_outputs kind.Gate (length (names_in o))) first),
      small_row,
      subst IsPositiveTime (sym setup) (time_within 8 1 s no_s),
      subst IsPositiveTime (sym hold) (time_within 9 1 h no_h),
      subst IsPositiveTime (sym dead) (time_within 10 1 d no_d),
    )

record Six (a b c d e f : Option TableWhy) : Type 0 where
  pub first : a ≡ None
  pub second : b ≡ None
  pub third : c ≡ None
  pub fourth : d ≡ None
  pub fifth : e ≡ None
  pub sixth : f ≡ None

six : (a b c d e f : Option TableWhy) → first_of (a ∷ b ∷ c ∷ d ∷ e ∷ f ∷ []) ≡ None → Six a b c d e f
six a b c d e f none =
    let one = none_later a (b ∷ c ∷ d ∷ e ∷ f ∷ []) none in
    let two = none_later b (c ∷ d ∷ e ∷ f ∷ []) one in
    let three = none_later c (d ∷ e ∷ f ∷ []) two in
    let four = none_later d (e ∷ f ∷ []) three in
    let five = none_later e (f ∷ []) four in
    record {
      first = none_first a (b ∷ c ∷ d ∷ e ∷ f ∷ []) none;
      second = none_first b (c ∷ d ∷ e ∷ f ∷ []) one;
      third = none_first c (d ∷ e ∷ f ∷ []) two;
      fourth = none_first d (e ∷ f ∷ []) three;
      fifth = none_first e (f ∷ []) four;
      sixth = none_first f [] five;
    }

pub record Five (a b c d e : Option TableWhy) : Type 0 where
  pub first : a ≡ None
  pub second : b ≡ None
  pub third : c ≡ None
  pub fourth : d ≡ None
  pub fifth : e ≡ None

five : (a b c d e : Option TableWhy) → first_of (a ∷ b ∷ c ∷ d ∷ e ∷ []) ≡ None → Five a b c d e
five a b c d e none =
    let one = none_later a (b ∷ c ∷ d ∷ e ∷ []) none in
    let two = none_later b (c ∷ d ∷ e ∷ []) one in
    let three = none_later c (d ∷ e ∷ []) two in
    let four = none_later d (e ∷ []) three in
    record {
      first = none_first a (b ∷ c ∷ d ∷ e ∷ []) none;
      second = none_first b (c ∷ d ∷ e ∷ []) one;
      third = none_first c (d ∷ e ∷ []) two;
      fourth = none_first d (e ∷ []) three;
      fifth = none_first e [] four;
    }

-- the parts of a record that is a cell
pub cell_parts : (earlier fields : List (List ℕ)) → cell_fault earlier fields ≡ None
    → Five (start_fault fields) (pins_fault (kind_in fields) (field fields 2) (field fields 3) (field fields 4)) (function_fault (kind_in fields) (length (names_in (field fields 2))) (field fields 5))
    (times_fault (kind_in fields) fields) (repeated_fault earlier (field fields 0))
cell_parts earlier fields none = five _ _ _ _ _ none

times_parts : (of : Kind) (fields : List (List ℕ)) → times_fault of fields ≡ None
    → Six (time_fault 6 0 (field fields 6)) (time_fault 7 0 (field fields 7)) (guard_fault of 8 (field fields 8)) (guard_fault of 9 (field fields 9)) (time_fault 10 (least_dead of) (field fields 10))
    (unless (nat_le (digits_value 10 (field fields 6)) (digits_value 10 (field fields 7))) Interval)
times_parts of fields none = six _ _ _ _ _ _ none

-- the pins of a row are those that its record names
row_pins : (fields : List (List ℕ)) (row : CellRow) → StandsFor fields row
    → row.inputs ++ option_to_list row.clock ++ row.outputs ≡ pins_of row.kind (field fields 2) (field fields 3) (field fields 4)
row_pins fields row stands =
    ap (λ xs. xs ++ option_to_list row.clock ++ row.outputs) stands.inputs
    ∙ (ap (λ xs. names_in (field fields 2) ++ xs ++ row.outputs) (ap option_to_list stands.clock ∙ sym (pins_same row.kind (field fields 3)))
    ∙ ap (λ xs. names_in (field fields 2) ++ clock_pins row.kind (field fields 3) ++ xs) stands.outputs)

four : (a b c d : Option TableWhy) → first_of (a ∷ b ∷ c ∷ d ∷ []) ≡ None → c ≡ None
four a b c d none = none_first c (d ∷ []) (none_later b (c ∷ d ∷ []) (none_later a (b ∷ c ∷ d ∷ []) none))

-- a row for which a good record stands is well formed
pub is_row : (earlier fields : List (List ℕ)) (row : CellRow) → StandsFor fields row → cell_fault earlier fields ≡ None → IsRow row
is_row earlier fields row stands none =
    let of : kind_in fields ≡ row.kind = kind_read fields row.kind stands.kind_is in
    let parts = cell_parts earlier fields none in
    let pins : pins_fault row.kind (field fields 2) (field fields 3) (field fields 4) ≡ None = subst (λ (k : Kind). pins_fault k (field fields 2) (field fields 3) (field fields 4) ≡ None) of parts.second in
    let function : function_fault row.kind (length (names_in (field fields 2))) (field fields 5) ≡ None =
    subst (λ (k : Kind). function_fault k (length (names_in (field fields 2))) (field fields 5) ≡ None) of parts.third in
    let times = times_parts row.kind fields (subst (λ (k : Kind). times_fault k fields ≡ None) of parts.fourth) in
    let counts : Bool = has_counts row.kind (field fields 2) (field fields 3) (field fields 4) in
    let named : Bool = are_pins (pins_of row.kind (field fields 2) (field fields 3) (field fields 4)) in
    let both : (counts && named) ≡ true = passed (counts && named) Pins pins in
    let distinct : AreDistinct (pins_of row.kind (field fields 2) (field fields 3) (field fields 4)) =
    distinct_from (pins_of row.kind (field fields 2) (field fields 3) (field fields 4))
    (and_right (list_all is_plain_name (pins_of row.kind (field fields 2) (field fields 3) (field fields 4))) (are_distinct (pins_of row.kind (field fields 2) (field fields 3) (field fields 4))) (and_right counts named both)) in
    record {
      kind = fits_kind row.kind row (field fields 2) (field fields 3) (field fields 4) (field fields 5) (field fields 8) (field fields 9) (field fields 10)
          stands.inputs stands.clock stands.outputs stands.truth stands.setup stands.hold stands.dead (and_left counts named both)
          (passed (fits_function row.kind (length (names_in (field fields 2))) (field fields 5)) Function function) times.third times.fourth times.fifth;
      pins = subst AreDistinct (sym (row_pins fields row stands)) distinct;
      low = subst IsTime (sym stands.low) (time_any 0 (time_of (field fields 6)) (time_within 6 0 (field fields 6) times.first));
      high = subst IsTime (sym stands.high) (time_any 0 (time_of (field fields 7)) (time_within 7 0 (field fields 7) times.second));
      dead = subst IsTime (sym stands.dead) (time_any (least_dead row.kind) (time_of (field fields 10)) (time_within 10 (least_dead row.kind) (field fields 10) times.fifth));
      delays = rw (stands.low, stands.high) (interval (field fields 6) (field fields 7) times.sixth);
    }

-- and its names are plain
pub plain_row : (earlier fields : List (List ℕ)) (row : CellRow) → StandsFor fields row → cell_fault earlier fields ≡ None → HasPlainNames row
plain_row earlier fields row stands none =
    let of : kind_in fields ≡ row.kind = kind_read fields row.kind stands.kind_is in
    let parts = cell_parts earlier fields none in
    let pins : pins_fault row.kind (field fields 2) (field fields 3) (field fields 4) ≡ None = subst (λ (k : Kind). pins_fault k (field fields 2) (field fields 3) (field fields 4) ≡ None) of parts.second in
    let counts : Bool = has_counts row.kind (field fields 2) (field fields 3) (field fields 4) in
    let named : Bool = are_pins (pins_of row.kind (field fields 2) (field fields 3) (field fields 4)) in
    let both : (counts && named) ≡ true = passed (counts && named) Pins pins in
    let start = four (text_fault fields) (count_fault 11 fields) (unless (is_plain_name (field fields 0)) Name) (unless (is_some (kind_of (field fields 1))) NoKind) parts.first in (
      ap is_plain_name stands.name ∙ passed (is_plain_name (field fields 0)) Name start,
      ap (list_all is_plain_name) (row_pins fields row stands)
          ∙ and_left (list_all is_plain_name (pins_of row.kind (field fields 2) (field fields 3) (field fields 4))) (are_distinct (pins_of row.kind (field fields 2) (field fields 3) (field fields 4))) (and_right counts named both),
    )

-- and its truth table has the digits
pub row_digits : (earlier fields : List (List ℕ)) (row : CellRow) → StandsFor fields row → cell_fault earlier fields ≡ None → HasDigits fields row
row_digits earlier fields row stands none =
    let parts = cell_parts earlier fields none in
    let inputs : ℕ = length (names_in (field fields 2)) in
    let bits : list_all is_bit (field fields 5) ≡ true =
    all_bits (kind_in fields) inputs (field fields 5) (passed (fits_function (kind_in fields) inputs (field fields 5)) Function parts.third) in
    record {
      each = λ place less. ap (λ t. bit_at t place) stands.truth ∙ truth_digit (field fields 5) bits place less;
      no_more = subst (λ t. t < 2 ^ length (field fields 5)) (sym stands.truth) (truth_small (field fields 5) bits);
    }
