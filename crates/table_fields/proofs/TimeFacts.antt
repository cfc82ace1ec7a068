-- What the checks of times say of them.
use Rattle.std.proofs.Common.{◌≡◌, ℕ, ◌≤◌, ℤ, pos, ◌≤ℤ◌, true, arith, List, None}
use Rattle.rsfq_ids.specs.declared.limits.TheConstants.{TIME_LIMIT}
use Rattle.std.specs.Prelude.{nat_le}
use Rattle.std.specs.Str.Parse.{digits_value}
use Rattle.std.proofs.lemmas.Int.{ints}
use Rattle.rsfq_ids.specs.declared.table_fault.TableWhy.TheVariants.{Interval}
use Rattle.rsfq_ids.specs.Time.{IsWithin}
use Rattle.rsfq_ids.specs.WellFormed.{IsTime}
use Rattle.table_fields.specs.Records.{is_in_range, time_fault, time_of, unless}
use Rattle.table_fields.proofs.CheckFacts.{and_left, and_right, no_time, passed}

pub nat_le-true : (a b : ℕ) → nat_le a b ≡ true → a ≤ b
nat_le-true a b e = grind arith

within : (least : ℕ) (text : List ℕ) → is_in_range least text ≡ true → IsWithin (pos least) (pos TIME_LIMIT) (time_of text)
within least text e =
    let low = nat_le-true least (digits_value 10 text) (and_left (nat_le least (digits_value 10 text)) (nat_le (digits_value 10 text) TIME_LIMIT) e) in
    let high = nat_le-true (digits_value 10 text) TIME_LIMIT (and_right (nat_le least (digits_value 10 text)) (nat_le (digits_value 10 text) TIME_LIMIT) e) in
    record { from = omega (arith, ints); to = omega (arith, ints) }

-- a good time lies within its limits
pub time_within : (column least : ℕ) (text : List ℕ) → time_fault column least text ≡ None → IsWithin (pos least) (pos TIME_LIMIT) (time_of text)
time_within column least text none = within least text (no_time column least text none).1

pub time_any : (least : ℕ) (time : ℤ) → IsWithin (pos least) (pos TIME_LIMIT) time → IsTime time
time_any least time fits = record { from = omega (arith, ints, fits.from); to = fits.to }

-- a good interval begins not after its end
pub interval : (a b : List ℕ) → unless (nat_le (digits_value 10 a) (digits_value 10 b)) Interval ≡ None → time_of a ≤ℤ time_of b
interval a b none =
    let le = nat_le-true (digits_value 10 a) (digits_value 10 b) (passed (nat_le (digits_value 10 a) (digits_value 10 b)) Interval none) in
    omega (arith, ints)
