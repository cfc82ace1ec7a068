-- Numbers in digits, one digit more.
use Rattle.std.proofs.Common.{◌≡◌, ◌<◌, ◌≤◌, ◌+◌, ◌*◌, ◌-◌, ℕ, arith, get_or, length, take, List}
use Rattle.std.specs.Char.{digit_value}
use Rattle.std.specs.Str.Parse.{AllDigits, digits_value}
use Rattle.std.proofs.lemmas.Str.{digit_value_digit}
use Rattle.std.proofs.lemmas.Str.Parse.{digit_at, digits_value-take-le}
use Rattle.std.proofs.lemmas.Int.Digits.{digits_value_more}

-- the value of the digits so far, and of one more, which is no larger than that of all
pub digit_step : (ds : List ℕ) (i v d : ℕ) → AllDigits 10 ds → digits_value 10 ds ≤ 999999999 → i < length ds → v ≡ digits_value 10 (take i ds) → d ≡ get_or ds i 0 - 48
    → (v * 10 + d ≡ digits_value 10 (take (i + 1) ds)) × (v * 10 + d ≤ 999999999)
digit_step ds i v d all small lt is_value is_digit =
    let range = digit_at ds i all lt in
    let value : digit_value (get_or ds i 0) + 48 ≡ get_or ds i 0 = digit_value_digit (get_or ds i 0) range in
    let more = digits_value_more 10 ds i lt in
    let le = digits_value-take-le 10 ds (i + 1) (omega arith) in
    (omega arith, omega arith)
