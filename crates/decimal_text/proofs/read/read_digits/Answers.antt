use Rattle.std.proofs.Common.{◌≡◌, ◌<◌, ◌+◌, ℕ, arith, get_or, length, take}
use Rattle.std.specs.Char.{digit_value}
use Rattle.std.specs.Int.{IsInRange}
use Rattle.std.specs.Str.Parse.{AllDigits}
use Rattle.std.proofs.lemmas.Str.{digit_value_digit}
use Rattle.std.proofs.lemmas.Str.Parse.{digit_at}
use Rattle.std.proofs.lemmas.Int.Digits.{digits_more, digits_value_more}
use Rattle.decimal_text.proofs.read.read_digits.Goals as goal
use Rattle.decimal_text.proofs.read.read_digits.Goals.{else-value-most, then-byte-lt48-via-then-byte-lt48, then-byte-lt48-via-else-byte-lt48+then-byte-gt57, then-value-most}

pub returns-then-byte-lt48 : goal.returns-then-byte-lt48
returns-then-byte-lt48 c numeral =
    let digit = digit_at c.args.field.now c.loop-byte.byte-index numeral.1 (omega arith) in
    elim c.then-byte-lt48.branch [
      | then-byte-lt48-via-then-byte-lt48 w ↦ omega (arith, digit)
      | then-byte-lt48-via-else-byte-lt48+then-byte-gt57 w ↦ omega (arith, digit)
    ]

pub loop-byte-preserved : goal.loop-byte-preserved
loop-byte-preserved c =
    let field = c.args.field.now in
    let place = c.loop-byte.byte-index in
    let byte : ℕ = get_or field place 0 in
    let lt : place < length field = omega arith in
    let range : IsInRange 48 57 byte = (omega arith, omega arith) in
    let value : digit_value byte + 48 ≡ byte = digit_value_digit byte range in
    let more = digits_value_more 10 field place lt in
    let all : AllDigits 10 (take (place + 1) field) = digits_more 10 field place lt c.loop-byte.invariant.digits (omega arith) in
    elim c.if-value-most.branch [
      | then-value-most w ↦ record { digits = all; small = omega arith; exact = omega arith; large = omega arith }
      | else-value-most w ↦ record { digits = all; small = omega arith; exact = omega arith; large = omega arith }
    ]
