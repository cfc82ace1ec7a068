use Rattle.std.proofs.Common.{◌≡◌, ◌<◌, ◌≤◌, ◌+◌, ◌*◌, take}
use Rattle.std.specs.Str.Parse.{AllDigits, digits_value}
use Rattle.decimal_text.proofs.read.read_digits.Given as goal

abbrev pub invariant-loop-byte : goal.invariant-loop-byte
invariant-loop-byte l = record {
  digits : AllDigits 10 (take l.byte-index l.field);
  small : l.value ≤ 10 * l.most + 9;
  exact : l.value ≤ l.most → l.value ≡ digits_value 10 (take l.byte-index l.field);
  large : l.most < l.value → l.most < digits_value 10 (take l.byte-index l.field);
}
