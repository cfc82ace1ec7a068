use Rattle.std.proofs.Common.{◌≡◌, arith}
use Rattle.std.specs.Prelude.{Ok}
use Rattle.std.specs.Cmp.Lexicographic.{other_text}
use Rattle.std.proofs.lemmas.Fmt.{parse-decimal}
use Rattle.signoff.proofs.words.read_number.Goals as goal
use Rattle.signoff.proofs.words.read_number.Goals.{else-number-le-LARGEST-via-then-number-le-LARGEST+else-eq, else-number-le-LARGEST-via-else-number-le-LARGEST}

pub returns-in_default : goal.returns-in_default
returns-in_default c n most is =
    let read : c.parse.result ≡ Ok n = parse-decimal 32 n c.args.word.now c.parse.result (omega arith) (omega arith) is c.parse.ensures.value.0 in
    cc

pub returns-else-number-le-LARGEST : goal.returns-else-number-le-LARGEST
returns-else-number-le-LARGEST c n most is =
    let read : c.parse.result ≡ Ok n = parse-decimal 32 n c.args.word.now c.parse.result (omega arith) (omega arith) is c.parse.ensures.value.0 in
    let same : c.in-Ok.number ≡ n = cc in
    elim c.else-number-le-LARGEST.branch [
      | else-number-le-LARGEST-via-then-number-le-LARGEST+else-eq w ↦ let printed : w.format.result.now ≡ c.args.word.now = cc (w.format.ensures.text) in other_text _ _ (w.if-eq.ensures) printed
      | else-number-le-LARGEST-via-else-number-le-LARGEST w ↦ omega arith
    ]
