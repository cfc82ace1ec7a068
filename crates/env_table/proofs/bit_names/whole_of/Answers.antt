use Rattle.std.proofs.Common.{◌≡◌, ◌∙◌, ◌+◌, arith, drop, take, sym, ap, true, false, None, Some, lit<}
use Rattle.std.proofs.lemmas.Grind.{common_steps}
use Rattle.std.proofs.lemmas.Str.Pattern.{rfind_char}
use Rattle.std.specs.Str.{bytes_eq}
use Rattle.env_table.specs.Names.{is_place}
use Rattle.env_table.proofs.TextFacts.{bit_where_open, no_bit, no_bit_where_open}
use Rattle.env_table.proofs.bit_names.whole_of.Goals as goal

pub returns-in_err-bracket-clause-none : goal.returns-in_err-bracket-clause-none
returns-in_err-bracket-clause-none c =
    rw c.from_residual.ensures (λ name. no_bit c.args.printed.now name (rfind_char 91 c.args.printed.now None c.in_err-bracket.ensures.cases (lit< tt)))

pub returns-then-is_place-clause-name : goal.returns-then-is_place-clause-name
returns-then-is_place-clause-name c =
    let (there, is, after) = rfind_char 91 c.args.printed.now (Some c.in_ok-bracket.bracket) c.in_ok-bracket.ensures.cases (lit< tt) in
    let placed : is_place (drop (c.in_ok-bracket.bracket + 1) c.args.printed.now) ≡ true = grind (arith, common_steps, c.as_bytes.ensures.value) in
    let front : c.range.result.now ≡ take c.in_ok-bracket.bracket c.args.printed.now = grind (arith, common_steps) in
    λ name. bit_where_open c.args.printed.now name c.in_ok-bracket.bracket there is after placed ∙ ap (bytes_eq name) (sym front)

pub returns-else-is_place-clause-none : goal.returns-else-is_place-clause-none
returns-else-is_place-clause-none c =
    let (there, is, after) = rfind_char 91 c.args.printed.now (Some c.in_ok-bracket.bracket) c.in_ok-bracket.ensures.cases (lit< tt) in
    let placed : is_place (drop (c.in_ok-bracket.bracket + 1) c.args.printed.now) ≡ false = grind (arith, common_steps, c.as_bytes.ensures.value) in
    λ name. no_bit_where_open c.args.printed.now name c.in_ok-bracket.bracket there is after placed
