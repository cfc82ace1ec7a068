use Rattle.std.proofs.lemmas.Result.{err_from_is_err_and}
use Rattle.loading.proofs.Alone.{one_tree}
use Rattle.loading.proofs.Agreeing.{lex_agrees}
use Rattle.loading.proofs.load.read_tree.Goals as goal

pub returns-in-Ok-clause-only : goal.returns-in-Ok-clause-only
returns-in-Ok-clause-only c other has = one_tree c.words_spell_one_tree.ensures _ _ _ other c.in_ok-tokens.ensures.tokens c.in-Ok.ensures.found has

pub returns-in_err-tokens-clause-agree : goal.returns-in_err-tokens-clause-agree
returns-in_err-tokens-clause-agree c =
    let p = err_from_is_err_and c.from_residual.result c.from_residual.ensures.1 in
    rw p.1 (λ named other known is. lex_agrees c.args.text.now _ p.0 c.in_err-tokens.ensures.fault p.2 named other known is)
