use Rattle.std.proofs.Common.{◌∙◌, List, ap, subst}
use Rattle.verilog_lex.specs.declared.token.Token.{Token}
use Rattle.verilog_lex.specs.Words.{words_of, AreSpelled}
use Rattle.verilog_tree.specs.declared.parsing.ParseFault.{ParseFault}
use Rattle.verilog_tree.specs.Words.{words}
use Rattle.verilog_tree.specs.Fault.{Explains}
use Rattle.loading.specs.declared.refusal.Refusal.TheVariants as refusal
use Rattle.loading.proofs.Agreeing.{parse_agrees}
use Rattle.loading.proofs.load.parse_refusal.Goals as goal

pub returns-in-NoTree-clause-agree : goal.returns-in-NoTree-clause-agree
returns-in-NoTree-clause-agree c named other known is =
    let text = c.args.text.now in
    let tokens = c.args.tokens.now in
    ap refusal.Parse c.token_place.ensures
    ∙ parse_agrees text tokens c.in-NoTree.at c.requires.reading (subst (λ (ts : List Token). AreSpelled (words_of text ts)) c.as_slice.ensures c.tokens_are_words.ensures.spelled)
    (subst (λ (f : ParseFault). Explains (words text tokens) f) c.in-NoTree.is c.requires.fault) other known is
