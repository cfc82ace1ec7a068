use Rattle.verilog_lex.proofs.Facts.{tokens_spelled, tokens_placed, tokens_few}
use Rattle.verilog_lex.proofs.laws.tokens_are_words.Goals as goal

pub returns : goal.returns
returns c = record {
  spelled = tokens_spelled c.args.bytes.now c.args.tokens.now c.requires;
  placed = tokens_placed c.args.bytes.now c.args.tokens.now c.requires;
  few = tokens_few c.args.bytes.now c.args.tokens.now c.requires;
}
