use Rattle.verilog_tree.proofs.Tokens.{word_digits, plain_text, escaped_text}
use Rattle.verilog_tree.proofs.lexeme.Lexeme.of.Goals as goal

pub number-requires-clause-digits : goal.number-requires-clause-digits
number-requires-clause-digits c = let s = rw c.in-Number.is at c.requires.spelled in word_digits _ s.0

pub returns-in-Name-clause-text : goal.returns-in-Name-clause-text
returns-in-Name-clause-text c = let s = rw c.in-Name.is at c.requires.spelled in plain_text _ s.0

pub returns-in-Escaped-clause-text : goal.returns-in-Escaped-clause-text
returns-in-Escaped-clause-text c = let s = rw c.in-Escaped.is at c.requires.spelled in escaped_text _ s
