-- What a step of the lexer answers, over what the scan finds: for the clauses of private functions.
use Rattle.std.specs.Prelude.{◌≡◌, ◌⊎◌, ◌<◌, ◌≤◌, ℕ, ◌+◌, List, ◌++◌, length, drop}
use Rattle.verilog_lex.specs.Lexemes.{Lexeme}
use Rattle.verilog_lex.specs.Reads.{token_at}
use Rattle.verilog_lex.specs.Scan.{scan}
use Rattle.verilog_lex.specs.declared.token.Token.{Token}
use Rattle.verilog_lex.specs.declared.token.LexFault.{LexFault}
use Rattle.verilog_lex.specs.declared.token.LexWhy.TheVariants as why
use Rattle.verilog_lex.specs.Lexemes.{blank, line_comment, block_comment, attribute, skipped_directive, token}
use Rattle.verilog_lex.specs.Scan.{Found, nothing, found, fault}
use Rattle.verilog_lex.specs.declared.steps.Step.{Step}
use Rattle.verilog_lex.specs.declared.steps.Step.TheVariants.{Skip, Take, Fault}

abbrev pub step_at : ℕ → Found → Step
step_at at nothing = Skip at
step_at at (found blank n) = Skip (at + n)
step_at at (found line_comment n) = Skip (at + n)
step_at at (found block_comment n) = Skip (at + n)
step_at at (found attribute n) = Skip (at + n)
step_at at (found skipped_directive n) = Skip (at + n)
step_at at (found (token k) n) = Take k (at + n)
step_at at (fault w n) = Fault w (at + n)

-- a step goes on, and not past the text
abbrev pub Within : ℕ → ℕ → Step → Type 0
Within len at (Skip end) = (at < end) × (end ≤ len)
Within len at (Take k end) = (at < end) × (end ≤ len)
Within len at (Fault w place) = place ≤ len

-- one lexeme of the text was passed
pub record Passes (text : List ℕ) (at : ℕ) (before after : List Token) (end : ℕ) : Type 0 where
  pub lexeme : Lexeme
  pub len : ℕ
  pub is : scan (drop at text) ≡ found lexeme len
  pub end_is : end ≡ at + len
  pub tokens : after ≡ before ++ token_at at lexeme len
  pub low : at < end
  pub high : end ≤ length text

abbrev pub Breaks : List ℕ → ℕ → LexFault → Type 0
Breaks text at f = (f.why ≡ why.Memory) ⊎ ((k : ℕ) × (scan (drop at text) ≡ fault f.why k) × (f.offset ≡ at + k))
