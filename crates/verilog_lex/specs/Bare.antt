-- Texts that are blanks and tokens alone: no comment, attribute or directive, and no escaped name.
use Rattle.std.specs.Prelude.{◌≡◌, ℕ, List, [], ◌∷◌, ⊤}
use Rattle.verilog_lex.specs.Lexemes.{Lexeme, blank, line_comment, block_comment, attribute, skipped_directive, token}
use Rattle.verilog_lex.specs.Reads.{Piece, joined, AreLexemes, tokens_of}
use Rattle.verilog_lex.specs.declared.token.TokenKind.TheVariants as kind
use Rattle.verilog_lex.specs.declared.token.Token.{Token}

abbrev pub IsBareLexeme : Lexeme → Type 0
IsBareLexeme blank = ⊤
IsBareLexeme line_comment = ⊥
IsBareLexeme block_comment = ⊥
IsBareLexeme attribute = ⊥
IsBareLexeme skipped_directive = ⊥
IsBareLexeme (token kind.Name) = ⊤
IsBareLexeme (token kind.Escaped) = ⊥
IsBareLexeme (token kind.Reserved) = ⊤
IsBareLexeme (token kind.Number) = ⊤
IsBareLexeme (token kind.Mark) = ⊤

abbrev pub AreBare : List Piece → Type 0
AreBare [] = ⊤
AreBare (p ∷ ps) = IsBareLexeme p.lexeme × AreBare ps

-- A reading of the text, by bare lexemes alone.
pub record IsBare (text : List ℕ) (tokens : List Token) : Type 0 where
  pub pieces : List Piece
  pub parts : text ≡ joined pieces
  pub all : AreLexemes pieces []
  pub bare : AreBare pieces
  pub are : tokens ≡ tokens_of 0 pieces
