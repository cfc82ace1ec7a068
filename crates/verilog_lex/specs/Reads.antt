-- Readings and faults of a text: how it divides into lexemes.
--
-- A text is a list of blanks, comments, attributes, skipped directives and tokens. A reading divides the whole text; a fault divides it up to
-- a lexeme that is broken. A text has one reading or one fault, and so the fault is the first in text order.
use Rattle.std.specs.Prelude.{◌≡◌, ℕ, ◌+◌, List, [], ◌∷◌, ◌++◌, length, ⊤, ◌⊎◌}
use Rattle.verilog_lex.specs.Lexemes.{Lexeme, blank, line_comment, block_comment, attribute, skipped_directive, token, IsLexeme, IsBroken}
use Rattle.verilog_lex.specs.declared.token.TokenKind.{TokenKind}
use Rattle.verilog_lex.specs.declared.token.TokenKind.TheVariants as kind
use Rattle.verilog_lex.specs.declared.token.Token.{Token}
use Rattle.verilog_lex.specs.declared.token.LexWhy.{LexWhy}
use Rattle.verilog_lex.specs.declared.token.LexWhy.TheVariants as why
use Rattle.verilog_lex.specs.declared.token.LexFault.{LexFault}

-- ---- pieces

pub record Piece : Type 0 where
  pub lexeme : Lexeme
  pub bytes : List ℕ

-- The bytes of the pieces, one behind the other.
abbrev pub joined : List Piece → List ℕ
joined [] = []
joined (p ∷ ps) = p.bytes ++ joined ps

-- Each piece is its lexeme, before what stands behind it.
abbrev pub AreLexemes : List Piece → List ℕ → Type 0
AreLexemes [] rest = ⊤
AreLexemes (p ∷ ps) rest = IsLexeme p.lexeme p.bytes (joined ps ++ rest) × AreLexemes ps rest

-- ---- their tokens

-- Where a token begins whose lexeme begins there: an escaped name's behind its backslash.
abbrev pub token_start : TokenKind → ℕ → ℕ
token_start kind.Name at = at
token_start kind.Escaped at = at + 1
token_start kind.Reserved at = at
token_start kind.Number at = at
token_start kind.Mark at = at

-- The token, if it is one, of a lexeme of so many bytes that begins there.
abbrev pub token_at : ℕ → Lexeme → ℕ → List Token
token_at at blank len = []
token_at at line_comment len = []
token_at at block_comment len = []
token_at at attribute len = []
token_at at skipped_directive len = []
token_at at (token k) len = record { kind = k; start = token_start k at; end = at + len } ∷ []

-- The tokens of pieces of which the first begins there.
abbrev pub tokens_of : ℕ → List Piece → List Token
tokens_of at [] = []
tokens_of at (p ∷ ps) = token_at at p.lexeme (length p.bytes) ++ tokens_of (at + length p.bytes) ps

-- ---- readings and faults

-- The text is pieces in order, and these are their tokens.
pub record Reads (text : List ℕ) (tokens : List Token) : Type 0 where
  pub pieces : List Piece
  pub parts : text ≡ joined pieces
  pub all : AreLexemes pieces []
  pub are : tokens ≡ tokens_of 0 pieces

-- The text is pieces in order and then a lexeme that is broken, and the offset is the place that its fault names.
pub record IsLexFault (text : List ℕ) (offset : ℕ) (why : LexWhy) : Type 0 where
  pub pieces : List Piece
  pub rest : List ℕ
  pub place : ℕ
  pub parts : text ≡ joined pieces ++ rest
  pub all : AreLexemes pieces rest
  pub broken : IsBroken why rest place
  pub offset_is : offset ≡ length (joined pieces) + place

-- The text has these tokens and no others, and no fault.
pub record IsOnlyReading (text : List ℕ) (tokens : List Token) : Type 0 where
  pub reads : Reads text tokens
  pub only : (others : List Token) → Reads text others → others ≡ tokens
  pub no_fault : (offset : ℕ) (why : LexWhy) → ¬ IsLexFault text offset why

-- The text has this fault and no other, and no reading.
pub record IsOnlyFault (text : List ℕ) (offset : ℕ) (why : LexWhy) : Type 0 where
  pub fault : IsLexFault text offset why
  pub only : (place : ℕ) (other : LexWhy) → IsLexFault text place other → (place ≡ offset) × (other ≡ why)
  pub no_reading : (tokens : List Token) → ¬ Reads text tokens

-- Why a lexer refuses the text: it has this one fault, or there was no memory.
abbrev pub IsRefusal : List ℕ → LexFault → Type 0
IsRefusal text fault = (fault.why ≡ why.Memory) ⊎ IsOnlyFault text fault.offset fault.why

-- The text has a reading or a fault.
abbrev pub HasDivision : List ℕ → Type 0
HasDivision text = ((tokens : List Token) × Reads text tokens) ⊎ ((offset : ℕ) × (why : LexWhy) × IsLexFault text offset why)
