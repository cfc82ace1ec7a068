-- Texts that are written word by word, each word with one blank behind it.
use Rattle.std.specs.Prelude.{◌≡◌, ℕ, true, List, [], ◌∷◌, ◌++◌, map, ⊤}
use Rattle.verilog_lex.specs.Bytes.{backslash, is_blank}
use Rattle.verilog_lex.specs.Reads.{IsOnlyReading}
use Rattle.verilog_lex.specs.Words.{Word, words_of, IsSpelled}
use Rattle.verilog_lex.specs.declared.token.TokenKind.{TokenKind}
use Rattle.verilog_lex.specs.declared.token.TokenKind.TheVariants as kind
use Rattle.verilog_lex.specs.declared.token.Token.{Token}

-- A word and the blank behind it.
pub record Written : Type 0 where
  pub word : Word
  pub blank : ℕ

abbrev pub word_in : Written → Word
word_in w = w.word

-- An escaped name is written with its backslash, every other word as it is.
abbrev pub spelling : TokenKind → List ℕ → List ℕ
spelling kind.Name w = w
spelling kind.Reserved w = w
spelling kind.Escaped w = backslash ∷ w
spelling kind.Number w = w
spelling kind.Mark w = w

abbrev pub text_of : List Written → List ℕ
text_of [] = []
text_of (w ∷ ws) = spelling w.word.kind w.word.bytes ++ w.blank ∷ text_of ws

-- Each word is spelled as its kind is, and each blank is one.
abbrev pub AreWritten : List Written → Type 0
AreWritten [] = ⊤
AreWritten (w ∷ ws) = IsSpelled w.word.kind w.word.bytes × (is_blank w.blank ≡ true) × AreWritten ws

-- The text has one reading, and its words are these.
pub record IsReadAs (text : List ℕ) (words : List Word) : Type 0 where
  pub tokens : List Token
  pub reading : IsOnlyReading text tokens
  pub words_are : words_of text tokens ≡ words

-- Words that are written are what is read.
abbrev pub WrittenWordsAreRead : Type 0
WrittenWordsAreRead = (ws : List Written) → AreWritten ws → IsReadAs (text_of ws) (map word_in ws)
