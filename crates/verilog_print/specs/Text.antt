-- The printed form of a tree: its words, each with one blank behind it, and what reading it gives.
use Rattle.std.specs.Prelude.{ℕ, cond, List, [], ◌∷◌, map, decimal, nat_eq}
use Rattle.verilog_lex.specs.Bytes.{is_plain_name}
use Rattle.verilog_lex.specs.Reads.{IsOnlyReading}
use Rattle.verilog_lex.specs.Written.{Written, text_of}
use Rattle.verilog_lex.specs.declared.token.TokenKind.{TokenKind}
use Rattle.verilog_lex.specs.declared.token.TokenKind.TheVariants as kind
use Rattle.verilog_lex.specs.declared.token.Token.{Token}
use Rattle.verilog_tree.specs.declared.lexeme.Keyword.{Keyword}
use Rattle.verilog_tree.specs.declared.lexeme.Keyword.TheVariants as key
use Rattle.verilog_tree.specs.Words.{Word, name, keyword, number, mark, key_bytes, words}
use Rattle.verilog_tree.specs.Trees.{Module}
use Rattle.verilog_tree.specs.Spelling.{SpellsSource}
use Rattle.verilog_tree.specs.Text.{IsSpelledTree}
use Rattle.verilog_print.specs.Printing.{printed}

-- ---- how a word is written

-- a name stands behind a backslash where it is no plain name or is reserved
abbrev pub name_kind : List ℕ → TokenKind
name_kind n = cond (is_plain_name n) kind.Name kind.Escaped

-- a newline stands behind endmodule, a space behind every other reserved word
abbrev pub key_blank : Keyword → ℕ
key_blank key.Module = 32
key_blank key.Endmodule = 10
key_blank key.Input = 32
key_blank key.Output = 32
key_blank key.Wire = 32
key_blank key.Assign = 32
key_blank key.Other = 32

-- a newline stands behind a semicolon, a space behind every other mark
abbrev pub mark_blank : ℕ → ℕ
mark_blank c = cond (nat_eq c 59) 10 32

-- A word as it is written, and the blank behind it. A number is written in its shortest form.
abbrev pub written : Word → Written
written (name n) = record { word = record { kind = name_kind n; bytes = n }; blank = 32 }
written (keyword k) = record { word = record { kind = kind.Reserved; bytes = key_bytes k }; blank = key_blank k }
written (number n) = record { word = record { kind = kind.Number; bytes = decimal n }; blank = 32 }
written (mark c) = record { word = record { kind = kind.Mark; bytes = c ∷ [] }; blank = mark_blank c }

-- the printed form of the modules of a text
abbrev pub printed_text : List Module → List ℕ
printed_text tree = text_of (map written (printed tree))

-- ---- reading it

-- The text has one reading, and its tokens spell the tree.
pub record IsReadBack (text : List ℕ) (tree : List Module) : Type 0 where
  pub tokens : List Token
  pub reading : IsOnlyReading text tokens
  pub spelled : SpellsSource tree (words text tokens)

-- The printed form of a tree that some tokens spell is read back.
abbrev pub PrintedTreesAreReadBack : Type 0
PrintedTreesAreReadBack = (tree : List Module) → IsSpelledTree tree → IsReadBack (printed_text tree) tree
