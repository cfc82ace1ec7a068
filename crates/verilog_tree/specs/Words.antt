-- What the grammar sees of the tokens of a text: words, without blanks and places. And tests of the next word.
use Rattle.std.specs.Prelude.{ℕ, ◌<◌, ◌≤◌, Bool, true, false, cond, not, List, ◌||◌, Option, Some, None, nat_eq, map, codes, length, slice_index_or}
use Rattle.std.specs.Str.{bytes_eq, IsUtf8}
use Rattle.std.specs.Str.Parse.{digits_value}
use Rattle.verilog_lex.specs.declared.token.TokenKind.{TokenKind}
use Rattle.verilog_lex.specs.declared.token.TokenKind.TheVariants as kind
use Rattle.verilog_lex.specs.declared.token.Token.{Token}
use Rattle.verilog_lex.specs.Words as lex
use Rattle.verilog_tree.specs.declared.lexeme.Keyword.{Keyword}
use Rattle.verilog_tree.specs.declared.lexeme.Keyword.TheVariants as key
use Rattle.verilog_tree.specs.declared.lexeme.Lexeme.{Lexeme}
use Rattle.verilog_tree.specs.declared.lexeme.Lexeme.TheVariants as lexeme
use Rattle.verilog_tree.specs.declared.tree.Dir.{Dir}
use Rattle.verilog_tree.specs.declared.tree.Dir.TheVariants as dir

-- A name by its bytes, whether it was written plain or escaped; a reserved word; a number by its value; a mark by its byte.
pub data Word : Type 0 where
  name : List ℕ → Word
  keyword : Keyword → Word
  number : ℕ → Word
  mark : ℕ → Word

-- the reserved word of these bytes; those that the grammar does not have are all one
unfoldable pub keyword_of : List ℕ → Keyword
keyword_of w = cond (bytes_eq w (codes "module")) key.Module
    (cond (bytes_eq w (codes "endmodule")) key.Endmodule
    (cond (bytes_eq w (codes "input")) key.Input
    (cond (bytes_eq w (codes "output")) key.Output
    (cond (bytes_eq w (codes "wire")) key.Wire
    (cond (bytes_eq w (codes "assign")) key.Assign key.Other)))))

-- the bytes of a reserved word; those that no tree has are all written as one of them
abbrev pub key_bytes : Keyword → List ℕ
key_bytes key.Module = codes "module"
key_bytes key.Endmodule = codes "endmodule"
key_bytes key.Input = codes "input"
key_bytes key.Output = codes "output"
key_bytes key.Wire = codes "wire"
key_bytes key.Assign = codes "assign"
key_bytes key.Other = codes "reg"

-- the word that a token of a kind and of these bytes is
abbrev pub word_of : TokenKind → List ℕ → Word
word_of kind.Name w = name w
word_of kind.Escaped w = name w
word_of kind.Reserved w = keyword (keyword_of w)
word_of kind.Number w = number (digits_value 10 w)
word_of kind.Mark w = mark (slice_index_or w 0 0)

abbrev pub meaning : lex.Word → Word
meaning w = word_of w.kind w.bytes

-- the word of a token that lies in a text
abbrev pub word_at : List ℕ → Token → Word
word_at bytes t = meaning (lex.word_of bytes t)

-- the words of the tokens that lie in a text
abbrev pub words : List ℕ → List Token → List Word
words bytes tokens = map (word_at bytes) tokens

-- ---- what the code holds of a token

abbrev pub lexeme_word : Lexeme → Word
lexeme_word (lexeme.Name text) = name text.now
lexeme_word (lexeme.Keyword k) = keyword k
lexeme_word (lexeme.Number n) = number n
lexeme_word (lexeme.Mark c) = mark c

-- a name is text
abbrev pub HasText : Lexeme → Type 0
HasText (lexeme.Name text) = IsUtf8 text.now
HasText (lexeme.Keyword k) = Unit {0}
HasText (lexeme.Number n) = Unit {0}
HasText (lexeme.Mark c) = Unit {0}

-- a token lies in the text, and its bytes are what its kind says
pub record IsToken (bytes : List ℕ) (t : Token) : Type 0 where
  pub order : t.start < t.end
  pub within : t.end ≤ length bytes
  pub spelled : lex.IsSpelled t.kind (lex.word_of bytes t).bytes

-- ---- tests of a word

abbrev pub rank : Keyword → ℕ
rank key.Module = 0
rank key.Endmodule = 1
rank key.Input = 2
rank key.Output = 3
rank key.Wire = 4
rank key.Assign = 5
rank key.Other = 6

-- what a word is
abbrev pub mark_of : ℕ → Word → Option (Unit {0})
mark_of c (mark d) = cond (nat_eq d c) (Some tt) None
mark_of c (name n) = None
mark_of c (keyword k) = None
mark_of c (number n) = None

abbrev pub key_of : Keyword → Word → Option (Unit {0})
key_of k (keyword j) = cond (nat_eq (rank j) (rank k)) (Some tt) None
key_of k (mark d) = None
key_of k (name n) = None
key_of k (number n) = None

abbrev pub name_of : Word → Option (List ℕ)
name_of (name n) = Some n
name_of (keyword k) = None
name_of (number n) = None
name_of (mark c) = None

abbrev pub number_of : Word → Option ℕ
number_of (number n) = Some n
number_of (name n) = None
number_of (keyword k) = None
number_of (mark c) = None

abbrev pub dir_of_key : Keyword → Option Dir
dir_of_key key.Input = Some dir.Input
dir_of_key key.Output = Some dir.Output
dir_of_key key.Module = None
dir_of_key key.Endmodule = None
dir_of_key key.Wire = None
dir_of_key key.Assign = None
dir_of_key key.Other = None

abbrev pub dir_of : Word → Option Dir
dir_of (keyword k) = dir_of_key k
dir_of (name n) = None
dir_of (number n) = None
dir_of (mark c) = None

-- tests of the next word
abbrev pub is_some : {A : Type 0} → Option A → Bool
is_some None = false
is_some (Some a) = true

abbrev pub next_is : {A : Type 0} → (Word → Option A) → Option Word → Bool
next_is f None = false
next_is f (Some w) = is_some (f w)

abbrev pub is_mark : ℕ → Option Word → Bool
is_mark c o = next_is (mark_of c) o

abbrev pub isnt_mark : ℕ → Option Word → Bool
isnt_mark c o = not (is_mark c o)

abbrev pub begins_item : Option Word → Bool
begins_item o = next_is dir_of o || next_is (key_of key.Wire) o || next_is (key_of key.Assign) o || next_is name_of o

abbrev pub begins_expr : Option Word → Bool
begins_expr o = next_is name_of o || is_mark 123 o
