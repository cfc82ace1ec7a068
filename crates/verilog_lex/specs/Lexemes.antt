-- Lexemes: what each one is, as bytes and the bytes behind them, and which beginnings of a text are broken ones.
--
-- Nothing here says how a lexeme is found. A definition looks at the whole of a lexeme's bytes, and at what stands behind them where
-- the lexeme is as long as possible. Sections are those of IEEE Std 1364-2005; each broken beginning is this project's own.
use Rattle.std.specs.Prelude.{◌≡◌, ℕ, suc, ◌≤◌, Bool, true, false, ◌||◌, ◌&&◌, ◌⊎◌, List, [], ◌∷◌, ◌++◌, length, ◌==◌, ⊤}
use Rattle.std.specs.List.{list_all}
use Rattle.std.specs.Char.{is_ascii_digit, is_ascii_graphic}
use Rattle.std.specs.Str.Parse.{digits_value}
use Rattle.verilog_lex.specs.Bytes.{quote, open_paren, close_paren, star, slash, backslash, backtick, is_blank, is_start, is_part, is_mark, is_in_line, begins, is_word, is_reserved, is_skipped}
use Rattle.verilog_lex.specs.declared.token.TokenKind.{TokenKind}
use Rattle.verilog_lex.specs.declared.token.TokenKind.TheVariants as kind
use Rattle.verilog_lex.specs.declared.token.LexWhy.{LexWhy}
use Rattle.verilog_lex.specs.declared.token.LexWhy.TheVariants as why

-- ---- strings in attributes (3.6)

-- In a string: a byte that is neither a quote nor a backslash, or a backslash with the byte that it takes.
pub data StringPart : Type 0 where
  byte : ℕ → StringPart
  taken : ℕ → StringPart

-- In an attribute: a byte outside strings, or a string, by its parts between the quotes.
pub data Part : Type 0 where
  outside : ℕ → Part
  string : List StringPart → Part

abbrev pub AreStringParts : List StringPart → Type 0
AreStringParts [] = ⊤
AreStringParts (byte b ∷ ps) = (b == quote ≡ false) × (b == backslash ≡ false) × AreStringParts ps
AreStringParts (taken b ∷ ps) = AreStringParts ps

abbrev pub string_bytes : List StringPart → List ℕ
string_bytes [] = []
string_bytes (byte b ∷ ps) = b ∷ string_bytes ps
string_bytes (taken b ∷ ps) = backslash ∷ b ∷ string_bytes ps

abbrev pub AreParts : List Part → Type 0
AreParts [] = ⊤
AreParts (outside b ∷ ps) = (b == quote ≡ false) × AreParts ps
AreParts (string s ∷ ps) = AreStringParts s × AreParts ps

abbrev pub part_bytes : List Part → List ℕ
part_bytes [] = []
part_bytes (outside b ∷ ps) = b ∷ part_bytes ps
part_bytes (string s ∷ ps) = quote ∷ (string_bytes s ++ quote ∷ part_bytes ps)

-- The bytes are some outside strings and some whole strings: what stands behind them is outside strings.
pub record HasNoOpenString (bytes : List ℕ) : Type 0 where
  pub parts : List Part
  pub are : AreParts parts
  pub spell : bytes ≡ part_bytes parts

-- a comment knows no strings
abbrev pub IsAnything : List ℕ → Type 0
IsAnything bytes = ⊤

-- ---- comments (3.3), attributes (3.8), lines

-- Nowhere in these bytes does the closing `x y` stand behind bytes that leave room for one.
abbrev pub NoneCloses : ℕ → ℕ → (List ℕ → Type 0) → List ℕ → Type 0
NoneCloses x y Room bytes = (before after : List ℕ) → bytes ≡ before ++ x ∷ y ∷ after → Room before → ⊥

-- An opening of two bytes, a body, and the closing of two bytes `x y`, which is the first one behind the opening.
pub record IsEnclosed (open1 open2 x y : ℕ) (Room : List ℕ → Type 0) (bytes : List ℕ) : Type 0 where
  pub body : List ℕ
  pub parts : bytes ≡ open1 ∷ open2 ∷ (body ++ x ∷ y ∷ [])
  pub room : Room body
  pub first : NoneCloses x y Room (body ++ x ∷ [])

-- An opening of two bytes, behind which no closing stands.
pub record IsUnended (open1 open2 x y : ℕ) (Room : List ℕ → Type 0) (text : List ℕ) : Type 0 where
  pub body : List ℕ
  pub parts : text ≡ open1 ∷ open2 ∷ body
  pub none : NoneCloses x y Room body

-- These first bytes, and then the rest of the line.
pub record IsLineFrom (first : List ℕ) (bytes after : List ℕ) : Type 0 where
  pub body : List ℕ
  pub parts : bytes ≡ first ++ body
  pub in_line : list_all is_in_line body ≡ true
  pub ends : begins is_in_line after ≡ false

-- A backtick, the name of a directive that is skipped, and the rest of the line. The name is as long as possible.
pub record IsSkippedDirective (bytes after : List ℕ) : Type 0 where
  pub name : List ℕ
  pub known : is_skipped name ≡ true
  pub line : IsLineFrom (backtick ∷ name) bytes after
  pub ends : begins is_part line.body ≡ false

-- ---- lexemes

-- A blank is one byte. The two comments are the one up to the end of the line and the one up to its closing.
pub data Lexeme : Type 0 where
  blank : Lexeme
  line_comment : Lexeme
  block_comment : Lexeme
  attribute : Lexeme
  skipped_directive : Lexeme
  token : TokenKind → Lexeme

-- A token of each kind, before those bytes.
-- An escaped name's bytes here begin with its backslash; a blank or the end of the text stands behind it (3.7.1; the end is this project's own).
-- A number has digits alone and is at most 999,999,999; a mark `(` before a star would be an attribute. Both are this project's own.
abbrev pub IsToken : TokenKind → List ℕ → List ℕ → Type 0
IsToken kind.Name bytes after = (is_word is_start is_part bytes ≡ true) × (is_reserved bytes ≡ false) × (begins is_part after ≡ false)
IsToken kind.Reserved bytes after = (is_word is_start is_part bytes ≡ true) × (is_reserved bytes ≡ true) × (begins is_part after ≡ false)
IsToken kind.Escaped bytes after = (name : List ℕ) × (bytes ≡ backslash ∷ name) × (is_word is_ascii_graphic is_ascii_graphic name ≡ true) × ((after ≡ []) ⊎ (begins is_blank after ≡ true))
IsToken kind.Number bytes after = (is_word is_ascii_digit is_ascii_digit bytes ≡ true) × (digits_value 10 bytes ≤ 999999999) × (begins is_ascii_digit after ≡ false)
IsToken kind.Mark bytes after = (b : ℕ) × (bytes ≡ b ∷ []) × (is_mark b ≡ true) × ((b == open_paren && begins (λ c. c == star) after) ≡ false)

-- These bytes are such a lexeme, where those stand behind it.
abbrev pub IsLexeme : Lexeme → List ℕ → List ℕ → Type 0
IsLexeme blank bytes after = (b : ℕ) × (bytes ≡ b ∷ []) × (is_blank b ≡ true)
IsLexeme line_comment bytes after = IsLineFrom (slash ∷ slash ∷ []) bytes after
IsLexeme block_comment bytes after = IsEnclosed slash star star slash IsAnything bytes
IsLexeme attribute bytes after = IsEnclosed open_paren star star close_paren HasNoOpenString bytes
IsLexeme skipped_directive bytes after = IsSkippedDirective bytes after
IsLexeme (token k) bytes after = IsToken k bytes after

-- ---- broken lexemes

-- Some lexeme, whole or broken otherwise, begins with this byte before those: a slash only before a slash or a star, a backtick only before a name.
abbrev pub can_begin : ℕ → List ℕ → Bool
can_begin b bs = is_start b || is_ascii_digit b || is_blank b || is_mark b || b == backslash
    || (b == slash && begins (λ c. c == slash || c == star) bs) || (b == backtick && begins is_start bs)

-- An escaped name with a byte in it that is neither a blank nor one of its own: how many bytes stand before that byte.
pub record HasBadEscape (text : List ℕ) (place : ℕ) : Type 0 where
  pub name : List ℕ
  pub rest : List ℕ
  pub bad : ℕ
  pub parts : text ≡ backslash ∷ (name ++ bad ∷ rest)
  pub graphic : is_word is_ascii_graphic is_ascii_graphic name ≡ true
  pub not_graphic : is_ascii_graphic bad ≡ false
  pub not_blank : is_blank bad ≡ false
  pub place_is : place ≡ suc (length name)

-- These first bytes, and then a word of the two classes that is as long as possible.
pub record BeginsWithLongest (first : List ℕ) (p q : ℕ → Bool) (text : List ℕ) (word : List ℕ) : Type 0 where
  pub after : List ℕ
  pub parts : text ≡ first ++ (word ++ after)
  pub all : is_word p q word ≡ true
  pub ends : begins q after ≡ false

-- The text begins with a lexeme that is broken: why, and how far from its first byte the place lies that a fault names.
abbrev pub IsBroken : LexWhy → List ℕ → ℕ → Type 0
IsBroken why.BadByte text place = HasBadEscape text place ⊎ ((place ≡ 0) × (b : ℕ) × (rest : List ℕ) × (text ≡ b ∷ rest) × (can_begin b rest ≡ false))
IsBroken why.UnendedComment text place = (place ≡ 0) × IsUnended slash star star slash IsAnything text
IsBroken why.UnendedAttribute text place = (place ≡ 0) × IsUnended open_paren star star close_paren HasNoOpenString text
IsBroken why.EmptyEscape text place = (place ≡ 0) × (rest : List ℕ) × (text ≡ backslash ∷ rest) × (begins is_ascii_graphic rest ≡ false)
IsBroken why.Directive text place = (place ≡ 0) × (word : List ℕ) × (is_skipped word ≡ false) × BeginsWithLongest (backtick ∷ []) is_start is_part text word
IsBroken why.BigNumber text place = (place ≡ 0) × (word : List ℕ) × (1000000000 ≤ digits_value 10 word) × BeginsWithLongest [] is_ascii_digit is_ascii_digit text word
IsBroken why.Memory text place = ⊥
