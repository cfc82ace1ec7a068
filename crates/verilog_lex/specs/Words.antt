-- What a reading's tokens are for those who use them: words, places in the text, and what stands between them.
use Rattle.std.specs.Prelude.{◌≡◌, ℕ, ◌-◌, ◌≤◌, ◌<◌, true, false, List, [], ◌∷◌, take, drop, ⊤}
use Rattle.std.specs.List.{list_all}
use Rattle.std.specs.Char.{is_ascii_digit, is_ascii_graphic}
use Rattle.std.specs.Str.Parse.{digits_value}
use Rattle.verilog_lex.specs.Bytes.{is_blank, is_start, is_part, is_mark, is_word, is_reserved}
use Rattle.verilog_lex.specs.declared.token.TokenKind.{TokenKind}
use Rattle.verilog_lex.specs.declared.token.TokenKind.TheVariants as kind
use Rattle.verilog_lex.specs.declared.token.Token.{Token}

-- ---- words

-- A token without its place: its kind and its bytes, those of an escaped name without the backslash.
pub record Word : Type 0 where
  pub kind : TokenKind
  pub bytes : List ℕ

abbrev pub word_of : List ℕ → Token → Word
word_of text t = record { kind = t.kind; bytes = take (t.end - t.start) (drop t.start text) }

abbrev pub words_of : List ℕ → List Token → List Word
words_of text [] = []
words_of text (t ∷ ts) = word_of text t ∷ words_of text ts

-- The bytes of a word of each kind.
abbrev pub IsSpelled : TokenKind → List ℕ → Type 0
IsSpelled kind.Name w = (is_word is_start is_part w ≡ true) × (is_reserved w ≡ false)
IsSpelled kind.Reserved w = (is_word is_start is_part w ≡ true) × (is_reserved w ≡ true)
IsSpelled kind.Escaped w = is_word is_ascii_graphic is_ascii_graphic w ≡ true
IsSpelled kind.Number w = (is_word is_ascii_digit is_ascii_digit w ≡ true) × (digits_value 10 w ≤ 999999999)
IsSpelled kind.Mark w = (b : ℕ) × (w ≡ b ∷ []) × (is_mark b ≡ true)

abbrev pub AreSpelled : List Word → Type 0
AreSpelled [] = ⊤
AreSpelled (w ∷ ws) = IsSpelled w.kind w.bytes × AreSpelled ws

-- ---- places

-- From a place on, the tokens stand one behind the other in a text of that length, and none is empty.
abbrev pub ArePlaced : ℕ → ℕ → List Token → Type 0
ArePlaced len from [] = ⊤
ArePlaced len from (t ∷ ts) = (from ≤ t.start) × (t.start < t.end) × (t.end ≤ len) × ArePlaced len t.end ts

-- From a place on, there are blanks alone before each token and behind the last: no comment, attribute or directive, and no backslash of a name.
abbrev pub HasOnlyBlanksBetween : List ℕ → ℕ → List Token → Type 0
HasOnlyBlanksBetween text from [] = list_all is_blank (drop from text) ≡ true
HasOnlyBlanksBetween text from (t ∷ ts) = (list_all is_blank (take (t.start - from) (drop from text)) ≡ true) × HasOnlyBlanksBetween text t.end ts
