-- Words that tokens can mean: each has a token that is spelled as its kind is and means it.
use Rattle.std.proofs.Common.{◌≡◌, ◌<◌, ◌≤◌, ◌++◌, ℕ, Bool, true, false, arith, length, List, [], ◌∷◌, map, refl, sym, ap, ◌∙◌, subst}
use Rattle.std.specs.Prelude.{◌&&◌, not, decimal}
use Rattle.std.specs.List.{list_all}
use Rattle.std.specs.Char.{is_ascii_digit, is_ascii_graphic}
use Rattle.std.specs.Str.{all_ascii_digits}
use Rattle.std.specs.Str.Parse.{digits_value}
use Rattle.std.proofs.lemmas.Fmt.{digits_decimal, digits_value-decimal, decimal_nonempty}
use Rattle.std.proofs.lemmas.Str.Parse.{IsNumeralModel, numerals_by_value, tells_all_ascii_digits}
use Rattle.verilog_lex.specs.Bytes.{is_mark, is_word, is_reserved}
use Rattle.verilog_lex.specs.declared.token.TokenKind.TheVariants as kind
use Rattle.verilog_lex.specs.Words as lex
use Rattle.verilog_tree.specs.declared.lexeme.Keyword.{Keyword}
use Rattle.verilog_tree.specs.declared.lexeme.Keyword.TheVariants as key
use Rattle.verilog_tree.specs.Words.{Word, name, keyword, number, mark, keyword_of, key_bytes, meaning}

-- a name of bytes 33 to 126, a number of at most nine digits, one of the marks
abbrev pub Good : Word → Type 0
Good (name n) = is_word is_ascii_graphic is_ascii_graphic n ≡ true
Good (keyword k) = Unit {0}
Good (number n) = n ≤ 999999999
Good (mark c) = is_mark c ≡ true

abbrev pub AllGood : List Word → Type 0
AllGood [] = Unit {0}
AllGood (w ∷ ws) = Good w × AllGood ws

pub good_both : (a b : List Word) → AllGood a → AllGood b → AllGood (a ++ b)
good_both [] b g h = h
good_both (w ∷ a) b g h = (g.0, good_both a b g.1 h)

-- ---- numbers and reserved words have tokens

pub not_true : (b : Bool) → not b ≡ true → b ≡ false
not_true true e = absurd cc
not_true false e = refl

pub and_left : (a b : Bool) → a && b ≡ true → a ≡ true
and_left true b e = refl
and_left false b e = absurd cc

pub and_right : (a b : Bool) → a && b ≡ true → b ≡ true
and_right true b e = e
and_right false b e = absurd cc

pub and_both : (a b : Bool) → a ≡ true → b ≡ true → a && b ≡ true
and_both true b e f = f
and_both false b e f = absurd cc

own : IsNumeralModel (λ ds. all_ascii_digits ds ≡ true) (digits_value 10)
own = numerals_by_value (λ ds. all_ascii_digits ds ≡ true) tells_all_ascii_digits

digits_word : (ds : List ℕ) → 0 < length ds → all_ascii_digits ds ≡ true → is_word is_ascii_digit is_ascii_digit ds ≡ true
digits_word [] lt e = absurd (omega arith)
digits_word (d ∷ ds) lt e = and_both (is_ascii_digit d) (list_all is_ascii_digit ds) (and_left (is_ascii_digit d) (all_ascii_digits ds) e) (all_digits ds (and_right (is_ascii_digit d) (all_ascii_digits ds) e)) where
  all_digits : (ds : List ℕ) → all_ascii_digits ds ≡ true → list_all is_ascii_digit ds ≡ true
  all_digits [] e = refl
  all_digits (d ∷ ds) e = and_both (is_ascii_digit d) (list_all is_ascii_digit ds) (and_left (is_ascii_digit d) (all_ascii_digits ds) e) (all_digits ds (and_right (is_ascii_digit d) (all_ascii_digits ds) e))

pub decimal_value : (n : ℕ) → n ≤ 999999999 → digits_value 10 (decimal n) ≡ n
decimal_value n le = digits_value-decimal own n (omega arith)

pub decimal_spelled : (n : ℕ) → n ≤ 999999999 → lex.IsSpelled kind.Number (decimal n)
decimal_spelled n le = (digits_word (decimal n) (decimal_nonempty n (omega arith)) (digits_decimal own n (omega arith)), subst (λ (v : ℕ). v ≤ 999999999) (sym (decimal_value n le)) le)

pub key_spelled : (k : Keyword) → lex.IsSpelled kind.Reserved (key_bytes k)
unfolding is_reserved
key_spelled key.Module = (refl, refl)
key_spelled key.Endmodule = (refl, refl)
key_spelled key.Input = (refl, refl)
key_spelled key.Output = (refl, refl)
key_spelled key.Wire = (refl, refl)
key_spelled key.Assign = (refl, refl)
key_spelled key.Other = (refl, refl)

pub key_back : (k : Keyword) → keyword_of (key_bytes k) ≡ k
unfolding keyword_of
key_back key.Module = refl
key_back key.Endmodule = refl
key_back key.Input = refl
key_back key.Output = refl
key_back key.Wire = refl
key_back key.Assign = refl
key_back key.Other = refl

-- ---- good words have tokens

-- a token of each word; a name's is escaped, whatever the name
abbrev token_of : Word → lex.Word
token_of (name n) = record { kind = kind.Escaped; bytes = n }
token_of (keyword k) = record { kind = kind.Reserved; bytes = key_bytes k }
token_of (number n) = record { kind = kind.Number; bytes = decimal n }
token_of (mark c) = record { kind = kind.Mark; bytes = c ∷ [] }

tokens_spelled : (ws : List Word) → AllGood ws → lex.AreSpelled (map token_of ws)
tokens_spelled [] g = tt
tokens_spelled (name n ∷ ws) g = (g.0, tokens_spelled ws g.1)
tokens_spelled (keyword k ∷ ws) g = (key_spelled k, tokens_spelled ws g.1)
tokens_spelled (number n ∷ ws) g = (decimal_spelled n g.0, tokens_spelled ws g.1)
tokens_spelled (mark c ∷ ws) g = ((c, refl, g.0), tokens_spelled ws g.1)

token_back : (w : Word) → Good w → meaning (token_of w) ≡ w
token_back (name n) g = refl
token_back (keyword k) g = ap keyword (key_back k)
token_back (number n) g = ap number (decimal_value n g)
token_back (mark c) g = refl

tokens_back : (ws : List Word) → AllGood ws → map meaning (map token_of ws) ≡ ws
tokens_back [] g = refl
tokens_back (w ∷ ws) g = ap (λ (v : Word). v ∷ map meaning (map token_of ws)) (token_back w g.0) ∙ ap (λ (vs : List Word). w ∷ vs) (tokens_back ws g.1)

pub record Tokens (ws : List Word) : Type 0 where
  pub tokens : List lex.Word
  pub good : lex.AreSpelled tokens
  pub are : map meaning tokens ≡ ws

pub tokens_of_good : (ws : List Word) → AllGood ws → Tokens ws
tokens_of_good ws g = record { tokens = map token_of ws; good = tokens_spelled ws g; are = tokens_back ws g }
