-- What the bytes of a token are, by its kind: digits, text, one byte. And each token of a reading lies in its text.
use Rattle.std.proofs.Common.{inl, inr, ◌≡◌, ◌<◌, ◌≤◌, ℕ, zero, suc, Bool, true, false, arith, length, List, [], ◌∷◌, map, refl, ap, subst}
use Rattle.std.specs.Prelude.{◌||◌, ◌==◌, ◌+◌, nat_le}
use Rattle.std.specs.Int.{is_in_range}
use Rattle.std.proofs.lemmas.Bool.{eqb-true}
use Rattle.std.proofs.lemmas.Bool.Decides.{leb_tells}
use Rattle.std.proofs.lemmas.Str.{digit_value_digit}
use Rattle.std.specs.List.{AllByRecursion, list_all}
use Rattle.std.specs.Char.{is_ascii_digit, is_ascii_graphic, is_ascii_alphabetic, digit_value}
use Rattle.std.specs.Str.{IsAscii, IsUtf8}
use Rattle.std.specs.Str.Parse.{AllDigits}
use Rattle.std.proofs.lemmas.Str.{IsUtf8-from_ascii}
use Rattle.verilog_lex.specs.Bytes.{is_start, is_part, is_word}
use Rattle.verilog_lex.specs.declared.token.Token.{Token}
use Rattle.verilog_lex.specs.Words as lex
use Rattle.verilog_tree.specs.Words.{Word, IsToken, meaning, word_at, words}
use Rattle.verilog_tree.specs.Trees.{Module}
use Rattle.verilog_tree.specs.Spelling.{SpellsSource}
use Rattle.verilog_tree.specs.Text.{IsSpelledTree}
use Rattle.verilog_tree.proofs.Good.{and_left, and_right}

-- ---- digits

pub le_of : (i j : ℕ) → nat_le i j ≡ true → i ≤ j
le_of i j h = elim (leb_tells i j) [ inl t ↦ t.1 | inr t ↦ absurd cc ]

digit_small : (b : ℕ) → is_ascii_digit b ≡ true → digit_value b < 10
digit_small b e =
    let low : 48 ≤ b = le_of 48 b (and_left (nat_le 48 b) (nat_le b 57) e) in
    let high : b ≤ 57 = le_of b 57 (and_right (nat_le 48 b) (nat_le b 57) e) in
    let v : digit_value b + 48 ≡ b = digit_value_digit b (low, high) in
    omega (arith, v)

all_digits : (w : List ℕ) → list_all is_ascii_digit w ≡ true → AllDigits 10 w
all_digits [] e = tt
all_digits (b ∷ bs) e = (digit_small b (and_left (is_ascii_digit b) (list_all is_ascii_digit bs) e), all_digits bs (and_right (is_ascii_digit b) (list_all is_ascii_digit bs) e))

pub word_digits : (w : List ℕ) → is_word is_ascii_digit is_ascii_digit w ≡ true → AllDigits 10 w
word_digits [] e = absurd cc
word_digits (b ∷ bs) e = all_digits (b ∷ bs) e

-- ---- text

ascii_cons : (b : ℕ) (bs : List ℕ) → b < 128 → IsAscii bs → IsAscii (b ∷ bs)
ascii_cons b bs lt all zero = lt
ascii_cons b bs lt all (suc i) = all i

ascii_nil : IsAscii []
ascii_nil zero = omega arith
ascii_nil (suc i) = omega arith

all_ascii : (p : ℕ → Bool) → ((b : ℕ) → p b ≡ true → b < 128) → (w : List ℕ) → list_all p w ≡ true → IsAscii w
all_ascii p h [] e = ascii_nil
all_ascii p h (b ∷ bs) e = ascii_cons b bs (h b (and_left (p b) (list_all p bs) e)) (all_ascii p h bs (and_right (p b) (list_all p bs) e))

word_ascii : (p q : ℕ → Bool) → ((b : ℕ) → p b ≡ true → b < 128) → ((b : ℕ) → q b ≡ true → b < 128) → (w : List ℕ) → is_word p q w ≡ true → IsAscii w
word_ascii p q h k [] e = absurd cc
word_ascii p q h k (b ∷ bs) e = ascii_cons b bs (h b (and_left (p b) (list_all q bs) e)) (all_ascii q k bs (and_right (p b) (list_all q bs) e))

range_small : (low high b : ℕ) → high < 128 → is_in_range low high b ≡ true → b < 128
range_small low high b lt e = let le : b ≤ high = le_of b high (and_right (nat_le low b) (nat_le b high) e) in omega arith

same_small : (b c : ℕ) → c < 128 → (b == c) ≡ true → b < 128
same_small b c lt e = let is : b ≡ c = eqb-true b c e in omega arith

or_small : (p q : Bool) (b : ℕ) → (p ≡ true → b < 128) → (q ≡ true → b < 128) → p || q ≡ true → b < 128
or_small true q b h k e = h refl
or_small false q b h k e = k e

start_small : (b : ℕ) → is_start b ≡ true → b < 128
start_small b e = or_small (is_ascii_alphabetic b) (b == 95) b
    (λ letter. or_small (is_in_range 65 90 b) (is_in_range 97 122 b) b (range_small 65 90 b (omega arith)) (range_small 97 122 b (omega arith)) letter)
    (same_small b 95 (omega arith)) e

part_small : (b : ℕ) → is_part b ≡ true → b < 128
part_small b e = or_small (is_start b || is_ascii_digit b) (b == 36) b
    (λ front. or_small (is_start b) (is_ascii_digit b) b (start_small b) (range_small 48 57 b (omega arith)) front)
    (same_small b 36 (omega arith)) e

graphic_small : (b : ℕ) → is_ascii_graphic b ≡ true → b < 128
graphic_small b e = range_small 33 126 b (omega arith) e

pub plain_text : (w : List ℕ) → is_word is_start is_part w ≡ true → IsUtf8 w
plain_text w e = IsUtf8-from_ascii w (word_ascii is_start is_part start_small part_small w e)

pub escaped_text : (w : List ℕ) → is_word is_ascii_graphic is_ascii_graphic w ≡ true → IsUtf8 w
escaped_text w e = IsUtf8-from_ascii w (word_ascii is_ascii_graphic is_ascii_graphic graphic_small graphic_small w e)

-- ---- the tokens of a reading

pub all_tokens : (bytes : List ℕ) (from : ℕ) (ts : List Token) → lex.AreSpelled (lex.words_of bytes ts) → lex.ArePlaced (length bytes) from ts → AllByRecursion (IsToken bytes) ts
all_tokens bytes from [] s p = tt
all_tokens bytes from (t ∷ ts) s p = (record { order = p.1; within = p.2; spelled = s.0 }, all_tokens bytes t.end ts s.1 p.3)

pub words_are : (text : List ℕ) (ts : List Token) → words text ts ≡ map meaning (lex.words_of text ts)
words_are text [] = refl
words_are text (t ∷ ts) = ap (λ (ws : List Word). word_at text t ∷ ws) (words_are text ts)

-- a tree that the words of a text spell is spelled by tokens
pub spelled_tree : (text : List ℕ) (ts : List Token) (tree : List Module) → lex.AreSpelled (lex.words_of text ts) → SpellsSource tree (words text ts) → IsSpelledTree tree
spelled_tree text ts tree good s = record { tokens = lex.words_of text ts; good = good; spelled = subst (λ (ws : List Word). SpellsSource tree ws) (words_are text ts) s }
