-- Words that can be written: what is written of them is spelled as its kind is, and means them again.
use Rattle.std.proofs.Common.{◌≡◌, ◌<◌, ◌≤◌, ◌++◌, ℕ, Bool, true, false, cond, arith, List, [], ◌∷◌, map, refl, sym, ap, ◌∙◌, subst, inl, inr}
use Rattle.std.specs.Prelude.{◌||◌, ◌==◌, not, nat_le, nat_eq}
use Rattle.std.specs.Int.{is_in_range}
use Rattle.std.specs.List.{list_all}
use Rattle.std.specs.Char.{is_ascii_digit, is_ascii_graphic, is_ascii_alphabetic}
use Rattle.std.proofs.lemmas.Bool.{eqb-true}
use Rattle.std.proofs.lemmas.Bool.Decides.{leb_tells}
use Rattle.verilog_lex.specs.Bytes.{is_blank, is_start, is_part, is_word, is_reserved, is_plain_name}
use Rattle.verilog_lex.specs.declared.token.TokenKind.{TokenKind}
use Rattle.verilog_lex.specs.declared.token.TokenKind.TheVariants as kind
use Rattle.verilog_lex.specs.Words as lex
use Rattle.verilog_lex.specs.Written.{AreWritten, word_in}
use Rattle.verilog_tree.specs.declared.lexeme.Keyword.{Keyword}
use Rattle.verilog_tree.specs.declared.lexeme.Keyword.TheVariants as key
use Rattle.verilog_tree.specs.Words.{Word, name, keyword, number, mark, word_of, meaning}
use Rattle.verilog_tree.proofs.Good.{Good, AllGood, and_left, and_right, and_both, decimal_value, decimal_spelled, key_spelled, key_back, not_true}
use Rattle.verilog_print.specs.Text.{key_blank, written}
use Rattle.verilog_tree.proofs.Tokens.{le_of}

pub good_front : (a b : List Word) → AllGood (a ++ b) → AllGood a
good_front [] b g = tt
good_front (w ∷ a) b g = (g.0, good_front a b g.1)

pub good_back : (a b : List Word) → AllGood (a ++ b) → AllGood b
good_back [] b g = g
good_back (w ∷ a) b g = good_back a b g.1

-- ---- bytes

of_le : (i j : ℕ) → i ≤ j → nat_le i j ≡ true
of_le i j h = elim (leb_tells i j) [ inl t ↦ t.0 | inr t ↦ let gt : j < i = t.1 in absurd (omega arith) ]

wider : (low high b : ℕ) → 33 ≤ low → high ≤ 126 → is_in_range low high b ≡ true → is_ascii_graphic b ≡ true
wider low high b l h e =
    let from : low ≤ b = le_of low b (and_left (nat_le low b) (nat_le b high) e) in
    let to : b ≤ high = le_of b high (and_right (nat_le low b) (nat_le b high) e) in
    and_both (nat_le 33 b) (nat_le b 126) (of_le 33 b (omega arith)) (of_le b 126 (omega arith))

same_graphic : (b c : ℕ) → is_ascii_graphic c ≡ true → (b == c) ≡ true → is_ascii_graphic b ≡ true
same_graphic b c g e = subst (λ (d : ℕ). is_ascii_graphic d ≡ true) (sym (eqb-true b c e)) g

or_either : (p q r : Bool) → (p ≡ true → r ≡ true) → (q ≡ true → r ≡ true) → p || q ≡ true → r ≡ true
or_either true q r h k e = h refl
or_either false q r h k e = k e

start_graphic : (b : ℕ) → is_start b ≡ true → is_ascii_graphic b ≡ true
start_graphic b e = or_either (is_ascii_alphabetic b) (b == 95) (is_ascii_graphic b)
    (λ letter. or_either (is_in_range 65 90 b) (is_in_range 97 122 b) (is_ascii_graphic b) (wider 65 90 b (omega arith) (omega arith)) (wider 97 122 b (omega arith) (omega arith)) letter)
    (same_graphic b 95 refl) e

part_graphic : (b : ℕ) → is_part b ≡ true → is_ascii_graphic b ≡ true
part_graphic b e = or_either (is_start b || is_ascii_digit b) (b == 36) (is_ascii_graphic b)
    (λ front. or_either (is_start b) (is_ascii_digit b) (is_ascii_graphic b) (start_graphic b) (wider 48 57 b (omega arith) (omega arith)) front)
    (same_graphic b 36 refl) e

all_graphic : (w : List ℕ) → list_all is_part w ≡ true → list_all is_ascii_graphic w ≡ true
all_graphic [] e = refl
all_graphic (b ∷ bs) e = and_both (is_ascii_graphic b) (list_all is_ascii_graphic bs) (part_graphic b (and_left (is_part b) (list_all is_part bs) e)) (all_graphic bs (and_right (is_part b) (list_all is_part bs) e))

word_graphic : (w : List ℕ) → is_word is_start is_part w ≡ true → is_word is_ascii_graphic is_ascii_graphic w ≡ true
word_graphic [] e = absurd cc
word_graphic (b ∷ bs) e = and_both (is_ascii_graphic b) (list_all is_ascii_graphic bs) (start_graphic b (and_left (is_start b) (list_all is_part bs) e)) (all_graphic bs (and_right (is_start b) (list_all is_part bs) e))

-- ---- the words of tokens are good

meaning_good : (k : TokenKind) (w : List ℕ) → lex.IsSpelled k w → Good (word_of k w)
meaning_good kind.Name w s = word_graphic w s.0
meaning_good kind.Escaped w s = s
meaning_good kind.Reserved w s = tt
meaning_good kind.Number w s = s.1
meaning_good kind.Mark w s = rw s.1 s.2

pub meanings_good : (ws : List lex.Word) → lex.AreSpelled ws → AllGood (map meaning ws)
meanings_good [] s = tt
meanings_good (w ∷ ws) s = (meaning_good w.kind w.bytes s.0, meanings_good ws s.1)

-- ---- good words are written as tokens

plain_is : (n : List ℕ) → is_plain_name n ≡ true → (is_word is_start is_part n ≡ true) × (is_reserved n ≡ false)
plain_is n e = (and_left (is_word is_start is_part n) (not (is_reserved n)) e, not_true (is_reserved n) (and_right (is_word is_start is_part n) (not (is_reserved n)) e))

name_spelled : (n : List ℕ) (b : Bool) → is_plain_name n ≡ b → Good (name n) → lex.IsSpelled (cond b kind.Name kind.Escaped) n
name_spelled n true e g = plain_is n e
name_spelled n false e g = g

key_blanks : (k : Keyword) → is_blank (key_blank k) ≡ true
key_blanks key.Module = refl
key_blanks key.Endmodule = refl
key_blanks key.Input = refl
key_blanks key.Output = refl
key_blanks key.Wire = refl
key_blanks key.Assign = refl
key_blanks key.Other = refl

cond_blank : (b : Bool) → is_blank (cond b 10 32) ≡ true
cond_blank true = refl
cond_blank false = refl

pub all_written : (ws : List Word) → AllGood ws → AreWritten (map written ws)
all_written [] g = tt
all_written (name n ∷ ws) g = (name_spelled n (is_plain_name n) refl g.0, refl, all_written ws g.1)
all_written (keyword k ∷ ws) g = (key_spelled k, key_blanks k, all_written ws g.1)
all_written (number n ∷ ws) g = (decimal_spelled n g.0, refl, all_written ws g.1)
all_written (mark c ∷ ws) g = ((c, refl, g.0), cond_blank (nat_eq c 59), all_written ws g.1)

-- ---- and mean themselves again

name_back : (b : Bool) (n : List ℕ) → word_of (cond b kind.Name kind.Escaped) n ≡ name n
name_back true n = refl
name_back false n = refl

word_back : (w : Word) → Good w → meaning (word_in (written w)) ≡ w
word_back (name n) g = name_back (is_plain_name n) n
word_back (keyword k) g = ap keyword (key_back k)
word_back (number n) g = ap number (decimal_value n g)
word_back (mark c) g = refl

pub words_back : (ws : List Word) → AllGood ws → map meaning (map word_in (map written ws)) ≡ ws
words_back [] g = refl
words_back (w ∷ ws) g =
    let one = word_back w g.0 in
    ap (λ (v : Word). v ∷ map meaning (map word_in (map written ws))) one ∙ ap (λ (vs : List Word). w ∷ vs) (words_back ws g.1)
