-- What stands at the front of a text, found from the left: how the code looks for a lexeme.
--
-- The private functions' clauses cite it, and no public clause does. The laws of proofs/ say that it finds exactly what Lexemes defines.
use Rattle.verilog_lex.specs.declared.closing.Quoting.{Quoting}
use Rattle.verilog_lex.specs.declared.closing.Quoting.TheVariants.{Outside, Inside, Behind}
use Rattle.std.specs.Prelude.{◌&&◌, ◌||◌, true, false, ℕ, suc, Bool, cond, List, [], ◌∷◌, length, Option, Some, None, nat_le, ◌==◌, option_map}
use Rattle.std.specs.Char.{is_ascii_digit, is_ascii_graphic}
use Rattle.std.specs.Str.Parse.{digits_value}
use Rattle.verilog_lex.specs.Bytes.{star, quote, backslash, is_blank, is_start, is_part, is_mark, is_in_line, begins, is_reserved, is_skipped}
use Rattle.verilog_lex.specs.Lexemes.{Lexeme, blank, line_comment, block_comment, attribute, skipped_directive, token}
use Rattle.verilog_lex.specs.declared.token.TokenKind.{TokenKind}
use Rattle.verilog_lex.specs.declared.token.TokenKind.TheVariants as kind
use Rattle.verilog_lex.specs.declared.token.LexWhy.{LexWhy}
use Rattle.verilog_lex.specs.declared.token.LexWhy.TheVariants as why

-- nothing; a lexeme, and how many bytes it has; a fault, and its place
pub data Found : Type 0 where
  nothing : Found
  found : Lexeme → ℕ → Found
  fault : LexWhy → ℕ → Found

-- the bytes at the front that pass
abbrev pub front : (ℕ → Bool) → List ℕ → List ℕ
front p [] = []
front p (b ∷ bs) = cond (p b) (b ∷ front p bs) []

-- and what stands behind them
abbrev pub back : (ℕ → Bool) → List ℕ → List ℕ
back p [] = []
back p (b ∷ bs) = cond (p b) (back p bs) (b ∷ bs)

-- Where the byte behind this one of an attribute stands: outside strings, in one, or in one and taken by a backslash.
abbrev pub quoted : Quoting → ℕ → Quoting
quoted Outside b = cond (b == 34) Inside Outside
quoted Inside b = cond (b == 34) Outside (cond (b == 92) Behind Inside)
quoted Behind b = Inside

-- A byte that stands there counts: it may be a closing's first, or the bytes behind it may stand elsewhere.
abbrev pub counts : Quoting → ℕ → Bool
counts Outside b = b == star || b == quote
counts Inside b = b == quote || b == backslash
counts Behind b = true

-- a comment has no strings
abbrev pub unquoted : Quoting → ℕ → Quoting
unquoted w b = w

abbrev pub is_outside : Quoting → Bool
is_outside Outside = true
is_outside Inside = false
is_outside Behind = false

-- at such a byte, before those, is a closing
abbrev pub is_close : ℕ → ℕ → Quoting → ℕ → List ℕ → Bool
is_close x y w b bs = begins (λ c. c == y) bs && b == x && is_outside w

abbrev pub has_close : ℕ → ℕ → (Quoting → ℕ → Quoting) → Quoting → List ℕ → Bool
has_close x y next w [] = false
has_close x y next w (b ∷ bs) = is_close x y w b bs || has_close x y next (next w b) bs

-- how many bytes go up to the first closing, with it
abbrev pub close : ℕ → ℕ → (Quoting → ℕ → Quoting) → Quoting → List ℕ → Option ℕ
close x y next w [] = None
close x y next w (b ∷ bs) = cond (is_close x y w b bs) (Some 2) (option_map suc (close x y next (next w b) bs))

abbrev pub closed : Lexeme → LexWhy → Option ℕ → Found
closed l w None = fault w 0
closed l w (Some n) = found l (suc (suc n))

abbrev pub word_kind : Bool → TokenKind
word_kind b = cond b kind.Reserved kind.Name

unfoldable pub scan_word : List ℕ → Found
scan_word xs = found (token (word_kind (is_reserved (front is_part xs)))) (length (front is_part xs))

unfoldable pub scan_number : List ℕ → Found
scan_number xs = cond (nat_le (digits_value 10 (front is_ascii_digit xs)) 999999999) (found (token kind.Number) (length (front is_ascii_digit xs))) (fault why.BigNumber 0)

abbrev pub escaped : List ℕ → List ℕ → Found
escaped [] bs = fault why.EmptyEscape 0
escaped (n ∷ ns) [] = found (token kind.Escaped) (suc (length (n ∷ ns)))
escaped (n ∷ ns) (b ∷ bs) = cond (is_blank b) (found (token kind.Escaped) (suc (length (n ∷ ns)))) (fault why.BadByte (suc (length (n ∷ ns))))

-- behind a backslash
unfoldable pub scan_escape : List ℕ → Found
scan_escape xs = escaped (front is_ascii_graphic xs) (back is_ascii_graphic xs)

-- behind a slash
unfoldable pub scan_slash : List ℕ → Found
scan_slash [] = fault why.BadByte 0
scan_slash (c ∷ cs) = cond (c == 47) (found line_comment (suc (suc (length (front is_in_line cs)))))
    (cond (c == 42) (closed block_comment why.UnendedComment (close 42 47 unquoted Outside cs)) (fault why.BadByte 0))

-- behind an opening parenthesis
unfoldable pub scan_paren : List ℕ → Found
scan_paren [] = found (token kind.Mark) 1
scan_paren (c ∷ cs) = cond (c == 42) (closed attribute why.UnendedAttribute (close 42 41 quoted Outside cs)) (found (token kind.Mark) 1)

-- behind a backtick
unfoldable pub scan_tick : List ℕ → Found
scan_tick xs = cond (begins is_start xs)
    (cond (is_skipped (front is_part xs)) (found skipped_directive (suc (length (front is_in_line xs)))) (fault why.Directive 0))
    (fault why.BadByte 0)

-- at a byte and what stands behind it
unfoldable pub scan_at : ℕ → List ℕ → Found
scan_at b bs = cond (is_start b) (scan_word (b ∷ bs)) (cond (is_ascii_digit b) (scan_number (b ∷ bs)) (cond (is_blank b) (found blank 1)
    (cond (b == 92) (scan_escape bs) (cond (b == 47) (scan_slash bs) (cond (b == 96) (scan_tick bs) (cond (b == 40) (scan_paren bs)
    (cond (is_mark b) (found (token kind.Mark) 1) (fault why.BadByte 0))))))))

abbrev pub scan : List ℕ → Found
scan [] = nothing
scan (b ∷ bs) = scan_at b bs
