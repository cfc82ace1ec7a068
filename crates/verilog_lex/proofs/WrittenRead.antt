-- What is written word by word is read so.
use Rattle.std.proofs.Common.{◌≡◌, ℕ, Bool, true, false, List, [], ◌∷◌, ◌++◌, refl, ap, ◌∙◌, inr, map, ◌==◌}
use Rattle.std.specs.Prelude.{◌&&◌}
use Rattle.std.specs.Char.{is_ascii_digit}
use Rattle.verilog_lex.specs.Bytes.{is_blank, is_part}
use Rattle.verilog_lex.specs.Lexemes.{blank, token, IsLexeme}
use Rattle.verilog_lex.specs.Reads.{Piece, joined, AreLexemes, tokens_of, Reads}
use Rattle.verilog_lex.specs.Words.{Word, IsSpelled}
use Rattle.verilog_lex.specs.Written.{Written, spelling, text_of, AreWritten, WrittenWordsAreRead}
use Rattle.verilog_lex.specs.declared.token.TokenKind.{TokenKind}
use Rattle.verilog_lex.specs.declared.token.TokenKind.TheVariants as kind
use Rattle.verilog_lex.proofs.Tools.{blank_cases}
use Rattle.verilog_lex.proofs.OneDivision.{only_reading}
use Rattle.verilog_lex.proofs.Words.{words_at, words_in, words_read}

abbrev pieces_of : List Written → List Piece
pieces_of [] = []
pieces_of (w ∷ ws) = record { lexeme = token w.word.kind; bytes = spelling w.word.kind w.word.bytes } ∷ record { lexeme = blank; bytes = w.blank ∷ [] } ∷ pieces_of ws

written_joined : (ws : List Written) → text_of ws ≡ joined (pieces_of ws)
written_joined [] = refl
written_joined (w ∷ ws) = ap (λ (l : List ℕ). spelling w.word.kind w.word.bytes ++ w.blank ∷ l) (written_joined ws)

stands_written : (k : TokenKind) (w : List ℕ) (b : ℕ) (rest : List ℕ) → IsSpelled k w → is_blank b ≡ true → IsLexeme (token k) (spelling k w) (b ∷ rest)
stands_written kind.Name w b rest s e = (s.0, s.1, blank_cases (λ c. is_part c ≡ false) refl refl refl refl refl b e)
stands_written kind.Reserved w b rest s e = (s.0, s.1, blank_cases (λ c. is_part c ≡ false) refl refl refl refl refl b e)
stands_written kind.Escaped w b rest s e = (w, refl, s, inr e)
stands_written kind.Number w b rest s e = (s.0, s.1, blank_cases (λ c. is_ascii_digit c ≡ false) refl refl refl refl refl b e)
stands_written kind.Mark w b rest s e = (s.0, s.1, s.2, off (s.0 == 40) (b == 42) (blank_cases (λ c. (c == 42) ≡ false) refl refl refl refl refl b e)) where
  off : (p q : Bool) → q ≡ false → (p && q) ≡ false
  off true q h = h
  off false q h = refl

written_stand : (ws : List Written) → AreWritten ws → AreLexemes (pieces_of ws) []
written_stand [] a = tt
written_stand (w ∷ ws) a = (stands_written w.word.kind w.word.bytes w.blank (joined (pieces_of ws) ++ []) a.0 a.1, ((w.blank, refl, a.1), written_stand ws a.2))

words_written : (ws : List Written) → words_in (pieces_of ws) ≡ map (λ (w : Written). w.word) ws
words_written [] = refl
words_written (w ∷ ws) = same w.word.kind w.word.bytes (words_in (pieces_of ws)) ∙ ap (λ (l : List Word). w.word ∷ l) (words_written ws) where
  same : (k : TokenKind) (bs : List ℕ) (rest : List Word) → words_at (token k) (spelling k bs) ++ rest ≡ (let x : Word = record { kind = k; bytes = bs } in x) ∷ rest
  same kind.Name bs rest = refl
  same kind.Reserved bs rest = refl
  same kind.Escaped bs rest = refl
  same kind.Number bs rest = refl
  same kind.Mark bs rest = refl

pub written_read : WrittenWordsAreRead
written_read ws a =
    let text : List ℕ = text_of ws in
    let r : Reads (text_of ws) (tokens_of 0 (pieces_of ws)) = record { pieces = pieces_of ws; parts = written_joined ws; all = written_stand ws a; are = refl } in
    record { tokens = tokens_of 0 (pieces_of ws); reading = only_reading text (tokens_of 0 (pieces_of ws)) r; words_are = words_read text (tokens_of 0 (pieces_of ws)) r ∙ words_written ws }
