-- Where the tokens of a reading stand: in the text, one behind the other, none of them empty.
use Rattle.std.proofs.Common.{◌≡◌, ℕ, ◌+◌, ◌≤◌, ◌<◌, Bool, true, List, [], ◌∷◌, ◌++◌, length, refl, sym, ap, subst, ◌∙◌, arith, length-append, append_assoc}
use Rattle.std.specs.Char.{is_ascii_graphic}
use Rattle.verilog_lex.specs.Bytes.{is_word}
use Rattle.verilog_lex.specs.Lexemes.{Lexeme, blank, line_comment, block_comment, attribute, skipped_directive, token, IsLexeme}
use Rattle.verilog_lex.specs.Reads.{Piece, joined, AreLexemes, token_start, token_at, tokens_of, Reads}
use Rattle.verilog_lex.specs.Words.{ArePlaced}
use Rattle.verilog_lex.specs.declared.token.TokenKind.{TokenKind}
use Rattle.verilog_lex.specs.declared.token.TokenKind.TheVariants as kind
use Rattle.verilog_lex.specs.declared.token.Token.{Token}
use Rattle.verilog_lex.proofs.Lexed.{long}

word_long : (p q : ℕ → Bool) (w : List ℕ) → is_word p q w ≡ true → 0 < length w
word_long p q [] e = absurd cc
word_long p q (b ∷ w) e = omega arith

-- a token begins at or behind its lexeme's first byte, and before its end
starts : (k : TokenKind) (bs after : List ℕ) (at : ℕ) → IsLexeme (token k) bs after → (at ≤ token_start k at) × (token_start k at < at + length bs)
starts kind.Name bs after at s = let n = long (token kind.Name) bs after s in (omega arith, omega arith)
starts kind.Reserved bs after at s = let n = long (token kind.Reserved) bs after s in (omega arith, omega arith)
starts kind.Number bs after at s = let n = long (token kind.Number) bs after s in (omega arith, omega arith)
starts kind.Mark bs after at s = let n = long (token kind.Mark) bs after s in (omega arith, omega arith)
starts kind.Escaped bs after at s =
    let n = word_long is_ascii_graphic is_ascii_graphic s.0 s.2 in
    let e : length bs ≡ length (92 ∷ s.0) = ap length s.1 in
    (omega arith, omega arith)

-- one lexeme's token, if it is one, before those behind it
placed_here : (l : Lexeme) (bs after : List ℕ) (len at from : ℕ) (rest : List Token) → IsLexeme l bs after → from ≤ at → at + length bs ≤ len
    → ((place : ℕ) → place ≤ at + length bs → ArePlaced len place rest) → ArePlaced len from (token_at at l (length bs) ++ rest)
placed_here blank bs after len at from rest s low high more = more from (omega arith)
placed_here line_comment bs after len at from rest s low high more = more from (omega arith)
placed_here block_comment bs after len at from rest s low high more = more from (omega arith)
placed_here attribute bs after len at from rest s low high more = more from (omega arith)
placed_here skipped_directive bs after len at from rest s low high more = more from (omega arith)
placed_here (token k) bs after len at from rest s low high more =
    let b = starts k bs after at s in
    let above = b.0 in
    (omega arith, b.1, high, more (at + length bs) (omega arith))

placed_from : (text front : List ℕ) (ps : List Piece) (at : ℕ) → text ≡ front ++ joined ps → at ≡ length front → AreLexemes ps []
    → (from : ℕ) → from ≤ at → ArePlaced (length text) from (tokens_of at ps)
placed_from text front [] at p e a from low = tt
placed_from text front (q ∷ ps) at p e a from low =
    let more : text ≡ (front ++ q.bytes) ++ joined ps = p ∙ sym (append_assoc front q.bytes (joined ps)) in
    let place : at + length q.bytes ≡ length (front ++ q.bytes) = omega (arith, length-append front q.bytes) in
    let whole : length text ≡ length ((front ++ q.bytes) ++ joined ps) = ap length more in
    let high : at + length q.bytes ≤ length text = omega (arith, length-append (front ++ q.bytes) (joined ps)) in
    placed_here q.lexeme q.bytes (joined ps ++ []) (length text) at from (tokens_of (at + length q.bytes) ps) a.0 low high
    (placed_from text (front ++ q.bytes) ps (at + length q.bytes) more place a.1)

pub all_placed : (text : List ℕ) (ts : List Token) → Reads text ts → ArePlaced (length text) 0 ts
all_placed text ts r = subst (λ (l : List Token). ArePlaced (length text) 0 l) (sym r.are) (placed_from text [] r.pieces 0 r.parts refl r.all 0 (omega arith))

placed_few : (len from : ℕ) (ts : List Token) → from ≤ len → ArePlaced len from ts → from + length ts ≤ len
placed_few len from [] le p = omega arith
placed_few len from (t ∷ ts) le (low, some, high, more) =
    let rest = placed_few len t.end ts high more in
    omega arith

pub few : (text : List ℕ) (ts : List Token) → Reads text ts → length ts ≤ length text
few text ts r =
    let all = placed_few (length text) 0 ts (omega arith) (all_placed text ts r) in
    omega arith
