-- The words of a reading are those of its pieces, and each is spelled as its kind is.
use Rattle.std.proofs.Common.{◌≡◌, ℕ, ◌+◌, ◌-◌, List, [], ◌∷◌, ◌++◌, length, refl, sym, ap, subst, ◌∙◌, arith, take, drop, length-append, append_assoc}
use Rattle.verilog_lex.specs.Lexemes.{Lexeme, blank, line_comment, block_comment, attribute, skipped_directive, token, IsLexeme}
use Rattle.verilog_lex.specs.Reads.{Piece, joined, AreLexemes, token_start, token_at, tokens_of, Reads}
use Rattle.verilog_lex.specs.Words.{Word, word_of, words_of, IsSpelled, AreSpelled}
use Rattle.verilog_lex.specs.declared.token.TokenKind.{TokenKind}
use Rattle.verilog_lex.specs.declared.token.TokenKind.TheVariants as kind
use Rattle.verilog_lex.specs.declared.token.Token.{Token}

-- the word of a piece
abbrev pub bytes_in : TokenKind → List ℕ → List ℕ
bytes_in kind.Name bs = bs
bytes_in kind.Reserved bs = bs
bytes_in kind.Escaped bs = drop 1 bs
bytes_in kind.Number bs = bs
bytes_in kind.Mark bs = bs

abbrev pub words_at : Lexeme → List ℕ → List Word
words_at blank bs = []
words_at line_comment bs = []
words_at block_comment bs = []
words_at attribute bs = []
words_at skipped_directive bs = []
words_at (token k) bs = record { kind = k; bytes = bytes_in k bs } ∷ []

abbrev pub words_in : List Piece → List Word
words_in [] = []
words_in (p ∷ ps) = words_at p.lexeme p.bytes ++ words_in ps

-- ---- slices

cut : (front bs rest : List ℕ) → take (length bs) (drop (length front) (front ++ (bs ++ rest))) ≡ bs
cut [] bs rest = here bs rest where
  here : (bs rest : List ℕ) → take (length bs) (bs ++ rest) ≡ bs
  here [] rest = refl
  here (b ∷ bs) rest = ap (λ (l : List ℕ). b ∷ l) (here bs rest)
cut (x ∷ front) bs rest = cut front bs rest

pub cut_at : (text front bs rest : List ℕ) (start stop : ℕ) → text ≡ front ++ (bs ++ rest) → start ≡ length front → stop ≡ start + length bs → take (stop - start) (drop start text) ≡ bs
cut_at text front bs rest start stop p s e =
    let n : stop - start ≡ length bs = omega arith in
    ap (λ k. take k (drop start text)) n ∙ (ap (λ k. take (length bs) (drop k text)) s ∙ (ap (λ (l : List ℕ). take (length bs) (drop (length front) l)) p ∙ cut front bs rest))

word_is : (k : TokenKind) (text front bs rest : List ℕ) → text ≡ front ++ (bs ++ rest) → take (length front + length bs - token_start k (length front)) (drop (token_start k (length front)) text) ≡ bytes_in k bs
word_is kind.Name text front bs rest p = cut_at text front bs rest (length front) _ p refl refl
word_is kind.Reserved text front bs rest p = cut_at text front bs rest (length front) _ p refl refl
word_is kind.Number text front bs rest p = cut_at text front bs rest (length front) _ p refl refl
word_is kind.Mark text front bs rest p = cut_at text front bs rest (length front) _ p refl refl
word_is kind.Escaped text front [] rest p =
    let n : length front + 0 - (length front + 1) ≡ 0 = omega arith in
    ap (λ k. take k (drop (length front + 1) text)) n ∙ refl
word_is kind.Escaped text front (b ∷ bs) rest p =
    let q : text ≡ (front ++ b ∷ []) ++ (bs ++ rest) = p ∙ sym (append_assoc front (b ∷ []) (bs ++ rest)) in
    let s : length front + 1 ≡ length (front ++ b ∷ []) = omega (arith, length-append front (b ∷ [])) in
    let e : length front + length (b ∷ bs) ≡ length front + 1 + length bs = omega arith in
    cut_at text (front ++ b ∷ []) bs rest (length front + 1) (length front + length (b ∷ bs)) q s e

words_append : (text : List ℕ) (ts us : List Token) → words_of text (ts ++ us) ≡ words_of text ts ++ words_of text us
words_append text [] us = refl
words_append text (t ∷ ts) us = ap (λ (l : List Word). word_of text t ∷ l) (words_append text ts us)

words_here : (l : Lexeme) (text front bs rest : List ℕ) → text ≡ front ++ (bs ++ rest) → words_of text (token_at (length front) l (length bs)) ≡ words_at l bs
words_here blank text front bs rest p = refl
words_here line_comment text front bs rest p = refl
words_here block_comment text front bs rest p = refl
words_here attribute text front bs rest p = refl
words_here skipped_directive text front bs rest p = refl
words_here (token k) text front bs rest p = ap (λ (w : List ℕ). (let x : Word = record { kind = k; bytes = w } in x) ∷ []) (word_is k text front bs rest p)

words_from : (text front : List ℕ) (ps : List Piece) (at : ℕ) → text ≡ front ++ joined ps → at ≡ length front → words_of text (tokens_of at ps) ≡ words_in ps
words_from text front [] at p e = refl
words_from text front (q ∷ ps) at p e =
    let more : text ≡ (front ++ q.bytes) ++ joined ps = p ∙ sym (append_assoc front q.bytes (joined ps)) in
    let place : at + length q.bytes ≡ length (front ++ q.bytes) = omega (arith, length-append front q.bytes) in
    words_append text (token_at at q.lexeme (length q.bytes)) (tokens_of (at + length q.bytes) ps)
    ∙ (ap (λ (k : ℕ). words_of text (token_at k q.lexeme (length q.bytes)) ++ words_of text (tokens_of (at + length q.bytes) ps)) e
    ∙ (ap (λ (l : List Word). l ++ words_of text (tokens_of (at + length q.bytes) ps)) (words_here q.lexeme text front q.bytes (joined ps) p)
    ∙ ap (λ (l : List Word). words_at q.lexeme q.bytes ++ l) (words_from text (front ++ q.bytes) ps (at + length q.bytes) more place)))

-- the words of a reading are those of its pieces
pub words_read : (text : List ℕ) (ts : List Token) (r : Reads text ts) → words_of text ts ≡ words_in r.pieces
words_read text ts r = ap (words_of text) r.are ∙ words_from text [] r.pieces 0 r.parts refl

-- ---- every token is a word of its kind

word_stands : (l : Lexeme) (bs after : List ℕ) → IsLexeme l bs after → AreSpelled (words_at l bs)
word_stands blank bs after s = tt
word_stands line_comment bs after s = tt
word_stands block_comment bs after s = tt
word_stands attribute bs after s = tt
word_stands skipped_directive bs after s = tt
word_stands (token kind.Name) bs after s = ((s.0, s.1), tt)
word_stands (token kind.Reserved) bs after s = ((s.0, s.1), tt)
word_stands (token kind.Escaped) bs after s = (subst (λ (l : List ℕ). IsSpelled kind.Escaped (drop 1 l)) (sym s.1) s.2, tt)
word_stands (token kind.Number) bs after s = ((s.0, s.1), tt)
word_stands (token kind.Mark) bs after s = ((s.0, s.1, s.2), tt)

spelled_append : (ws vs : List Word) → AreSpelled ws → AreSpelled vs → AreSpelled (ws ++ vs)
spelled_append [] vs a b = b
spelled_append (w ∷ ws) vs a b = (a.0, spelled_append ws vs a.1 b)

spelled_in : (ps : List Piece) (rest : List ℕ) → AreLexemes ps rest → AreSpelled (words_in ps)
spelled_in [] rest a = tt
spelled_in (p ∷ ps) rest a = spelled_append (words_at p.lexeme p.bytes) (words_in ps) (word_stands p.lexeme p.bytes (joined ps ++ rest) a.0) (spelled_in ps rest a.1)

pub all_spelled : (text : List ℕ) (ts : List Token) → Reads text ts → AreSpelled (words_of text ts)
all_spelled text ts r = subst (λ (l : List Word). AreSpelled l) (sym (words_read text ts r)) (spelled_in r.pieces [] r.all)
