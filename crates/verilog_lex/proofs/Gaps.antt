-- Blanks alone stand between the tokens exactly where the text is blanks and tokens alone.
use Rattle.std.proofs.Common.{◌≡◌, ℕ, ◌+◌, ◌-◌, Bool, true, false, List, [], ◌∷◌, ◌++◌, length, refl, sym, ap, subst, ◌∙◌, arith, take, drop, length-append, append_assoc, ◌↔◌}
use Rattle.std.specs.List.{list_all}
use Rattle.verilog_lex.specs.Bytes.{is_blank}
use Rattle.verilog_lex.specs.Lexemes.{Lexeme, blank, line_comment, block_comment, attribute, skipped_directive, token, IsLexeme}
use Rattle.verilog_lex.specs.Reads.{Piece, joined, AreLexemes, token_start, token_at, tokens_of, Reads}
use Rattle.verilog_lex.specs.Words.{HasOnlyBlanksBetween}
use Rattle.verilog_lex.specs.Bare.{IsBareLexeme, AreBare, IsBare}
use Rattle.verilog_lex.specs.declared.token.TokenKind.{TokenKind}
use Rattle.verilog_lex.specs.declared.token.TokenKind.TheVariants as kind
use Rattle.verilog_lex.specs.declared.token.Token.{Token}
use Rattle.verilog_lex.proofs.Tools.{and_left, and_right}
use Rattle.verilog_lex.proofs.Words.{cut_at}

all_join : (xs ys : List ℕ) → list_all is_blank xs ≡ true → list_all is_blank ys ≡ true → list_all is_blank (xs ++ ys) ≡ true
all_join [] ys a b = b
all_join (x ∷ xs) ys a b = rw (and_left (is_blank x) _ a) (all_join xs ys (and_right (is_blank x) _ a) b)

all_left : (xs ys : List ℕ) → list_all is_blank (xs ++ ys) ≡ true → list_all is_blank xs ≡ true
all_left [] ys a = refl
all_left (x ∷ xs) ys a = rw (and_left (is_blank x) _ a) (all_left xs ys (and_right (is_blank x) _ a))

all_right : (xs ys : List ℕ) → list_all is_blank (xs ++ ys) ≡ true → list_all is_blank ys ≡ true
all_right [] ys a = a
all_right (x ∷ xs) ys a = all_right xs ys (and_right (is_blank x) _ a)

-- a place in a text: the bytes before the last token's end, those since then, and the pieces to come
record At (text front gap : List ℕ) (ps : List Piece) (from at : ℕ) : Type 0 where
  parts : text ≡ front ++ (gap ++ joined ps)
  from_is : from ≡ length front
  at_is : at ≡ length front + length gap

-- over a piece that is no token
over : (text front gap : List ℕ) (q : Piece) (ps : List Piece) (from at : ℕ) → At text front gap (q ∷ ps) from at → At text front (gap ++ q.bytes) ps from (at + length q.bytes)
over text front gap q ps from at a = record {
  parts = a.parts ∙ ap (λ (l : List ℕ). front ++ l) (sym (append_assoc gap q.bytes (joined ps)));
  from_is = a.from_is;
  at_is = let e = a.at_is in omega (arith, length-append gap q.bytes);
}

-- behind a token
behind : (text front gap : List ℕ) (q : Piece) (ps : List Piece) (from at : ℕ) → At text front gap (q ∷ ps) from at
    → At text (front ++ (gap ++ q.bytes)) [] ps (at + length q.bytes) (at + length q.bytes)
behind text front gap q ps from at a =
    let e = a.at_is in
    record {
      parts = a.parts ∙ (ap (λ (l : List ℕ). front ++ l) (sym (append_assoc gap q.bytes (joined ps))) ∙ sym (append_assoc front (gap ++ q.bytes) (joined ps)));
      from_is = omega (arith, length-append front (gap ++ q.bytes), length-append gap q.bytes);
      at_is = omega (arith, length-append front (gap ++ q.bytes), length-append gap q.bytes);
    }

-- the bytes since the last token's end, up to a place further on
since : (text front gap rest : List ℕ) (from stop : ℕ) → text ≡ front ++ (gap ++ rest) → from ≡ length front → stop ≡ from + length gap → take (stop - from) (drop from text) ≡ gap
since text front gap rest from stop p f s = cut_at text front gap rest from stop p f s

tail_is : (text front gap : List ℕ) (from : ℕ) → text ≡ front ++ gap → from ≡ length front → drop from text ≡ gap
tail_is text front gap from p f = ap (λ (k : ℕ). drop k text) f ∙ (ap (drop (length front)) p ∙ skip front gap) where
  skip : (front gap : List ℕ) → drop (length front) (front ++ gap) ≡ gap
  skip [] gap = refl
  skip (x ∷ front) gap = skip front gap

-- the bytes before a token: the gap, and an escaped name's backslash
abbrev before : TokenKind → List ℕ → List ℕ
before kind.Name gap = gap
before kind.Reserved gap = gap
before kind.Number gap = gap
before kind.Mark gap = gap
before kind.Escaped gap = gap ++ 92 ∷ []

gap_before : (k : TokenKind) (text front gap bs rest after : List ℕ) (from at : ℕ) → text ≡ front ++ (gap ++ (bs ++ rest)) → from ≡ length front → at ≡ length front + length gap
    → IsLexeme (token k) bs after → take (token_start k at - from) (drop from text) ≡ before k gap
gap_before kind.Name text front gap bs rest after from at p f e s = since text front gap (bs ++ rest) from at p f (omega arith)
gap_before kind.Reserved text front gap bs rest after from at p f e s = since text front gap (bs ++ rest) from at p f (omega arith)
gap_before kind.Number text front gap bs rest after from at p f e s = since text front gap (bs ++ rest) from at p f (omega arith)
gap_before kind.Mark text front gap bs rest after from at p f e s = since text front gap (bs ++ rest) from at p f (omega arith)
gap_before kind.Escaped text front gap bs rest after from at p f e s =
    let q : text ≡ front ++ ((gap ++ 92 ∷ []) ++ (s.0 ++ rest)) =
    p ∙ (ap (λ (l : List ℕ). front ++ (gap ++ (l ++ rest))) s.1 ∙ ap (λ (l : List ℕ). front ++ l) (sym (append_assoc gap (92 ∷ []) (s.0 ++ rest)))) in
    since text front (gap ++ 92 ∷ []) (s.0 ++ rest) from (at + 1) q f (omega (arith, length-append gap (92 ∷ [])))

before_blank : (k : TokenKind) (gap : List ℕ) → list_all is_blank (before k gap) ≡ true → list_all is_blank gap ≡ true
before_blank kind.Name gap e = e
before_blank kind.Reserved gap e = e
before_blank kind.Number gap e = e
before_blank kind.Mark gap e = e
before_blank kind.Escaped gap e = all_left gap (92 ∷ []) e

-- ---- from the spans to the pieces

-- blanks between say that the bytes since the last token's end are blanks
gap_here : (l : Lexeme) (text front gap bs rest after : List ℕ) (from at : ℕ) (ts : List Token) → text ≡ front ++ (gap ++ (bs ++ rest)) → from ≡ length front → at ≡ length front + length gap
    → IsLexeme l bs after → (HasOnlyBlanksBetween text from ts → list_all is_blank (gap ++ bs) ≡ true)
    → HasOnlyBlanksBetween text from (token_at at l (length bs) ++ ts) → list_all is_blank gap ≡ true
gap_here blank text front gap bs rest after from at ts p f e s more h = all_left gap bs (more h)
gap_here line_comment text front gap bs rest after from at ts p f e s more h = all_left gap bs (more h)
gap_here block_comment text front gap bs rest after from at ts p f e s more h = all_left gap bs (more h)
gap_here attribute text front gap bs rest after from at ts p f e s more h = all_left gap bs (more h)
gap_here skipped_directive text front gap bs rest after from at ts p f e s more h = all_left gap bs (more h)
gap_here (token k) text front gap bs rest after from at ts p f e s more h =
    before_blank k gap (subst (λ (l : List ℕ). list_all is_blank l ≡ true) (gap_before k text front gap bs rest after from at p f e s) h.0)

gap_blank : (text front gap : List ℕ) (ps : List Piece) (from at : ℕ) → At text front gap ps from at → AreLexemes ps [] → HasOnlyBlanksBetween text from (tokens_of at ps) → list_all is_blank gap ≡ true
gap_blank text front gap [] from at a l h =
    all_left gap [] (subst (λ (w : List ℕ). list_all is_blank w ≡ true) (tail_is text front (gap ++ []) from a.parts a.from_is) h)
gap_blank text front gap (q ∷ ps) from at a l h =
    gap_here q.lexeme text front gap q.bytes (joined ps) (joined ps ++ []) from at (tokens_of (at + length q.bytes) ps) a.parts a.from_is a.at_is l.0
    (λ m. gap_blank text front (gap ++ q.bytes) ps from (at + length q.bytes) (over text front gap q ps from at a) l.1 m) h

not_blank : (b : ℕ) (gap body bs : List ℕ) → is_blank b ≡ false → bs ≡ b ∷ body → list_all is_blank (gap ++ bs) ≡ true → ⊥
not_blank b gap body bs n e h = clash (is_blank b) (and_left (is_blank b) _ (subst (λ (l : List ℕ). list_all is_blank l ≡ true) e (all_right gap bs h))) n where
  clash : (c : Bool) → c ≡ true → c ≡ false → ⊥
  clash c p q = cc

bare_here : (l : Lexeme) (text front gap bs rest after : List ℕ) (from at : ℕ) (ts : List Token) (Rest : Type 0) → text ≡ front ++ (gap ++ (bs ++ rest)) → from ≡ length front → at ≡ length front + length gap
    → IsLexeme l bs after → (HasOnlyBlanksBetween text from ts → list_all is_blank (gap ++ bs) ≡ true)
    → (HasOnlyBlanksBetween text from ts → Rest) → (HasOnlyBlanksBetween text (at + length bs) ts → Rest)
    → HasOnlyBlanksBetween text from (token_at at l (length bs) ++ ts) → IsBareLexeme l × Rest
bare_here blank text front gap bs rest after from at ts Rest p f e s more on next h = (tt, on h)
bare_here line_comment text front gap bs rest after from at ts Rest p f e s more on next h = absurd (not_blank 47 gap (47 ∷ s.body) bs refl s.parts (more h))
bare_here block_comment text front gap bs rest after from at ts Rest p f e s more on next h = absurd (not_blank 47 gap (42 ∷ (s.body ++ 42 ∷ 47 ∷ [])) bs refl s.parts (more h))
bare_here attribute text front gap bs rest after from at ts Rest p f e s more on next h = absurd (not_blank 40 gap (42 ∷ (s.body ++ 42 ∷ 41 ∷ [])) bs refl s.parts (more h))
bare_here skipped_directive text front gap bs rest after from at ts Rest p f e s more on next h = absurd (not_blank 96 gap (s.name ++ s.line.body) bs refl s.line.parts (more h))
bare_here (token kind.Name) text front gap bs rest after from at ts Rest p f e s more on next h = (tt, next h.1)
bare_here (token kind.Reserved) text front gap bs rest after from at ts Rest p f e s more on next h = (tt, next h.1)
bare_here (token kind.Number) text front gap bs rest after from at ts Rest p f e s more on next h = (tt, next h.1)
bare_here (token kind.Mark) text front gap bs rest after from at ts Rest p f e s more on next h = (tt, next h.1)
bare_here (token kind.Escaped) text front gap bs rest after from at ts Rest p f e s more on next h =
    absurd (not_blank 92 gap [] (92 ∷ []) refl refl (subst (λ (l : List ℕ). list_all is_blank l ≡ true) (gap_before kind.Escaped text front gap bs rest after from at p f e s) h.0))

are_bare : (text front gap : List ℕ) (ps : List Piece) (from at : ℕ) → At text front gap ps from at → AreLexemes ps [] → HasOnlyBlanksBetween text from (tokens_of at ps) → AreBare ps
are_bare text front gap [] from at a l h = tt
are_bare text front gap (q ∷ ps) from at a l h =
    bare_here q.lexeme text front gap q.bytes (joined ps) (joined ps ++ []) from at (tokens_of (at + length q.bytes) ps) (AreBare ps) a.parts a.from_is a.at_is l.0
    (λ m. gap_blank text front (gap ++ q.bytes) ps from (at + length q.bytes) (over text front gap q ps from at a) l.1 m)
    (λ m. are_bare text front (gap ++ q.bytes) ps from (at + length q.bytes) (over text front gap q ps from at a) l.1 m)
    (λ m. are_bare text (front ++ (gap ++ q.bytes)) [] ps (at + length q.bytes) (at + length q.bytes) (behind text front gap q ps from at a) l.1 m) h

-- ---- and back

blanks_here : (l : Lexeme) (text front gap bs rest after : List ℕ) (from at : ℕ) (ts : List Token) → text ≡ front ++ (gap ++ (bs ++ rest)) → from ≡ length front → at ≡ length front + length gap
    → IsLexeme l bs after → IsBareLexeme l → list_all is_blank gap ≡ true
    → (list_all is_blank (gap ++ bs) ≡ true → HasOnlyBlanksBetween text from ts) → HasOnlyBlanksBetween text (at + length bs) ts
    → HasOnlyBlanksBetween text from (token_at at l (length bs) ++ ts)
blanks_here blank text front gap bs rest after from at ts p f e s b g on next =
    on (all_join gap bs g (subst (λ (l : List ℕ). list_all is_blank l ≡ true) (sym s.1) (let one : list_all is_blank (s.0 ∷ []) ≡ true = rw s.2 refl in one)))
blanks_here line_comment text front gap bs rest after from at ts p f e s b g on next = absurd b
blanks_here block_comment text front gap bs rest after from at ts p f e s b g on next = absurd b
blanks_here attribute text front gap bs rest after from at ts p f e s b g on next = absurd b
blanks_here skipped_directive text front gap bs rest after from at ts p f e s b g on next = absurd b
blanks_here (token kind.Escaped) text front gap bs rest after from at ts p f e s b g on next = absurd b
blanks_here (token kind.Name) text front gap bs rest after from at ts p f e s b g on next =
    (subst (λ (l : List ℕ). list_all is_blank l ≡ true) (sym (gap_before kind.Name text front gap bs rest after from at p f e s)) g, next)
blanks_here (token kind.Reserved) text front gap bs rest after from at ts p f e s b g on next =
    (subst (λ (l : List ℕ). list_all is_blank l ≡ true) (sym (gap_before kind.Reserved text front gap bs rest after from at p f e s)) g, next)
blanks_here (token kind.Number) text front gap bs rest after from at ts p f e s b g on next =
    (subst (λ (l : List ℕ). list_all is_blank l ≡ true) (sym (gap_before kind.Number text front gap bs rest after from at p f e s)) g, next)
blanks_here (token kind.Mark) text front gap bs rest after from at ts p f e s b g on next =
    (subst (λ (l : List ℕ). list_all is_blank l ≡ true) (sym (gap_before kind.Mark text front gap bs rest after from at p f e s)) g, next)

blanks_are : (text front gap : List ℕ) (ps : List Piece) (from at : ℕ) → At text front gap ps from at → AreLexemes ps [] → AreBare ps → list_all is_blank gap ≡ true
    → HasOnlyBlanksBetween text from (tokens_of at ps)
blanks_are text front gap [] from at a l b g =
    subst (λ (w : List ℕ). list_all is_blank w ≡ true) (sym (tail_is text front (gap ++ []) from a.parts a.from_is)) (all_join gap [] g refl)
blanks_are text front gap (q ∷ ps) from at a l b g =
    blanks_here q.lexeme text front gap q.bytes (joined ps) (joined ps ++ []) from at (tokens_of (at + length q.bytes) ps) a.parts a.from_is a.at_is l.0 b.0 g
    (λ m. blanks_are text front (gap ++ q.bytes) ps from (at + length q.bytes) (over text front gap q ps from at a) l.1 b.1 m)
    (blanks_are text (front ++ (gap ++ q.bytes)) [] ps (at + length q.bytes) (at + length q.bytes) (behind text front gap q ps from at a) l.1 b.1 refl)

-- ---- the law

begin : (text : List ℕ) (ps : List Piece) → text ≡ joined ps → At text [] [] ps 0 0
begin text ps e = record { parts = e; from_is = refl; at_is = refl }

pub gaps_tell : (text : List ℕ) (tokens : List Token) → Reads text tokens → HasOnlyBlanksBetween text 0 tokens ↔ IsBare text tokens
gaps_tell text tokens r = (λ h. to h, λ b. from b) where
  to : HasOnlyBlanksBetween text 0 tokens → IsBare text tokens
  to h = record {
    pieces = r.pieces;
    parts = r.parts;
    all = r.all;
    bare = are_bare text [] [] r.pieces 0 0 (begin text r.pieces r.parts) r.all (subst (λ (l : List Token). HasOnlyBlanksBetween text 0 l) r.are h);
    are = r.are;
  }

  from : IsBare text tokens → HasOnlyBlanksBetween text 0 tokens
  from b = subst (λ (l : List Token). HasOnlyBlanksBetween text 0 l) (sym b.are) (blanks_are text [] [] b.pieces 0 0 (begin text b.pieces b.parts) b.all b.bare refl)
