-- A text read up to a place.
use Rattle.std.proofs.Common.{◌≡◌, ℕ, zero, suc, ◌+◌, ◌≤◌, ◌<◌, List, [], ◌∷◌, ◌++◌, length, refl, sym, ap, subst, ◌∙◌, arith, inl, inr, drop, length-append, length-drop, append_assoc}
use Rattle.std.proofs.lemmas.List.{append-nil, drop-drop}
use Rattle.verilog_lex.specs.Scan.{Found, nothing, found, fault, scan}
use Rattle.verilog_lex.specs.Lexemes.{Lexeme, blank, line_comment, block_comment, attribute, skipped_directive, token, IsLexeme, IsBroken}
use Rattle.verilog_lex.specs.Reads.{Piece, joined, AreLexemes, token_at, tokens_of, Reads, IsLexFault, IsOnlyReading, IsRefusal}
use Rattle.verilog_lex.specs.Stepping.{step_at, Within, Passes, Breaks}
use Rattle.verilog_lex.specs.declared.steps.Step.{Step}
use Rattle.verilog_lex.specs.declared.token.TokenKind.TheVariants as kind
use Rattle.verilog_lex.specs.declared.token.LexWhy.{LexWhy}
use Rattle.verilog_lex.specs.declared.token.LexWhy.TheVariants as why
use Rattle.verilog_lex.specs.declared.token.LexFault.{LexFault}
use Rattle.verilog_lex.specs.declared.token.Token.{Token}
use Rattle.verilog_lex.proofs.Sound.{Front, IsRight, right_is}
use Rattle.verilog_lex.proofs.OneDivision.{only_reading, only_fault}

pub record Lexed (text : List ℕ) (at : ℕ) (tokens : List Token) : Type 0 where
  pub pieces : List Piece
  pub parts : text ≡ joined pieces ++ drop at text
  pub len : length (joined pieces) ≡ at
  pub all : AreLexemes pieces (drop at text)
  pub are : tokens ≡ tokens_of 0 pieces
  pub within : at ≤ length text

-- ---- one piece more

joined_more : (ps : List Piece) (p : Piece) (rest : List ℕ) → joined (ps ++ p ∷ []) ++ rest ≡ joined ps ++ (p.bytes ++ rest)
joined_more [] p rest = ap (λ (l : List ℕ). l ++ rest) (append-nil p.bytes)
joined_more (q ∷ ps) p rest =
    append_assoc q.bytes (joined (ps ++ p ∷ [])) rest ∙ (ap (λ (l : List ℕ). q.bytes ++ l) (joined_more ps p rest) ∙ sym (append_assoc q.bytes (joined ps) (p.bytes ++ rest)))

joined_len : (ps : List Piece) (p : Piece) → length (joined (ps ++ p ∷ [])) ≡ length (joined ps) + length p.bytes
joined_len [] p = omega (arith, length-append p.bytes [])
joined_len (q ∷ ps) p =
    let ih = joined_len ps p in
    omega (arith, length-append q.bytes (joined (ps ++ p ∷ [])), length-append q.bytes (joined ps))

stand_more : (ps : List Piece) (p : Piece) (rest : List ℕ) → AreLexemes ps (p.bytes ++ rest) → IsLexeme p.lexeme p.bytes rest → AreLexemes (ps ++ p ∷ []) rest
stand_more [] p rest a s = (s, tt)
stand_more (q ∷ ps) p rest a s = (subst (λ (l : List ℕ). IsLexeme q.lexeme q.bytes l) (sym (joined_more ps p rest)) a.0, stand_more ps p rest a.1 s)

tokens_more : (at : ℕ) (ps : List Piece) (p : Piece) → tokens_of at (ps ++ p ∷ []) ≡ tokens_of at ps ++ token_at (at + length (joined ps)) p.lexeme (length p.bytes)
tokens_more at [] p = append-nil (token_at at p.lexeme (length p.bytes)) ∙ ap (λ (k : ℕ). token_at k p.lexeme (length p.bytes)) (let e : at ≡ at + 0 = omega arith in e)
tokens_more at (q ∷ ps) p =
    let e : at + length q.bytes + length (joined ps) ≡ at + length (q.bytes ++ joined ps) = omega (arith, length-append q.bytes (joined ps)) in
    ap (λ (l : List Token). token_at at q.lexeme (length q.bytes) ++ l) (tokens_more (at + length q.bytes) ps p ∙ ap (λ (k : ℕ). tokens_of (at + length q.bytes) ps ++ token_at k p.lexeme (length p.bytes)) e)
    ∙ sym (append_assoc (token_at at q.lexeme (length q.bytes)) (tokens_of (at + length q.bytes) ps) (token_at (at + length (q.bytes ++ joined ps)) p.lexeme (length p.bytes)))

front_drop : {X : Type 0} (a b : List X) → drop (length a) (a ++ b) ≡ b
front_drop [] b = refl
front_drop (x ∷ a) b = front_drop a b

pub lexed_more : (text : List ℕ) (at : ℕ) (before after : List Token) (end : ℕ) → Lexed text at before → Passes text at before after end → Lexed text end after
lexed_more text at before after end s p =
    let f = right_is (drop at text) (found p.lexeme p.len) p.is in
    let piece : Piece = record { lexeme = p.lexeme; bytes = f.bytes } in
    let place : at + length f.bytes ≡ end = ap (λ (k : ℕ). at + k) f.len ∙ sym p.end_is in
    let rest : drop end text ≡ f.after =
    ap (λ (k : ℕ). drop k text) (sym place) ∙ (sym (drop-drop (length f.bytes) at text) ∙ (ap (drop (length f.bytes)) f.parts ∙ front_drop f.bytes f.after)) in
    record {
      pieces = s.pieces ++ piece ∷ [];
      parts = s.parts ∙ (ap (λ (l : List ℕ). joined s.pieces ++ l) (f.parts ∙ ap (λ (l : List ℕ). f.bytes ++ l) (sym rest)) ∙ sym (joined_more s.pieces piece (drop end text)));
      len = joined_len s.pieces piece ∙ (ap (λ (k : ℕ). k + length f.bytes) s.len ∙ place);
      all = stand_more s.pieces piece (drop end text) (subst (λ (l : List ℕ). AreLexemes s.pieces l) (f.parts ∙ ap (λ (l : List ℕ). f.bytes ++ l) (sym rest)) s.all)
          (subst (λ (l : List ℕ). IsLexeme p.lexeme f.bytes l) (sym rest) f.stands);
      are = p.tokens ∙ (ap (λ (l : List Token). l ++ token_at at p.lexeme p.len) s.are
          ∙ (ap (λ (k : ℕ). tokens_of 0 s.pieces ++ token_at k p.lexeme p.len) (let e : at ≡ 0 + length (joined s.pieces) = (let len = s.len in omega arith) in e)
          ∙ (ap (λ (k : ℕ). tokens_of 0 s.pieces ++ token_at (0 + length (joined s.pieces)) p.lexeme k) (sym f.len) ∙ sym (tokens_more 0 s.pieces piece))));
      within = p.high;
    }

drop_end : {X : Type 0} (xs : List X) (n : ℕ) → length xs ≤ n → drop n xs ≡ []
drop_end [] zero le = refl
drop_end [] (suc n) le = refl
drop_end (x ∷ xs) zero le = absurd (omega arith)
drop_end (x ∷ xs) (suc n) le = drop_end xs n (omega arith)

-- ---- the end, and a fault

pub lexed_end : (text : List ℕ) (at : ℕ) (tokens : List Token) → Lexed text at tokens → length text ≤ at → IsOnlyReading text tokens
lexed_end text at tokens s le =
    let none : drop at text ≡ [] = drop_end text at le in
    let r : Reads text tokens = record {
      pieces = s.pieces;
      parts = s.parts ∙ (ap (λ (l : List ℕ). joined s.pieces ++ l) none ∙ append-nil (joined s.pieces));
      all = subst (λ (l : List ℕ). AreLexemes s.pieces l) none s.all;
      are = s.are;
    } in
    only_reading text tokens r

pub lexed_fault : (text : List ℕ) (at : ℕ) (tokens : List Token) (f : LexFault) → Lexed text at tokens → Breaks text at f → IsRefusal text f
lexed_fault text at tokens f s (inl m) = inl m
lexed_fault text at tokens f s (inr (k, is, place)) =
    let b : IsLexFault text f.offset f.why = record {
      pieces = s.pieces;
      rest = drop at text;
      place = k;
      parts = s.parts;
      all = s.all;
      broken = right_is (drop at text) (fault f.why k) is;
      offset_is = place ∙ ap (λ (n : ℕ). n + k) (sym s.len);
    } in
    inr (only_fault text f.offset f.why b)

-- ---- what a step answers lies in the text

pub long : (l : Lexeme) (bytes after : List ℕ) → IsLexeme l bytes after → 0 < length bytes
long l [] after s = absurd (not_empty l after s) where
  not_empty : (l : Lexeme) (after : List ℕ) → IsLexeme l [] after → ⊥
  not_empty blank after s = let e = s.1 in cc
  not_empty line_comment after s = let e = s.parts in cc
  not_empty block_comment after s = let e = s.parts in cc
  not_empty attribute after s = let e = s.parts in cc
  not_empty skipped_directive after s = let e = s.line.parts in cc
  not_empty (token kind.Name) after s = let e = s.0 in cc
  not_empty (token kind.Reserved) after s = let e = s.0 in cc
  not_empty (token kind.Escaped) after s = let e = s.1 in cc
  not_empty (token kind.Number) after s = let e = s.0 in cc
  not_empty (token kind.Mark) after s = let e = s.1 in cc
long l (b ∷ bytes) after s = omega arith

broken_place : (w : LexWhy) (text : List ℕ) (k : ℕ) → IsBroken w text k → k ≤ length text
broken_place why.BadByte text k (inl s) = let e = s.place_is in let p : length text ≡ length (92 ∷ (s.name ++ s.bad ∷ s.rest)) = ap length s.parts in omega (arith, length-append s.name (s.bad ∷ s.rest))
broken_place why.BadByte text k (inr s) = let e = s.0 in omega arith
broken_place why.UnendedComment text k s = let e = s.0 in omega arith
broken_place why.UnendedAttribute text k s = let e = s.0 in omega arith
broken_place why.EmptyEscape text k s = let e = s.0 in omega arith
broken_place why.Directive text k s = let e = s.0 in omega arith
broken_place why.BigNumber text k s = let e = s.0 in omega arith
broken_place why.Memory text k s = absurd s

front_bounds : (text : List ℕ) (at : ℕ) (l : Lexeme) (n : ℕ) → at < length text → Front l n (drop at text) → (at < at + n) × (at + n ≤ length text)
front_bounds text at l n lt f =
    let some : 0 < length f.bytes = long l f.bytes f.after f.stands in
    let len = f.len in
    let parts : length (drop at text) ≡ length (f.bytes ++ f.after) = ap length f.parts in
    (omega arith, omega (arith, length-drop at text, length-append f.bytes f.after))

within_at : (text : List ℕ) (at : ℕ) (f : Found) → at < length text → scan (drop at text) ≡ f → IsRight (drop at text) f → Within (length text) at (step_at at f)
within_at text at nothing lt e r =
    let len : length (drop at text) ≡ 0 = ap length r in
    absurd (omega (arith, length-drop at text))
within_at text at (found blank n) lt e r = front_bounds text at blank n lt r
within_at text at (found line_comment n) lt e r = front_bounds text at line_comment n lt r
within_at text at (found block_comment n) lt e r = front_bounds text at block_comment n lt r
within_at text at (found attribute n) lt e r = front_bounds text at attribute n lt r
within_at text at (found skipped_directive n) lt e r = front_bounds text at skipped_directive n lt r
within_at text at (found (token k) n) lt e r = front_bounds text at (token k) n lt r
within_at text at (fault w k) lt e r =
    let le : k ≤ length (drop at text) = broken_place w (drop at text) k r in
    omega (arith, length-drop at text)

pub step_within : (text : List ℕ) (at : ℕ) (s : Step) → at < length text → s ≡ step_at at (scan (drop at text)) → Within (length text) at s
step_within text at s lt e = subst (λ (t : Step). Within (length text) at t) (sym e) (within_at text at (scan (drop at text)) lt refl (right_is (drop at text) (scan (drop at text)) refl))
