-- Every text divides into lexemes, up to its end or up to a broken one.
use Rattle.std.proofs.Common.{◌≡◌, ℕ, zero, suc, ◌+◌, ◌≤◌, ◌<◌, List, [], ◌∷◌, ◌++◌, length, refl, sym, ap, subst, ◌∙◌, ◌⊎◌, inl, inr, arith, length-append, append_assoc}
use Rattle.std.proofs.lemmas.List.{append-nil}
use Rattle.verilog_lex.specs.Scan.{Found, nothing, found, fault, scan}
use Rattle.verilog_lex.specs.Lexemes.{Lexeme, IsLexeme, IsBroken}
use Rattle.verilog_lex.specs.Reads.{Piece, joined, AreLexemes, tokens_of, HasDivision}
use Rattle.verilog_lex.specs.declared.token.LexWhy.{LexWhy}
use Rattle.verilog_lex.proofs.Sound.{Front, IsRight, right}
use Rattle.verilog_lex.proofs.Lexed.{long}

record Divided (text : List ℕ) : Type 0 where
  pieces : List Piece
  rest : List ℕ
  parts : text ≡ joined pieces ++ rest
  all : AreLexemes pieces rest
  stop : (rest ≡ []) ⊎ ((w : LexWhy) × (k : ℕ) × IsBroken w rest k)

stopped : (text : List ℕ) → (text ≡ []) ⊎ ((w : LexWhy) × (k : ℕ) × IsBroken w text k) → Divided text
stopped text s = record { pieces = []; rest = text; parts = refl; all = tt; stop = s }

one_more : (text : List ℕ) (l : Lexeme) (n : ℕ) (f : Front l n text) → Divided f.after → Divided text
one_more text l n f d = record {
  pieces = record { lexeme = l; bytes = f.bytes } ∷ d.pieces;
  rest = d.rest;
  parts = f.parts ∙ (ap (λ (r : List ℕ). f.bytes ++ r) d.parts ∙ sym (append_assoc f.bytes (joined d.pieces) d.rest));
  all = (subst (λ (r : List ℕ). IsLexeme l f.bytes r) d.parts f.stands, d.all);
  stop = d.stop;
}

shorter : (text : List ℕ) (l : Lexeme) (n : ℕ) (f : Front l n text) → length f.after < length text
shorter text l n f =
    let some : 0 < length f.bytes = long l f.bytes f.after f.stands in
    let len : length text ≡ length (f.bytes ++ f.after) = ap length f.parts in
    omega (arith, length-append f.bytes f.after)

divided : (n : ℕ) (text : List ℕ) → length text ≤ n → Divided text
divided zero text le = at (scan text) (right text) where
  at : (f : Found) → IsRight text f → Divided text
  at nothing r = stopped text (inl r)
  at (fault w k) r = stopped text (inr (w, k, r))
  at (found l k) r = let lt = shorter text l k r in absurd (omega arith)
divided (suc n) text le = at (scan text) (right text) (λ after lt. divided n after (omega arith)) where
  at : (f : Found) → IsRight text f → ((after : List ℕ) → length after < length text → Divided after) → Divided text
  at nothing r more = stopped text (inl r)
  at (fault w k) r more = stopped text (inr (w, k, r))
  at (found l k) r more = one_more text l k r (more r.after (shorter text l k r))

pub divides : (text : List ℕ) → HasDivision text
divides text = whole (divided (length text) text (omega arith)) where
  whole : Divided text → HasDivision text
  whole d = elim d.stop [
    | inl none ↦ inl (
      tokens_of 0 d.pieces,
      record {
        pieces = d.pieces;
        parts = d.parts ∙ (ap (λ (r : List ℕ). joined d.pieces ++ r) none ∙ append-nil (joined d.pieces));
        all = subst (λ (r : List ℕ). AreLexemes d.pieces r) none d.all;
        are = refl;
      },
    )
    | inr broken ↦ inr (
      length (joined d.pieces) + broken.1,
      broken.0,
      record {
        pieces = d.pieces;
        rest = d.rest;
        place = broken.1;
        parts = d.parts;
        all = d.all;
        broken = broken.2;
        offset_is = refl;
      },
    )
  ]
