-- A text has at most one reading and at most one fault, and not both.
use Rattle.std.proofs.Common.{◌≡◌, ℕ, ◌+◌, List, [], ◌∷◌, ◌++◌, length, refl, sym, ap, subst, ◌∙◌, append_assoc, arith}
use Rattle.std.proofs.lemmas.List.{append-nil}
use Rattle.verilog_lex.specs.Scan.{Found, nothing, found, fault, scan}
use Rattle.verilog_lex.specs.Lexemes.{Lexeme, IsBroken}
use Rattle.verilog_lex.specs.Reads.{Piece, joined, AreLexemes, tokens_of, Reads, IsLexFault, IsOnlyReading, IsOnlyFault}
use Rattle.verilog_lex.specs.declared.token.LexWhy.{LexWhy}
use Rattle.verilog_lex.specs.declared.token.Token.{Token}
use Rattle.verilog_lex.proofs.Again.{again, again_broken}

-- where a division stops: at the end, or at a fault
abbrev pub Stop : Found → Type 0
Stop nothing = Unit {0}
Stop (found l n) = ⊥
Stop (fault w k) = Unit {0}

-- two lists with fronts of one length
front_same : {X : Type 0} (a b u v : List X) → length a ≡ length b → a ++ u ≡ b ++ v → (a ≡ b) × (u ≡ v)
front_same {X = X} [] [] u v n e = (refl, e)
front_same {X = X} [] (y ∷ b) u v n e = absurd (omega arith)
front_same {X = X} (x ∷ a) [] u v n e = absurd (omega arith)
front_same {X = X} (x ∷ a) (y ∷ b) u v n e =
    let head : x ≡ y = cc in
    let tail : a ++ u ≡ b ++ v = cc in
    let len : length a ≡ length b = omega arith in
    let rest = front_same a b u v len tail in
    (ap (λ (z : X). z ∷ a) head ∙ ap (λ (l : List X). y ∷ l) rest.0, rest.1)

piece_same : (p q : Piece) → p.lexeme ≡ q.lexeme → p.bytes ≡ q.bytes → p ≡ q
piece_same p q e h = ap (λ (l : Lexeme). let r : Piece = record { lexeme = l; bytes = p.bytes } in r) e ∙ ap (λ (w : List ℕ). let r : Piece = record { lexeme = q.lexeme; bytes = w } in r) h

found_same : (l m : Lexeme) (i j : ℕ) → found l i ≡ found m j → (l ≡ m) × (i ≡ j)
found_same l m i j e = (cc, cc)

stop_not : (f : Found) (l : Lexeme) (n : ℕ) → Stop f → f ≡ found l n → ⊥
stop_not f l n s e = subst Stop e s

-- ---- the law: a text divides in one way

pub one_division : (ps qs : List Piece) (rest rest' : List ℕ) → joined ps ++ rest ≡ joined qs ++ rest' → AreLexemes ps rest → AreLexemes qs rest' → Stop (scan rest) → Stop (scan rest')
    → (ps ≡ qs) × (rest ≡ rest')
one_division [] [] rest rest' e a b s t = (refl, e)
one_division [] (q ∷ qs) rest rest' e a b s t =
    absurd (stop_not (scan rest) q.lexeme (length q.bytes) s (ap scan (e ∙ append_assoc q.bytes (joined qs) (rest')) ∙ again q.lexeme q.bytes (joined qs ++ rest') b.0))
one_division (p ∷ ps) [] rest rest' e a b s t =
    absurd (stop_not (scan rest') p.lexeme (length p.bytes) t (ap scan (sym e ∙ append_assoc p.bytes (joined ps) rest) ∙ again p.lexeme p.bytes (joined ps ++ rest) a.0))
one_division (p ∷ ps) (q ∷ qs) rest rest' e a b s t =
    let both : p.bytes ++ (joined ps ++ rest) ≡ q.bytes ++ (joined qs ++ rest') = sym (append_assoc p.bytes (joined ps) rest) ∙ (e ∙ append_assoc q.bytes (joined qs) (rest')) in
    let same = found_same p.lexeme q.lexeme (length p.bytes) (length q.bytes) (sym (again p.lexeme p.bytes (joined ps ++ rest) a.0) ∙ (ap scan both ∙ again q.lexeme q.bytes (joined qs ++ rest') b.0)) in
    let parts = front_same p.bytes q.bytes (joined ps ++ rest) (joined qs ++ rest') same.1 both in
    let later = one_division ps qs rest rest' parts.1 a.1 b.1 s t in
    (ap (λ (r : Piece). r ∷ ps) (piece_same p q same.0 parts.0) ∙ ap (λ (l : List Piece). q ∷ l) later.0, later.1)

stop_fault : (w : LexWhy) (text : List ℕ) (place : ℕ) → IsBroken w text place → Stop (scan text)
stop_fault w text place b = subst Stop (sym (again_broken w text place b)) tt

fault_same : (w v : LexWhy) (i j : ℕ) → fault w i ≡ fault v j → (w ≡ v) × (i ≡ j)
fault_same w v i j e = (cc, cc)

nothing_not : (w : LexWhy) (i : ℕ) → nothing ≡ fault w i → ⊥
nothing_not w i e = cc

pub one_reading : (text : List ℕ) (ts us : List Token) → Reads text ts → Reads text us → ts ≡ us
one_reading text ts us r s =
    let same = one_division r.pieces s.pieces [] [] (append-nil (joined r.pieces) ∙ (sym r.parts ∙ (s.parts ∙ sym (append-nil (joined s.pieces))))) r.all s.all tt tt in
    r.are ∙ (ap (tokens_of 0) same.0 ∙ sym s.are)

pub one_fault : (text : List ℕ) (i j : ℕ) (w v : LexWhy) → IsLexFault text i w → IsLexFault text j v → (i ≡ j) × (w ≡ v)
one_fault text i j w v r s =
    let same = one_division r.pieces s.pieces r.rest s.rest (sym r.parts ∙ s.parts) r.all s.all (stop_fault w r.rest r.place r.broken) (stop_fault v s.rest s.place s.broken) in
    let equal = fault_same w v r.place s.place (sym (again_broken w r.rest r.place r.broken) ∙ (ap scan same.1 ∙ again_broken v s.rest s.place s.broken)) in
    (r.offset_is ∙ (ap (λ (ps : List Piece). length (joined ps) + r.place) same.0 ∙ (ap (λ (k : ℕ). length (joined s.pieces) + k) equal.1 ∙ sym s.offset_is)), equal.0)

pub not_both : (text : List ℕ) (ts : List Token) (i : ℕ) (w : LexWhy) → Reads text ts → IsLexFault text i w → ⊥
not_both text ts i w r s =
    let same = one_division r.pieces s.pieces [] s.rest (append-nil (joined r.pieces) ∙ (sym r.parts ∙ s.parts)) r.all s.all tt (stop_fault w s.rest s.place s.broken) in
    nothing_not w s.place (ap scan same.1 ∙ again_broken w s.rest s.place s.broken)

-- ---- so each is the only one

pub only_reading : (text : List ℕ) (ts : List Token) → Reads text ts → IsOnlyReading text ts
only_reading text ts r = record { reads = r; only = λ others o. one_reading text others ts o r; no_fault = λ i w f. not_both text ts i w r f }

pub only_fault : (text : List ℕ) (i : ℕ) (w : LexWhy) → IsLexFault text i w → IsOnlyFault text i w
only_fault text i w f = record { fault = f; only = λ p o x. one_fault text p i o w x f; no_reading = λ ts r. not_both text ts i w r f }
