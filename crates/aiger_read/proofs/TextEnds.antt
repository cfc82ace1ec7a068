-- Lines and a comment, up to the end of a file.
use Rattle.std.proofs.Common.{◌≡◌, ◌⊎◌, ◌∙◌, inl, inr, ◌<◌, ℕ, suc, refl, ap, sym, subst, arith, List, [], ◌∷◌, ◌++◌, length, length-append, append_assoc}
use Rattle.std.proofs.lemmas.List.{append-nil}
use Rattle.aiger_read.specs.Spelled.{in_lines, IsComment, LacksNewline}
use Rattle.aiger_read.proofs.FileLines.{LinesAt, AllSome, written, lines_of, lines_of_open}
use Rattle.aiger_read.proofs.SymbolFiles.{EndAt}

-- What lines and an end are as a text.
pub record TailText (lines : List (List ℕ)) (bytes : List ℕ) : Type 0 where
  pub comment : List ℕ
  pub is : IsComment comment
  pub bytes_are : (bytes ≡ in_lines lines ++ comment) ⊎ (LacksNewline bytes (in_lines lines ++ comment) × (0 < length (in_lines lines ++ comment)))

long_enough : (bytes text : List ℕ) → bytes ++ 10 ∷ [] ≡ text → 0 < length text
long_enough bytes text e = (let len = length-append bytes (10 ∷ []) in let same = ap length e in omega arith)

pub tail_text : (lines : List (List ℕ)) (bytes rest : List ℕ) → LinesAt lines bytes rest → EndAt rest → TailText lines bytes
tail_text lines bytes rest at end = elim (written lines bytes rest at) [
  | inl is ↦ ended is end
  | inr (is, none) ↦ (let text : bytes ++ 10 ∷ [] ≡ in_lines lines ++ [] = is ∙ sym (append-nil (in_lines lines)) in record { comment = []; is = inl refl; bytes_are = inr (text, long_enough bytes (in_lines lines ++ []) text) })
] where
  ended : bytes ≡ in_lines lines ++ rest → EndAt rest → TailText lines bytes
  ended is (inl none) = record { comment = []; is = inl refl; bytes_are = inl (is ∙ ap (λ (r : List ℕ). in_lines lines ++ r) none) }
  ended is (inr (more, line)) = elim line.ends [
    | inl newline ↦ (let rest_is : rest ≡ 99 ∷ 10 ∷ more = line.parts ∙ ap (λ (t : List ℕ). 99 ∷ t) newline in record { comment = 99 ∷ 10 ∷ more; is = inr (more, refl); bytes_are = inl (is ∙ ap (λ (r : List ℕ). in_lines lines ++ r) rest_is) })
    | inr (empty, none) ↦ (
        let rest_is : rest ≡ 99 ∷ [] = line.parts ∙ ap (λ (t : List ℕ). 99 ∷ t) empty in
        let text : bytes ++ 10 ∷ [] ≡ in_lines lines ++ 99 ∷ 10 ∷ [] = ap (λ (b : List ℕ). b ++ 10 ∷ []) is ∙ append_assoc (in_lines lines) rest (10 ∷ []) ∙ ap (λ (r : List ℕ). in_lines lines ++ (r ++ 10 ∷ [])) rest_is in
        record { comment = 99 ∷ 10 ∷ []; is = inr ([], refl); bytes_are = inr (text, long_enough bytes (in_lines lines ++ 99 ∷ 10 ∷ []) text) }
        )
  ]

-- ---- and back

rest_of : List ℕ → List ℕ
rest_of [] = []
rest_of (x ∷ xs) = xs

cons_rest : (a b : ℕ) (xs ys : List ℕ) → a ∷ xs ≡ b ∷ ys → xs ≡ ys
unfolding rest_of
cons_rest a b xs ys e = ap rest_of e

first_of : List ℕ → ℕ
first_of [] = 0
first_of (x ∷ xs) = x

cons_first : (a b : ℕ) (xs ys : List ℕ) → a ∷ xs ≡ b ∷ ys → a ≡ b
unfolding first_of
cons_first a b xs ys e = ap first_of e

-- The last byte of a text is that of its last part.
pub record LastByte (y : ℕ) (bytes front back : List ℕ) : Type 0 where
  pub before : List ℕ
  pub back_is : before ++ y ∷ [] ≡ back
  pub bytes_are : bytes ≡ front ++ before

pub last_byte : (y : ℕ) (bytes front back : List ℕ) → bytes ++ y ∷ [] ≡ front ++ back → 0 < length back → LastByte y bytes front back
last_byte y bytes [] back e some = record { before = bytes; back_is = e; bytes_are = refl }
last_byte y [] (f ∷ front) back e some = (let len = length-append front back in let same : 1 ≡ suc (length (front ++ back)) = ap length e in absurd (omega arith))
last_byte y (b ∷ bytes) (f ∷ front) back e some =
    let more = last_byte y bytes front back (cons_rest b f (bytes ++ y ∷ []) (front ++ back) e) some in
    let head : b ≡ f = cons_first b f (bytes ++ y ∷ []) (front ++ back) e in
    record { before = more.before; back_is = more.back_is; bytes_are = ap (λ (x : ℕ). x ∷ bytes) head ∙ ap (λ (r : List ℕ). f ∷ r) more.bytes_are }

pub record TailAt (lines : List (List ℕ)) (bytes : List ℕ) : Type 0 where
  pub rest : List ℕ
  pub at : LinesAt lines bytes rest
  pub end : EndAt rest

comment_at : (comment : List ℕ) → IsComment comment → EndAt comment
comment_at comment (inl none) = inl none
comment_at comment (inr (rest, is)) = inr (rest, record { tail = 10 ∷ rest; parts = is; ends = inl refl; some = omega arith })

open_comment : (before rest : List ℕ) → before ++ 10 ∷ [] ≡ 99 ∷ 10 ∷ rest → EndAt before
open_comment [] rest e = absurd (apart 10 99 (cons_first 10 99 [] (10 ∷ rest) e) (λ bad. omega (arith, bad))) where
  apart : (a b : ℕ) → a ≡ b → (a ≡ b → ⊥) → ⊥
  apart a b is not = not is
open_comment (x ∷ []) rest e =
    let first : x ≡ 99 = cons_first x 99 (10 ∷ []) (10 ∷ rest) e in
    inr ([], record { tail = []; parts = ap (λ (y : ℕ). y ∷ []) first; ends = inr (refl, refl); some = omega arith })
open_comment (x ∷ y ∷ zs) rest e =
    let first : x ≡ 99 = cons_first x 99 (y ∷ (zs ++ 10 ∷ [])) (10 ∷ rest) e in
    let second : y ≡ 10 = cons_first y 10 (zs ++ 10 ∷ []) rest (cons_rest x 99 (y ∷ (zs ++ 10 ∷ [])) (10 ∷ rest) e) in
    inr (zs, record { tail = 10 ∷ zs; parts = ap (λ (a : ℕ). a ∷ y ∷ zs) first ∙ ap (λ (b : ℕ). 99 ∷ b ∷ zs) second; ends = inl refl; some = omega arith })

pub tail_at : (lines : List (List ℕ)) (comment bytes : List ℕ) → AllSome lines → IsComment comment → bytes ≡ in_lines lines ++ comment → TailAt lines bytes
tail_at lines comment bytes some is e = record { rest = comment; at = subst (λ (b : List ℕ). LinesAt lines b comment) (sym e) (lines_of lines comment some); end = comment_at comment is }

pub tail_at_open : (lines : List (List ℕ)) (comment bytes : List ℕ) → AllSome lines → IsComment comment → bytes ++ 10 ∷ [] ≡ in_lines lines ++ comment → TailAt lines bytes
tail_at_open lines comment bytes some (inr (rest, is)) e =
    let l = last_byte 10 bytes (in_lines lines) comment e (subst (λ (c : List ℕ). 0 < length c) (sym is) (omega arith)) in
    record { rest = l.before; at = subst (λ (b : List ℕ). LinesAt lines b l.before) (sym l.bytes_are) (lines_of lines l.before some); end = open_comment l.before rest (l.back_is ∙ is) }
tail_at_open [] comment bytes some (inl none) e = (let lt = long_enough bytes comment e in let same = ap length none in absurd (omega arith))
tail_at_open (line ∷ lines) comment bytes some (inl none) e =
    record { rest = []; at = lines_of_open bytes line lines some (e ∙ ap (λ (c : List ℕ). in_lines (line ∷ lines) ++ c) none ∙ append-nil (in_lines (line ∷ lines))); end = inl refl }
