-- Lines at the front of bytes, and lines written one behind the other.
use Rattle.std.proofs.Common.{◌≡◌, ◌⊎◌, inl, inr, ◌∙◌, ◌<◌, ◌+◌, ◌==◌, ℕ, Bool, true, false, cond, zero, suc, refl, ap, sym, subst, arith, List, [], ◌∷◌, ◌++◌, length, take, drop, append_assoc, Ok, Err}
use Rattle.std.specs.Prelude.{◌||◌}
use Rattle.std.specs.List.{list_any}
use Rattle.std.proofs.lemmas.List.{append_cancel_right}
use Rattle.std.proofs.lemmas.Bool.{eqb-true}
use Rattle.aiger_parts.specs.declared.fault.AigerWhy.TheVariants as why
use Rattle.aiger_parts.specs.Reading.{fault, line_end_at}
use Rattle.aiger_parts.specs.Symbols.{line_length}
use Rattle.aiger_read.specs.Spelled.{in_lines}
use Rattle.aiger_read.proofs.WellFormed.{given, same_value}

-- what stands behind the text of a line: a newline and the rest, or nothing
abbrev pub IsTail : List ℕ → List ℕ → Type 0
IsTail tail rest = (tail ≡ 10 ∷ rest) ⊎ ((tail ≡ []) × (rest ≡ []))

-- The bytes begin with a line of some text.
pub record LineAt (text bytes rest : List ℕ) : Type 0 where
  pub tail : List ℕ
  pub parts : bytes ≡ text ++ tail
  pub ends : IsTail tail rest
  pub some : 0 < length text

-- the bytes begin with lines
abbrev pub LinesAt : List (List ℕ) → List ℕ → List ℕ → Type 0
LinesAt [] bytes rest = bytes ≡ rest
LinesAt (text ∷ texts) bytes rest = (next : List ℕ) × LineAt text bytes next × LinesAt texts next rest

abbrev pub AllSome : List (List ℕ) → Type 0
AllSome [] = Unit {0}
AllSome (text ∷ texts) = (0 < length text) × AllSome texts

pub none_long : (xs ys : List ℕ) → 0 < length xs → [] ≡ xs ++ ys → ⊥
none_long [] ys lt e = absurd (omega arith)
none_long (x ∷ xs) ys lt e = absurd cc

pub lines_none : (texts : List (List ℕ)) (rest : List ℕ) → LinesAt texts [] rest → (texts ≡ []) × (rest ≡ [])
lines_none [] rest e = (refl, sym e)
lines_none (text ∷ texts) rest (next, line, more) = absurd (none_long text line.tail line.some line.parts)

-- ---- from lines at the front to lines written

abbrev pub AreWritten : List ℕ → List (List ℕ) → List ℕ → Type 0
AreWritten bytes texts rest = (bytes ≡ in_lines texts ++ rest) ⊎ ((bytes ++ 10 ∷ [] ≡ in_lines texts) × (rest ≡ []))

written_more : (text next bytes rest : List ℕ) (texts : List (List ℕ)) → bytes ≡ text ++ 10 ∷ next → AreWritten next texts rest → AreWritten bytes (text ∷ texts) rest
written_more text next bytes rest texts parts (inl is) = inl (parts ∙ ap (λ (n : List ℕ). text ++ 10 ∷ n) is ∙ sym (append_assoc text (10 ∷ in_lines texts) rest))
written_more text next bytes rest texts parts (inr (is, none)) =
    inr (ap (λ (b : List ℕ). b ++ 10 ∷ []) parts ∙ append_assoc text (10 ∷ next) (10 ∷ []) ∙ ap (λ (n : List ℕ). text ++ 10 ∷ n) is, none)

pub written : (texts : List (List ℕ)) (bytes rest : List ℕ) → LinesAt texts bytes rest → AreWritten bytes texts rest
written [] bytes rest e = inl e
written (text ∷ texts) bytes rest (next, line, more) = elim line.ends [
  | inl newline ↦ written_more text next bytes rest texts (line.parts ∙ ap (λ (t : List ℕ). text ++ t) newline) (written texts next rest more)
  | inr (empty, none) ↦ last empty none
] where
  last : line.tail ≡ [] → next ≡ [] → AreWritten bytes (text ∷ texts) rest
  last empty none =
      let no_more = lines_none texts rest (subst (λ (n : List ℕ). LinesAt texts n rest) none more) in
      inr (
        ap (λ (b : List ℕ). b ++ 10 ∷ []) (line.parts ∙ ap (λ (t : List ℕ). text ++ t) empty)
            ∙ append_assoc text [] (10 ∷ [])
            ∙ ap (λ (ts : List (List ℕ)). text ++ 10 ∷ in_lines ts) (sym no_more.0),
        no_more.1,
      )

-- ---- from lines written to lines at the front

pub lines_of : (texts : List (List ℕ)) (rest : List ℕ) → AllSome texts → LinesAt texts (in_lines texts ++ rest) rest
lines_of [] rest some = refl
lines_of (text ∷ texts) rest some = (
  in_lines texts ++ rest,
  record { tail = 10 ∷ in_lines texts ++ rest; parts = append_assoc text (10 ∷ in_lines texts) rest; ends = inl refl; some = some.0 },
  lines_of texts rest some.1,
)

-- lines, the last of them without its newline
abbrev open_lines : List ℕ → List (List ℕ) → List ℕ
open_lines text [] = text
open_lines text (more ∷ texts) = text ++ 10 ∷ open_lines more texts

closed : (text : List ℕ) (texts : List (List ℕ)) → open_lines text texts ++ 10 ∷ [] ≡ in_lines (text ∷ texts)
closed text [] = refl
closed text (more ∷ texts) = append_assoc text (10 ∷ open_lines more texts) (10 ∷ []) ∙ ap (λ (n : List ℕ). text ++ 10 ∷ n) (closed more texts)

open_at : (text : List ℕ) (texts : List (List ℕ)) → AllSome (text ∷ texts) → LinesAt (text ∷ texts) (open_lines text texts) []
open_at text [] some = ([], record { tail = []; parts = sym (append-none text); ends = inr (refl, refl); some = some.0 }, refl) where
  append-none : (xs : List ℕ) → xs ++ [] ≡ xs
  append-none [] = refl
  append-none (x ∷ xs) = ap (λ (ys : List ℕ). x ∷ ys) (append-none xs)
open_at text (more ∷ texts) some = (
  open_lines more texts,
  record { tail = 10 ∷ open_lines more texts; parts = refl; ends = inl refl; some = some.0 },
  open_at more texts some.1,
)

pub lines_of_open : (bytes text : List ℕ) (texts : List (List ℕ)) → AllSome (text ∷ texts) → bytes ++ 10 ∷ [] ≡ in_lines (text ∷ texts) → LinesAt (text ∷ texts) bytes []
lines_of_open bytes text texts some e =
    let same : open_lines text texts ≡ bytes = append_cancel_right (open_lines text texts) bytes (10 ∷ []) (closed text texts ∙ sym e) in
    subst (λ (b : List ℕ). LinesAt (text ∷ texts) b []) same (open_at text texts some)

-- lines behind one another
pub lines_join : (one two : List (List ℕ)) (bytes between rest : List ℕ) → LinesAt one bytes between → LinesAt two between rest → LinesAt (one ++ two) bytes rest
lines_join [] two bytes between rest e more = subst (λ (b : List ℕ). LinesAt two b rest) (sym e) more
lines_join (text ∷ one) two bytes between rest (next, line, others) more = (next, line, lines_join one two next between rest others more)

pub lines_part : (one two : List (List ℕ)) (bytes rest : List ℕ) → LinesAt (one ++ two) bytes rest → (between : List ℕ) × LinesAt one bytes between × LinesAt two between rest
lines_part [] two bytes rest all = (bytes, refl, all)
lines_part (text ∷ one) two bytes rest (next, line, others) = let parts = lines_part one two next rest others in (parts.0, (next, line, parts.1), parts.2)

-- ---- the end of a line, read

pub line_end : (tail rest : List ℕ) → line_end_at tail ≡ given rest → IsTail tail rest
line_end [] rest e = inr (refl, sym (same_value [] rest e))
line_end (byte ∷ bytes) rest e = go (byte == 10) refl e where
  go : (t : Bool) → (byte == 10) ≡ t → cond t (Ok bytes) (Err (fault why.Number (byte ∷ bytes))) ≡ given rest → IsTail (byte ∷ bytes) rest
  go true is h = let newline : byte ≡ 10 = eqb-true byte 10 is in inl (ap (λ (b : ℕ). b ∷ bytes) newline ∙ ap (λ (bs : List ℕ). 10 ∷ bs) (same_value bytes rest h))
  go false is h = absurd cc

pub line_end_again : (tail rest : List ℕ) → IsTail tail rest → line_end_at tail ≡ given rest
line_end_again tail rest (inl newline) = rw newline refl
line_end_again tail rest (inr (empty, none)) = rw (empty, none) refl

-- ---- the line at the front

-- no newline among the bytes
abbrev pub IsOneLine : List ℕ → Type 0
IsOneLine bytes = list_any (λ byte. byte == 10) bytes ≡ false

pub one_line : (bytes : List ℕ) → IsOneLine (take (line_length bytes) bytes)
one_line [] = refl
one_line (byte ∷ bytes) = go (byte == 10) refl (one_line bytes) where
  go : (t : Bool) → (byte == 10) ≡ t → IsOneLine (take (line_length bytes) bytes) → IsOneLine (take (cond t 0 (1 + line_length bytes)) (byte ∷ bytes))
  go true is more = refl
  go false is more =
      let one : 1 + line_length bytes ≡ suc (line_length bytes) = omega arith in
      rw one (rw is more)

pub line_front : (bytes : List ℕ) → 0 < length (take (line_length bytes) bytes) → LineAt (take (line_length bytes) bytes) bytes (drop (line_length bytes + 1) bytes)
line_front bytes some = record { tail = drop (line_length bytes) bytes; parts = parts bytes (line_length bytes); ends = ends bytes; some = some } where
  parts : (xs : List ℕ) (n : ℕ) → xs ≡ take n xs ++ drop n xs
  parts [] zero = refl
  parts [] (suc n) = refl
  parts (x ∷ xs) zero = refl
  parts (x ∷ xs) (suc n) = ap (λ (ys : List ℕ). x ∷ ys) (parts xs n)

  ends : (xs : List ℕ) → IsTail (drop (line_length xs) xs) (drop (line_length xs + 1) xs)
  ends [] = inr (refl, refl)
  ends (x ∷ xs) = go (x == 10) refl (ends xs) where
    go : (t : Bool) → (x == 10) ≡ t → IsTail (drop (line_length xs) xs) (drop (line_length xs + 1) xs) → IsTail (drop (cond t 0 (1 + line_length xs)) (x ∷ xs)) (drop (cond t 0 (1 + line_length xs) + 1) (x ∷ xs))
    go true is more = let newline : x ≡ 10 = eqb-true x 10 is in inl (ap (λ (y : ℕ). y ∷ xs) newline)
    go false is more =
        let one : 1 + line_length xs ≡ suc (line_length xs) = omega arith in
        let two : suc (line_length xs) + 1 ≡ suc (line_length xs + 1) = omega arith in
        rw one (rw two more)

-- how long a line is whose text has no newline
pub line_is : (text tail rest : List ℕ) → IsOneLine text → IsTail tail rest → line_length (text ++ tail) ≡ length text
line_is [] tail rest one (inl newline) = rw newline refl
line_is [] tail rest one (inr (empty, none)) = rw empty refl
line_is (x ∷ xs) tail rest one ends = go (x == 10) refl one (line_is xs tail rest) where
  go : (t : Bool) → (x == 10) ≡ t → (t || list_any (λ byte. byte == 10) xs) ≡ false → (IsOneLine xs → IsTail tail rest → line_length (xs ++ tail) ≡ length xs) → cond t 0 (1 + line_length (xs ++ tail)) ≡ suc (length xs)
  go true is h more = absurd cc
  go false is h more = let len = more h ends in omega arith

pub take_front : (xs ys : List ℕ) → take (length xs) (xs ++ ys) ≡ xs
take_front [] ys = refl
take_front (x ∷ xs) ys = ap (λ (zs : List ℕ). x ∷ zs) (take_front xs ys)

pub drop_front : (xs ys : List ℕ) → drop (length xs) (xs ++ ys) ≡ ys
drop_front [] ys = refl
drop_front (x ∷ xs) ys = drop_front xs ys

drop_more : (xs : List ℕ) (n : ℕ) → drop (n + 1) xs ≡ drop 1 (drop n xs)
drop_more xs zero = refl
drop_more [] (suc n) = let one : suc n + 1 ≡ suc (n + 1) = omega arith in rw one refl
drop_more (x ∷ xs) (suc n) = let one : suc n + 1 ≡ suc (n + 1) = omega arith in rw one (drop_more xs n)

pub line_behind : (text tail rest : List ℕ) → IsTail tail rest → drop (length text + 1) (text ++ tail) ≡ rest
line_behind text tail rest ends = drop_more (text ++ tail) (length text) ∙ ap (drop 1) (drop_front text tail) ∙ go ends where
  go : IsTail tail rest → drop 1 tail ≡ rest
  go (inl newline) = rw newline refl
  go (inr (empty, none)) = rw (empty, none) refl
