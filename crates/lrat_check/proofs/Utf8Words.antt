-- Words that are texts have a character after a hyphen.
use Rattle.std.proofs.Common.{◌≡◌, ◌∙◌, ◌==◌, ◌<◌, cond, [], ◌∷◌, List, Option, Some, None, ℕ, Bool, true, false, map, refl, sym, arith, string_bytes, String, ap}
use Rattle.std.specs.Prelude.{IsUtf8, slice_get}
use Rattle.std.proofs.lemmas.Bool.{eqb-true}
use Rattle.std.proofs.Math.Utf8.{encodes}
use Rattle.std.specs.Str.{chars}
use Rattle.std.proofs.lemmas.Str.{IsCharBoundary-after_ascii, IsUtf8-drop, IsUtf8-string_bytes, encodes-chars}
use Rattle.clap.specs.Words.{Text}
use Rattle.clap.specs.Lexer.{short_of, short_of_rest}
use Rattle.lrat_check.proofs.PlainWords.{AllHaveChars, HasChars}

some_char : (y : ℕ) (ys : Text) → IsUtf8 (y ∷ ys) → (x : ℕ) × (slice_get (chars (y ∷ ys)) 0 ≡ Some x)
some_char y ys u = go (chars (y ∷ ys)) (encodes-chars (y ∷ ys) u)
  where
    go : (cs : List ℕ) → encodes cs ≡ y ∷ ys → (x : ℕ) × (slice_get cs 0 ≡ Some x)
    go [] e = cc
    go (c ∷ cs) e = (c, refl)

has_chars : (w : Text) → IsUtf8 w → HasChars w
has_chars [] u flags is = cc
has_chars (x ∷ xs) u flags is = go (x == 45) refl is
  where
    second : (ys : Text) → x < 128 → IsUtf8 (x ∷ ys) → short_of_rest ys ≡ Some flags → (c : ℕ) × (slice_get (chars flags) 0 ≡ Some c)
    second [] lt v e = cc
    second (y ∷ ys) lt v e = third (y == 45) e
      where
        rest : IsUtf8 (y ∷ ys)
        rest = IsUtf8-drop (x ∷ y ∷ ys) 1 v (IsCharBoundary-after_ascii (x ∷ y ∷ ys) 0 v (omega arith) lt)

        third : (b : Bool) → cond b None (Some (y ∷ ys)) ≡ Some flags → (c : ℕ) × (slice_get (chars flags) 0 ≡ Some c)
        third true f = cc
        third false f =
            let same : y ∷ ys ≡ flags = cc in
            let c = some_char y ys rest in
            (c.0, ap (λ t. slice_get (chars t) 0) (sym same) ∙ c.1)

    go : (b : Bool) → (x == 45) ≡ b → short_of (x ∷ xs) ≡ Some flags → (c : ℕ) × (slice_get (chars flags) 0 ≡ Some c)
    go false e f =
        let bad : ◌≡◌ {A = Option Text} None (Some flags) = rw e at f in
        cc
    go true e f =
        let is_hyphen : x ≡ 45 = eqb-true x 45 e in
        second xs (omega arith) u (rw e at f)

pub strings_have_chars : {Z : Type 0} (words : List (String Z)) → AllHaveChars (map string_bytes words)
strings_have_chars [] = tt
strings_have_chars (w ∷ ws) = (has_chars (string_bytes w) (IsUtf8-string_bytes w), strings_have_chars ws)
