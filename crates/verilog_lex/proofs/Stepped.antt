-- What a step answers, from what its parts found.
use Rattle.std.proofs.Common.{◌≡◌, ℕ, suc, ◌+◌, ◌-◌, ◌≤◌, ◌<◌, Bool, true, false, cond, List, [], ◌∷◌, length, Option, Some, None, refl, sym, ap, subst, ◌∙◌, arith, inl, inr, take, drop, get_or, ◌==◌}
use Rattle.std.specs.Prelude.{◌&&◌, option_map, nat_le}
use Rattle.std.specs.Char.{is_ascii_digit, is_ascii_graphic, digit_value}
use Rattle.std.specs.Str.Parse.{AllDigits, digits_value}
use Rattle.std.proofs.lemmas.Str.{digit_value_digit}
use Rattle.std.proofs.lemmas.Bool.Decides.{leb_tells, eqb_tells}
use Rattle.std.proofs.lemmas.List.{drop-drop}
use Rattle.verilog_lex.specs.Bytes.{is_blank, is_start, is_part, is_mark, is_in_line, begins, is_reserved, is_skipped}
use Rattle.verilog_lex.specs.Scan.{quoted, unquoted, Found, found, fault, front, back, close, closed, word_kind, scan_word, scan_number, escaped, scan_escape, scan_slash, scan_paren, scan_tick, scan_at, scan}
use Rattle.verilog_lex.specs.Lexemes.{block_comment, attribute, skipped_directive, token}
use Rattle.verilog_lex.specs.Stepping.{step_at}
use Rattle.verilog_lex.specs.declared.closing.Quoting.TheVariants.{Outside}
use Rattle.verilog_lex.specs.declared.steps.Step.{Step}
use Rattle.verilog_lex.specs.declared.steps.Step.TheVariants.{Skip, Take, Fault}
use Rattle.verilog_lex.specs.declared.token.TokenKind.TheVariants as kind
use Rattle.verilog_lex.specs.declared.token.LexWhy.{LexWhy}
use Rattle.verilog_lex.specs.declared.token.LexWhy.TheVariants as why
use Rattle.verilog_lex.proofs.Tools.{and_left, and_right}
use Rattle.verilog_lex.proofs.Places.{split_at, drop_out, take_front, drop_front, begins_at}
use Rattle.verilog_lex.proofs.Dispatch.{at_start, at_digit, at_blank, at_mark, plain_bad}

-- the bytes from a place up to the end of a front
pub slice_front : (p : ℕ → Bool) (xs : List ℕ) (at stop : ℕ) → stop ≡ at + length (front p xs) → take (stop - at) xs ≡ front p xs
slice_front p xs at stop e =
    let n : stop - at ≡ length (front p xs) = omega arith in
    ap (λ k. take k xs) n ∙ take_front p xs

same_place : (w : LexWhy) (at : ℕ) → Fault w at ≡ Fault w (at + 0)
same_place w at = ap (Fault w) (let e : at ≡ at + 0 = omega arith in e)

-- ---- words and numbers

pub word_step : (xs : List ℕ) (at stop : ℕ) (k : Bool) → stop ≡ at + length (front is_part xs) → is_reserved (take (stop - at) xs) ≡ k → Take (word_kind k) stop ≡ step_at at (scan_word xs)
unfolding scan_word
word_step xs at stop k e r =
    let same : is_reserved (front is_part xs) ≡ k = ap is_reserved (sym (slice_front is_part xs at stop e)) ∙ r in
    ap (Take (word_kind k)) e ∙ ap (λ (c : Bool). Take (word_kind c) (at + length (front is_part xs))) (sym same)

digit_small : (b : ℕ) → is_ascii_digit b ≡ true → digit_value b < 10
digit_small b e =
    let low : 48 ≤ b = le_of 48 b (and_left (nat_le 48 b) (nat_le b 57) e) in
    let high : b ≤ 57 = le_of b 57 (and_right (nat_le 48 b) (nat_le b 57) e) in
    let v : digit_value b + 48 ≡ b = digit_value_digit b (low, high) in
    omega (arith, v) where
      le_of : (i j : ℕ) → nat_le i j ≡ true → i ≤ j
      le_of i j h = elim (leb_tells i j) [ inl t ↦ t.1 | inr t ↦ absurd cc ]

more_digits : (b : ℕ) (bs : List ℕ) (k : Bool) → is_ascii_digit b ≡ k → AllDigits 10 (front is_ascii_digit bs) → AllDigits 10 (front is_ascii_digit (b ∷ bs))
more_digits b bs true e all = subst (λ (c : Bool). AllDigits 10 (cond c (b ∷ front is_ascii_digit bs) [])) (sym e) (digit_small b e, all)
more_digits b bs false e all = subst (λ (c : Bool). AllDigits 10 (cond c (b ∷ front is_ascii_digit bs) [])) (sym e) tt

front_digits : (xs : List ℕ) → AllDigits 10 (front is_ascii_digit xs)
front_digits [] = tt
front_digits (b ∷ bs) = more_digits b bs (is_ascii_digit b) refl (front_digits bs)

pub digits_there : (xs : List ℕ) (at stop : ℕ) → stop ≡ at + length (front is_ascii_digit xs) → AllDigits 10 (take (stop - at) xs)
digits_there xs at stop e = subst (λ (l : List ℕ). AllDigits 10 l) (sym (slice_front is_ascii_digit xs at stop e)) (front_digits xs)

pub number_step : (xs : List ℕ) (at stop : ℕ) → stop ≡ at + length (front is_ascii_digit xs) → nat_le (digits_value 10 (take (stop - at) xs)) 999999999 ≡ true → Take kind.Number stop ≡ step_at at (scan_number xs)
unfolding scan_number
number_step xs at stop e r =
    let same : nat_le (digits_value 10 (front is_ascii_digit xs)) 999999999 ≡ true = ap (λ (l : List ℕ). nat_le (digits_value 10 l) 999999999) (sym (slice_front is_ascii_digit xs at stop e)) ∙ r in
    ap (Take kind.Number) e ∙ ap (λ (c : Bool). step_at at (cond c (found (token kind.Number) (length (front is_ascii_digit xs))) (fault why.BigNumber 0))) (sym same)

pub big_step : (xs : List ℕ) (at stop : ℕ) → stop ≡ at + length (front is_ascii_digit xs) → nat_le (digits_value 10 (take (stop - at) xs)) 999999999 ≡ false → Fault why.BigNumber at ≡ step_at at (scan_number xs)
unfolding scan_number
big_step xs at stop e r =
    let same : nat_le (digits_value 10 (front is_ascii_digit xs)) 999999999 ≡ false = ap (λ (l : List ℕ). nat_le (digits_value 10 l) 999999999) (sym (slice_front is_ascii_digit xs at stop e)) ∙ r in
    same_place why.BigNumber at ∙ ap (λ (c : Bool). step_at at (cond c (found (token kind.Number) (length (front is_ascii_digit xs))) (fault why.BigNumber 0))) (sym same)

-- ---- escaped names: xs is what stands behind the backslash at a place

pub back_at : (text : List ℕ) (at stop : ℕ) → stop ≡ at + length (front is_ascii_graphic (drop at text)) → back is_ascii_graphic (drop at text) ≡ drop stop text
back_at text at stop e = sym (drop_front is_ascii_graphic (drop at text)) ∙ (drop-drop (length (front is_ascii_graphic (drop at text))) at text ∙ ap (λ k. drop k text) (sym e))

escape_with : (xs f r : List ℕ) (at : ℕ) (s : Step) → front is_ascii_graphic xs ≡ f → back is_ascii_graphic xs ≡ r → s ≡ step_at at (escaped f r) → s ≡ step_at at (scan_escape xs)
unfolding scan_escape
escape_with xs f r at s e h g = rw e (rw h g)

nil_of : (l : List ℕ) → length l ≡ 0 → l ≡ []
nil_of [] e = refl
nil_of (x ∷ l) e = absurd (omega arith)

pub escape_empty : (text : List ℕ) (at stop : ℕ) → stop ≡ at + 1 + length (front is_ascii_graphic (drop (at + 1) text)) → stop ≡ at + 1 → Fault why.EmptyEscape at ≡ step_at at (scan_escape (drop (at + 1) text))
escape_empty text at stop e z =
    escape_with (drop (at + 1) text) [] (back is_ascii_graphic (drop (at + 1) text)) at (Fault why.EmptyEscape at) (nil_of _ (omega arith)) refl (same_place why.EmptyEscape at)

whole : (f : List ℕ) (at stop : ℕ) → stop ≡ at + 1 + length f → stop ≡ at + suc (length f)
whole f at stop e = omega arith

escaped_end : (f : List ℕ) (at stop : ℕ) → stop ≡ at + 1 + length f → (stop ≡ at + 1 → ⊥) → Take kind.Escaped stop ≡ step_at at (escaped f [])
escaped_end [] at stop e n = absurd (n (let h : stop ≡ at + 1 + 0 = e in omega arith))
escaped_end (x ∷ f) at stop e n = ap (Take kind.Escaped) (whole (x ∷ f) at stop e)

escaped_blank : (f r : List ℕ) (b at stop : ℕ) → stop ≡ at + 1 + length f → (stop ≡ at + 1 → ⊥) → is_blank b ≡ true → Take kind.Escaped stop ≡ step_at at (escaped f (b ∷ r))
escaped_blank [] r b at stop e n k = absurd (n (let h : stop ≡ at + 1 + 0 = e in omega arith))
escaped_blank (x ∷ f) r b at stop e n k = ap (Take kind.Escaped) (whole (x ∷ f) at stop e) ∙ ap (λ (c : Bool). step_at at (cond c (found (token kind.Escaped) (suc (length (x ∷ f)))) (fault why.BadByte (suc (length (x ∷ f)))))) (sym k)

escaped_other : (f r : List ℕ) (b at stop : ℕ) → stop ≡ at + 1 + length f → (stop ≡ at + 1 → ⊥) → is_blank b ≡ false → Fault why.BadByte stop ≡ step_at at (escaped f (b ∷ r))
escaped_other [] r b at stop e n k = absurd (n (let h : stop ≡ at + 1 + 0 = e in omega arith))
escaped_other (x ∷ f) r b at stop e n k = ap (Fault why.BadByte) (whole (x ∷ f) at stop e) ∙ ap (λ (c : Bool). step_at at (cond c (found (token kind.Escaped) (suc (length (x ∷ f)))) (fault why.BadByte (suc (length (x ∷ f)))))) (sym k)

pub escape_end : (text : List ℕ) (at stop : ℕ) → stop ≡ at + 1 + length (front is_ascii_graphic (drop (at + 1) text)) → (stop ≡ at + 1 → ⊥) → stop ≡ length text
    → Take kind.Escaped stop ≡ step_at at (scan_escape (drop (at + 1) text))
escape_end text at stop e n z =
    escape_with (drop (at + 1) text) _ [] at (Take kind.Escaped stop) refl (back_at text (at + 1) stop e ∙ drop_out text stop (omega arith)) (escaped_end _ at stop e n)

pub escape_blank : (text : List ℕ) (at stop : ℕ) → stop ≡ at + 1 + length (front is_ascii_graphic (drop (at + 1) text)) → (stop ≡ at + 1 → ⊥) → stop < length text → is_blank (get_or text stop 0) ≡ true
    → Take kind.Escaped stop ≡ step_at at (scan_escape (drop (at + 1) text))
escape_blank text at stop e n lt k =
    escape_with (drop (at + 1) text) _ (get_or text stop 0 ∷ drop (stop + 1) text) at (Take kind.Escaped stop) refl (back_at text (at + 1) stop e ∙ split_at text stop lt) (escaped_blank _ _ _ at stop e n k)

pub escape_other : (text : List ℕ) (at stop : ℕ) → stop ≡ at + 1 + length (front is_ascii_graphic (drop (at + 1) text)) → (stop ≡ at + 1 → ⊥) → stop < length text → is_blank (get_or text stop 0) ≡ false
    → Fault why.BadByte stop ≡ step_at at (scan_escape (drop (at + 1) text))
escape_other text at stop e n lt k =
    escape_with (drop (at + 1) text) _ (get_or text stop 0 ∷ drop (stop + 1) text) at (Fault why.BadByte stop) refl (back_at text (at + 1) stop e ∙ split_at text stop lt) (escaped_other _ _ _ at stop e n k)

-- ---- slashes and parentheses

-- what stands at the second place
pub second : (text : List ℕ) (at b : ℕ) → at + 1 < length text → get_or text (at + 1) 0 ≡ b → drop (at + 1) text ≡ b ∷ drop (at + 2) text
second text at b lt e =
    let two : at + 1 + 1 ≡ at + 2 = omega arith in
    split_at text (at + 1) lt ∙ (ap (λ k. get_or text (at + 1) 0 ∷ drop k text) two ∙ ap (λ (k : ℕ). k ∷ drop (at + 2) text) e)

not_is : (a b : ℕ) → (a ≡ b → ⊥) → (a == b) ≡ false
not_is a b n = elim (eqb_tells a b) [ inl t ↦ absurd (n t.1) | inr t ↦ t.0 ]

pub slash_end : (text : List ℕ) (at : ℕ) → at + 1 ≡ length text → Fault why.BadByte at ≡ step_at at (scan_slash (drop (at + 1) text))
unfolding scan_slash
slash_end text at e = same_place why.BadByte at ∙ ap (λ (l : List ℕ). step_at at (scan_slash l)) (sym (drop_out text (at + 1) (omega arith)))

slash_slash : (xs : List ℕ) (at stop : ℕ) → stop ≡ at + 2 + length (front is_in_line xs) → Skip stop ≡ step_at at (scan_slash (47 ∷ xs))
unfolding scan_slash
slash_slash xs at stop e = ap Skip (let h : stop ≡ at + suc (suc (length (front is_in_line xs))) = omega arith in h)

pub slash_line : (text : List ℕ) (at stop : ℕ) → at < length text → (at + 1 ≡ length text → ⊥) → get_or text (at + 1) 0 ≡ 47 → stop ≡ at + 2 + length (front is_in_line (drop (at + 2) text))
    → Skip stop ≡ step_at at (scan_slash (drop (at + 1) text))
slash_line text at stop lt n b e = slash_slash (drop (at + 2) text) at stop e ∙ ap (λ (l : List ℕ). step_at at (scan_slash l)) (sym (second text at 47 (omega arith) b))

slash_byte : (c : ℕ) (xs : List ℕ) (at : ℕ) → (c == 47) ≡ false → (c == 42) ≡ false → Fault why.BadByte at ≡ step_at at (scan_slash (c ∷ xs))
unfolding scan_slash
slash_byte c xs at n m = rw n (rw m (same_place why.BadByte at))

pub slash_other : (text : List ℕ) (at : ℕ) → at < length text → (at + 1 ≡ length text → ⊥) → (get_or text (at + 1) 0 ≡ 47 → ⊥) → (get_or text (at + 1) 0 ≡ 42 → ⊥)
    → Fault why.BadByte at ≡ step_at at (scan_slash (drop (at + 1) text))
slash_other text at lt n a b =
    slash_byte (get_or text (at + 1) 0) (drop (at + 2) text) at (not_is _ 47 a) (not_is _ 42 b) ∙ ap (λ (l : List ℕ). step_at at (scan_slash l)) (sym (second text at _ (omega arith) refl))

shift_some : (r : Option ℕ) (at n : ℕ) → Some n ≡ option_map (λ k. at + 2 + k) r → (m : ℕ) × (r ≡ Some m) × (n ≡ at + suc (suc m))
shift_some None at n e = absurd cc
shift_some (Some m) at n e = (m, refl, (let h : n ≡ at + 2 + m = cc in omega arith))

shift_none : (r : Option ℕ) (at : ℕ) → None ≡ option_map (λ (k : ℕ). at + 2 + k) r → r ≡ None
shift_none None at e = refl
shift_none (Some m) at e = absurd cc

block_of : (xs : List ℕ) (at : ℕ) → step_at at (closed block_comment why.UnendedComment (close 42 47 unquoted Outside xs)) ≡ step_at at (scan_slash (42 ∷ xs))
unfolding scan_slash
block_of xs at = refl

pub slash_block : (text : List ℕ) (at stop : ℕ) → at < length text → (at + 1 ≡ length text → ⊥) → get_or text (at + 1) 0 ≡ 42
    → Some stop ≡ option_map (λ n. at + 2 + n) (close 42 47 unquoted Outside (drop (at + 2) text)) → Skip stop ≡ step_at at (scan_slash (drop (at + 1) text))
slash_block text at stop lt n b e =
    let s = shift_some (close 42 47 unquoted Outside (drop (at + 2) text)) at stop e in
    ap Skip s.2 ∙ (ap (λ (r : Option ℕ). step_at at (closed block_comment why.UnendedComment r)) (sym s.1) ∙ (block_of (drop (at + 2) text) at ∙ ap (λ (l : List ℕ). step_at at (scan_slash l)) (sym (second text at 42 (omega arith) b))))

pub slash_open : (text : List ℕ) (at : ℕ) → at < length text → (at + 1 ≡ length text → ⊥) → get_or text (at + 1) 0 ≡ 42
    → None ≡ option_map (λ (n : ℕ). at + 2 + n) (close 42 47 unquoted Outside (drop (at + 2) text)) → Fault why.UnendedComment at ≡ step_at at (scan_slash (drop (at + 1) text))
slash_open text at lt n b e =
    let s = shift_none (close 42 47 unquoted Outside (drop (at + 2) text)) at e in
    same_place why.UnendedComment at ∙ (ap (λ (r : Option ℕ). step_at at (closed block_comment why.UnendedComment r)) (sym s) ∙ (block_of (drop (at + 2) text) at ∙ ap (λ (l : List ℕ). step_at at (scan_slash l)) (sym (second text at 42 (omega arith) b))))

attribute_of : (xs : List ℕ) (at : ℕ) → step_at at (closed attribute why.UnendedAttribute (close 42 41 quoted Outside xs)) ≡ step_at at (scan_paren (42 ∷ xs))
unfolding scan_paren
attribute_of xs at = refl

pub paren_some : (text : List ℕ) (at stop : ℕ) → at < length text → (at + 1 ≡ length text → ⊥) → get_or text (at + 1) 0 ≡ 42
    → Some stop ≡ option_map (λ n. at + 2 + n) (close 42 41 quoted Outside (drop (at + 2) text)) → Skip stop ≡ step_at at (scan_paren (drop (at + 1) text))
paren_some text at stop lt n b e =
    let s = shift_some (close 42 41 quoted Outside (drop (at + 2) text)) at stop e in
    ap Skip s.2 ∙ (ap (λ (r : Option ℕ). step_at at (closed attribute why.UnendedAttribute r)) (sym s.1) ∙ (attribute_of (drop (at + 2) text) at ∙ ap (λ (l : List ℕ). step_at at (scan_paren l)) (sym (second text at 42 (omega arith) b))))

pub paren_open : (text : List ℕ) (at : ℕ) → at < length text → (at + 1 ≡ length text → ⊥) → get_or text (at + 1) 0 ≡ 42
    → None ≡ option_map (λ (n : ℕ). at + 2 + n) (close 42 41 quoted Outside (drop (at + 2) text)) → Fault why.UnendedAttribute at ≡ step_at at (scan_paren (drop (at + 1) text))
paren_open text at lt n b e =
    let s = shift_none (close 42 41 quoted Outside (drop (at + 2) text)) at e in
    same_place why.UnendedAttribute at ∙ (ap (λ (r : Option ℕ). step_at at (closed attribute why.UnendedAttribute r)) (sym s) ∙ (attribute_of (drop (at + 2) text) at ∙ ap (λ (l : List ℕ). step_at at (scan_paren l)) (sym (second text at 42 (omega arith) b))))

pub paren_end : (text : List ℕ) (at : ℕ) → at + 1 ≡ length text → Take kind.Mark (at + 1) ≡ step_at at (scan_paren (drop (at + 1) text))
unfolding scan_paren
paren_end text at e = ap (λ (l : List ℕ). step_at at (scan_paren l)) (sym (drop_out text (at + 1) (omega arith)))

paren_byte : (c : ℕ) (xs : List ℕ) (at : ℕ) → (c == 42) ≡ false → Take kind.Mark (at + 1) ≡ step_at at (scan_paren (c ∷ xs))
unfolding scan_paren
paren_byte c xs at n = rw n refl

pub paren_other : (text : List ℕ) (at : ℕ) → at < length text → (at + 1 ≡ length text → ⊥) → (get_or text (at + 1) 0 ≡ 42 → ⊥) → Take kind.Mark (at + 1) ≡ step_at at (scan_paren (drop (at + 1) text))
paren_other text at lt n b = paren_byte (get_or text (at + 1) 0) (drop (at + 2) text) at (not_is _ 42 b) ∙ ap (λ (l : List ℕ). step_at at (scan_paren l)) (sym (second text at _ (omega arith) refl))

-- ---- backticks

pub tick_end : (text : List ℕ) (at : ℕ) → at + 1 ≡ length text → Fault why.BadByte at ≡ step_at at (scan_tick (drop (at + 1) text))
unfolding scan_tick
tick_end text at e = same_place why.BadByte at ∙ ap (λ (l : List ℕ). step_at at (scan_tick l)) (sym (drop_out text (at + 1) (omega arith)))

tick_with : (xs : List ℕ) (s k : Bool) (at : ℕ) → begins is_start xs ≡ s → is_skipped (front is_part xs) ≡ k
    → step_at at (cond s (cond k (found skipped_directive (suc (length (front is_in_line xs)))) (fault why.Directive 0)) (fault why.BadByte 0)) ≡ step_at at (scan_tick xs)
unfolding scan_tick
tick_with xs s k at e h =
    ap (λ (c : Bool). step_at at (cond c (cond k (found skipped_directive (suc (length (front is_in_line xs)))) (fault why.Directive 0)) (fault why.BadByte 0))) (sym e)
    ∙ ap (λ (c : Bool). step_at at (cond (begins is_start xs) (cond c (found skipped_directive (suc (length (front is_in_line xs)))) (fault why.Directive 0)) (fault why.BadByte 0))) (sym h)

pub tick_bad : (text : List ℕ) (at : ℕ) → at < length text → (at + 1 ≡ length text → ⊥) → is_start (get_or text (at + 1) 0) ≡ false → Fault why.BadByte at ≡ step_at at (scan_tick (drop (at + 1) text))
tick_bad text at lt n e = same_place why.BadByte at ∙ tick_with (drop (at + 1) text) false _ at (begins_at is_start text (at + 1) (omega arith) ∙ e) refl

pub tick_line : (text : List ℕ) (at stop last : ℕ) → at < length text → (at + 1 ≡ length text → ⊥) → is_start (get_or text (at + 1) 0) ≡ true
    → stop ≡ at + 1 + length (front is_part (drop (at + 1) text)) → is_skipped (take (stop - (at + 1)) (drop (at + 1) text)) ≡ true → last ≡ at + 1 + length (front is_in_line (drop (at + 1) text))
    → Skip last ≡ step_at at (scan_tick (drop (at + 1) text))
tick_line text at stop last lt n e s k l =
    ap Skip (let h : last ≡ at + suc (length (front is_in_line (drop (at + 1) text))) = omega arith in h)
    ∙ tick_with (drop (at + 1) text) true true at (begins_at is_start text (at + 1) (omega arith) ∙ e) (ap is_skipped (sym (slice_front is_part (drop (at + 1) text) (at + 1) stop s)) ∙ k)

pub tick_other : (text : List ℕ) (at stop : ℕ) → at < length text → (at + 1 ≡ length text → ⊥) → is_start (get_or text (at + 1) 0) ≡ true
    → stop ≡ at + 1 + length (front is_part (drop (at + 1) text)) → is_skipped (take (stop - (at + 1)) (drop (at + 1) text)) ≡ false → Fault why.Directive at ≡ step_at at (scan_tick (drop (at + 1) text))
tick_other text at stop lt n e s k =
    same_place why.Directive at ∙ tick_with (drop (at + 1) text) true false at (begins_at is_start text (at + 1) (omega arith) ∙ e) (ap is_skipped (sym (slice_front is_part (drop (at + 1) text) (at + 1) stop s)) ∙ k)

-- ---- all of them

whole_scan : (text : List ℕ) (at : ℕ) → at < length text → scan_at (get_or text at 0) (drop (at + 1) text) ≡ scan (drop at text)
whole_scan text at lt = ap scan (sym (split_at text at lt))

pub start_step : (text : List ℕ) (at : ℕ) (s : Step) → at < length text → is_start (get_or text at 0) ≡ true → s ≡ step_at at (scan_word (drop at text)) → s ≡ step_at at (scan (drop at text))
start_step text at s lt e h =
    h ∙ ap (step_at at) (ap scan_word (split_at text at lt) ∙ (sym (at_start (get_or text at 0) (drop (at + 1) text) e) ∙ whole_scan text at lt))

pub digit_step : (text : List ℕ) (at : ℕ) (s : Step) → at < length text → is_ascii_digit (get_or text at 0) ≡ true → s ≡ step_at at (scan_number (drop at text)) → s ≡ step_at at (scan (drop at text))
digit_step text at s lt e h =
    h ∙ ap (step_at at) (ap scan_number (split_at text at lt) ∙ (sym (at_digit (get_or text at 0) (drop (at + 1) text) e) ∙ whole_scan text at lt))

pub blank_step : (text : List ℕ) (at : ℕ) → at < length text → is_blank (get_or text at 0) ≡ true → Skip (at + 1) ≡ step_at at (scan (drop at text))
blank_step text at lt e = ap (step_at at) (sym (at_blank (get_or text at 0) (drop (at + 1) text) e) ∙ whole_scan text at lt)

pub byte_step : (text : List ℕ) (at b : ℕ) (s : Step) (f : List ℕ → Found) → at < length text → get_or text at 0 ≡ b → ((bs : List ℕ) → scan_at b bs ≡ f bs)
    → s ≡ step_at at (f (drop (at + 1) text)) → s ≡ step_at at (scan (drop at text))
byte_step text at b s f lt e same h =
    h ∙ ap (step_at at) (sym (same (drop (at + 1) text)) ∙ (ap (λ (c : ℕ). scan_at c (drop (at + 1) text)) (sym e) ∙ whole_scan text at lt))

pub mark_step : (text : List ℕ) (at : ℕ) → at < length text → (get_or text at 0 ≡ 40 → ⊥) → is_mark (get_or text at 0) ≡ true → Take kind.Mark (at + 1) ≡ step_at at (scan (drop at text))
mark_step text at lt n e =
    ap (step_at at) (sym (at_mark (get_or text at 0) (drop (at + 1) text) e (ap (λ (c : Bool). c && begins (λ d. d == 42) (drop (at + 1) text)) (not_is _ 40 n))) ∙ whole_scan text at lt)

pub bad_step : (text : List ℕ) (at : ℕ) → at < length text → is_start (get_or text at 0) ≡ false → is_ascii_digit (get_or text at 0) ≡ false → is_blank (get_or text at 0) ≡ false → is_mark (get_or text at 0) ≡ false
    → (get_or text at 0 ≡ 92 → ⊥) → (get_or text at 0 ≡ 47 → ⊥) → (get_or text at 0 ≡ 96 → ⊥) → Fault why.BadByte at ≡ step_at at (scan (drop at text))
bad_step text at lt s d k m e f g =
    same_place why.BadByte at ∙ ap (step_at at) (sym (plain_bad (get_or text at 0) (drop (at + 1) text) s d k m (not_is _ 92 e) (not_is _ 47 f) (not_is _ 96 g)) ∙ whole_scan text at lt)
