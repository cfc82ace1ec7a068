-- What stands at the front of a text is found there, and what is broken too.
use Rattle.verilog_lex.specs.declared.closing.Quoting.TheVariants.{Outside}
use Rattle.std.proofs.Common.{◌≡◌, ℕ, suc, ◌≤◌, Bool, true, false, cond, List, [], ◌∷◌, ◌++◌, length, Option, None, refl, sym, ap, subst, ◌∙◌, append_assoc, arith, ◌⊎◌, inl, inr, length-append}
use Rattle.std.specs.Prelude.{nat_le}
use Rattle.std.specs.List.{list_all}
use Rattle.std.specs.Char.{is_ascii_digit, is_ascii_graphic}
use Rattle.std.specs.Str.Parse.{digits_value}
use Rattle.std.proofs.lemmas.Bool.Decides.{leb_tells}
use Rattle.verilog_lex.specs.Bytes.{is_blank, is_start, is_part, is_in_line, begins, is_word, is_reserved, is_skipped}
use Rattle.verilog_lex.specs.Scan.{quoted, unquoted, found, fault, front, back, close, closed, word_kind, scan_word, scan_number, escaped, scan_escape, scan_slash, scan_paren, scan_tick, scan}
use Rattle.verilog_lex.specs.Lexemes.{Lexeme, blank, line_comment, block_comment, attribute, skipped_directive, token, IsAnything, HasNoOpenString, IsLexeme, IsBroken}
use Rattle.verilog_lex.specs.declared.token.TokenKind.TheVariants as kind
use Rattle.verilog_lex.specs.declared.token.LexWhy.{LexWhy}
use Rattle.verilog_lex.specs.declared.token.LexWhy.TheVariants as why
use Rattle.verilog_lex.proofs.Tools.{and_left, front_is, back_is, start_is_part, blank_no_graphic, word_all, front_joined, line_not_part, skipped_is}
use Rattle.verilog_lex.proofs.Strings.{none_shuts, comment_said, attribute_said}
use Rattle.verilog_lex.proofs.Close.{closes_none, shut_close, none_close}
use Rattle.verilog_lex.proofs.Dispatch.{at_start, at_digit, at_blank, at_escape, at_slash, at_tick, at_paren, at_mark, at_bad}

word_is : (xs w : List ℕ) (k : Bool) → front is_part xs ≡ w → is_reserved w ≡ k → scan_word xs ≡ found (token (word_kind k)) (length w)
unfolding scan_word
word_is xs w k f r = rw f (rw r refl)

again_word : (w after : List ℕ) (k : Bool) → is_word is_start is_part w ≡ true → is_reserved w ≡ k → begins is_part after ≡ false → scan (w ++ after) ≡ found (token (word_kind k)) (length w)
again_word [] after k all r ends = absurd cc
again_word (b ∷ w) after k all r ends =
    at_start b (w ++ after) (and_left (is_start b) _ all) ∙ word_is ((b ∷ w) ++ after) (b ∷ w) k (front_is is_part (b ∷ w) after (word_all is_start is_part start_is_part (b ∷ w) all) ends) r

number_is : (xs w : List ℕ) → front is_ascii_digit xs ≡ w → digits_value 10 w ≤ 999999999 → scan_number xs ≡ found (token kind.Number) (length w)
unfolding scan_number
number_is xs w f le = rw f (on (nat_le (digits_value 10 w) 999999999) (elim (leb_tells (digits_value 10 w) 999999999) [ inl t ↦ t.0 | inr t ↦ let lt = t.1 in absurd (omega arith) ])) where
  on : (c : Bool) → c ≡ true → cond c (found (token kind.Number) (length w)) (fault why.BigNumber 0) ≡ found (token kind.Number) (length w)
  on c e = rw e refl

big_is : (xs w : List ℕ) → front is_ascii_digit xs ≡ w → 1000000000 ≤ digits_value 10 w → scan_number xs ≡ fault why.BigNumber 0
unfolding scan_number
big_is xs w f le = rw f (on (nat_le (digits_value 10 w) 999999999) (elim (leb_tells (digits_value 10 w) 999999999) [ inl t ↦ let small = t.1 in absurd (omega arith) | inr t ↦ t.0 ])) where
  on : (c : Bool) → c ≡ false → cond c (found (token kind.Number) (length w)) (fault why.BigNumber 0) ≡ fault why.BigNumber 0
  on c e = rw e refl

digits : (b : ℕ) (w after : List ℕ) → is_word is_ascii_digit is_ascii_digit (b ∷ w) ≡ true → begins is_ascii_digit after ≡ false → front is_ascii_digit ((b ∷ w) ++ after) ≡ b ∷ w
digits b w after all ends = front_is is_ascii_digit (b ∷ w) after (word_all is_ascii_digit is_ascii_digit (λ c e. e) (b ∷ w) all) ends

again_number : (w after : List ℕ) → is_word is_ascii_digit is_ascii_digit w ≡ true → digits_value 10 w ≤ 999999999 → begins is_ascii_digit after ≡ false
    → scan (w ++ after) ≡ found (token kind.Number) (length w)
again_number [] after all le ends = absurd cc
again_number (b ∷ w) after all le ends = at_digit b (w ++ after) (and_left (is_ascii_digit b) _ all) ∙ number_is ((b ∷ w) ++ after) (b ∷ w) (digits b w after all ends) le

again_big : (w after : List ℕ) → is_word is_ascii_digit is_ascii_digit w ≡ true → 1000000000 ≤ digits_value 10 w → begins is_ascii_digit after ≡ false
    → scan (w ++ after) ≡ fault why.BigNumber 0
again_big [] after all le ends = absurd cc
again_big (b ∷ w) after all le ends = at_digit b (w ++ after) (and_left (is_ascii_digit b) _ all) ∙ big_is ((b ∷ w) ++ after) (b ∷ w) (digits b w after all ends) le

escape_is : (xs f r : List ℕ) → front is_ascii_graphic xs ≡ f → back is_ascii_graphic xs ≡ r → scan_escape xs ≡ escaped f r
unfolding scan_escape
escape_is xs f r e h = rw e (rw h refl)

blank_stops : (after : List ℕ) → (after ≡ []) ⊎ (begins is_blank after ≡ true) → begins is_ascii_graphic after ≡ false
blank_stops [] e = refl
blank_stops (c ∷ after) (inl e) = absurd cc
blank_stops (c ∷ after) (inr e) = blank_no_graphic c e

graphics : (w : List ℕ) → is_word is_ascii_graphic is_ascii_graphic w ≡ true → list_all is_ascii_graphic w ≡ true
graphics w all = word_all is_ascii_graphic is_ascii_graphic (λ c e. e) w all

escape_front : (w r : List ℕ) → is_word is_ascii_graphic is_ascii_graphic w ≡ true → begins is_ascii_graphic r ≡ false → scan (92 ∷ (w ++ r)) ≡ escaped w r
escape_front w r all ends =
    at_escape (w ++ r) ∙ escape_is (w ++ r) w r (front_is is_ascii_graphic w r (graphics w all) ends) (back_is is_ascii_graphic w r (graphics w all) ends)

escaped_ok : (w after : List ℕ) → is_word is_ascii_graphic is_ascii_graphic w ≡ true → (after ≡ []) ⊎ (begins is_blank after ≡ true) → escaped w after ≡ found (token kind.Escaped) (suc (length w))
escaped_ok [] after all e = absurd cc
escaped_ok (n ∷ w) [] all e = refl
escaped_ok (n ∷ w) (c ∷ after) all (inl e) = absurd cc
escaped_ok (n ∷ w) (c ∷ after) all (inr e) = rw e refl

escaped_bad : (w after : List ℕ) (b : ℕ) → is_word is_ascii_graphic is_ascii_graphic w ≡ true → is_blank b ≡ false → escaped w (b ∷ after) ≡ fault why.BadByte (suc (length w))
escaped_bad [] after b all e = absurd cc
escaped_bad (n ∷ w) after b all e = rw e refl

again_empty : (rest : List ℕ) → begins is_ascii_graphic rest ≡ false → scan (92 ∷ rest) ≡ fault why.EmptyEscape 0
again_empty rest e = at_escape rest ∙ escape_is rest [] rest (front_is is_ascii_graphic [] rest refl e) (back_is is_ascii_graphic [] rest refl e)

slash_line : (xs body : List ℕ) → front is_in_line xs ≡ body → scan_slash (47 ∷ xs) ≡ found line_comment (suc (suc (length body)))
unfolding scan_slash
slash_line xs body e = rw e refl

slash_block : (xs : List ℕ) (r : Option ℕ) → close 42 47 unquoted Outside xs ≡ r → scan_slash (42 ∷ xs) ≡ closed block_comment why.UnendedComment r
unfolding scan_slash
slash_block xs r e = ap (closed block_comment why.UnendedComment) e

paren_attribute : (xs : List ℕ) (r : Option ℕ) → close 42 41 quoted Outside xs ≡ r → scan_paren (42 ∷ xs) ≡ closed attribute why.UnendedAttribute r
unfolding scan_paren
paren_attribute xs r e = ap (closed attribute why.UnendedAttribute) e

line_is : (body after : List ℕ) → list_all is_in_line body ≡ true → begins is_in_line after ≡ false → scan (47 ∷ 47 ∷ (body ++ after)) ≡ found line_comment (suc (suc (length body)))
line_is body after all ends = at_slash (47 ∷ (body ++ after)) ∙ slash_line (body ++ after) body (front_is is_in_line body after all ends)

block_is : (xs : List ℕ) (r : Option ℕ) → close 42 47 unquoted Outside xs ≡ r → scan (47 ∷ 42 ∷ xs) ≡ closed block_comment why.UnendedComment r
block_is xs r e = at_slash (42 ∷ xs) ∙ slash_block xs r e

attribute_is : (xs : List ℕ) (r : Option ℕ) → close 42 41 quoted Outside xs ≡ r → scan (40 ∷ 42 ∷ xs) ≡ closed attribute why.UnendedAttribute r
attribute_is xs r e = at_paren (42 ∷ xs) ∙ paren_attribute xs r e

tick_skipped : (xs w body : List ℕ) → begins is_start xs ≡ true → front is_part xs ≡ w → is_skipped w ≡ true → front is_in_line xs ≡ body → scan_tick xs ≡ found skipped_directive (suc (length body))
unfolding scan_tick
tick_skipped xs w body s f k b = rw s (rw f (rw k (rw b refl)))

tick_other : (xs w : List ℕ) → begins is_start xs ≡ true → front is_part xs ≡ w → is_skipped w ≡ false → scan_tick xs ≡ fault why.Directive 0
unfolding scan_tick
tick_other xs w s f k = rw s (rw f (rw k refl))

again_skipped : (name body after : List ℕ) → is_skipped name ≡ true → list_all is_in_line body ≡ true → begins is_in_line after ≡ false → begins is_part body ≡ false
    → scan (96 ∷ (name ++ (body ++ after))) ≡ found skipped_directive (suc (length (name ++ body)))
again_skipped name body after k all ends stops =
    let n = skipped_is name k in
    let xs : List ℕ = name ++ (body ++ after) in
    let in_line : front is_in_line (name ++ (body ++ after)) ≡ name ++ body = front_joined is_in_line name (body ++ after) n.in_line ∙ ap (λ (l : List ℕ). name ++ l) (front_is is_in_line body after all ends) in
    at_tick (name ++ (body ++ after))
    ∙ tick_skipped (name ++ (body ++ after)) name (name ++ body) (n.starts (body ++ after)) (front_is is_part name (body ++ after) n.all (line_not_part body after stops ends)) k in_line

start_front : (w r : List ℕ) → is_word is_start is_part w ≡ true → begins is_start (w ++ r) ≡ true
start_front [] r e = absurd cc
start_front (b ∷ w) r e = and_left (is_start b) _ e

again_other : (w after : List ℕ) → is_word is_start is_part w ≡ true → begins is_part after ≡ false → is_skipped w ≡ false → scan (96 ∷ (w ++ after)) ≡ fault why.Directive 0
again_other w after all ends k =
    at_tick (w ++ after) ∙ tick_other (w ++ after) w (start_front w after all) (front_is is_part w after (word_all is_start is_part start_is_part w all) ends) k

enclosed_len : (body : List ℕ) (x y o p : ℕ) → suc (suc (suc (suc (length body)))) ≡ length (o ∷ p ∷ (body ++ x ∷ y ∷ []))
enclosed_len body x y o p = omega (arith, length-append body (x ∷ y ∷ []))

-- ---- the law: a lexeme that stands at the front is the one that is found

pub again : (l : Lexeme) (bytes after : List ℕ) → IsLexeme l bytes after → scan (bytes ++ after) ≡ found l (length bytes)
again blank bytes after (b, p, e) = subst (λ (w : List ℕ). scan (w ++ after) ≡ found blank (length w)) (sym p) (at_blank b after e)
again line_comment bytes after s = subst (λ (w : List ℕ). scan (w ++ after) ≡ found line_comment (length w)) (sym s.parts) (line_is s.body after s.in_line s.ends)
again block_comment bytes after s = subst (λ (w : List ℕ). scan (w ++ after) ≡ found block_comment (length w)) (sym s.parts)
    (block_is ((s.body ++ 42 ∷ 47 ∷ []) ++ after) _ (shut_close 42 47 unquoted Outside s.body after (comment_said.by_place s.body s.room) (closes_none 42 47 unquoted Outside (s.body ++ 42 ∷ []) (none_shuts 42 47 IsAnything unquoted (s.body ++ 42 ∷ []) comment_said s.first))) ∙ ap (found block_comment) (enclosed_len s.body 42 47 47 42))
again attribute bytes after s = subst (λ (w : List ℕ). scan (w ++ after) ≡ found attribute (length w)) (sym s.parts)
    (attribute_is ((s.body ++ 42 ∷ 41 ∷ []) ++ after) _ (shut_close 42 41 quoted Outside s.body after (attribute_said.by_place s.body s.room) (closes_none 42 41 quoted Outside (s.body ++ 42 ∷ []) (none_shuts 42 41 HasNoOpenString quoted (s.body ++ 42 ∷ []) attribute_said s.first))) ∙ ap (found attribute) (enclosed_len s.body 42 41 40 42))
again skipped_directive bytes after s = subst (λ (w : List ℕ). scan (w ++ after) ≡ found skipped_directive (length w)) (sym s.line.parts)
    (ap (λ (l : List ℕ). scan (96 ∷ l)) (append_assoc s.name s.line.body after) ∙ again_skipped s.name s.line.body after s.known s.line.in_line s.line.ends s.ends)
again (token kind.Name) bytes after (all, r, ends) = again_word bytes after false all r ends
again (token kind.Reserved) bytes after (all, r, ends) = again_word bytes after true all r ends
again (token kind.Escaped) bytes after (name, p, all, ends) = subst (λ (w : List ℕ). scan (w ++ after) ≡ found (token kind.Escaped) (length w)) (sym p)
    (escape_front name after all (blank_stops after ends) ∙ escaped_ok name after all ends)
again (token kind.Number) bytes after (all, le, ends) = again_number bytes after all le ends
again (token kind.Mark) bytes after (b, p, m, ends) = subst (λ (w : List ℕ). scan (w ++ after) ≡ found (token kind.Mark) (length w)) (sym p) (at_mark b after m ends)

-- ---- and a broken one is the fault that is found

pub again_broken : (w : LexWhy) (text : List ℕ) (place : ℕ) → IsBroken w text place → scan text ≡ fault w place
again_broken why.BadByte text place (inl s) = subst (λ (t : List ℕ). scan t ≡ fault why.BadByte place) (sym s.parts)
    (escape_front s.name (s.bad ∷ s.rest) s.graphic s.not_graphic ∙ (escaped_bad s.name s.rest s.bad s.graphic s.not_blank ∙ ap (fault why.BadByte) (sym s.place_is)))
again_broken why.BadByte text place (inr (z, b, rest, p, e)) = subst (λ (t : List ℕ). scan t ≡ fault why.BadByte place) (sym p) (at_bad b rest e ∙ ap (fault why.BadByte) (sym z))
again_broken why.UnendedComment text place (z, s) = subst (λ (t : List ℕ). scan t ≡ fault why.UnendedComment place) (sym s.parts)
    (block_is s.body None (none_close 42 47 unquoted Outside s.body (closes_none 42 47 unquoted Outside s.body (none_shuts 42 47 IsAnything unquoted s.body comment_said s.none))) ∙ ap (fault why.UnendedComment) (sym z))
again_broken why.UnendedAttribute text place (z, s) = subst (λ (t : List ℕ). scan t ≡ fault why.UnendedAttribute place) (sym s.parts)
    (attribute_is s.body None (none_close 42 41 quoted Outside s.body (closes_none 42 41 quoted Outside s.body (none_shuts 42 41 HasNoOpenString quoted s.body attribute_said s.none))) ∙ ap (fault why.UnendedAttribute) (sym z))
again_broken why.EmptyEscape text place (z, rest, p, e) = subst (λ (t : List ℕ). scan t ≡ fault why.EmptyEscape place) (sym p) (again_empty rest e ∙ ap (fault why.EmptyEscape) (sym z))
again_broken why.Directive text place (z, w, k, s) = subst (λ (t : List ℕ). scan t ≡ fault why.Directive place) (sym s.parts)
    (again_other w s.after s.all s.ends k ∙ ap (fault why.Directive) (sym z))
again_broken why.BigNumber text place (z, w, k, s) = subst (λ (t : List ℕ). scan t ≡ fault why.BigNumber place) (sym s.parts)
    (again_big w s.after s.all k s.ends ∙ ap (fault why.BigNumber) (sym z))
again_broken why.Memory text place b = absurd b
