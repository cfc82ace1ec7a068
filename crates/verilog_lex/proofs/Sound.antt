-- What the scan finds stands there.
use Rattle.verilog_lex.specs.declared.closing.Quoting.{Quoting}
use Rattle.verilog_lex.specs.declared.closing.Quoting.TheVariants.{Outside}
use Rattle.std.proofs.Common.{◌≡◌, ℕ, suc, Bool, true, false, cond, List, [], ◌∷◌, ◌++◌, length, Option, Some, None, refl, sym, ap, subst, ◌∙◌, arith, inl, inr, length-append, ◌==◌}
use Rattle.std.specs.Prelude.{◌&&◌, ◌||◌, nat_le}
use Rattle.std.specs.List.{list_all}
use Rattle.std.specs.Char.{is_ascii_digit, is_ascii_graphic}
use Rattle.std.specs.Str.Parse.{digits_value}
use Rattle.std.proofs.lemmas.Bool.{eqb-true}
use Rattle.std.proofs.lemmas.Bool.Decides.{leb_tells}
use Rattle.verilog_lex.specs.Bytes.{is_blank, is_start, is_part, is_mark, is_in_line, begins, is_word, is_reserved, is_skipped}
use Rattle.verilog_lex.specs.Scan.{quoted, unquoted, Found, nothing, found, fault, front, back, close, closed, word_kind, scan_word, scan_number, escaped, scan_escape, scan_slash, scan_paren, scan_tick, scan_at, scan}
use Rattle.verilog_lex.specs.Lexemes.{Lexeme, line_comment, block_comment, attribute, skipped_directive, token, IsAnything, HasNoOpenString, IsEnclosed, IsLexeme, can_begin, IsBroken}
use Rattle.verilog_lex.specs.declared.token.TokenKind.TheVariants as kind
use Rattle.verilog_lex.specs.declared.token.LexWhy.TheVariants as why
use Rattle.verilog_lex.proofs.Tools.{bool_cases, front_passes, back_stops, front_back, start_is_part, front_word, front_joined, front_begins, skipped_is}
use Rattle.verilog_lex.proofs.Strings.{IsSaid, none_stands, comment_said, attribute_said}
use Rattle.verilog_lex.proofs.Close.{none_closes, Shut, close_some, close_none}

-- a lexeme of n bytes stands at the front
pub record Front (l : Lexeme) (n : ℕ) (xs : List ℕ) : Type 0 where
  pub bytes : List ℕ
  pub after : List ℕ
  pub parts : xs ≡ bytes ++ after
  pub len : length bytes ≡ n
  pub stands : IsLexeme l bytes after

abbrev pub IsRight : List ℕ → Found → Type 0
IsRight xs nothing = xs ≡ []
IsRight xs (found l n) = Front l n xs
IsRight xs (fault w k) = IsBroken w xs k

right_word : (xs : List ℕ) → is_word is_start is_part (front is_part xs) ≡ true → IsRight xs (scan_word xs)
unfolding scan_word
right_word xs all = at (is_reserved (front is_part xs)) refl where
  at : (k : Bool) → is_reserved (front is_part xs) ≡ k → IsRight xs (found (token (word_kind k)) (length (front is_part xs)))
  at true r = record { bytes = front is_part xs; after = back is_part xs; parts = front_back is_part xs; len = refl; stands = (all, r, back_stops is_part xs) }
  at false r = record { bytes = front is_part xs; after = back is_part xs; parts = front_back is_part xs; len = refl; stands = (all, r, back_stops is_part xs) }

right_number : (xs : List ℕ) → is_word is_ascii_digit is_ascii_digit (front is_ascii_digit xs) ≡ true → IsRight xs (scan_number xs)
unfolding scan_number
right_number xs all = elim (leb_tells (digits_value 10 (front is_ascii_digit xs)) 999999999) [
  | inl t ↦ at true t.0 (record { bytes = front is_ascii_digit xs; after = back is_ascii_digit xs; parts = front_back is_ascii_digit xs; len = refl; stands = (all, t.1, back_stops is_ascii_digit xs) })
  | inr t ↦ let big = t.1 in at false t.0 (refl, front is_ascii_digit xs, omega arith, record { after = back is_ascii_digit xs; parts = front_back is_ascii_digit xs; all = all; ends = back_stops is_ascii_digit xs })
] where
  at : (k : Bool) → nat_le (digits_value 10 (front is_ascii_digit xs)) 999999999 ≡ k
      → IsRight xs (cond k (found (token kind.Number) (length (front is_ascii_digit xs))) (fault why.BigNumber 0))
      → IsRight xs (cond (nat_le (digits_value 10 (front is_ascii_digit xs)) 999999999) (found (token kind.Number) (length (front is_ascii_digit xs))) (fault why.BigNumber 0))
  at k e r = subst (λ (c : Bool). IsRight xs (cond c (found (token kind.Number) (length (front is_ascii_digit xs))) (fault why.BigNumber 0))) (sym e) r

right_escaped : (xs f r : List ℕ) → xs ≡ f ++ r → list_all is_ascii_graphic f ≡ true → begins is_ascii_graphic r ≡ false → IsRight (92 ∷ xs) (escaped f r)
right_escaped xs [] r p all ends = (refl, xs, refl, subst (λ (l : List ℕ). begins is_ascii_graphic l ≡ false) (sym p) ends)
right_escaped xs (n ∷ ns) [] p all ends = record { bytes = 92 ∷ n ∷ ns; after = []; parts = ap (λ (l : List ℕ). 92 ∷ l) p; len = refl; stands = (n ∷ ns, refl, all, inl refl) }
right_escaped xs (n ∷ ns) (b ∷ bs) p all ends = elim (bool_cases (is_blank b)) [
  | inl e ↦ at true e (record { bytes = 92 ∷ n ∷ ns; after = b ∷ bs; parts = ap (λ (l : List ℕ). 92 ∷ l) p; len = refl; stands = (n ∷ ns, refl, all, inr e) })
  | inr e ↦ at false e (inl (record { name = n ∷ ns; rest = bs; bad = b; parts = ap (λ (l : List ℕ). 92 ∷ l) p; graphic = all; not_graphic = ends; not_blank = e; place_is = refl }))
] where
  at : (k : Bool) → is_blank b ≡ k → IsRight (92 ∷ xs) (cond k (found (token kind.Escaped) (suc (length (n ∷ ns)))) (fault why.BadByte (suc (length (n ∷ ns)))))
      → IsRight (92 ∷ xs) (escaped (n ∷ ns) (b ∷ bs))
  at k e r = subst (λ (c : Bool). IsRight (92 ∷ xs) (cond c (found (token kind.Escaped) (suc (length (n ∷ ns)))) (fault why.BadByte (suc (length (n ∷ ns)))))) (sym e) r

right_escape : (xs : List ℕ) → IsRight (92 ∷ xs) (scan_escape xs)
unfolding scan_escape
right_escape xs = right_escaped xs (front is_ascii_graphic xs) (back is_ascii_graphic xs) (front_back is_ascii_graphic xs) (front_passes is_ascii_graphic xs) (back_stops is_ascii_graphic xs)

bad_front : (b : ℕ) (rest : List ℕ) → can_begin b rest ≡ false → IsRight (b ∷ rest) (fault why.BadByte 0)
bad_front b rest e = inr (refl, b, rest, refl, e)

-- an opening and a body up to the closing
enclosed : (o p x y : ℕ) (Room : List ℕ → Type 0) (next : Quoting → ℕ → Quoting) (xs : List ℕ) (n : ℕ) → IsSaid Room next → Shut x y next Outside xs n
    → (bytes after : List ℕ) × (o ∷ p ∷ xs ≡ bytes ++ after) × (length bytes ≡ suc (suc n)) × IsEnclosed o p x y Room bytes
enclosed o p x y Room next xs n said s = (
  o ∷ p ∷ (s.body ++ x ∷ y ∷ []),
  s.after,
  ap (λ (l : List ℕ). o ∷ p ∷ l) s.parts,
  (let len = s.len in omega (arith, length-append s.body (x ∷ y ∷ []))),
  record { body = s.body; parts = refl; room = said.by_parts s.body s.shut; first = none_stands x y Room next (s.body ++ x ∷ []) said (none_closes x y next Outside (s.body ++ x ∷ []) s.first) },
)

right_block : (xs : List ℕ) (r : Option ℕ) → close 42 47 unquoted Outside xs ≡ r → IsRight (47 ∷ 42 ∷ xs) (closed block_comment why.UnendedComment r)
right_block xs None e = (refl, record { body = xs; parts = refl; none = none_stands 42 47 IsAnything unquoted xs comment_said (none_closes 42 47 unquoted Outside xs (close_none 42 47 unquoted Outside xs e)) })
right_block xs (Some n) e =
    let s = enclosed 47 42 42 47 IsAnything unquoted xs n comment_said (close_some 42 47 unquoted Outside xs n e) in
    record { bytes = s.0; after = s.1; parts = s.2; len = s.3; stands = s.4 }

right_attribute : (xs : List ℕ) (r : Option ℕ) → close 42 41 quoted Outside xs ≡ r → IsRight (40 ∷ 42 ∷ xs) (closed attribute why.UnendedAttribute r)
right_attribute xs None e = (refl, record { body = xs; parts = refl; none = none_stands 42 41 HasNoOpenString quoted xs attribute_said (none_closes 42 41 quoted Outside xs (close_none 42 41 quoted Outside xs e)) })
right_attribute xs (Some n) e =
    let s = enclosed 40 42 42 41 HasNoOpenString quoted xs n attribute_said (close_some 42 41 quoted Outside xs n e) in
    record { bytes = s.0; after = s.1; parts = s.2; len = s.3; stands = s.4 }

right_line : (xs : List ℕ) → IsRight (47 ∷ 47 ∷ xs) (found line_comment (suc (suc (length (front is_in_line xs)))))
right_line xs = record {
  bytes = 47 ∷ 47 ∷ front is_in_line xs;
  after = back is_in_line xs;
  parts = ap (λ (l : List ℕ). 47 ∷ 47 ∷ l) (front_back is_in_line xs);
  len = refl;
  stands = record { body = front is_in_line xs; parts = refl; in_line = front_passes is_in_line xs; ends = back_stops is_in_line xs };
}

-- a choice on a test, from each side of it
chosen : (xs : List ℕ) (c : Bool) (f g : Found) → (c ≡ true → IsRight xs f) → (c ≡ false → IsRight xs g) → IsRight xs (cond c f g)
chosen xs true f g p q = p refl
chosen xs false f g p q = q refl

right_slash : (xs : List ℕ) → IsRight (47 ∷ xs) (scan_slash xs)
unfolding scan_slash
right_slash [] = bad_front 47 [] refl
right_slash (c ∷ cs) = chosen (47 ∷ c ∷ cs) (c == 47) _ _
    (λ e. subst (λ (d : ℕ). IsRight (47 ∷ d ∷ cs) (found line_comment (suc (suc (length (front is_in_line cs)))))) (sym (eqb-true c 47 e)) (right_line cs))
    (λ e. chosen (47 ∷ c ∷ cs) (c == 42) _ _
    (λ h. subst (λ (d : ℕ). IsRight (47 ∷ d ∷ cs) (closed block_comment why.UnendedComment (close 42 47 unquoted Outside cs))) (sym (eqb-true c 42 h)) (right_block cs _ refl))
    (λ h. bad_front 47 (c ∷ cs) (rw e (rw h refl))))

right_paren : (xs : List ℕ) → IsRight (40 ∷ xs) (scan_paren xs)
unfolding scan_paren
right_paren [] = record { bytes = 40 ∷ []; after = []; parts = refl; len = refl; stands = (40, refl, refl, refl) }
right_paren (c ∷ cs) = chosen (40 ∷ c ∷ cs) (c == 42) _ _
    (λ h. subst (λ (d : ℕ). IsRight (40 ∷ d ∷ cs) (closed attribute why.UnendedAttribute (close 42 41 quoted Outside cs))) (sym (eqb-true c 42 h)) (right_attribute cs _ refl))
    (λ h. record { bytes = 40 ∷ []; after = c ∷ cs; parts = refl; len = refl; stands = (40, refl, refl, h) })

right_skipped : (xs : List ℕ) → is_skipped (front is_part xs) ≡ true → IsRight (96 ∷ xs) (found skipped_directive (suc (length (front is_in_line xs))))
right_skipped xs k =
    let name : List ℕ = front is_part xs in
    let n = skipped_is (front is_part xs) k in
    let split : front is_in_line xs ≡ front is_part xs ++ front is_in_line (back is_part xs) =
    ap (front is_in_line) (front_back is_part xs) ∙ front_joined is_in_line (front is_part xs) (back is_part xs) n.in_line in
    record {
      bytes = 96 ∷ front is_in_line xs;
      after = back is_in_line xs;
      parts = ap (λ (l : List ℕ). 96 ∷ l) (front_back is_in_line xs);
      len = refl;
      stands = record {
        name = front is_part xs;
        known = k;
        line = record { body = front is_in_line (back is_part xs); parts = ap (λ (l : List ℕ). 96 ∷ l) split; in_line = front_passes is_in_line (back is_part xs); ends = back_stops is_in_line xs };
        ends = front_begins is_part is_in_line (back is_part xs) (back_stops is_part xs);
      };
    }

right_tick : (xs : List ℕ) → IsRight (96 ∷ xs) (scan_tick xs)
unfolding scan_tick
right_tick xs = chosen (96 ∷ xs) (begins is_start xs) _ _
    (λ e. chosen (96 ∷ xs) (is_skipped (front is_part xs)) _ _ (right_skipped xs)
    (λ k. (refl, front is_part xs, k, record { after = back is_part xs; parts = ap (λ (l : List ℕ). 96 ∷ l) (front_back is_part xs); all = front_word is_start is_part start_is_part xs e; ends = back_stops is_part xs })))
    (λ e. bad_front 96 xs e)

right_mark : (b : ℕ) (bs : List ℕ) → (b == 40) ≡ false → is_mark b ≡ true → IsRight (b ∷ bs) (found (token kind.Mark) 1)
right_mark b bs p m = record { bytes = b ∷ []; after = bs; parts = refl; len = refl; stands = (b, refl, m, rw p refl) }

right_at : (b : ℕ) (bs : List ℕ) → IsRight (b ∷ bs) (scan_at b bs)
unfolding scan_at
right_at b bs =
    chosen (b ∷ bs) (is_start b) _ _ (λ s. right_word (b ∷ bs) (front_word is_start is_part start_is_part (b ∷ bs) s))
    (λ s. chosen (b ∷ bs) (is_ascii_digit b) _ _ (λ d. right_number (b ∷ bs) (front_word is_ascii_digit is_ascii_digit (λ c e. e) (b ∷ bs) d))
    (λ d. chosen (b ∷ bs) (is_blank b) _ _ (λ k. record { bytes = b ∷ []; after = bs; parts = refl; len = refl; stands = (b, refl, k) })
    (λ k. chosen (b ∷ bs) (b == 92) _ _ (λ e. subst (λ (c : ℕ). IsRight (c ∷ bs) (scan_escape bs)) (sym (eqb-true b 92 e)) (right_escape bs))
    (λ n. chosen (b ∷ bs) (b == 47) _ _ (λ e. subst (λ (c : ℕ). IsRight (c ∷ bs) (scan_slash bs)) (sym (eqb-true b 47 e)) (right_slash bs))
    (λ f. chosen (b ∷ bs) (b == 96) _ _ (λ e. subst (λ (c : ℕ). IsRight (c ∷ bs) (scan_tick bs)) (sym (eqb-true b 96 e)) (right_tick bs))
    (λ g. chosen (b ∷ bs) (b == 40) _ _ (λ e. subst (λ (c : ℕ). IsRight (c ∷ bs) (scan_paren bs)) (sym (eqb-true b 40 e)) (right_paren bs))
    (λ p. chosen (b ∷ bs) (is_mark b) _ _ (right_mark b bs p)
    (λ m. bad_front b bs (none (is_start b) (is_ascii_digit b) (is_blank b) (is_mark b) (b == 92) (b == 47) (b == 96) _ _ s d k m n f g))))))))) where
      none : (s d k m n f g q r : Bool) → s ≡ false → d ≡ false → k ≡ false → m ≡ false → n ≡ false → f ≡ false → g ≡ false → (s || d || k || m || n || (f && q) || (g && r)) ≡ false
      none s d k m n f g q r hs hd hk hm hn hf hg = rw hs (rw hd (rw hk (rw hm (rw hn (rw hf (rw hg refl))))))

-- ---- the law: what is found at the front of a text stands there

pub right : (xs : List ℕ) → IsRight xs (scan xs)
right [] = refl
right (b ∷ bs) = right_at b bs

pub right_is : (xs : List ℕ) (f : Found) → scan xs ≡ f → IsRight xs f
right_is xs f e = subst (λ (g : Found). IsRight xs g) e (right xs)
