-- Which scan a first byte calls.
use Rattle.std.proofs.Common.{◌≡◌, ℕ, Bool, true, false, cond, List, [], ◌∷◌, refl, sym, subst, ◌∙◌, inl, inr, ◌==◌}
use Rattle.std.specs.Prelude.{◌&&◌, ◌||◌}
use Rattle.std.specs.Char.{is_ascii_digit}
use Rattle.std.proofs.lemmas.Bool.{eqb-true}
use Rattle.verilog_lex.specs.Bytes.{is_blank, is_start, is_mark, begins}
use Rattle.verilog_lex.specs.Scan.{found, fault, scan_word, scan_number, scan_escape, scan_slash, scan_paren, scan_tick, scan_at}
use Rattle.verilog_lex.specs.Lexemes.{blank, token, can_begin}
use Rattle.verilog_lex.specs.declared.token.TokenKind.TheVariants as kind
use Rattle.verilog_lex.specs.declared.token.LexWhy.TheVariants as why
use Rattle.verilog_lex.proofs.Tools.{bool_cases, or_left, or_right, or_cases, digit_no_start, blank_cases}

pub at_start : (b : ℕ) (bs : List ℕ) → is_start b ≡ true → scan_at b bs ≡ scan_word (b ∷ bs)
unfolding scan_at
at_start b bs e = rw e refl

pub at_digit : (b : ℕ) (bs : List ℕ) → is_ascii_digit b ≡ true → scan_at b bs ≡ scan_number (b ∷ bs)
unfolding scan_at
at_digit b bs e = rw (digit_no_start b e) (rw e refl)

pub at_blank : (b : ℕ) (bs : List ℕ) → is_blank b ≡ true → scan_at b bs ≡ found blank 1
unfolding scan_at
at_blank b bs e = blank_cases (λ c. scan_at c bs ≡ found blank 1) refl refl refl refl refl b e

pub at_escape : (bs : List ℕ) → scan_at 92 bs ≡ scan_escape bs
unfolding scan_at
at_escape bs = refl

pub at_slash : (bs : List ℕ) → scan_at 47 bs ≡ scan_slash bs
unfolding scan_at
at_slash bs = refl

pub at_tick : (bs : List ℕ) → scan_at 96 bs ≡ scan_tick bs
unfolding scan_at
at_tick bs = refl

pub at_paren : (bs : List ℕ) → scan_at 40 bs ≡ scan_paren bs
unfolding scan_at
at_paren bs = refl

pub mark_cases : (P : ℕ → Type 0) → P 40 → P 41 → P 91 → P 93 → P 123 → P 125 → P 44 → P 59 → P 58 → P 46 → P 61 → (b : ℕ) → is_mark b ≡ true → P b
mark_cases P q40 q41 q91 q93 q123 q125 q44 q59 q58 q46 q61 b e = one 61 q61 _ e (λ e. one 46 q46 _ e (λ e. one 58 q58 _ e (λ e. one 59 q59 _ e (λ e. one 44 q44 _ e (λ e. one 125 q125 _ e
    (λ e. one 123 q123 _ e (λ e. one 93 q93 _ e (λ e. one 91 q91 _ e (λ e. one 41 q41 _ e (λ h. subst P (sym (eqb-true b 40 h)) q40)))))))))) where
      one : (n : ℕ) → P n → (a : Bool) → (a || b == n) ≡ true → (a ≡ true → P b) → P b
      one n p a e f = elim (or_cases a (b == n) e) [ inl h ↦ f h | inr h ↦ subst P (sym (eqb-true b n h)) p ]

paren_mark : (bs : List ℕ) → begins (λ c. c == 42) bs ≡ false → scan_paren bs ≡ found (token kind.Mark) 1
unfolding scan_paren
paren_mark [] e = refl
paren_mark (c ∷ cs) e = rw e refl

pub at_mark : (b : ℕ) (bs : List ℕ) → is_mark b ≡ true → ((b == 40 && begins (λ c. c == 42) bs) ≡ false) → scan_at b bs ≡ found (token kind.Mark) 1
unfolding scan_at
at_mark b bs e = mark_cases (λ c. ((c == 40 && begins (λ d. d == 42) bs) ≡ false) → scan_at c bs ≡ found (token kind.Mark) 1) (paren_mark bs)
    (λ _. refl) (λ _. refl) (λ _. refl) (λ _. refl) (λ _. refl) (λ _. refl) (λ _. refl) (λ _. refl) (λ _. refl) (λ _. refl) b e

slash_bad : (bs : List ℕ) → begins (λ c. c == 47 || c == 42) bs ≡ false → scan_slash bs ≡ fault why.BadByte 0
unfolding scan_slash
slash_bad [] e = refl
slash_bad (c ∷ cs) e = rw (or_left (c == 47) _ e) (rw (or_right (c == 47) _ e) refl)

tick_bad : (bs : List ℕ) → begins is_start bs ≡ false → scan_tick bs ≡ fault why.BadByte 0
unfolding scan_tick
tick_bad bs e = rw e refl

-- none of the byte's classes
pub plain_bad : (b : ℕ) (bs : List ℕ) → is_start b ≡ false → is_ascii_digit b ≡ false → is_blank b ≡ false → is_mark b ≡ false → (b == 92) ≡ false → (b == 47) ≡ false → (b == 96) ≡ false
    → scan_at b bs ≡ fault why.BadByte 0
unfolding scan_at
plain_bad b bs s d k m e47 f g = all (is_start b) (is_ascii_digit b) (is_blank b) (is_mark b) (b == 92) (b == 47) (b == 96) (b == 40) s d k m e47 f g (not_paren b m) where
  not_paren : (c : ℕ) → is_mark c ≡ false → (c == 40) ≡ false
  not_paren c h = or_left (c == 40) (c == 41) (or_left _ _ (or_left _ _ (or_left _ _ (or_left _ _ (or_left _ _ (or_left _ _ (or_left _ _ (or_left _ _ (or_left _ _ (h))))))))))

  all : (s d k m e f g p : Bool) → s ≡ false → d ≡ false → k ≡ false → m ≡ false → e ≡ false → f ≡ false → g ≡ false → p ≡ false
      → cond s (scan_word (b ∷ bs)) (cond d (scan_number (b ∷ bs)) (cond k (found blank 1) (cond e (scan_escape bs) (cond f (scan_slash bs) (cond g (scan_tick bs) (cond p (scan_paren bs)
      (cond m (found (token kind.Mark) 1) (fault why.BadByte 0)))))))) ≡ fault why.BadByte 0
  all s d k m e f g p hs hd hk hm he hf hg hp = rw hs (rw hd (rw hk (rw he (rw hf (rw hg (rw hp (rw hm refl)))))))

pub at_bad : (b : ℕ) (bs : List ℕ) → can_begin b bs ≡ false → scan_at b bs ≡ fault why.BadByte 0
at_bad b bs e = parts (is_start b) (is_ascii_digit b) (is_blank b) (is_mark b) (b == 92) _ _ e (λ s d k m n f g. elim (bool_cases (b == 47)) [
  | inl h ↦ subst (λ (c : ℕ). (c == 47 && begins (λ d. d == 47 || d == 42) bs) ≡ false → scan_at c bs ≡ fault why.BadByte 0) (sym (eqb-true b 47 h)) (λ q. at_slash bs ∙ slash_bad bs q) f
  | inr h ↦ elim (bool_cases (b == 96)) [
    | inl i ↦ subst (λ (c : ℕ). (c == 96 && begins is_start bs) ≡ false → scan_at c bs ≡ fault why.BadByte 0) (sym (eqb-true b 96 i)) (λ q. at_tick bs ∙ tick_bad bs q) g
    | inr i ↦ plain_bad b bs s d k m n h i
  ]
]) where
  parts : {P : Type 0} (s d k m n f g : Bool) → (s || d || k || m || n || f || g) ≡ false
      → (s ≡ false → d ≡ false → k ≡ false → m ≡ false → n ≡ false → f ≡ false → g ≡ false → P) → P
  parts false false false false false false false e q = q refl refl refl refl refl refl refl
  parts true d k m n f g e q = absurd cc
  parts false true k m n f g e q = absurd cc
  parts false false true m n f g e q = absurd cc
  parts false false false true n f g e q = absurd cc
  parts false false false false true f g e q = absurd cc
  parts false false false false false true g e q = absurd cc
  parts false false false false false false true e q = absurd cc
