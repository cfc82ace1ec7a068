-- What an ASCII file lists is well formed.
use Rattle.std.proofs.Common.{◌≡◌, ◌≢◌, inl, inr, ◌∙◌, ◌≤◌, ◌+◌, ◌*◌, ◌/◌, ◌%◌, ◌==◌, ℕ, Bool, cond, true, false, zero, suc, refl, ap, sym, subst, arith, List, [], ◌∷◌, ◌++◌, length, length-append, append_assoc, None, Some, Result, Ok, Err}
use Rattle.rsfq_ids.specs.declared.limits.TheConstants.{AIG_LIMIT}
use Rattle.std.specs.Prelude.{slice_get, nat_lt, ◌||◌, map, replicate}
use Rattle.std.proofs.lemmas.Bool.{ltb-false, eqb-true, eqb-false, eq-eqb}
use Rattle.std.proofs.lemmas.List.{length-map, length-replicate, append-nil}
use Rattle.std.proofs.lemmas.Option.{same_Some}
use Rattle.golden_aig.specs.declared.graph.And.{And}
use Rattle.aiger_order.specs.Numbers.{HoldsOnce}
use Rattle.aiger_order.specs.Listing.{IsDefinition, IsDefined, IsListing, defined_by}
use Rattle.aiger_order.proofs.Lists.{get_cases}
use Rattle.aiger_parts.specs.declared.fault.Stop.{Stop}
use Rattle.aiger_parts.specs.declared.fault.AigerWhy.TheVariants as why
use Rattle.aiger_parts.specs.declared.header.Form.TheVariants as form
use Rattle.aiger_read.specs.declared.lines.Used.{Used}
use Rattle.aiger_read.specs.declared.lines.Line.{Line}
use Rattle.aiger_read.specs.declared.text.Text.{Text}
use Rattle.aiger_parts.specs.Reading.{◌>>=◌, fault, number_at, line_end_at}
use Rattle.aiger_parts.specs.Header.{header_at}
use Rattle.aiger_parts.specs.Symbols.{symbols_at}
use Rattle.aiger_read.specs.Lines.{is_in, is_out, lhs_of, more_at, start_at, gap_at, definition_at, use_at, input_at, output_at, and_line_at}
use Rattle.aiger_read.specs.Text.{use_known_at, known_at, uses_of, and_of, listing_of, text_at}
use Rattle.aiger_read.proofs.WellFormed.{bind_ok, unless_ok, or_false, same_value, header_ok, symbols_ok}

-- ---- many of one kind

more_keeps : {A : Type 0} (one : List A → List ℕ → Result (A × List ℕ) Stop) (Q : List A → Type 0) → ((front : List A) (bytes : List ℕ) (x : A × List ℕ) → Q front → one front bytes ≡ Ok x → Q (front ++ x.0 ∷ []))
    → (count : ℕ) (front : List A) (bytes : List ℕ) (xs : List A × List ℕ) → Q front → more_at one count front bytes ≡ Ok xs → Q xs.0
more_keeps {A} one Q step zero front bytes xs q e = subst Q (ap (λ (p : List A × List ℕ). p.0) (same_value (front, bytes) xs e)) q
more_keeps one Q step (suc count) front bytes xs q e =
    let first = bind_ok (one front bytes) (λ x. more_at one count (front ++ x.0 ∷ []) x.1) xs e in
    more_keeps one Q step count (front ++ first.0.0 ∷ []) first.0.1 xs (step front bytes first.0 q first.1) first.2

pub more_many : {A : Type 0} (one : List A → List ℕ → Result (A × List ℕ) Stop) (count : ℕ) (front : List A) (bytes : List ℕ) (xs : List A × List ℕ) → more_at one count front bytes ≡ Ok xs → length xs.0 ≡ length front + count
more_many {A} one zero front bytes xs e = ap (λ (p : List A × List ℕ). length p.0) (sym (same_value (front, bytes) xs e)) ∙ omega arith
more_many one (suc count) front bytes xs e =
    let first = bind_ok (one front bytes) (λ x. more_at one count (front ++ x.0 ∷ []) x.1) xs e in
    let rest = more_many one count (front ++ first.0.0 ∷ []) first.0.1 xs first.2 in
    let longer = length-append front (first.0.0 ∷ []) in
    omega arith

-- ---- what one line says

abbrev pub IsNew : ℕ → List ℕ → ℕ → Type 0
IsNew top defined literal = (is_out top literal ≡ false) × (is_in defined literal ≡ false)

pub definition_new : (top : ℕ) (defined bytes : List ℕ) (x : ℕ × List ℕ) → definition_at top defined bytes ≡ Ok x → IsNew top defined x.0
unfolding definition_at
definition_new top defined bytes x e =
    let number = bind_ok (number_at bytes) (λ n. cond (is_out top n.0) (Err (fault (why.Range n.0) bytes)) (Ok n) >>= λ y. cond (is_in defined y.0) (Err (fault (why.Defined y.0) bytes)) (Ok (y.0, y.1))) x e in
    let inside = bind_ok (cond (is_out top number.0.0) (Err (fault (why.Range number.0.0) bytes)) (Ok number.0)) (λ y. cond (is_in defined y.0) (Err (fault (why.Defined y.0) bytes)) (Ok (y.0, y.1))) x number.2 in
    let range = unless_ok (is_out top number.0.0) (fault (why.Range number.0.0) bytes) (Ok number.0) inside.0 inside.1 in
    let new = unless_ok (is_in defined inside.0.0) (fault (why.Defined inside.0.0) bytes) (Ok (inside.0.0, inside.0.1)) x inside.2 in
    let same : number.0.0 ≡ inside.0.0 = ap (λ (p : ℕ × List ℕ). p.0) (same_value number.0 inside.0 range.1) in
    let last : inside.0.0 ≡ x.0 = ap (λ (p : ℕ × List ℕ). p.0) (same_value (inside.0.0, inside.0.1) x new.1) in
    subst (IsNew top defined) last (ap (is_out top) (sym same) ∙ range.0, new.0)

pub use_inside : (top : ℕ) (bytes : List ℕ) (x : Used × List ℕ) → use_at top bytes ≡ Ok x → x.0.literal / 2 ≤ top
unfolding use_at
use_inside top bytes x e =
    let number = bind_ok (number_at bytes) (λ n. cond (nat_lt (2 * top + 1) n.0) (Err (fault (why.Range n.0) bytes)) (Ok (record { literal = n.0; left = length bytes }, n.1))) x e in
    let made : Used × List ℕ = (record { literal = number.0.0; left = length bytes }, number.0.1) in
    let range = unless_ok (nat_lt (2 * top + 1) number.0.0) (fault (why.Range number.0.0) bytes) (Ok made) x number.2 in
    let le : number.0.0 ≤ 2 * top + 1 = ltb-false (2 * top + 1) number.0.0 range.0 in
    let same : number.0.0 ≡ x.0.literal = ap (λ (p : Used × List ℕ). p.0.literal) (same_value made x range.1) in
    omega arith

input_new : (top : ℕ) (defined bytes : List ℕ) (x : ℕ × List ℕ) → input_at top defined bytes ≡ Ok x → IsNew top defined x.0
unfolding input_at
input_new top defined bytes x e =
    let start = bind_ok (start_at bytes) (λ line. definition_at top defined line >>= λ y. line_end_at y.1 >>= λ behind. Ok (y.0, behind)) x e in
    let literal = bind_ok (definition_at top defined start.0) (λ y. line_end_at y.1 >>= λ behind. Ok (y.0, behind)) x start.2 in
    let behind = bind_ok (line_end_at literal.0.1) (λ behind. Ok (literal.0.0, behind)) x literal.2 in
    let same : literal.0.0 ≡ x.0 = ap (λ (p : ℕ × List ℕ). p.0) (same_value (literal.0.0, behind.0) x behind.2) in
    subst (IsNew top defined) same (definition_new top defined start.0 literal.0 literal.1)

output_inside : (top : ℕ) (bytes : List ℕ) (x : Used × List ℕ) → output_at top bytes ≡ Ok x → x.0.literal / 2 ≤ top
unfolding output_at
output_inside top bytes x e =
    let start = bind_ok (start_at bytes) (λ line. use_at top line >>= λ y. line_end_at y.1 >>= λ behind. Ok (y.0, behind)) x e in
    let used = bind_ok (use_at top start.0) (λ y. line_end_at y.1 >>= λ behind. Ok (y.0, behind)) x start.2 in
    let behind = bind_ok (line_end_at used.0.1) (λ behind. Ok (used.0.0, behind)) x used.2 in
    let same : used.0.0 ≡ x.0 = ap (λ (p : Used × List ℕ). p.0) (same_value (used.0.0, behind.0) x behind.2) in
    subst (λ (u : Used). u.literal / 2 ≤ top) same (use_inside top start.0 used.0 used.1)

abbrev IsGoodLine : ℕ → List ℕ → Line → Type 0
IsGoodLine top defined line = IsNew top defined line.lhs × ((line.rhs0.literal / 2 ≤ top) × (line.rhs1.literal / 2 ≤ top))

line_of : ℕ → Used → Used → Line
line_of lhs rhs0 rhs1 = record { lhs = lhs; rhs0 = rhs0; rhs1 = rhs1 }

line_good : (top : ℕ) (defined bytes : List ℕ) (x : Line × List ℕ) → and_line_at top defined bytes ≡ Ok x → IsGoodLine top defined x.0
unfolding and_line_at line_of
line_good top defined bytes x e =
    let start = bind_ok (start_at bytes) (λ line. definition_at top defined line >>= λ lhs. gap_at lhs.1 >>= λ one. use_at top one >>= λ rhs0. gap_at rhs0.1 >>= λ two. use_at top two >>= λ rhs1. line_end_at rhs1.1 >>= λ behind. Ok (line_of lhs.0 rhs0.0 rhs1.0, behind)) x e in
    let lhs = bind_ok (definition_at top defined start.0) (λ lhs. gap_at lhs.1 >>= λ one. use_at top one >>= λ rhs0. gap_at rhs0.1 >>= λ two. use_at top two >>= λ rhs1. line_end_at rhs1.1 >>= λ behind. Ok (line_of lhs.0 rhs0.0 rhs1.0, behind)) x start.2 in
    let one = bind_ok (gap_at lhs.0.1) (λ one. use_at top one >>= λ rhs0. gap_at rhs0.1 >>= λ two. use_at top two >>= λ rhs1. line_end_at rhs1.1 >>= λ behind. Ok (line_of lhs.0.0 rhs0.0 rhs1.0, behind)) x lhs.2 in
    let rhs0 = bind_ok (use_at top one.0) (λ rhs0. gap_at rhs0.1 >>= λ two. use_at top two >>= λ rhs1. line_end_at rhs1.1 >>= λ behind. Ok (line_of lhs.0.0 rhs0.0 rhs1.0, behind)) x one.2 in
    let two = bind_ok (gap_at rhs0.0.1) (λ two. use_at top two >>= λ rhs1. line_end_at rhs1.1 >>= λ behind. Ok (line_of lhs.0.0 rhs0.0.0 rhs1.0, behind)) x rhs0.2 in
    let rhs1 = bind_ok (use_at top two.0) (λ rhs1. line_end_at rhs1.1 >>= λ behind. Ok (line_of lhs.0.0 rhs0.0.0 rhs1.0, behind)) x two.2 in
    let behind = bind_ok (line_end_at rhs1.0.1) (λ behind. Ok (line_of lhs.0.0 rhs0.0.0 rhs1.0.0, behind)) x rhs1.2 in
    let same : line_of lhs.0.0 rhs0.0.0 rhs1.0.0 ≡ x.0 = ap (λ (p : Line × List ℕ). p.0) (same_value (line_of lhs.0.0 rhs0.0.0 rhs1.0.0, behind.0) x behind.2) in
    subst (IsGoodLine top defined) same (definition_new top defined start.0 lhs.0 lhs.1, (use_inside top one.0 rhs0.0 rhs0.1, use_inside top two.0 rhs1.0 rhs1.1))

-- ---- definitions

pub in_at : (defined : List ℕ) (at literal : ℕ) → slice_get defined at ≡ Some literal → is_in defined literal ≡ true
in_at [] at literal e = absurd cc
in_at (x ∷ defined) zero literal e = let same : x ≡ literal = same_Some x literal e in rw (eq-eqb x literal same) refl
in_at (x ∷ defined) (suc at) literal e = go (x == literal) (in_at defined at literal e) where
  go : (b : Bool) → is_in defined literal ≡ true → (b || is_in defined literal) ≡ true
  go true h = refl
  go false h = h

pub at_in : (defined : List ℕ) (literal : ℕ) → is_in defined literal ≡ true → (at : ℕ) × (slice_get defined at ≡ Some literal)
at_in [] literal e = absurd cc
at_in (x ∷ defined) literal e = go (x == literal) refl e (at_in defined literal) where
  go : (b : Bool) → (x == literal) ≡ b → (b || is_in defined literal) ≡ true → (is_in defined literal ≡ true → (at : ℕ) × (slice_get defined at ≡ Some literal)) → (at : ℕ) × (slice_get (x ∷ defined) at ≡ Some literal)
  go true is h more = (0, ap Some (eqb-true x literal is))
  go false is h more = let rest = more h in (suc rest.0, rest.1)

abbrev pub AreGood : ℕ → List ℕ → Type 0
AreGood top defined = ((at literal : ℕ) → slice_get defined at ≡ Some literal → IsDefinition top literal) × HoldsOnce defined

pub new_definition : (top literal : ℕ) → is_out top literal ≡ false → IsDefinition top literal
new_definition top literal out =
    let three = or_false (nat_lt (2 * top + 1) literal || literal % 2 == 1) (nat_lt literal 2) out in
    let two = or_false (nat_lt (2 * top + 1) literal) (literal % 2 == 1) three.0 in
    let le : literal ≤ 2 * top + 1 = ltb-false (2 * top + 1) literal two.0 in
    let even : literal % 2 ≢ 1 = eqb-false (literal % 2) 1 two.1 in
    let low : 2 ≤ literal = ltb-false literal 2 three.1 in
    (literal / 2, omega arith, omega arith, omega arith)

good_more : (top literal : ℕ) (defined : List ℕ) → AreGood top defined → IsNew top defined literal → AreGood top (defined ++ literal ∷ [])
good_more top literal defined good new = (each, once) where
  each : (at l : ℕ) → slice_get (defined ++ literal ∷ []) at ≡ Some l → IsDefinition top l
  each at l is = elim (get_cases defined literal at l is) [ inl old ↦ good.0 at l old | inr last ↦ subst (IsDefinition top) last.1 (new_definition top literal new.0) ]

  not_there : (at : ℕ) → slice_get defined at ≡ Some literal → ⊥
  not_there at is = let there = in_at defined at literal is in let none = new.1 in absurd cc

  once : HoldsOnce (defined ++ literal ∷ [])
  once here there l one other = elim (get_cases defined literal here l one) [
    | inl old ↦ elim (get_cases defined literal there l other) [
      | inl older ↦ good.1 here there l old older
      | inr last ↦ absurd (not_there here (old ∙ ap Some (sym last.1)))
    ]
    | inr last ↦ elim (get_cases defined literal there l other) [
      | inl older ↦ absurd (not_there there (older ∙ ap Some (sym last.1)))
      | inr again ↦ last.0 ∙ sym again.0
    ]
  ]

no_definitions : (top : ℕ) → AreGood top []
no_definitions top = (λ at l e. absurd cc, λ here there l e f. absurd cc)

pub lhs_more : (lines : List Line) (line : Line) → lhs_of (lines ++ line ∷ []) ≡ lhs_of lines ++ line.lhs ∷ []
lhs_more [] line = refl
lhs_more (l ∷ lines) line = ap (λ (ls : List ℕ). l.lhs ∷ ls) (lhs_more lines line)

-- ---- uses

abbrev pub AreInside : ℕ → List Used → Type 0
AreInside top uses = (at : ℕ) (used : Used) → slice_get uses at ≡ Some used → used.literal / 2 ≤ top

pub outputs_inside : (top count : ℕ) (bytes : List ℕ) (xs : List Used × List ℕ) → more_at (λ front. output_at top) count [] bytes ≡ Ok xs → AreInside top xs.0
outputs_inside top count bytes xs e = more_keeps (λ front. output_at top) (AreInside top) (λ front bs x q is at used there. elim (get_cases front x.0 at used there) [
  | inl old ↦ q at used old
  | inr last ↦ subst (λ (u : Used). u.literal / 2 ≤ top) last.1 (output_inside top bs x is)
]) count [] bytes xs (λ at used there. absurd cc) e

abbrev pub AreLinesInside : ℕ → List Line → Type 0
AreLinesInside top lines = (at : ℕ) (line : Line) → slice_get lines at ≡ Some line → (line.rhs0.literal / 2 ≤ top) × (line.rhs1.literal / 2 ≤ top)

pub lines_inside : (top count : ℕ) (inputs bytes : List ℕ) (xs : List Line × List ℕ) → more_at (λ front. and_line_at top (inputs ++ lhs_of front)) count [] bytes ≡ Ok xs → AreLinesInside top xs.0
lines_inside top count inputs bytes xs e = more_keeps (λ front. and_line_at top (inputs ++ lhs_of front)) (AreLinesInside top) (λ front bs x q is at line there. elim (get_cases front x.0 at line there) [
  | inl old ↦ q at line old
  | inr last ↦ subst (λ (l : Line). (l.rhs0.literal / 2 ≤ top) × (l.rhs1.literal / 2 ≤ top)) last.1 (line_good top (inputs ++ lhs_of front) bs x is).1
]) count [] bytes xs (λ at line there. absurd cc) e

pub inputs_good : (top count : ℕ) (bytes : List ℕ) (xs : List ℕ × List ℕ) → more_at (input_at top) count [] bytes ≡ Ok xs → AreGood top xs.0
inputs_good top count bytes xs e = more_keeps (input_at top) (AreGood top) (λ front bs x q is. good_more top x.0 front q (input_new top front bs x is)) count [] bytes xs (no_definitions top) e

pub lines_are_good : (top count : ℕ) (inputs bytes : List ℕ) (xs : List Line × List ℕ) → AreGood top inputs → more_at (λ front. and_line_at top (inputs ++ lhs_of front)) count [] bytes ≡ Ok xs → AreGood top (inputs ++ lhs_of xs.0)
lines_are_good top count inputs bytes xs good e =
    more_keeps (λ front. and_line_at top (inputs ++ lhs_of front)) (λ front. AreGood top (inputs ++ lhs_of front))
    (λ front bs x q is. subst (AreGood top) (append_assoc inputs (lhs_of front) (x.0.lhs ∷ []) ∙ ap (λ (ls : List ℕ). inputs ++ ls) (sym (lhs_more front x.0)))
    (good_more top x.0.lhs (inputs ++ lhs_of front) q (line_good top (inputs ++ lhs_of front) bs x is).0))
    count [] bytes xs (subst (AreGood top) (sym (append-nil inputs)) good) e

pub used_defined : (defined : List ℕ) (used : Used) → use_known_at defined used ≡ Ok tt → IsDefined defined used.literal
used_defined defined used e = go (used.literal / 2 == 0) (is_in defined (2 * (used.literal / 2))) refl refl e where
  go : (a b : Bool) → (used.literal / 2 == 0) ≡ a → is_in defined (2 * (used.literal / 2)) ≡ b → cond {A = Result (Unit {0}) Stop} (a || b) (Ok tt) (Err (record { left = used.left; why = why.Undefined used.literal })) ≡ Ok tt → IsDefined defined used.literal
  go true b zero_is in_is h = inl (eqb-true (used.literal / 2) 0 zero_is)
  go false true zero_is in_is h = inr (at_in defined (2 * (used.literal / 2)) in_is)
  go false false zero_is in_is h = absurd cc

pub all_defined : (defined : List ℕ) (uses : List Used) → known_at defined uses ≡ Ok tt → (at : ℕ) (used : Used) → slice_get uses at ≡ Some used → IsDefined defined used.literal
all_defined defined [] e at used is = absurd cc
all_defined defined (u ∷ uses) e at used is = go at (bind_ok (use_known_at defined u) (λ _. known_at defined uses) tt e) is (all_defined defined uses) where
  go : (k : ℕ) → (x : Unit {0}) × (use_known_at defined u ≡ Ok x) × (known_at defined uses ≡ Ok tt) → slice_get (u ∷ uses) k ≡ Some used → (known_at defined uses ≡ Ok tt → (n : ℕ) (v : Used) → slice_get uses n ≡ Some v → IsDefined defined v.literal) → IsDefined defined used.literal
  go zero parts there more = subst (λ (v : Used). IsDefined defined v.literal) (same_Some u used there) (used_defined defined u parts.1)
  go (suc k) parts there more = more parts.2 k used there

pub uses_at : (lines : List Line) (k : ℕ) (line : Line) → slice_get lines k ≡ Some line → (at : ℕ) × (slice_get (uses_of lines) at ≡ Some line.rhs0) × (slice_get (uses_of lines) (suc at) ≡ Some line.rhs1)
uses_at [] k line e = absurd cc
uses_at (l ∷ lines) zero line e = let same : l ≡ line = same_Some l line e in (0, ap (λ (g : Line). Some g.rhs0) same, ap (λ (g : Line). Some g.rhs1) same)
uses_at (l ∷ lines) (suc k) line e = let rest = uses_at lines k line e in (suc (suc rest.0), rest.1, rest.2)

pub fused : (lines : List Line) → map (λ (one : And). one.lhs) (map and_of lines) ≡ lhs_of lines
fused [] = refl
fused (l ∷ lines) = ap (λ (ls : List ℕ). l.lhs ∷ ls) (fused lines)

pub unmapped : {A B : Type 0} (f : A → B) (xs : List A) (k : ℕ) (y : B) → slice_get (map f xs) k ≡ Some y → (x : A) × (slice_get xs k ≡ Some x) × (f x ≡ y)
unmapped f [] k y e = absurd cc
unmapped f (x ∷ xs) zero y e = (x, refl, same_Some (f x) y e)
unmapped f (x ∷ xs) (suc k) y e = unmapped f xs k y e

-- ---- the whole file

listing_ok : (text : Text) → text.top ≤ AIG_LIMIT → AreGood text.top (text.inputs ++ lhs_of text.lines) → known_at (text.inputs ++ lhs_of text.lines) text.outputs ≡ Ok tt → known_at (text.inputs ++ lhs_of text.lines) (uses_of text.lines) ≡ Ok tt
    → length text.in_names ≡ length text.inputs → length text.out_names ≡ length text.outputs → IsListing (listing_of text)
listing_ok text small good outputs operands ins outs =
    let defs : text.inputs ++ lhs_of text.lines ≡ defined_by text.inputs (map and_of text.lines) = ap (λ (ls : List ℕ). text.inputs ++ ls) (sym (fused text.lines)) in
    record {
      size = small;
      definitions = (subst (AreGood text.top) defs good).0;
      once = (subst (AreGood text.top) defs good).1;
      operands = λ line one is.
          let from = unmapped and_of text.lines line one is in
          let uses = uses_at text.lines line from.0 from.1 in
          subst (λ (ds : List ℕ). IsDefined ds one.rhs0 × IsDefined ds one.rhs1) defs
          (subst (λ (g : And). IsDefined (text.inputs ++ lhs_of text.lines) g.rhs0 × IsDefined (text.inputs ++ lhs_of text.lines) g.rhs1) from.2
          (all_defined (text.inputs ++ lhs_of text.lines) (uses_of text.lines) operands uses.0 from.0.rhs0 uses.1, all_defined (text.inputs ++ lhs_of text.lines) (uses_of text.lines) operands (suc uses.0) from.0.rhs1 uses.2));
      outputs = λ at literal is.
          let from = unmapped (λ (u : Used). u.literal) text.outputs at literal is in
          subst (λ (ds : List ℕ). IsDefined ds literal) defs (subst (IsDefined (text.inputs ++ lhs_of text.lines)) from.2 (all_defined (text.inputs ++ lhs_of text.lines) text.outputs outputs at from.0 from.1));
      in_names = ins;
      out_names = outs ∙ sym (length-map text.outputs (λ (u : Used). u.literal));
    }

no_front : (many count : ℕ) → many ≡ 0 + count → many ≡ count
no_front many count e = omega arith

pub text_ok : (bytes : List ℕ) (text : Text) → text_at bytes ≡ Ok text → IsListing (listing_of text)
unfolding text_at
text_ok bytes text e =
    let head = bind_ok (header_at form.Ascii bytes) _ text e in
    let h = head.0.0 in
    let inputs = bind_ok (more_at (input_at h.variables) h.inputs [] head.0.1) _ text head.2 in
    let outputs = bind_ok (more_at (λ front. output_at h.variables) h.outputs [] inputs.0.1) _ text inputs.2 in
    let lines = bind_ok (more_at (λ front. and_line_at h.variables (inputs.0.0 ++ lhs_of front)) h.ands [] outputs.0.1) _ text outputs.2 in
    let names = bind_ok (symbols_at (length lines.0.1) (replicate h.inputs None, replicate h.outputs None) lines.0.1) _ text lines.2 in
    let one = bind_ok (known_at (inputs.0.0 ++ lhs_of lines.0.0) outputs.0.0) _ text names.2 in
    let two = bind_ok (known_at (inputs.0.0 ++ lhs_of lines.0.0) (uses_of lines.0.0)) _ text one.2 in
    let made : Text = record { top = h.variables; inputs = inputs.0.0; outputs = outputs.0.0; lines = lines.0.0; left = length outputs.0.1; in_names = names.0.0; out_names = names.0.1 } in
    let ok = header_ok form.Ascii bytes head.0 head.1 in
    let small = ok.0 in
    let kept = symbols_ok (length lines.0.1) (replicate h.inputs None, replicate h.outputs None) names.0 lines.0.1 names.1 in
    let input_count = more_many (input_at h.variables) h.inputs [] head.0.1 inputs.0 inputs.1 in
    let output_count = more_many (λ front. output_at h.variables) h.outputs [] inputs.0.1 outputs.0 outputs.1 in
    let good = lines_are_good h.variables h.ands inputs.0.0 outputs.0.1 lines.0 (inputs_good h.variables h.inputs head.0.1 inputs.0 inputs.1) lines.1 in
    let ins : length names.0.0 ≡ h.inputs = kept.0 ∙ length-replicate h.inputs None in
    let outs : length names.0.1 ≡ h.outputs = kept.1 ∙ length-replicate h.outputs None in
    subst (λ (t : Text). IsListing (listing_of t)) (same_value made text two.2)
    (listing_ok made small good one.1 two.1 (ins ∙ sym (no_front (length inputs.0.0) h.inputs input_count)) (outs ∙ sym (no_front (length outputs.0.0) h.outputs output_count)))
