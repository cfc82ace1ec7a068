-- A phrase behind a comma takes a token.
use Rattle.std.proofs.Common.{◌≡◌, ℕ, ◌<◌, ◌≤◌, List, [], ◌∷◌, length, Option, Some, None, Result, Ok, Err, refl, ap, Bool, arith, length-append}
use Rattle.std.specs.Result.{OnOk}
use Rattle.verilog_tree.specs.declared.stop.Stop.{Stop}
use Rattle.verilog_tree.specs.Giving.{Gives}
use Rattle.verilog_tree.specs.Reading.{one, chosen}
use Rattle.verilog_tree.specs.Words.{Word, mark, mark_of, is_mark}
use Rattle.verilog_tree.specs.Spelling.{BehindComma, SpellsExpr}
use Rattle.verilog_tree.specs.Trees.{Expr}
use Rattle.verilog_tree.specs.Parsing.{behind_comma, expr}
use Rattle.verilog_tree.proofs.Exact.{Exact, lead_token}
use Rattle.verilog_tree.proofs.Phrases.{exact_behind_comma, exact_expr}
use Rattle.verilog_tree.proofs.Loop.{shorter}

pub comma_shorter : {A : Type 0} (S : A → List Word → Type 0) (p : List Word → Result (A × List Word) ℕ) (after : _ → Bool) → Exact S p after → (ts : List Word) (a : A) (rest : List Word) → behind_comma p ts ≡ Ok (a, rest) → length rest < length ts
comma_shorter S p after e = shorter (is_mark 44) _ (BehindComma S) (behind_comma p) after (exact_behind_comma S p after e) (λ a w s. lead_token (is_mark 44) _ (mark 44) refl w s)

pub expr_shorter : (d : ℕ) (ts : List Word) (a : Expr) (rest : List Word) → behind_comma (λ us. expr d us) ts ≡ Ok (a, rest) → length rest < length ts
expr_shorter d = comma_shorter (λ e w. SpellsExpr d e w) (λ us. expr d us) _ (exact_expr d)

-- a phrase takes no token back
pub stays : {A X : Type 0} (S : A → List Word → Type 0) (read : List Word → Result (A × List Word) ℕ) (after : Option Word → Bool) → Exact S read after → (view : X → A) (old left : List Word) (r : Result X Stop) → Gives left view r (read old) → OnOk r (length left ≤ length old)
stays S read after ex view old left (Ok x) g = let f = ex.takes old (view x) left g in omega (arith, ap length f.parts, length-append f.front left)
stays S read after ex view old left (Err e) g = tt

abbrev rest_of : List Word → Result (Unit {0} × List Word) ℕ → List Word
rest_of d (Ok r) = r.1
rest_of d (Err n) = d

-- a comma takes one
pub comma_takes : (old behind left : List Word) → one (mark_of 44) old ≡ Ok (tt, behind) → length left ≤ length behind → length left < length old
comma_takes [] behind left e low = absurd cc
comma_takes (t ∷ ts) behind left e low = go (mark_of 44 t) e where
  go : (o : Option (Unit {0})) → chosen o t ts ≡ Ok (tt, behind) → length left < length (t ∷ ts)
  go None f = absurd cc
  go (Some u) f = let same : ts ≡ behind = ap (λ (r : Result (Unit {0} × List Word) ℕ). rest_of ts r) f in let n = ap length same in omega (arith, n, low)

pub less_then : {X : Type 0} (old behind left : List Word) (r : Result X Stop) → one (mark_of 44) old ≡ Ok (tt, behind) → OnOk r (length left ≤ length behind) → OnOk r (length left < length old)
less_then old behind left (Ok x) e low = comma_takes old behind left e low
less_then old behind left (Err f) e low = tt
