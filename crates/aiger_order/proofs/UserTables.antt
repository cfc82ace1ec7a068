-- Tables of users, with one line more.
use Rattle.std.proofs.Common.{◌≡◌, ◌≢◌, ◌⊎◌, inl, inr, ◌∙◌, ◌<◌, ◌≤◌, ◌+◌, ◌/◌, ◌==◌, ℕ, Bool, true, false, zero, suc, refl, ap, sym, subst, arith, List, [], ◌∷◌, ◌++◌, length, length-set, get_or, Some}
use Rattle.std.specs.Prelude.{slice_get, slice_set, slice_index_or}
use Rattle.std.proofs.lemmas.List.{get_or-set_same, get_or-set_other}
use Rattle.std.proofs.lemmas.Bool.{eqb-true, eqb-false}
use Rattle.std.proofs.lemmas.Option.{same_Some}
use Rattle.std.specs.declared.vec.Vec.{Vec}
use Rattle.std.specs.declared.alloc.Global.{Global}
use Rattle.golden_aig.specs.declared.graph.And.{And}
use Rattle.aiger_order.specs.Users.{lists_of, UsedBy, AreUsers}
use Rattle.aiger_order.proofs.Lists.{get_more, get_last, get_cases}

-- a line more in the list of a variable
abbrev pub added : List (List ℕ) → ℕ → ℕ → List (List ℕ)
added lists v line = slice_set lists v (slice_index_or lists v [] ++ line ∷ [])

pub lists_set : (xs : List (Vec ℕ Global)) (i : ℕ) (u : Vec ℕ Global) → lists_of (slice_set xs i u) ≡ slice_set (lists_of xs) i u.items
lists_set [] i u = refl
lists_set (x ∷ xs) zero u = refl
lists_set (x ∷ xs) (suc i) u = ap (λ (ls : List (List ℕ)). x.items ∷ ls) (lists_set xs i u)

pub lists_many : (xs : List (Vec ℕ Global)) → length (lists_of xs) ≡ length xs
lists_many [] = refl
lists_many (x ∷ xs) = ap suc (lists_many xs)

pub lists_get : (xs : List (Vec ℕ Global)) (i : ℕ) (u : Vec ℕ Global) → i < length xs → u ≡ get_or xs i u → u.items ≡ slice_index_or (lists_of xs) i []
lists_get [] i u lt e = absurd (omega arith)
lists_get (x ∷ xs) zero u lt e = ap (λ (v : Vec ℕ Global). v.items) e
lists_get (x ∷ xs) (suc i) u lt e = lists_get xs i u (omega arith) e

same_list : (lists : List (List ℕ)) (v line : ℕ) → v < length lists → slice_index_or (added lists v line) v [] ≡ slice_index_or lists v [] ++ line ∷ []
same_list lists v line lt = get_or-set_same lists v (slice_index_or lists v [] ++ line ∷ []) [] lt

other_list : (lists : List (List ℕ)) (v w line : ℕ) → w ≢ v → slice_index_or (added lists v line) w [] ≡ slice_index_or lists w []
other_list lists v w line ne = get_or-set_other lists v w (slice_index_or lists v [] ++ line ∷ []) [] ne

uses_new : (lists : List (List ℕ)) (v line : ℕ) → v < length lists → UsedBy (added lists v line) v line
uses_new lists v line lt =
    let old = slice_index_or lists v [] in
    (length old, subst (λ (l : List ℕ). slice_get l (length old) ≡ Some line) (sym (same_list lists v line lt)) (get_last old line))

uses_kept : (lists : List (List ℕ)) (v line w p : ℕ) → v < length lists → UsedBy lists w p → UsedBy (added lists v line) w p
uses_kept lists v line w p lt u = go (w == v) refl where
  go : (t : Bool) → (w == v) ≡ t → UsedBy (added lists v line) w p
  go true e =
      let is : w ≡ v = eqb-true w v e in
      let old = slice_index_or lists v [] in
      let here : slice_get old u.0 ≡ Some p = subst (λ (x : ℕ). slice_get (slice_index_or lists x []) u.0 ≡ Some p) is u.1 in
      subst (λ (x : ℕ). UsedBy (added lists v line) x p) (sym is)
      (u.0, subst (λ (l : List ℕ). slice_get l u.0 ≡ Some p) (sym (same_list lists v line lt)) (get_more old (line ∷ []) u.0 p here))
  go false e = (u.0, subst (λ (l : List ℕ). slice_get l u.0 ≡ Some p) (sym (other_list lists v w line (eqb-false w v e))) u.1)

uses_back : (lists : List (List ℕ)) (v line w p : ℕ) → v < length lists → UsedBy (added lists v line) w p → UsedBy lists w p ⊎ (line ≡ p)
uses_back lists v line w p lt u = go (w == v) refl where
  go : (t : Bool) → (w == v) ≡ t → UsedBy lists w p ⊎ (line ≡ p)
  go true e =
      let is : w ≡ v = eqb-true w v e in
      let old = slice_index_or lists v [] in
      let here : slice_get (slice_index_or (added lists v line) v []) u.0 ≡ Some p = subst (λ (x : ℕ). slice_get (slice_index_or (added lists v line) x []) u.0 ≡ Some p) is u.1 in
      elim (get_cases old line u.0 p (subst (λ (l : List ℕ). slice_get l u.0 ≡ Some p) (same_list lists v line lt) here)) [
        | inl is_old ↦ inl (subst (λ (x : ℕ). UsedBy lists x p) (sym is) (u.0, is_old))
        | inr is_new ↦ inr is_new.1
      ]
  go false e = inl (u.0, subst (λ (l : List ℕ). slice_get l u.0 ≡ Some p) (other_list lists v w line (eqb-false w v e)) u.1)

pub users_more : (top n : ℕ) (lines : List And) (lists : List (List ℕ)) (one : And) → AreUsers top n lines lists → slice_get lines n ≡ Some one → one.rhs0 / 2 ≤ top → one.rhs1 / 2 ≤ top
    → AreUsers top (n + 1) lines (added (added lists (one.rhs0 / 2) n) (one.rhs1 / 2) n)
users_more top n lines lists one u is le0 le1 =
    record {
      size = length-set (added lists (one.rhs0 / 2) n) (one.rhs1 / 2) (slice_index_or (added lists (one.rhs0 / 2) n) (one.rhs1 / 2) [] ++ n ∷ []) ∙ (size1 ∙ u.size);
      inside = λ x p used. elim (uses_back (added lists (one.rhs0 / 2) n) (one.rhs1 / 2) n x p lt1 used) [
        | inl before ↦ elim (uses_back lists (one.rhs0 / 2) n x p lt0 before) [ inl old ↦ (let lt = u.inside x p old in omega arith) | inr same ↦ omega arith ]
        | inr same ↦ omega arith
      ];
      first = λ line each lt at. first line each lt at (line == n) refl;
      second = λ line each lt at. second line each lt at (line == n) refl;
    }
  where
    lt0 : (one.rhs0 / 2) < length lists
    lt0 = let size = u.size in omega arith

    size1 : length (added lists (one.rhs0 / 2) n) ≡ length lists
    size1 = length-set lists (one.rhs0 / 2) (slice_index_or lists (one.rhs0 / 2) [] ++ n ∷ [])

    lt1 : (one.rhs1 / 2) < length (added lists (one.rhs0 / 2) n)
    lt1 = let size = u.size in let same = size1 in omega arith

    same_one : (line : ℕ) (each : And) → slice_get lines line ≡ Some each → line ≡ n → one ≡ each
    same_one line each at e = same_Some one each (sym is ∙ (ap (slice_get lines) (sym e) ∙ at))

    first : (line : ℕ) (each : And) → line < n + 1 → slice_get lines line ≡ Some each → (t : Bool) → (line == n) ≡ t → UsedBy (added (added lists (one.rhs0 / 2) n) (one.rhs1 / 2) n) (each.rhs0 / 2) line
    first line each lt at true e =
        let same : line ≡ n = eqb-true line n e in
        let gate = same_one line each at same in
        subst (λ (p : ℕ). UsedBy (added (added lists (one.rhs0 / 2) n) (one.rhs1 / 2) n) (each.rhs0 / 2) p) (sym same)
        (subst (λ (g : And). UsedBy (added (added lists (one.rhs0 / 2) n) (one.rhs1 / 2) n) (g.rhs0 / 2) n) gate (uses_kept (added lists (one.rhs0 / 2) n) (one.rhs1 / 2) n (one.rhs0 / 2) n lt1 (uses_new lists (one.rhs0 / 2) n lt0)))
    first line each lt at false e =
        let ne : line ≢ n = eqb-false line n e in
        uses_kept (added lists (one.rhs0 / 2) n) (one.rhs1 / 2) n (each.rhs0 / 2) line lt1 (uses_kept lists (one.rhs0 / 2) n (each.rhs0 / 2) line lt0 (u.first line each (omega arith) at))

    second : (line : ℕ) (each : And) → line < n + 1 → slice_get lines line ≡ Some each → (t : Bool) → (line == n) ≡ t → UsedBy (added (added lists (one.rhs0 / 2) n) (one.rhs1 / 2) n) (each.rhs1 / 2) line
    second line each lt at true e =
        let same : line ≡ n = eqb-true line n e in
        let gate = same_one line each at same in
        subst (λ (p : ℕ). UsedBy (added (added lists (one.rhs0 / 2) n) (one.rhs1 / 2) n) (each.rhs1 / 2) p) (sym same)
        (subst (λ (g : And). UsedBy (added (added lists (one.rhs0 / 2) n) (one.rhs1 / 2) n) (g.rhs1 / 2) n) gate (uses_new (added lists (one.rhs0 / 2) n) (one.rhs1 / 2) n lt1))
    second line each lt at false e =
        let ne : line ≢ n = eqb-false line n e in
        uses_kept (added lists (one.rhs0 / 2) n) (one.rhs1 / 2) n (each.rhs1 / 2) line lt1 (uses_kept lists (one.rhs0 / 2) n (each.rhs1 / 2) line lt0 (u.second line each (omega arith) at))
