-- Numberings: none, and one variable more.
use Rattle.std.proofs.Common.{◌≡◌, ◌≢◌, inl, inr, ◌∙◌, ◌≤◌, ◌+◌, ℕ, Bool, true, false, suc, refl, ap, sym, subst, arith, List, [], ◌∷◌, ◌++◌, length, length-set, length-append, Option, None, Some}
use Rattle.std.specs.Prelude.{slice_get, slice_set, replicate, is_none, is_some, ◌==◌}
use Rattle.std.specs.List.{count_by}
use Rattle.std.proofs.lemmas.List.{length-replicate}
use Rattle.std.proofs.lemmas.Bool.{eqb-true, eqb-false}
use Rattle.std.proofs.lemmas.Option.{same_Some, none-some}
use Rattle.aiger_order.specs.Numbers.{Known, IsNumbering}
use Rattle.aiger_order.proofs.Lists.{get_more, get_last, get_cases, set_same, set_other, count_set, count_replicate, get_replicate, get_inside}

pub none_yet : (top : ℕ) → IsNumbering top [] (replicate (top + 1) None)
none_yet top = record {
  size = length-replicate (top + 1) None;
  sound = λ variable number e. absurd (none-some number (get_replicate (top + 1) None variable (Some number) e));
  complete = λ variable number e. absurd (none-some variable e);
  room = let all : count_by is_none (replicate (top + 1) blank_entry) ≡ top + 1 = count_replicate is_none (top + 1) None refl in omega arith;
} where
  blank_entry : Option ℕ
  blank_entry = None

-- a variable's entry says whether it has a number
pub entry_tells : (top : ℕ) (names : List ℕ) (numbers : List (Option ℕ)) (variable : ℕ) (entry : Option ℕ) → IsNumbering top names numbers → slice_get numbers variable ≡ Some entry
    → (is_some entry ≡ true → Known names variable) × (is_some entry ≡ false → ¬ Known names variable)
entry_tells top names numbers variable None n is = (λ e. absurd cc, λ _ known. none-some known.0 (same_Some None (Some known.0) (sym is ∙ n.complete variable known.0 known.1)))
entry_tells top names numbers variable (Some number) n is = (λ _. (number, n.sound variable number is), λ e. absurd cc)

blank : (top : ℕ) (names : List ℕ) (numbers : List (Option ℕ)) (variable : ℕ) → IsNumbering top names numbers → variable ≤ top → ¬ Known names variable → slice_get numbers variable ≡ Some None
blank top names numbers variable n le fresh =
    let many = n.size in
    let entry = get_inside numbers variable (omega arith) in
    go entry.0 entry.1
  where
    go : (o : Option ℕ) → slice_get numbers variable ≡ Some o → slice_get numbers variable ≡ Some None
    go None is = is
    go (Some number) is = absurd (fresh (number, n.sound variable number is))

pub one_more : (top : ℕ) (names : List ℕ) (numbers : List (Option ℕ)) (variable : ℕ) → IsNumbering top names numbers → variable ≤ top → ¬ Known names variable
    → IsNumbering top (names ++ variable ∷ []) (slice_set numbers variable (Some (length names)))
one_more top names numbers variable n le fresh =
    let size = n.size in
    let room = n.room in
    let here = blank top names numbers variable n le fresh in
    let counted : suc (count_by is_none (slice_set numbers variable (Some (length names)))) ≡ count_by is_none numbers = count_set is_none numbers variable None (Some (length names)) here refl refl in
    record {
      size = simp (length-set) size;
      sound = λ v k e. sound v k (v == variable) refl e;
      complete = λ v k e. elim (get_cases names variable k v e) [
        | inl is ↦ (let ne : variable ≢ v = (λ same. fresh (k, is ∙ ap Some (sym same))) in set_other numbers variable v (Some (length names)) ne ∙ n.complete v k is)
        | inr is ↦ subst (λ (w : ℕ). slice_get (slice_set numbers variable (Some (length names))) w ≡ Some (Some k)) is.1
            (subst (λ (m : ℕ). slice_get (slice_set numbers variable (Some (length names))) variable ≡ Some (Some m)) (sym is.0) (set_same numbers variable (Some (length names)) (omega arith)))
      ];
      room = simp (length-append) (omega arith);
    }
  where
    sound : (v k : ℕ) (t : Bool) → (v == variable) ≡ t → slice_get (slice_set numbers variable (Some (length names))) v ≡ Some (Some k) → slice_get (names ++ variable ∷ []) k ≡ Some v
    sound v k true t e =
        let same : v ≡ variable = eqb-true v variable t in
        let size = n.size in
        let there : slice_get (slice_set numbers variable (Some (length names))) variable ≡ Some (Some (length names)) = set_same numbers variable (Some (length names)) (omega arith) in
        let at : Some (Some (length names)) ≡ Some (Some k) = sym there ∙ (ap (slice_get (slice_set numbers variable (Some (length names)))) (sym same) ∙ e) in
        let number : length names ≡ k = same_Some (length names) k (same_Some (Some (length names)) (Some k) at) in
        ap (slice_get (names ++ variable ∷ [])) (sym number) ∙ (get_last names variable ∙ ap Some (sym same))
    sound v k false t e =
        let ne : v ≢ variable = eqb-false v variable t in
        get_more names (variable ∷ []) k v (n.sound v k (sym (set_other numbers variable v (Some (length names)) (λ same. ne (sym same))) ∙ e))
