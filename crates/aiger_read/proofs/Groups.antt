-- Differences in groups of seven bits, read and written.
use Rattle.std.proofs.Common.{◌≡◌, ◌∙◌, ◌<◌, ◌≤◌, ◌+◌, ◌-◌, ◌*◌, ◌^◌, ℕ, Bool, cond, true, false, zero, suc, refl, ap, sym, subst, arith, List, [], ◌∷◌, ◌++◌, length, Option, None, Some, Result, Ok, Err}
use Rattle.std.specs.Prelude.{nat_lt}
use Rattle.std.specs.Result.{result_ok}
use Rattle.std.proofs.lemmas.Bool.{ltb-true, ltb-false, lt-ltb, le-ltb}
use Rattle.aiger_parts.specs.declared.fault.Stop.{Stop}
use Rattle.aiger_parts.specs.declared.fault.AigerWhy.TheVariants as why
use Rattle.aiger_parts.specs.Reading.{fault, groups_at, with_low, is_cut, difference_or, difference_at}
use Rattle.aiger_read.specs.Spelling.{WriteGroups, BeginsWithDifference, DifferencesAreRead}

pub more_groups : (b high n : ℕ) (front : List ℕ) → 128 ≤ b → n + 128 ≡ b + 128 * high → WriteGroups front high → WriteGroups (b ∷ front) n
more_groups b high n [] le sum groups = absurd groups
more_groups b high n (c ∷ bs) le sum groups = (le, high, sum, groups)

record Grouped (most : ℕ) (bytes : List ℕ) (n : ℕ) (rest : List ℕ) : Type 0 where
  front : List ℕ
  parts : bytes ≡ front ++ rest
  few : length front ≤ most
  groups : WriteGroups front n
  small : n < 2 ^ 32

abbrev found : ℕ → List ℕ → Option (ℕ × List ℕ)
found n rest = Some (n, rest)

abbrev number_in : Option (ℕ × List ℕ) → ℕ
number_in None = 0
number_in (Some x) = x.0

abbrev rest_in : Option (ℕ × List ℕ) → List ℕ
rest_in None = []
rest_in (Some x) = x.1

pair_first : (a n : ℕ) (xs rest : List ℕ) → found a xs ≡ found n rest → a ≡ n
pair_first a n xs rest e = ap number_in e

pair_second : (a n : ℕ) (xs rest : List ℕ) → found a xs ≡ found n rest → xs ≡ rest
pair_second a n xs rest e = ap rest_in e

abbrev read : ℕ × List ℕ → Result (ℕ × List ℕ) Stop
read x = Ok x

read_value : (x y : ℕ × List ℕ) → read x ≡ read y → Some x ≡ Some y
read_value x y e = ap result_ok e

groups_ok : (most : ℕ) (bytes : List ℕ) (n : ℕ) (rest : List ℕ) → groups_at most bytes ≡ Some (n, rest) → Grouped most bytes n rest
groups_ok zero bytes n rest e = absurd cc
groups_ok (suc most) [] n rest e = absurd cc
groups_ok (suc most) (b ∷ bs) n rest e = go (nat_lt b 128) refl e (λ x. groups_ok most bs x.0 x.1) where
  low : (o : Option (ℕ × List ℕ)) → groups_at most bs ≡ o → 128 ≤ b → with_low b o ≡ Some (n, rest) → ((x : ℕ × List ℕ) → groups_at most bs ≡ Some (x.0, x.1) → Grouped most bs x.0 x.1) → Grouped (suc most) (b ∷ bs) n rest
  low None is le h more = absurd cc
  low (Some x) is le h more = test (nat_lt (b - 128 + 128 * x.0) (2 ^ 32)) refl h where
    test : (t : Bool) → nat_lt (b - 128 + 128 * x.0) (2 ^ 32) ≡ t → cond t (found (b - 128 + 128 * x.0) x.1) None ≡ found n rest → Grouped (suc most) (b ∷ bs) n rest
    test false t_is g = absurd cc
    test true t_is g =
        let value : b - 128 + 128 * x.0 ≡ n = pair_first (b - 128 + 128 * x.0) n x.1 rest g in
        let behind : x.1 ≡ rest = pair_second (b - 128 + 128 * x.0) n x.1 rest g in
        let below : b - 128 + 128 * x.0 < 2 ^ 32 = ltb-true (b - 128 + 128 * x.0) (2 ^ 32) t_is in
        let inner = more x is in
        let fit = inner.few in
        record {
          front = b ∷ inner.front;
          parts = ap (λ (r : List ℕ). b ∷ r) (inner.parts ∙ ap (λ (r : List ℕ). inner.front ++ r) behind);
          few = omega arith;
          groups = more_groups b x.0 n inner.front le (omega arith) inner.groups;
          small = omega arith;
        }

  go : (t : Bool) → nat_lt b 128 ≡ t → cond t (found b bs) (with_low b (groups_at most bs)) ≡ found n rest → ((x : ℕ × List ℕ) → groups_at most bs ≡ Some (x.0, x.1) → Grouped most bs x.0 x.1) → Grouped (suc most) (b ∷ bs) n rest
  go true is h more =
      let value : b ≡ n = pair_first b n bs rest h in
      let behind : bs ≡ rest = pair_second b n bs rest h in
      let lt : b < 128 = ltb-true b 128 is in
      record { front = b ∷ []; parts = ap (λ (r : List ℕ). b ∷ r) behind; few = omega arith; groups = (lt, sym value); small = omega arith }
  go false is h more = low (groups_at most bs) refl (ltb-false b 128 is) h more

pub groups_again : (front : List ℕ) (most n : ℕ) (rest : List ℕ) → length front ≤ most → WriteGroups front n → n < 2 ^ 32 → groups_at most (front ++ rest) ≡ Some (n, rest)
groups_again [] most n rest le groups small = absurd groups
groups_again (b ∷ []) zero n rest le groups small = absurd (omega arith)
groups_again (b ∷ []) (suc most) n rest le groups small =
    rw (lt-ltb b 128 groups.0) (ap (λ (m : ℕ). Some (m, rest)) (sym groups.1))
groups_again (b ∷ c ∷ bs) zero n rest le groups small = absurd (omega arith)
groups_again (b ∷ c ∷ bs) (suc most) n rest le (high_bit, high, sum, groups) small =
    let inner : groups_at most (c ∷ bs ++ rest) ≡ Some (high, rest) = groups_again (c ∷ bs) most high rest (omega arith) groups (omega arith) in
    let value : b - 128 + 128 * high ≡ n = omega arith in
    rw (le-ltb b 128 high_bit, inner, value, lt-ltb n (2 ^ 32) small) refl

pub cut_again : (front : List ℕ) (most n : ℕ) (rest : List ℕ) → length front ≤ most → WriteGroups front n → is_cut most (front ++ rest) ≡ false
cut_again [] most n rest le groups = absurd groups
cut_again (b ∷ []) zero n rest le groups = absurd (omega arith)
cut_again (b ∷ []) (suc most) n rest le groups = rw (lt-ltb b 128 groups.0) refl
cut_again (b ∷ c ∷ bs) zero n rest le groups = absurd (omega arith)
cut_again (b ∷ c ∷ bs) (suc most) n rest le (high_bit, high, sum, groups) = rw (le-ltb b 128 high_bit) (cut_again (c ∷ bs) most high rest (omega arith) groups)

pub differences : DifferencesAreRead
unfolding difference_at
differences bytes rest n = (λ e. ok (is_cut 5 bytes) (groups_at 5 bytes) refl e, again) where
  ok : (t : Bool) (o : Option (ℕ × List ℕ)) → groups_at 5 bytes ≡ o → cond t (Err (fault why.Truncated [])) (difference_or bytes o) ≡ Ok (n, rest) → BeginsWithDifference bytes n rest
  ok true o is h = absurd cc
  ok false None is h = absurd cc
  ok false (Some x) is h =
      let same : Some x ≡ Some (n, rest) = read_value x (n, rest) h in
      let g = groups_ok 5 bytes n rest (is ∙ same) in
      record { front = g.front; parts = g.parts; few = g.few; groups = g.groups; small = g.small }

  again : BeginsWithDifference bytes n rest → difference_at bytes ≡ Ok (n, rest)
  again d =
      let P : List ℕ → Type 0 = λ bs. cond (is_cut 5 bs) (Err (fault why.Truncated [])) (difference_or bs (groups_at 5 bs)) ≡ Ok (n, rest) in
      subst P (sym d.parts) (rw (cut_again d.front 5 n rest d.few d.groups, groups_again d.front 5 n rest d.few d.groups d.small) refl)
