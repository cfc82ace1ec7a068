-- ANDs, read and written.
use Rattle.std.proofs.Common.{◌≡◌, ◌≢◌, ◌≤◌, ◌-◌, ◌==◌, ℕ, Bool, cond, true, false, refl, ap, sym, subst, arith, List, Ok, Err}
use Rattle.std.specs.Prelude.{nat_lt, ◌||◌}
use Rattle.std.proofs.lemmas.Bool.{ltb-false, le-ltb, eqb-false, eqb-true}
use Rattle.golden_aig.specs.declared.graph.And.{And}
use Rattle.aiger_parts.specs.declared.fault.AigerWhy.TheVariants as why
use Rattle.aiger_parts.specs.Reading.{◌>>=◌, fault, difference_at, and_at}
use Rattle.aiger_read.specs.Spelling.{BeginsWithAnd, AndsAreRead}
use Rattle.aiger_read.proofs.WellFormed.{bind_ok, unless_ok, or_false, same_value, given}
use Rattle.aiger_read.proofs.Groups.{differences}

abbrev pair : And → List ℕ → And × List ℕ
pair one rest = (one, rest)

and_read : (lhs : ℕ) (bytes rest : List ℕ) (one : And) → and_at lhs bytes ≡ given (pair one rest) → BeginsWithAnd lhs bytes one rest
unfolding and_at
and_read lhs bytes rest one e =
    let first = bind_ok (difference_at bytes) (λ first. cond (first.0 == 0 || nat_lt lhs first.0) (Err (fault why.Order bytes)) (difference_at first.1) >>= λ second.
    cond (nat_lt (lhs - first.0) second.0) (Err (fault why.Order first.1)) (Ok (record { lhs = lhs; rhs0 = lhs - first.0; rhs1 = lhs - first.0 - second.0 }, second.1))) (pair one rest) e in
    let second = bind_ok (cond (first.0.0 == 0 || nat_lt lhs first.0.0) (Err (fault why.Order bytes)) (difference_at first.0.1)) (λ second.
    cond (nat_lt (lhs - first.0.0) second.0) (Err (fault why.Order first.0.1)) (Ok (record { lhs = lhs; rhs0 = lhs - first.0.0; rhs1 = lhs - first.0.0 - second.0 }, second.1))) (pair one rest) first.2 in
    let test = unless_ok (first.0.0 == 0 || nat_lt lhs first.0.0) (fault why.Order bytes) (difference_at first.0.1) second.0 second.1 in
    let both = or_false (first.0.0 == 0) (nat_lt lhs first.0.0) test.0 in
    let some : first.0.0 ≢ 0 = eqb-false first.0.0 0 both.0 in
    let le : first.0.0 ≤ lhs = ltb-false lhs first.0.0 both.1 in
    let made : And = record { lhs = lhs; rhs0 = lhs - first.0.0; rhs1 = lhs - first.0.0 - second.0.0 } in
    let last = unless_ok (nat_lt (lhs - first.0.0) second.0.0) (fault why.Order first.0.1) (Ok (pair made second.0.1)) (pair one rest) second.2 in
    let fits : second.0.0 ≤ lhs - first.0.0 = ltb-false (lhs - first.0.0) second.0.0 last.0 in
    let is = same_value (pair made second.0.1) (pair one rest) last.1 in
    let one_is : made ≡ one = ap (λ (p : And × List ℕ). p.0) is in
    let rest_is : second.0.1 ≡ rest = ap (λ (p : And × List ℕ). p.1) is in
    let here : BeginsWithAnd lhs bytes made second.0.1 = record {
      first = first.0.0;
      second = second.0.0;
      between = first.0.1;
      first_stands = (differences bytes first.0.1 first.0.0).0 first.1;
      second_stands = (differences first.0.1 second.0.1 second.0.0).0 test.1;
      lhs_is = refl;
      rhs0_is = omega arith;
      rhs1_is = omega arith;
      lower = omega arith;
    } in
    subst (λ (o : And). BeginsWithAnd lhs bytes o rest) one_is (subst (BeginsWithAnd lhs bytes made) rest_is here)

pub some_test : (first lhs : ℕ) → 1 ≤ first → first ≤ lhs → (first == 0 || nat_lt lhs first) ≡ false
some_test first lhs low high = go (first == 0) refl where
  go : (t : Bool) → (first == 0) ≡ t → (t || nat_lt lhs first) ≡ false
  go true is = let none : first ≡ 0 = eqb-true first 0 is in absurd (omega arith)
  go false is = le-ltb lhs first high

and_again : (lhs : ℕ) (bytes rest : List ℕ) (one : And) → BeginsWithAnd lhs bytes one rest → and_at lhs bytes ≡ given (pair one rest)
unfolding and_at
and_again lhs bytes rest one b =
    let low = b.lower in
    let sum0 = b.rhs0_is in
    let sum1 = b.rhs1_is in
    let rhs0 : lhs - b.first ≡ one.rhs0 = omega arith in
    let rhs1 : one.rhs0 - b.second ≡ one.rhs1 = omega arith in
    let one_read = (differences bytes b.between b.first).1 b.first_stands in
    let two_read = (differences b.between rest b.second).1 b.second_stands in
    let same : and_of lhs one.rhs0 one.rhs1 ≡ one = ap (λ (l : ℕ). and_of l one.rhs0 one.rhs1) (sym b.lhs_is) in
    rw (one_read, some_test b.first lhs low (omega arith), two_read, rhs0, rhs1, le-ltb one.rhs0 b.second (omega arith)) (ap (λ (o : And). given (pair o rest)) same)
  where
    and_of : ℕ → ℕ → ℕ → And
    and_of l r s = record { lhs = l; rhs0 = r; rhs1 = s }

pub ands : AndsAreRead
ands lhs bytes rest one = (and_read lhs bytes rest one, and_again lhs bytes rest one)
