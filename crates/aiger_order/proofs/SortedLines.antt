-- ANDs made from lines, and one more.
use Rattle.std.proofs.Common.{◌≡◌, inl, inr, ◌∙◌, ◌<◌, ◌≤◌, ◌+◌, ◌*◌, ◌/◌, ◌%◌, ℕ, refl, ap, sym, subst, arith, List, [], ◌∷◌, ◌++◌, length, length-append, append_assoc, Some}
use Rattle.std.specs.Prelude.{slice_get, map, take}
use Rattle.std.proofs.Math.ListN.{get_or-append}
use Rattle.std.proofs.Math.Seq.{take-append_seam}
use Rattle.std.proofs.lemmas.List.{length-map, append-nil, take-append-le}
use Rattle.std.proofs.lemmas.Option.{slice_get_within}
use Rattle.golden_aig.specs.declared.graph.And.{And}
use Rattle.golden_aig.specs.Aig.{IsAndAt}
use Rattle.aiger_order.specs.Numbers.{file_literal, file_and}
use Rattle.aiger_order.specs.Listing.{AreLines}
use Rattle.aiger_order.specs.Ready.{IsReadyLine}
use Rattle.aiger_order.specs.Sorted.{IsBuilt, IsSorted, first_names}
use Rattle.aiger_order.proofs.Lists.{get_cases}
use Rattle.aiger_order.proofs.ReadyLines.{one_line}

pub same_literal : (names more : List ℕ) (l : ℕ) → l / 2 < length names → file_literal (names ++ more) l ≡ file_literal names l
same_literal names more l lt = ap (λ (n : ℕ). 2 * n + l % 2) (get_or-append names more 0 (l / 2) lt)

pub same_and : (names more : List ℕ) (one : And) → one.lhs / 2 < length names → one.rhs0 < one.lhs → one.rhs1 < one.lhs → file_and (names ++ more) one ≡ file_and names one
same_and names more one lt lt0 lt1 =
    rw (same_literal names more one.lhs lt, same_literal names more one.rhs0 (omega arith), same_literal names more one.rhs1 (omega arith)) refl

pub none_sorted : (inputs : List ℕ) (lines : List And) → IsSorted inputs lines (first_names inputs) []
none_sorted inputs lines = record { others = []; parts = sym (append-nil (first_names inputs)); count = refl; built = λ place one is. absurd cc; first = λ place line earlier one is. absurd cc }

pub sorted_count : (inputs : List ℕ) (lines : List And) (names : List ℕ) (ands : List And) → IsSorted inputs lines names ands → length names ≡ length inputs + 1 + length ands
sorted_count inputs lines names ands s =
    let count = s.count in
    let firsts : length (map (λ (l : ℕ). l / 2) inputs) ≡ length inputs = length-map inputs (λ (l : ℕ). l / 2) in
    ap length s.parts ∙ (length-append (first_names inputs) s.others ∙ omega arith)

pub sorted_more : (top : ℕ) (inputs : List ℕ) (lines : List And) (names : List ℕ) (ands : List And) (p : ℕ) (line one : And) → AreLines top lines → IsSorted inputs lines names ands → slice_get lines p ≡ Some line → IsBuilt names line one → ((earlier : ℕ) → IsReadyLine names lines earlier → p ≤ earlier)
    → IsSorted inputs lines (names ++ line.lhs / 2 ∷ []) (ands ++ one ∷ [])
sorted_more top inputs lines names ands p line one ok s is b least = record {
  others = s.others ++ line.lhs / 2 ∷ [];
  parts = ap (λ (ns : List ℕ). ns ++ line.lhs / 2 ∷ []) s.parts ∙ append_assoc (first_names inputs) s.others (line.lhs / 2 ∷ []);
  count = length-append s.others (line.lhs / 2 ∷ []) ∙ (ap (λ (n : ℕ). n + 1) s.count ∙ sym (length-append ands (one ∷ [])));
  built = built;
  first = first;
} where
  built : (place : ℕ) (each : And) → slice_get (ands ++ one ∷ []) place ≡ Some each → IsAndAt (length inputs) place each × ((l : ℕ) × (slice_get lines l ≡ Some (file_and (names ++ line.lhs / 2 ∷ []) each)))
  built place each at = elim (get_cases ands one place each at) [
    | inl old ↦
        let before = s.built place each old in
        let many = sorted_count inputs lines names ands s in
        let within = slice_get_within ands place each old in
        let here = before.0 in
        let lhs = here.lhs in
        let same = same_and names (line.lhs / 2 ∷ []) each (omega arith) here.rhs0 here.rhs1 in
        (here, (before.1.0, before.1.1 ∙ ap Some (sym same)))
    | inr new ↦
        let many = sorted_count inputs lines names ands s in
        let at_end = new.0 in
        let lhs = b.lhs in
        let low0 = b.rhs0 in
        let low1 = b.rhs1 in
        let made : IsAndAt (length inputs) place one = record { lhs = omega arith; rhs0 = low0; rhs1 = low1 } in
        subst (λ (g : And). IsAndAt (length inputs) place g × ((l : ℕ) × (slice_get lines l ≡ Some (file_and (names ++ line.lhs / 2 ∷ []) g)))) new.1
        (made, (p, is ∙ ap Some (sym b.same)))
  ]

  first : (place l earlier : ℕ) (each : And) → slice_get (ands ++ one ∷ []) place ≡ Some each → slice_get lines l ≡ Some (file_and (names ++ line.lhs / 2 ∷ []) each) → IsReadyLine (take (length inputs + place + 1) (names ++ line.lhs / 2 ∷ [])) lines earlier → l ≤ earlier
  first place l earlier each at there ready = elim (get_cases ands one place each at) [
    | inl old ↦
        let here = (s.built place each old).0 in
        let many = sorted_count inputs lines names ands s in
        let within = slice_get_within ands place each old in
        let lhs = here.lhs in
        let same = same_and names (line.lhs / 2 ∷ []) each (omega arith) here.rhs0 here.rhs1 in
        let before : take (length inputs + place + 1) (names ++ line.lhs / 2 ∷ []) ≡ take (length inputs + place + 1) names = take-append-le (length inputs + place + 1) names (line.lhs / 2 ∷ []) (omega arith) in
        s.first place l earlier each old (there ∙ ap Some same) (subst (λ (ns : List ℕ). IsReadyLine ns lines earlier) before ready)
    | inr new ↦
        let many = sorted_count inputs lines names ands s in
        let at_end = new.0 in
        let size : length inputs + place + 1 ≡ length names = omega arith in
        let before : take (length inputs + place + 1) (names ++ line.lhs / 2 ∷ []) ≡ names = ap (λ (n : ℕ). take n (names ++ line.lhs / 2 ∷ [])) size ∙ take-append_seam names (line.lhs / 2 ∷ []) in
        let line_is : file_and (names ++ line.lhs / 2 ∷ []) each ≡ line = ap (file_and (names ++ line.lhs / 2 ∷ [])) (sym new.1) ∙ b.same in
        let same : p ≡ l = one_line top lines p l line line ok is (there ∙ ap Some line_is) refl in
        let low = least earlier (subst (λ (ns : List ℕ). IsReadyLine ns lines earlier) before ready) in
        omega arith
  ]
