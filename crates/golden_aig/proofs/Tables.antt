-- The table of values, as it is filled.
use Rattle.std.proofs.Common.{◌≡◌, ℕ, zero, suc, ◌+◌, ◌*◌, ◌/◌, ◌<◌, ◌≤◌, inl, inr, Bool, false, sym, ◌∙◌, ap₂, arith, List, [], ◌∷◌, ◌++◌, map, length, take, get_or, set, Some}
use Rattle.std.specs.Prelude.{◌&&◌, slice_get}
use Rattle.std.proofs.lemmas.List.{get_or_append_left, get_or-set_same, get_or-set_other, take_more_set, map_more}
use Rattle.std.proofs.lemmas.Bool.{cases_eq}
use Rattle.golden_aig.specs.declared.graph.Aig.{Aig}
use Rattle.golden_aig.specs.declared.graph.And.{And}
use Rattle.golden_aig.specs.Aig.{IsAig, IsAndAt, variables_of}
use Rattle.golden_aig.specs.Golden.{literal_value, and_value, value_of, golden}
use Rattle.golden_aig.specs.Table.{marked, Holds}
use Rattle.golden_aig.proofs.Values.{same_literal, value_of_input, value_of_and, value_is}

pub inputs_held : (aig : Aig) (word rest : List Bool) → IsAig aig → length word ≡ aig.inputs → Holds aig word aig.inputs (word ++ rest)
inputs_held aig word rest ok len zero le = sym (value_is aig word 0 ok)
inputs_held aig word rest ok len (suc place) le =
    get_or_append_left word rest false place (omega arith) ∙ sym (value_of_input aig word place ok (omega arith))

-- a literal of a variable that the table holds
pub literal_held : (aig : Aig) (word marks : List Bool) (last l : ℕ) → Holds aig word last marks → l / 2 ≤ last → literal_value (marked marks) l ≡ literal_value (value_of aig word) l
literal_held aig word marks last l held le = same_literal (marked marks) (value_of aig word) l (held (l / 2) le)

pub held_more : (aig : Aig) (word marks : List Bool) (place : ℕ) (one : And) (b : Bool) → IsAig aig → slice_get aig.ands place ≡ Some one → aig.inputs + place < length marks
    → Holds aig word (aig.inputs + place) marks → b ≡ and_value (marked marks) (Some one)
    → Holds aig word (aig.inputs + (place + 1)) (set marks (aig.inputs + place) b)
held_more aig word marks place one b ok is room held b_is zero le = sym (value_is aig word 0 ok)
held_more aig word marks place one b ok is room held b_is (suc v) le = elim (cases_eq v (aig.inputs + place)) [
  | inl same ↦ rw same (get_or-set_same marks (aig.inputs + place) b false room ∙ (b_is ∙ (ap₂ (λ (x y : Bool). x && y) first second ∙ sym (value_of_and aig word place one ok is))))
  | inr other ↦ get_or-set_other marks (aig.inputs + place) v b false other ∙ held (suc v) (omega arith)
] where
  here : IsAndAt aig.inputs place one
  here = ok.ands place one is

  first : literal_value (marked marks) one.rhs0 ≡ literal_value (value_of aig word) one.rhs0
  first = let h = here in literal_held aig word marks (aig.inputs + place) one.rhs0 held (omega arith)

  second : literal_value (marked marks) one.rhs1 ≡ literal_value (value_of aig word) one.rhs1
  second = let h = here in literal_held aig word marks (aig.inputs + place) one.rhs1 held (omega arith)

pub output_more : (f : ℕ → Bool) (literals : List ℕ) (into : List Bool) (place : ℕ) (b : Bool) → place < length into → place < length literals → take place into ≡ map f (take place literals)
    → b ≡ f (get_or literals place 0) → take (place + 1) (set into place b) ≡ map f (take (place + 1) literals)
output_more f literals into place b room lt so_far b_is =
    take_more_set into place b room ∙ (ap₂ (λ (xs : List Bool) (y : Bool). xs ++ y ∷ []) so_far b_is ∙ sym (map_more f literals place 0 lt))

-- the value of an output, from the whole table
pub output_value : (aig : Aig) (word marks : List Bool) (place : ℕ) → IsAig aig → Holds aig word (variables_of aig) marks → place < length aig.outputs
    → literal_value (marked marks) (get_or aig.outputs place 0) ≡ golden aig word (get_or aig.outputs place 0)
unfolding golden
output_value aig word marks place ok held lt =
    let top : get_or aig.outputs place 0 < 2 * (variables_of aig + 1) = ok.outputs place 0 lt in
    literal_held aig word marks (variables_of aig) (get_or aig.outputs place 0) held (omega arith)
