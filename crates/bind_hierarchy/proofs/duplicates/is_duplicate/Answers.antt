use Rattle.std.proofs.Common.{◌≡◌, ◌∙◌, ◌<◌, ◌↔◌, ℕ, Some, true, is_some, refl, sym, subst, arith}
use Rattle.std.specs.Prelude.{Bool}
use Rattle.name_table.specs.Places.{place_of}
use Rattle.bind_hierarchy.specs.Duplicates.{IsDuplicate}
use Rattle.bind_hierarchy.proofs.Inner.{some_same}
use Rattle.bind_hierarchy.proofs.Twice.{earlier_twice, twice_is}
use Rattle.bind_hierarchy.proofs.duplicates.is_duplicate.Goals as goal
use Rattle.bind_hierarchy.proofs.duplicates.is_duplicate.Goals.{in_default-via-in-Some+else-first-place, in_default-via-in_default}

pub returns-in-Some : goal.returns-in-Some
returns-in-Some c = λ modules table k named.
    let d : IsDuplicate modules table c.args.place c.args.name.now = earlier_twice modules table c.args.kinds.now k c.args.name.now c.args.place named c.in-Some.first (sym c.in-Some.ensures) c.if-first-place.true in
    (λ _. d, λ _. refl)

pub returns-in_default : goal.returns-in_default
returns-in_default c = λ modules table k named.
    let none : (first : ℕ) → place_of c.args.kinds.now.modules c.args.name.now ≡ Some first → first < c.args.place → ⊥ = λ (first : ℕ) (e : place_of c.args.kinds.now.modules c.args.name.now ≡ Some first) (l : first < c.args.place).
    elim c.in_default.branch [
      | in_default-via-in-Some+else-first-place w ↦ let same : w.in-Some.first ≡ first = some_same w.in-Some.first first (w.in-Some.ensures ∙ e) in omega (arith, same, l, w.if-first-place.false)
      | in_default-via-in_default w ↦ w.in_default.not-Some first (c.find.ensures ∙ e)
    ] in
    subst (λ (b : Bool). (b ≡ true) ↔ IsDuplicate modules table c.args.place c.args.name.now) (sym c.is_some.ensures)
    (twice_is modules table c.args.kinds.now k c.args.name.now c.args.place named c.find-in_default.result (sym c.find-in_default.ensures) none)
