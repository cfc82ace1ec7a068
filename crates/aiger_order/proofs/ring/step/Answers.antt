use Rattle.std.proofs.Common.{◌≡◌, ◌/◌, ◌∙◌, ℕ, inl, inr, get_or, refl, ap, sym, subst}
use Rattle.std.proofs.lemmas.Option.{get_or_from_slice_get}
use Rattle.golden_aig.specs.declared.graph.And.{And}
use Rattle.aiger_order.specs.Numbers.{Known}
use Rattle.aiger_order.specs.Ring.{IsLeft, IsStep}
use Rattle.aiger_order.proofs.Rings.{found}
use Rattle.aiger_order.proofs.ring.step.Goals as goal
use Rattle.aiger_order.proofs.ring.step.Goals.{then-knows, else-knows}

none : And
none = record { lhs = 0; rhs0 = 0; rhs1 = 0 }

pub returns-clause-left : goal.returns-clause-left
unfolding none
returns-clause-left c =
    let lines = c.args.lines.now in
    let names = c.args.numbering.now.names.items in
    let left = c.requires.left in
    let is = get_or_from_slice_get lines c.args.place left.0 none left.1 in
    let fed = c.requires.fed c.args.place left.0 left.1 in
    elim c.if-knows.branch [
      | then-knows w ↦
          let x : c.if-knows.operand ≡ left.0.rhs1 = w.operand-is ∙ ap (λ (g : And). g.rhs1) is in
          let known : Known names (left.0.rhs0 / 2) = subst (λ (g : And). Known names (g.rhs0 / 2)) is (c.knows.ensures.yes w.if-knows.true) in
          subst (λ (o : ℕ). IsLeft names lines (get_or c.args.definers.now (o / 2) 0)) (sym x)
          (found c.args.top c.args.place left.0.rhs1 names lines c.args.definers.now left.0 c.requires.definers left.1 (inr refl)
          (λ k. c.requires.stuck c.args.place (record { one = left.0; is = left.1; fresh = left.2; first = known; second = k })) fed.1).0
      | else-knows w ↦
          let x : c.if-knows.operand ≡ left.0.rhs0 = w.operand-is ∙ ap (λ (g : And). g.rhs0) is in
          subst (λ (o : ℕ). IsLeft names lines (get_or c.args.definers.now (o / 2) 0)) (sym x)
          (found c.args.top c.args.place left.0.rhs0 names lines c.args.definers.now left.0 c.requires.definers left.1 (inl refl)
          (subst (λ (g : And). ¬ Known names (g.rhs0 / 2)) is (c.knows.ensures.no w.if-knows.false)) fed.0).0
    ]

pub returns-clause-step : goal.returns-clause-step
unfolding none
returns-clause-step c =
    let lines = c.args.lines.now in
    let names = c.args.numbering.now.names.items in
    let left = c.requires.left in
    let is = get_or_from_slice_get lines c.args.place left.0 none left.1 in
    let fed = c.requires.fed c.args.place left.0 left.1 in
    elim c.if-knows.branch [
      | then-knows w ↦
          let x : c.if-knows.operand ≡ left.0.rhs1 = w.operand-is ∙ ap (λ (g : And). g.rhs1) is in
          let known : Known names (left.0.rhs0 / 2) = subst (λ (g : And). Known names (g.rhs0 / 2)) is (c.knows.ensures.yes w.if-knows.true) in
          subst (λ (o : ℕ). IsStep lines c.args.place (get_or c.args.definers.now (o / 2) 0)) (sym x)
          (found c.args.top c.args.place left.0.rhs1 names lines c.args.definers.now left.0 c.requires.definers left.1 (inr refl)
          (λ k. c.requires.stuck c.args.place (record { one = left.0; is = left.1; fresh = left.2; first = known; second = k })) fed.1).1
      | else-knows w ↦
          let x : c.if-knows.operand ≡ left.0.rhs0 = w.operand-is ∙ ap (λ (g : And). g.rhs0) is in
          subst (λ (o : ℕ). IsStep lines c.args.place (get_or c.args.definers.now (o / 2) 0)) (sym x)
          (found c.args.top c.args.place left.0.rhs0 names lines c.args.definers.now left.0 c.requires.definers left.1 (inl refl)
          (subst (λ (g : And). ¬ Known names (g.rhs0 / 2)) is (c.knows.ensures.no w.if-knows.false)) fed.0).1
    ]
