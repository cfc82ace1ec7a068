use Rattle.std.proofs.Common.{◌≡◌, ◌-◌, ℕ, List, [], ◌∷◌, ◌++◌, length, subst, sym, arith, rules, get_or}
use Rattle.graph_rings.proofs.Dropping.{popped, dropped_fewer, dropped_kept, dropped_rises}
use Rattle.graph_rings.proofs.search.drop_above.Goals as goal

pub loop-base-preserved : goal.loop-base-preserved
loop-base-preserved c =
    let read : get_or c.loop-base.bases.items (length c.loop-base.bases.items - 1) 0 ≡ c.in-Some.field-0.now = subst (λ (l : List ℕ). get_or l (length l - 1) 0 ≡ c.in-Some.field-0.now) c.deref.ensures.value (sym (c.in-Some.ensures.item.3.1 0)) in
    let e : c.loop-base.bases.items ≡ c.pop.new.self.items ++ c.in-Some.field-0.now ∷ [] = popped c.loop-base.bases.items c.pop.new.self.items c.pop.result c.in-Some.field-0.now c.pop.ensures.items (search rules) read in
    record {
      rises = dropped_rises c.loop-base.bases.items c.pop.new.self.items c.in-Some.field-0.now e c.loop-base.invariant.rises;
      fewer = λ x h. c.loop-base.invariant.fewer x (dropped_fewer c.loop-base.bases.items c.pop.new.self.items c.in-Some.field-0.now e x h);
      kept = λ x h le. dropped_kept c.loop-base.bases.items c.pop.new.self.items c.in-Some.field-0.now e x (λ same. omega (arith, same, le, c.if-base-limit.false)) (c.loop-base.invariant.kept x h le);
    }
