use Rattle.std.proofs.Common.{◌≡◌, ◌-◌, ℕ, List, Some, length, sym, subst}
use Rattle.std.specs.Prelude.{slice_get}
use Rattle.graph_rings.proofs.Finishing.{set_out, at_top}
use Rattle.graph_rings.proofs.surveying.run.Goals as goal

pub search-init : goal.search-init
search-init c =
    let e = c.in_ok-enter.ensures in
    let b = set_out c.args.graph.now c.args.start c.in_ok-search.search c.enter.new.self c.requires.start c.in_ok-search.ensures e.left e.marks e.path e.bases e.stack e.order in
    record { search = b.0; seen = b.1 }

pub step-requires-clause-top : goal.step-requires-clause-top
step-requires-clause-top c =
    at_top c.args.graph.now c.args.start c.search.search c.in-Some.field-0.now c.search.invariant.search
    (subst (λ (l : List ℕ). slice_get l (length l - 1) ≡ Some c.in-Some.field-0.now) c.deref.ensures.value (sym c.in-Some.ensures.value))

pub search-preserved : goal.search-preserved
search-preserved c = record {
  search = c.in_ok-step.ensures.search c.args.start c.search.invariant.search;
  seen = λ e. c.search.invariant.seen (c.in_ok-step.ensures.seen c.args.start e);
}
