use Rattle.bind_hierarchy.proofs.Roots.{no_root, one_root, two_roots}
use Rattle.bind_hierarchy.proofs.top.only_root.Goals as goal

pub returns-in_default : goal.returns-in_default
returns-in_default c = no_root c.args.graph.now c.in_ok-targets.targets.items c.as_slice-marks.result.now c.as_slice-marks.ensures.value c.in_ok-targets.ensures.len c.in_ok-targets.ensures.marks c.in_default.ensures.none

pub returns-in-Some-first_unmarked : goal.returns-in-Some-first_unmarked
returns-in-Some-first_unmarked c =
    two_roots c.args.graph.now c.in_ok-targets.targets.items c.as_slice-marks.result.now c.as_slice-marks.ensures.value c.in_ok-targets.ensures.len c.in_ok-targets.ensures.marks c.in-Some.first c.in-Some-first_unmarked.second c.in-Some.ensures.within.1 c.in-Some.ensures.unmarked c.in-Some.ensures.first
    c.in-Some-first_unmarked.ensures.within.0 c.in-Some-first_unmarked.ensures.within.1 c.in-Some-first_unmarked.ensures.unmarked c.in-Some-first_unmarked.ensures.first

pub returns : goal.returns
returns c = one_root c.args.graph.now c.in_ok-targets.targets.items c.as_slice-marks.result.now c.as_slice-marks.ensures.value c.in_ok-targets.ensures.len c.in_ok-targets.ensures.marks c.in-Some.first c.in-Some.ensures.within.1 c.in-Some.ensures.unmarked c.in-Some.ensures.first c.in-None.ensures.none
