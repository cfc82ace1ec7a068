use Rattle.std.proofs.Common.{◌≡◌, ◌∙◌, ◌<◌, ℕ, List, [], length, get_or, ap, sym, arith}
use Rattle.std.proofs.lemmas.List.{length-map, get_or-map}
use Rattle.golden_aig.specs.Matched.{name_of, names_of}
use Rattle.golden_aig.proofs.Texts.{holds_more}
use Rattle.golden_aig.proofs.matching.tabulate_names.Goals as goal

pub loop-place-preserved : goal.loop-place-preserved
loop-place-preserved c =
    let flat = c.args.flat.now in
    let ports = c.args.ports.now in
    let texts : List (List ℕ) = names_of flat ports in
    let i = c.loop-place.place in
    let many : length texts ≡ length ports = length-map ports (name_of flat) in
    let test = c.loop-place-test.true in
    let inside : i < length texts = omega arith in
    let name : c.port_name.result.now ≡ get_or texts i [] = c.port_name.ensures ∙ (ap (name_of flat) c.index-ports-place.is ∙ sym (get_or-map (name_of flat) ports i c.index-ports-place.result [] test)) in
    holds_more texts c.loop-place.table c.see.new.self c.port_name.result.now i inside name c.loop-place.invariant c.in_ok-see.ensures.seen
