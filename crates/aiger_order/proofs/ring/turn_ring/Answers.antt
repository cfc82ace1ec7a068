use Rattle.std.proofs.Common.{◌≡◌, ◌++◌, ◌∷◌, [], ◌∙◌, ◌-◌, List, ℕ, length, take, drop, subst, sym, ap}
use Rattle.std.specs.Prelude.{slice_index}
use Rattle.aiger_order.specs.Numbers.{HoldsOnce}
use Rattle.aiger_order.specs.Ring.{IsRingOfAnds, IsChain}
use Rattle.aiger_order.proofs.Lists.{once_dropped}
use Rattle.aiger_order.proofs.Rings.{turn, take_rest, closed_part}
use Rattle.aiger_order.proofs.ring.turn_ring.Goals as goal

pub returns : goal.returns
returns c =
    let path = c.args.path.now in
    let begin = c.args.begin in
    let part = take (length path - begin) (drop begin path) in
    let part_is : part ≡ drop begin path = take_rest path begin in
    let m = c.find_least-least.result in
    let closed = subst (λ (xs : List ℕ). IsChain c.args.lines.now (xs ++ slice_index xs 0 ∷ [])) (sym part_is) (closed_part c.args.lines.now path begin c.requires.inside c.requires.closed) in
    let once = subst HoldsOnce (sym part_is) (once_dropped path begin c.requires.once) in
    let ring = turn c.args.lines.now part m c.find_least-least.ensures.inside closed once c.find_least-least.ensures.least in
    let items = c.of.ensures ∙ (c.in_ok-extend_from_slice.ensures.items ∙ ap (λ (xs : List ℕ). xs ++ take m part) (c.in_ok-ring.ensures.items ∙ take_rest part m)) in
    subst (IsRingOfAnds c.args.lines.now) (sym items) ring
