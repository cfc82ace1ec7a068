use Rattle.std.proofs.Common.{◌≡◌, ◌∙◌, ◌++◌, ◌-◌, ℕ, List, length, take, drop, ap}
use Rattle.std.proofs.lemmas.List.{take_rest}
use Rattle.flat_aliases.proofs.Turning.{turned_ring}
use Rattle.flat_aliases.proofs.rings.name_ring.Goals as goal

pub returns : goal.returns
returns c =
    let ring = take (length c.args.path.now - c.args.first) (drop c.args.first c.args.path.now) in
    let front : c.extend_from_slice.new.self.items ≡ drop c.place_of_least-least.result (take (length c.args.path.now - c.args.first) (drop c.args.first c.args.path.now)) =
    c.in_ok-extend_from_slice.ensures.items
    ∙ ap (λ (xs : List ℕ). xs ++ take (length ring - c.place_of_least-least.result) (drop c.place_of_least-least.result ring)) c.new-named.ensures.items
    ∙ take_rest ring c.place_of_least-least.result in
    turned_ring c.args.links.now c.args.path.now (take (length c.args.path.now - c.args.first) (drop c.args.first c.args.path.now)) c.of.result c.args.first c.place_of_least-least.result
    (take_rest c.args.path.now c.args.first)
    (c.of.ensures ∙ c.in_ok-extend_from_slice-2.ensures.items ∙ ap (λ (xs : List ℕ). xs ++ take c.place_of_least-least.result (take (length c.args.path.now - c.args.first) (drop c.args.first c.args.path.now))) front)
    c.requires c.place_of_least-least.ensures.inside c.place_of_least-least.ensures.least
