use Rattle.std.proofs.Common.{◌≡◌, ℕ, List, [], ◌∷◌, Bool, true, false, replicate, length, set, sym, subst, rules}
use Rattle.graph_rings.specs.Tour.{IsTour}
use Rattle.graph_rings.proofs.Touring.{toured}
use Rattle.graph_rings.proofs.ring.Tour.new.Goals as goal

pub returns : goal.returns
returns c =
    let g = c.args.graph.now in
    let node = c.args.node in
    let seen_is : c.in_ok-seen.seen.items ≡ replicate (length g) false = search rules in
    let path_is : c.push.new.self.items ≡ node ∷ [] = search rules in
    subst (λ (l : List ℕ). IsTour g node c.in_ok-left.left.items (set c.in_ok-seen.seen.items node true) l) (sym path_is)
    (subst (λ (l : List Bool). IsTour g node c.in_ok-left.left.items (set l node true) (node ∷ [])) (sym seen_is)
    (subst (λ (l : List ℕ). IsTour g node l (set (replicate (length g) false) node true) (node ∷ [])) (sym c.in_ok-left.ensures) (toured g node c.requires)))
