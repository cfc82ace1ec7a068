-- Walks in the graph of modules are chains of instances.
use Rattle.std.proofs.Common.{◌≡◌, ◌≢◌, ◌∙◌, ◌<◌, ◌↔◌, ◌⊎◌, inl, inr, ℕ, Bool, true, false, List, [], ◌∷◌, ◌++◌, Option, Some, None, length, take, refl, sym, ap, subst, get_or}
use Rattle.std.specs.Prelude.{slice_get, MatchOption, IfNone, IfSome}
use Rattle.std.specs.Option.{option_map}
use Rattle.std.specs.List.{AllPairs, Contains}
use Rattle.verilog_tree.specs.Trees.{Module}
use Rattle.graph_rings.specs.Graph.{HasEdge, IsWalk, Leads, Reaches, IsRing, IsRingThrough, IsFirstRing as IsFirstRingOf, IsSurvey}
use Rattle.bind_hierarchy.specs.Modules.{Instantiates, IsReached, Top, Inner, IsChain, IsOnRing}
use Rattle.bind_hierarchy.specs.Graph.{IsModuleGraph}
use Rattle.bind_hierarchy.specs.Reach.{IsFirstRing, IsReach}
use Rattle.bind_hierarchy.proofs.Inner.{some_same}

module _ (modules : List Module) (g : List (List ℕ)) (m : IsModuleGraph modules g) where
  chain_of : (a : ℕ) (rest : List ℕ) (b : ℕ) → IsWalk g a rest b → IsChain modules b (a ∷ rest)
  chain_of a [] b w = (m.edges a b).0 w
  chain_of a (x ∷ xs) b w = ((m.edges a x).0 w.0, chain_of x xs b w.1)

  walk_of : (a : ℕ) (rest : List ℕ) (b : ℕ) → IsChain modules b (a ∷ rest) → IsWalk g a rest b
  walk_of a [] b c = (m.edges a b).1 c
  walk_of a (x ∷ xs) b c = ((m.edges a x).1 c.0, walk_of x xs b c.1)

  reached_walk : (top a : ℕ) (rest : List ℕ) (b : ℕ) → IsReached modules top a → IsWalk g a rest b → IsReached modules top b
  reached_walk top a [] b r w = Inner a b r ((m.edges a b).0 w)
  reached_walk top a (x ∷ xs) b r w = reached_walk top x xs b (Inner a x r ((m.edges a x).0 w.0)) w.1

  reached_of : (top at : ℕ) → Reaches g top at → IsReached modules top at
  reached_of top at r = elim r [
    | inl same ↦ subst (λ (x : ℕ). IsReached modules top x) same Top
    | inr l ↦ reached_walk top top l.through at Top l.walk
  ]

  walk_end : (a : ℕ) (rest : List ℕ) (b c : ℕ) → IsWalk g a rest b → HasEdge g b c → IsWalk g a (rest ++ b ∷ []) c
  walk_end a [] b c w e = (w, e)
  walk_end a (x ∷ xs) b c w e = (w.0, walk_end x xs b c w.1 e)

  goes_on : (top outer inner : ℕ) → Reaches g top outer → HasEdge g outer inner → Reaches g top inner
  goes_on top outer inner r e = elim r [
    | inl same ↦ inr (record { through = []; walk = subst (λ (x : ℕ). HasEdge g x inner) (sym same) e })
    | inr l ↦ inr (record { through = l.through ++ outer ∷ []; walk = walk_end top l.through outer inner l.walk e })
  ]

  reaches_of : (top at : ℕ) → IsReached modules top at → Reaches g top at
  reaches_of top _ Top = inl refl
  reaches_of top _ (Inner outer inner r i) = goes_on top outer inner (reaches_of top outer r) ((m.edges outer inner).1 i)

  ring_on : (at : ℕ) → Leads g at at → IsOnRing modules at
  ring_on at l = (l.through, chain_of at l.through at l.walk)

  on_ring : (at : ℕ) → IsOnRing modules at → Leads g at at
  on_ring at r = record { through = r.0; walk = walk_of at r.0 at r.1 }

  first_of : (top : ℕ) (ring : List ℕ) → IsFirstRingOf g top ring → IsFirstRing modules top ring
  first_of top ring f = go ring f.through.ring_is f.through.first f.through.once where
    go : (l : List ℕ) → IsRing g l → slice_get l 0 ≡ Some f.node → AllPairs (λ a b. a ≢ b) l → IsFirstRing modules top l
    go [] r e once = absurd r
    go (a ∷ rest) r e once =
        let is : a ≡ f.node = some_same a f.node e in
        record {
          first = a;
          rest = rest;
          begins = refl;
          chain = chain_of a rest a r;
          once = once;
          reached = subst (λ (x : ℕ). IsReached modules top x) (sym is) (reached_of top f.node f.reached);
          least = λ other below r l. f.least other (subst (λ (x : ℕ). other < x) is below) (reaches_of top other r) (on_ring other l);
        }

  pub reach_is : (top : ℕ) (reached on_ring_flags : List Bool) (order : List ℕ) (ring : Option (List ℕ)) → IsSurvey g top reached on_ring_flags order → MatchOption ring ((node : ℕ) → Reaches g top node → Leads g node node → ⊥) (IsFirstRingOf g top) → IsReach modules top reached order ring
  reach_is top reached on_ring_flags order ring s found = record {
    flags = s.reached_len ∙ m.nodes;
    reached_is = λ at. (λ y. reached_of top at ((s.reached_is at).0 y), λ r. (s.reached_is at).1 (reaches_of top at r));
    order_is = λ at. (λ c. reached_of top at ((s.order_is at).0 c), λ r. (s.order_is at).1 (reaches_of top at r));
    once = s.once;
    after = λ place inner l none i. s.after place inner l (λ lead. none (ring_on (get_or order place 0) lead)) ((m.edges (get_or order place 0) inner).1 i);
    ring_is = go ring found;
  } where
    go : (o : Option (List ℕ)) → MatchOption o ((node : ℕ) → Reaches g top node → Leads g node node → ⊥) (IsFirstRingOf g top) → MatchOption o ((at : ℕ) → IsReached modules top at → IsOnRing modules at → ⊥) (IsFirstRing modules top)
    go None none = λ at r l. none at (reaches_of top at r) (on_ring at l)
    go (Some found_ring) first = first_of top found_ring first

-- what was found, seen by its items
pub found_by : {V : Type 0} (items : V → List ℕ) (P : Type 0) (Q : List ℕ → Type 0) (o : Option V) → IfNone o P → IfSome o (λ v. Q (items v)) → MatchOption (option_map items o) P Q
found_by items P Q None p q = p
found_by items P Q (Some v) p q = q
