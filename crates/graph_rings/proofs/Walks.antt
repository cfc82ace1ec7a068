-- Walks are joined end to end, and stay in what no edge leaves.
use Rattle.std.proofs.Common.{inl, inr, ℕ, List, [], ◌∷◌, ◌++◌, refl, sym, subst}
use Rattle.graph_rings.specs.Graph.{HasEdge, IsWalk, Leads, Reaches}

walk_append : (g : List (List ℕ)) (a : ℕ) (xs : List ℕ) (b : ℕ) (ys : List ℕ) (c : ℕ) → IsWalk g a xs b → IsWalk g b ys c → IsWalk g a (xs ++ b ∷ ys) c
walk_append g a [] b ys c p q = (p, q)
walk_append g a (x ∷ xs) b ys c p q = (p.0, walk_append g x xs b ys c p.1 q)

pub edge_leads : (g : List (List ℕ)) (a b : ℕ) → HasEdge g a b → Leads g a b
edge_leads g a b e = record { through = []; walk = e }

pub leads_on : (g : List (List ℕ)) (a b c : ℕ) → Leads g a b → Leads g b c → Leads g a c
leads_on g a b c p q = record { through = p.through ++ b ∷ q.through; walk = walk_append g a p.through b q.through c p.walk q.walk }

pub reaches_on : (g : List (List ℕ)) (a b c : ℕ) → Reaches g a b → Leads g b c → Leads g a c
reaches_on g a b c p q = elim p [ inl same ↦ subst (λ (n : ℕ). Leads g n c) (sym same) q | inr l ↦ leads_on g a b c l q ]

pub reaches_edge : (g : List (List ℕ)) (a b c : ℕ) → Reaches g a b → HasEdge g b c → Leads g a c
reaches_edge g a b c p e = reaches_on g a b c p (edge_leads g b c e)

-- the first edge of a walk, and where it goes on
pub leads_first : (g : List (List ℕ)) (a b : ℕ) → Leads g a b → (next : ℕ) × HasEdge g a next × Reaches g next b
leads_first g a b l = go l.through l.walk where
  go : (xs : List ℕ) → IsWalk g a xs b → (next : ℕ) × HasEdge g a next × Reaches g next b
  go [] w = (b, w, inl refl)
  go (x ∷ xs) w = (x, w.0, inr (record { through = xs; walk = w.1 }))

walk_stays : (g : List (List ℕ)) (P : ℕ → Type 0) → ((x to : ℕ) → P x → HasEdge g x to → P to) → (a : ℕ) (xs : List ℕ) (b : ℕ) → P a → IsWalk g a xs b → P b
walk_stays g P closed a [] b p w = closed a b p w
walk_stays g P closed a (x ∷ xs) b p w = walk_stays g P closed x xs b (closed a x p w.0) w.1

pub leads_stays : (g : List (List ℕ)) (P : ℕ → Type 0) → ((x to : ℕ) → P x → HasEdge g x to → P to) → (a b : ℕ) → P a → Leads g a b → P b
leads_stays g P closed a b p l = walk_stays g P closed a l.through b p l.walk

pub reaches_stays : (g : List (List ℕ)) (P : ℕ → Type 0) → ((x to : ℕ) → P x → HasEdge g x to → P to) → (a b : ℕ) → P a → Reaches g a b → P b
reaches_stays g P closed a b p r = elim r [ inl same ↦ subst P same p | inr l ↦ leads_stays g P closed a b p l ]
