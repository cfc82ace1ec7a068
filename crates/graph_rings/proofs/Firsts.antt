-- The least reached node on a ring, by its mark.
use Rattle.std.proofs.Common.{◌≡◌, ◌∙◌, ◌<◌, inl, inr, ℕ, List, Bool, true, false, length, sym, subst, arith, get_or}
use Rattle.std.proofs.Math.ListN.{get_or-eq_default}
use Rattle.std.proofs.lemmas.Bool.{cases_lt}
use Rattle.graph_rings.specs.Graph.{Leads, Reaches, IsRingThrough, IsFirstRing, IsSurvey}

module _ (g : List (List ℕ)) (start : ℕ) (reached on_ring marks : List Bool) (order : List ℕ) (s : IsSurvey g start reached on_ring order) (same : marks ≡ on_ring) where
  unmarked : (node : ℕ) → get_or marks node false ≡ false → Reaches g start node → Leads g node node → ⊥
  unmarked node e r l = let no : true ≡ false = sym ((s.on_ring_is node).1 (r, l)) ∙ (subst (λ (m : List Bool). get_or m node false ≡ false) same e) in cc

  on : (node : ℕ) → get_or marks node false ≡ true → Reaches g start node × Leads g node node
  on node e = (s.on_ring_is node).0 (subst (λ (m : List Bool). get_or m node false ≡ true) same e)

  pub marked_below : (node : ℕ) → get_or marks node false ≡ true → node < length g
  marked_below node e = elim (cases_lt node (length on_ring)) [
    | inl l ↦ omega (arith, l, s.on_ring_len)
    | inr past ↦ absurd (let no : true ≡ false = sym (subst (λ (m : List Bool). get_or m node false ≡ true) same e) ∙ get_or-eq_default on_ring false past in cc)
  ]

  pub marked_leads : (node : ℕ) → get_or marks node false ≡ true → Leads g node node
  marked_leads node e = (on node e).1

  pub first_is : (node : ℕ) (ring : List ℕ) → get_or marks node false ≡ true → ((before : ℕ) → before < node → get_or marks before false ≡ false) → IsRingThrough g node ring → IsFirstRing g start ring
  first_is node ring e none through = record { node = node; through = through; reached = (on node e).0; least = λ other below r l. unmarked other (none other below) r l }

  pub none_is : ((node : ℕ) → get_or marks node false ≡ false) → (node : ℕ) → Reaches g start node → Leads g node node → ⊥
  none_is none node r l = unmarked node (none node) r l
