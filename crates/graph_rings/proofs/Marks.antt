-- Marks: a node has one, and marking others keeps it.
use Rattle.std.proofs.Common.{◌≡◌, ◌≢◌, ◌∙◌, ◌<◌, ◌+◌, inl, inr, ℕ, Bool, List, [], ◌∷◌, ◌++◌, length, take, sym, subst, get_or, set}
use Rattle.std.specs.List.{Contains}
use Rattle.std.proofs.lemmas.Bool.{cases_eq, cases_lt}
use Rattle.std.proofs.lemmas.Grind.{get_or-set_at}
use Rattle.std.proofs.lemmas.List.{get_or-set_other, take_more}
use Rattle.std.proofs.lemmas.List.Elements.{Contains-push_cases, Contains-append_left, Contains-push}
use Rattle.std.proofs.Math.ListN.{get_or-eq_default}
use Rattle.graph_rings.specs.declared.search.Mark.{Mark}
use Rattle.graph_rings.specs.declared.search.Mark.TheVariants as mark
use Rattle.graph_rings.specs.Search.{mark_of}

-- a node beyond the marks is unseen
pub seen_below : (marks : List Mark) (node : ℕ) → (mark_of marks node ≡ mark.Unseen → ⊥) → node < length marks
seen_below marks node seen = elim (cases_lt node (length marks)) [ inl l ↦ l | inr g ↦ absurd (seen (get_or-eq_default marks mark.Unseen g)) ]

pub settled_within : (marks : List Mark) (nodes : List ℕ) (i : ℕ) (f : Bool) → i < length nodes → get_or nodes i 0 < length marks → ((node : ℕ) → Contains (take i nodes) node → mark_of marks node ≡ mark.Done f)
    → (node : ℕ) → Contains (take (i + 1) nodes) node → mark_of (set marks (get_or nodes i 0) (mark.Done f)) node ≡ mark.Done f
settled_within marks nodes i f l below old node c = elim (cases_eq node (get_or nodes i 0)) [
  | inl same ↦ get_or-set_at marks (get_or nodes i 0) node (mark.Done f) mark.Unseen same below
  | inr other ↦
      let split : Contains (take i nodes ++ get_or nodes i 0 ∷ []) node = subst (λ (xs : List ℕ). Contains xs node) (take_more nodes i 0 l) c in
      elim (Contains-push_cases (take i nodes) (get_or nodes i 0) node split) [
        | inl before ↦ get_or-set_other marks (get_or nodes i 0) node (mark.Done f) mark.Unseen other ∙ old node before
        | inr here ↦ absurd (other (sym here))
      ]
]

pub settled_without : (marks first : List Mark) (nodes : List ℕ) (i : ℕ) (f : Bool) → i < length nodes → ((node : ℕ) → (Contains (take i nodes) node → ⊥) → mark_of marks node ≡ mark_of first node)
    → (node : ℕ) → (Contains (take (i + 1) nodes) node → ⊥) → mark_of (set marks (get_or nodes i 0) (mark.Done f)) node ≡ mark_of first node
settled_without marks first nodes i f l old node none =
    let no : Contains (take i nodes ++ get_or nodes i 0 ∷ []) node → ⊥ = λ (c : Contains (take i nodes ++ get_or nodes i 0 ∷ []) node). none (subst (λ (xs : List ℕ). Contains xs node) (sym (take_more nodes i 0 l)) c) in
    let other : node ≢ get_or nodes i 0 = λ (e : node ≡ get_or nodes i 0). no (subst (λ (n : ℕ). Contains (take i nodes ++ get_or nodes i 0 ∷ []) n) (sym e) (Contains-push (take i nodes) (get_or nodes i 0))) in
    get_or-set_other marks (get_or nodes i 0) node (mark.Done f) mark.Unseen other ∙ old node (λ c. no (Contains-append_left (take i nodes) (get_or nodes i 0 ∷ []) node c))
