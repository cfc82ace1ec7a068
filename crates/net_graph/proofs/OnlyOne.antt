-- The order of a circuit is one, and so is its first net with two readers.
use Rattle.std.proofs.Common.{◌≡◌, ℕ, ◌<◌, ◌≤◌, List, [], ◌∷◌, ◌++◌, length, take, Some, refl, sym, ap, ◌∙◌, subst, arith, inl, inr}
use Rattle.std.proofs.lemmas.Bool.{cases_lt}
use Rattle.std.specs.Prelude.{slice_get}
use Rattle.std.specs.List.{Contains}
use Rattle.rsfq_ids.specs.declared.circuit.Flat.{Flat}
use Rattle.net_graph.specs.Graph.{IsFirstFanout, CanBeNext, IsLeastOrder, OrdersAreOne, FanoutsAreOne}

-- ---- orders

item_behind : (front : List ℕ) (cell : ℕ) (cells : List ℕ) → slice_get (front ++ cell ∷ cells) (length front) ≡ Some cell
item_behind [] cell cells = refl
item_behind (x ∷ front) cell cells = item_behind front cell cells

front_of : (front cells : List ℕ) → take (length front) (front ++ cells) ≡ front
front_of [] [] = refl
front_of [] (cell ∷ cells) = refl
front_of (x ∷ front) cells = ap (λ (xs : List ℕ). x ∷ xs) (front_of front cells)

one_more : (front : List ℕ) (cell : ℕ) (cells : List ℕ) → front ++ cell ∷ cells ≡ (front ++ cell ∷ []) ++ cells
one_more [] cell cells = refl
one_more (x ∷ front) cell cells = ap (λ (xs : List ℕ). x ∷ xs) (one_more front cell cells)

no_more : (front : List ℕ) → front ++ [] ≡ front
no_more [] = refl
no_more (x ∷ front) = ap (λ (xs : List ℕ). x ∷ xs) (no_more front)

module _ (flat : Flat) where
  comes_next : (front : List ℕ) (cell : ℕ) (cells : List ℕ) → IsLeastOrder flat (front ++ cell ∷ cells) → CanBeNext flat front cell
  comes_next front cell cells order = subst (λ (xs : List ℕ). CanBeNext flat xs cell) (front_of front (cell ∷ cells)) (order.next (length front) cell (item_behind front cell cells))

  is_least : (front : List ℕ) (cell other : ℕ) (cells : List ℕ) → IsLeastOrder flat (front ++ cell ∷ cells) → CanBeNext flat front other → cell ≤ other
  is_least front cell other cells order next = order.least (length front) cell other (item_behind front cell cells) (subst (λ (xs : List ℕ). CanBeNext flat xs other) (sym (front_of front (cell ∷ cells))) next)

  ended : (front : List ℕ) (cell : ℕ) → IsLeastOrder flat (front ++ []) → CanBeNext flat front cell → ⊥
  ended front cell order next = next.fresh (subst (λ (xs : List ℕ). Contains xs cell) (no_more front) (order.each cell next.inside))

  same_rest : (front one other : List ℕ) → IsLeastOrder flat (front ++ one) → IsLeastOrder flat (front ++ other) → one ≡ other
  same_rest front [] [] a b = refl
  same_rest front [] (cell ∷ other) a b = absurd (ended front cell a (comes_next front cell other b))
  same_rest front (cell ∷ one) [] a b = absurd (ended front cell b (comes_next front cell one a))
  same_rest front (cell ∷ one) (next ∷ other) a b =
      let low = is_least front cell next one a (comes_next front next other b) in
      let high = is_least front next cell other b (comes_next front cell one a) in
      let same : cell ≡ next = omega arith in
      let rest = same_rest (front ++ cell ∷ []) one other (subst (IsLeastOrder flat) (one_more front cell one) a)
      (subst (IsLeastOrder flat) (one_more front cell other) (subst (λ (x : ℕ). IsLeastOrder flat (front ++ x ∷ other)) (sym same) b)) in
      ap (λ (x : ℕ). x ∷ one) same ∙ ap (λ (xs : List ℕ). next ∷ xs) rest

pub orders_are_one : OrdersAreOne
orders_are_one flat one other a b = same_rest flat [] one other a b

-- ---- fanouts

no_earlier : (flat : Flat) (net next first second one other : ℕ) → IsFirstFanout flat net first second → IsFirstFanout flat next one other → net < next → ⊥
no_earlier flat net next first second one other a b less = let same = b.before net first second less a.first_reads a.second_reads in let rising = a.rising in omega arith

same_first : (flat : Flat) (net first second one other : ℕ) → IsFirstFanout flat net first second → IsFirstFanout flat net one other → first ≡ one
same_first flat net first second one other a b = elim (a.others one b.first_reads) [
  | inl same ↦ sym same
  | inr behind ↦ elim (b.others first a.first_reads) [
    | inl same ↦ same
    | inr after ↦ (let rising = a.rising in let rises = b.rising in absurd (omega arith))
  ]
]

same_second : (flat : Flat) (net first second one other : ℕ) → IsFirstFanout flat net first second → IsFirstFanout flat net one other → first ≡ one → other ≤ second
same_second flat net first second one other a b same = elim (b.others second a.second_reads) [
  | inl wrong ↦ (let rising = a.rising in absurd (omega arith))
  | inr behind ↦ behind
]

pub fanouts_are_one : FanoutsAreOne
fanouts_are_one flat net next first second one other a b = elim (cases_lt net next) [
  | inl less ↦ absurd (no_earlier flat net next first second one other a b less)
  | inr most ↦ elim (cases_lt next net) [
    | inl more ↦ absurd (no_earlier flat next net one other first second b a more)
    | inr least ↦
        (let nets : net ≡ next = omega arith in
        let b' : IsFirstFanout flat net one other = subst (λ (n : ℕ). IsFirstFanout flat n one other) (sym nets) b in
        let firsts = same_first flat net first second one other a b' in
        let low = same_second flat net first second one other a b' firsts in
        let high = same_second flat net one other first second b' a (sym firsts) in
        (nets, firsts, omega arith))
  ]
]
