-- Lists of nodes.
use Rattle.std.proofs.Common.{◌≡◌, ◌∙◌, ◌<◌, ◌≤◌, ◌⊎◌, inl, inr, ℕ, true, false, refl, sym, ap, subst, List, [], ◌∷◌, length, set}
use Rattle.std.specs.Prelude.{◌==◌, Option, Some, None, if◌then◌else◌}
use Rattle.std.proofs.lemmas.Bool.{cases_eq, eqb-true, eq-eqb, ne_eqb, or_cases, or_parts, or_left, or_right, or_from, false_from_ne_true}
use Rattle.std.proofs.lemmas.List.{get_or-set_same, get_or-set_other}
use Rattle.rsfq_ids.specs.Formula.{Clause}
use Rattle.proof_arena.specs.Step.{is_among}
use Rattle.cdcl_core.specs.declared.watches.Node.{Node}
use Rattle.cdcl_core.specs.Oldest.{AreOnce}
use Rattle.cdcl_core.specs.Watch.{node_at, head_at, IsChain, IsUsed, IsLinked}
use Rattle.cdcl_core.proofs.Few.{few_once}

pub differ_bools : true ≡ false → ⊥
differ_bools e = cc

pub not_in : (xs : List ℕ) (x : ℕ) → is_among xs x ≡ false → is_among xs x ≡ true → ⊥
not_in xs x out inside = differ_bools (sym inside ∙ out)

pub has_head : (n : ℕ) (rest : List ℕ) → is_among (n ∷ rest) n ≡ true
has_head n rest = or_left (n == n) (is_among rest n) (eq-eqb n n refl)

pub has_tail : (n m : ℕ) (rest : List ℕ) → is_among rest m ≡ true → is_among (n ∷ rest) m ≡ true
has_tail n m rest h = or_right (m == n) (is_among rest m) h

pub among_cases : (n m : ℕ) (rest : List ℕ) → is_among (n ∷ rest) m ≡ true → (m ≡ n) ⊎ (is_among rest m ≡ true)
among_cases n m rest h = elim (or_cases (m == n) (is_among rest m) h) [ inl e ↦ inl (eqb-true m n e) | inr r ↦ inr r ]

pub not_among : (n m : ℕ) (rest : List ℕ) → (m ≡ n → ⊥) → is_among rest m ≡ false → is_among (n ∷ rest) m ≡ false
not_among n m rest d r = or_from (m == n) (is_among rest m) (ne_eqb m n d) r

-- the nodes of a list watch its literal
pub chain_lit : (nodes : List Node) (lit : ℕ) (start : Option ℕ) (ns : List ℕ) (n : ℕ) → IsChain nodes lit start ns → is_among ns n ≡ true → (node_at nodes n).lit ≡ lit
chain_lit nodes lit start [] n c h = absurd (differ_bools (sym h))
chain_lit nodes lit start (m ∷ ns) n c h = elim (among_cases m n ns h) [
  | inl e ↦ ap (λ k. (node_at nodes k).lit) e ∙ c.1.0
  | inr r ↦ chain_lit nodes lit (node_at nodes m).next ns n c.1.1 r
]

-- a node that is not in a list may change
pub chain_kept : (nodes : List Node) (lit : ℕ) (start : Option ℕ) (ns : List ℕ) (n : ℕ) (v : Node) → IsChain nodes lit start ns → is_among ns n ≡ false → IsChain (set nodes n v) lit start ns
chain_kept nodes lit start [] n v c h = c
chain_kept nodes lit start (m ∷ ns) n v c h =
    let parts = or_parts (n == m) (is_among ns n) h in
    let differ : m ≡ n → ⊥ = λ e. let yes : (n == m) ≡ true = eq-eqb n m (sym e) in differ_bools (sym yes ∙ parts.0) in
    let same : node_at (set nodes n v) m ≡ node_at nodes m = get_or-set_other nodes n m v _ differ in (
      c.0,
      (
        ap (λ (x : Node). x.lit) same ∙ c.1.0,
        subst (λ (s : Option ℕ). IsChain (set nodes n v) lit s ns) (sym (ap (λ (x : Node). x.next) same)) (chain_kept nodes lit (node_at nodes m).next ns n v c.1.1 parts.1),
      ),
    )

-- a node first in the list of a literal
abbrev pub with_first : (ℕ → List ℕ) → ℕ → ℕ → ℕ → List ℕ
with_first chains to n lit = if lit == to then n ∷ chains lit else chains lit

first_of : (chains : ℕ → List ℕ) (to n lit : ℕ) → lit ≡ to → with_first chains to n lit ≡ n ∷ chains lit
first_of chains to n lit e = rw (eq-eqb lit to e) refl

other_of : (chains : ℕ → List ℕ) (to n lit : ℕ) → (lit ≡ to → ⊥) → with_first chains to n lit ≡ chains lit
other_of chains to n lit d = rw (ne_eqb lit to d) refl

-- what is in the new list
among_first : (chains : ℕ → List ℕ) (to n lit m : ℕ) → is_among (with_first chains to n lit) m ≡ true → (m ≡ n) ⊎ (is_among (chains lit) m ≡ true)
among_first chains to n lit m h = elim (cases_eq lit to) [
  | inl e ↦ among_cases n m (chains lit) (subst (λ (xs : List ℕ). is_among xs m ≡ true) (first_of chains to n lit e) h)
  | inr d ↦ inr (subst (λ (xs : List ℕ). is_among xs m ≡ true) (other_of chains to n lit d) h)
]

still_among : (chains : ℕ → List ℕ) (to n lit m : ℕ) → is_among (chains lit) m ≡ true → is_among (with_first chains to n lit) m ≡ true
still_among chains to n lit m h = elim (cases_eq lit to) [
  | inl e ↦ subst (λ (xs : List ℕ). is_among xs m ≡ true) (sym (first_of chains to n lit e)) (has_tail n m (chains lit) h)
  | inr d ↦ subst (λ (xs : List ℕ). is_among xs m ≡ true) (sym (other_of chains to n lit d)) h
]

first_chain : (heads : List (Option ℕ)) (nodes : List Node) (chains : ℕ → List ℕ) (n to lit : ℕ)
    → to < length heads → n < length nodes → ((l : ℕ) → IsChain nodes l (head_at heads l) (chains l)) → ((l : ℕ) → is_among (chains l) n ≡ false)
    → IsChain (set nodes n (record { lit = to; next = head_at heads to })) lit (head_at (set heads to (Some n)) lit) (with_first chains to n lit)
first_chain heads nodes chains n to lit below within chain apart =
    let v : Node = record { lit = to; next = head_at heads to } in
    elim (cases_eq lit to) [
      | inl e ↦
          let here : node_at (set nodes n v) n ≡ v = get_or-set_same nodes n v _ within in
          let rest : IsChain (set nodes n v) to (head_at heads to) (chains to) = chain_kept nodes to (head_at heads to) (chains to) n v (chain to) (apart to) in
          let whole : IsChain (set nodes n v) to (head_at (set heads to (Some n)) to) (n ∷ chains to) = (
            get_or-set_same heads to (Some n) None below,
            (
              ap (λ (x : Node). x.lit) here,
              subst (λ (s : Option ℕ). IsChain (set nodes n v) to s (chains to)) (sym (ap (λ (x : Node). x.next) here)) rest,
            ),
          ) in
          subst (λ (xs : List ℕ). IsChain (set nodes n v) lit (head_at (set heads to (Some n)) lit) xs) (sym (first_of chains to n lit e))
          (subst (λ l. IsChain (set nodes n v) l (head_at (set heads to (Some n)) l) (n ∷ chains l)) (sym e) whole)
      | inr d ↦
          let same : head_at (set heads to (Some n)) lit ≡ head_at heads lit = get_or-set_other heads to lit (Some n) None d in
          let kept : IsChain (set nodes n v) lit (head_at heads lit) (chains lit) = chain_kept nodes lit (head_at heads lit) (chains lit) n v (chain lit) (apart lit) in
          subst (λ (xs : List ℕ). IsChain (set nodes n v) lit (head_at (set heads to (Some n)) lit) xs) (sym (other_of chains to n lit d))
          (subst (λ (s : Option ℕ). IsChain (set nodes n v) lit s (chains lit)) (sym same) kept)
    ]

first_once : (chains : ℕ → List ℕ) (to n lit : ℕ) → ((l : ℕ) → AreOnce (chains l)) → ((l : ℕ) → is_among (chains l) n ≡ false) → AreOnce (with_first chains to n lit)
first_once chains to n lit once apart = elim (cases_eq lit to) [
  | inl e ↦ subst AreOnce (sym (first_of chains to n lit e)) (apart lit, once lit)
  | inr d ↦ subst AreOnce (sym (other_of chains to n lit d)) (once lit)
]

-- a loose node is put into a list
pub attached : (clauses : List Clause) (used : ℕ) (heads : List (Option ℕ)) (nodes : List Node) (chains : ℕ → List ℕ) (n : ℕ) (rest : List ℕ) (to : ℕ)
    → IsLinked clauses used heads nodes chains (n ∷ rest) → to < length heads → n < length nodes
    → IsLinked clauses used (set heads to (Some n)) (set nodes n (record { lit = to; next = head_at heads to })) (with_first chains to n) rest
attached clauses used heads nodes chains n rest to linked below within =
    let v : Node = record { lit = to; next = head_at heads to } in
    let gone : (l : ℕ) → is_among (chains l) n ≡ false = λ l. linked.apart n l (has_head n rest) in
    record {
      chain = λ lit. first_chain heads nodes chains n to lit below within linked.chain gone;
      member = λ lit m h. elim (among_first chains to n lit m h) [
        | inl e ↦ subst (IsUsed clauses used) (sym e) (linked.loose_member n (has_head n rest))
        | inr old ↦ linked.member lit m old
      ];
      once = λ lit. first_once chains to n lit linked.once gone;
      every = λ m u. elim (cases_eq m n) [
        | inl e ↦
            let here : node_at (set nodes n v) n ≡ v = get_or-set_same nodes n v _ within in
            let at : (node_at (set nodes n v) m).lit ≡ to = ap (λ k. (node_at (set nodes n v) k).lit) e ∙ ap (λ (x : Node). x.lit) here in
            let list : with_first chains to n (node_at (set nodes n v) m).lit ≡ n ∷ chains (node_at (set nodes n v) m).lit = first_of chains to n _ at in
            inr (subst (λ (xs : List ℕ). is_among xs m ≡ true) (sym list) (subst (λ k. is_among (n ∷ chains (node_at (set nodes n v) m).lit) k ≡ true) (sym e) (has_head n _)))
        | inr d ↦
            let same : node_at (set nodes n v) m ≡ node_at nodes m = get_or-set_other nodes n m v _ d in
            elim (linked.every m u) [
              | inl loose ↦ elim (among_cases n m rest loose) [ inl e ↦ absurd (d e) | inr r ↦ inl r ]
              | inr old ↦ inr (subst (λ (x : Node). is_among (with_first chains to n x.lit) m ≡ true) (sym same) (still_among chains to n (node_at nodes m).lit m old))
            ]
      ];
      loose_once = linked.loose_once.1;
      loose_member = λ m h. linked.loose_member m (has_tail n m rest h);
      apart = λ m lit h. false_from_ne_true (is_among (with_first chains to n lit) m) (λ yes. elim (among_first chains to n lit m yes) [
        | inl e ↦ not_in rest n linked.loose_once.0 (subst (λ k. is_among rest k ≡ true) e h)
        | inr old ↦ not_in (chains lit) m (linked.apart m lit (has_tail n m rest h)) old
      ]);
    }

-- the list of a literal, taken out
abbrev pub without : (ℕ → List ℕ) → ℕ → ℕ → List ℕ
without chains gone lit = if lit == gone then [] else chains lit

out_of : (chains : ℕ → List ℕ) (gone lit : ℕ) → lit ≡ gone → without chains gone lit ≡ []
out_of chains gone lit e = rw (eq-eqb lit gone e) refl

kept_of : (chains : ℕ → List ℕ) (gone lit : ℕ) → (lit ≡ gone → ⊥) → without chains gone lit ≡ chains lit
kept_of chains gone lit d = rw (ne_eqb lit gone d) refl

among_without : (chains : ℕ → List ℕ) (gone lit m : ℕ) → is_among (without chains gone lit) m ≡ true → (lit ≡ gone → ⊥) × (is_among (chains lit) m ≡ true)
among_without chains gone lit m h = elim (cases_eq lit gone) [
  | inl e ↦ let no : false ≡ true = subst (λ (xs : List ℕ). is_among xs m ≡ true) (out_of chains gone lit e) h in absurd (cc)
  | inr d ↦ (d, subst (λ (xs : List ℕ). is_among xs m ≡ true) (kept_of chains gone lit d) h)
]

pub detached : (clauses : List Clause) (used : ℕ) (heads : List (Option ℕ)) (nodes : List Node) (chains : ℕ → List ℕ) (gone : ℕ)
    → IsLinked clauses used heads nodes chains [] → gone < length heads → IsLinked clauses used (set heads gone None) nodes (without chains gone) (chains gone)
detached clauses used heads nodes chains gone linked below = record {
  chain = λ lit. elim (cases_eq lit gone) [
    | inl e ↦
        subst (λ (xs : List ℕ). IsChain nodes lit (head_at (set heads gone None) lit) xs) (sym (out_of chains gone lit e))
        (subst (λ l. head_at (set heads gone None) l ≡ None) (sym e) (get_or-set_same heads gone None None below))
    | inr d ↦
        let same : head_at (set heads gone None) lit ≡ head_at heads lit = get_or-set_other heads gone lit None None d in
        subst (λ (xs : List ℕ). IsChain nodes lit (head_at (set heads gone None) lit) xs) (sym (kept_of chains gone lit d))
        (subst (λ (s : Option ℕ). IsChain nodes lit s (chains lit)) (sym same) (linked.chain lit))
  ];
  member = λ lit m h. linked.member lit m (among_without chains gone lit m h).1;
  once = λ lit. elim (cases_eq lit gone) [
    | inl e ↦ subst AreOnce (sym (out_of chains gone lit e)) tt
    | inr d ↦ subst AreOnce (sym (kept_of chains gone lit d)) (linked.once lit)
  ];
  every = λ m u. elim (linked.every m u) [
    | inl none ↦ absurd (differ_bools (sym none))
    | inr old ↦ elim (cases_eq (node_at nodes m).lit gone) [
      | inl e ↦ inl (subst (λ l. is_among (chains l) m ≡ true) e old)
      | inr d ↦ inr (subst (λ (xs : List ℕ). is_among xs m ≡ true) (sym (kept_of chains gone (node_at nodes m).lit d)) old)
    ]
  ];
  loose_once = linked.once gone;
  loose_member = λ m h. linked.member gone m h;
  apart = λ m lit h. false_from_ne_true (is_among (without chains gone lit) m) (λ yes.
      let there = among_without chains gone lit m yes in
      let one = chain_lit nodes gone (head_at heads gone) (chains gone) m (linked.chain gone) h in
      let other = chain_lit nodes lit (head_at heads lit) (chains lit) m (linked.chain lit) there.1 in
      there.0 (sym other ∙ one));
}

-- a list has no more nodes than there are
pub chain_few : (clauses : List Clause) (used : ℕ) (heads : List (Option ℕ)) (nodes : List Node) (chains : ℕ → List ℕ) (lit : ℕ)
    → IsLinked clauses used heads nodes chains [] → length (chains lit) ≤ used
chain_few clauses used heads nodes chains lit linked = few_once (chains lit) used (linked.once lit) (λ q h. (linked.member lit q h).below)
