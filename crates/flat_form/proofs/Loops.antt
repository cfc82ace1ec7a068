-- Rings of cells: one is there where each of some cells reads from another of them, and none where the cells have an order.
use Rattle.std.proofs.Common.{◌≡◌, ◌∙◌, ◌<◌, ◌≤◌, ◌+◌, ◌-◌, ◌⊎◌, inl, inr, ℕ, zero, suc, Bool, true, false, List, [], ◌∷◌, length, Some, refl, sym, subst, arith, get_or, set}
use Rattle.std.specs.Prelude.{slice_get, ⊤}
use Rattle.std.specs.List.{Contains}
use Rattle.std.proofs.lemmas.Bool.Decides.{leb_tells}
use Rattle.std.proofs.lemmas.Option.{slice_get_within}
use Rattle.rsfq_ids.specs.declared.circuit.Flat.{Flat}
use Rattle.rsfq_ids.specs.declared.circuit.Driver.TheVariants as driver
use Rattle.rsfq_ids.specs.declared.circuit.Reader.TheVariants as reader
use Rattle.rsfq_ids.specs.Circuit.{IsDrivenBy, IsPin, Reads}
use Rattle.rsfq_ids.specs.Offence.{ReadsFrom, Closes, IsLoop}
use Rattle.rsfq_ids.specs.Order.{IsOrder}
use Rattle.rsfq_ids.specs.WellFormed.{IsFlat}
use Rattle.flat_form.specs.Table.{jtl_table}
use Rattle.flat_form.specs.Form.{HasNoRing}
use Rattle.flat_form.specs.Walking.{first_output, unseen, IsDone}
use Rattle.flat_form.proofs.Lists.{contains_here, contains_there, contains_cons, contains_none, contained_got, taken_before}
use Rattle.flat_form.proofs.Circuits.{pin_there, cells_within, driven, reader_within}
use Rattle.flat_form.proofs.Marks.{count_set, unseen_within, seen_either, free_after, some_unseen}

-- ---- a ring where each of some cells reads from another of them

-- each of the cells reads from the one before it, the first from `before`
abbrev Chained : Flat → ℕ → List ℕ → Type 0
Chained flat before [] = ⊤
Chained flat before (cell ∷ cells) = ReadsFrom flat cell before × Chained flat cell cells

-- a chain closes behind a cell of it from which another cell reads
closes_at : (flat : Flat) (first before : ℕ) (cells : List ℕ) (last : ℕ) → Chained flat before cells → Contains (before ∷ cells) last → ReadsFrom flat first last → (ring : List ℕ) × Closes flat first before ring
closes_at flat first before [] last chain c reads = ([], subst (ReadsFrom flat first) (only (contains_cons before [] last c)) reads) where
  only : (before ≡ last) ⊎ Contains [] last → last ≡ before
  only (inl e) = sym e
  only (inr h) = absurd (contains_none last h)
closes_at flat first before (cell ∷ cells) last chain c reads = elim (contains_cons before (cell ∷ cells) last c) [
  | inl e ↦ ([], subst (ReadsFrom flat first) (sym e) reads)
  | inr h ↦ let deep = closes_at flat first cell cells last chain.1 h reads in (cell ∷ deep.0, (chain.0, deep.1))
]

-- the cells that are not marked, each of which reads from another of them
abbrev ReadInside : Flat → List Bool → Type 0
ReadInside flat marks = (cell : ℕ) → get_or marks cell true ≡ false → (before : ℕ) × (get_or marks before true ≡ false) × ReadsFrom flat cell before

-- one step back: what is known of the cells that were passed
further : (passed : List Bool) (next : ℕ) (path : List ℕ) (cell : ℕ) → Contains path cell ⊎ (get_or passed cell true ≡ false) → Contains (next ∷ path) cell ⊎ (get_or (set passed next true) cell true ≡ false)
further passed next path cell (inl c) = inl (contains_there next path cell c)
further passed next path cell (inr f) = elim (free_after passed next cell f) [ inl e ↦ inl (subst (Contains (next ∷ path)) (sym e) (contains_here next path)) | inr g ↦ inr g ]

-- a ring where a cell of the path drives what its first reads
closed_path : (flat : Flat) (head : ℕ) (chain : List ℕ) (next : ℕ) → Chained flat head chain → Contains (head ∷ chain) next → ReadsFrom flat head next → (ring : List ℕ) × IsLoop flat ring
closed_path flat head chain next chained c reads = let closed = closes_at flat head head chain next chained c reads in (head ∷ closed.0, closed.1)

-- Back along the pulses, from cell to cell, until one comes again: each step takes one that was not passed.
ring_from : (flat : Flat) (marks : List Bool) → ReadInside flat marks → (steps : ℕ) (passed : List Bool) (head : ℕ) (chain : List ℕ) → unseen passed ≡ steps → get_or marks head true ≡ false → Chained flat head chain
    → ((cell : ℕ) → get_or marks cell true ≡ false → Contains (head ∷ chain) cell ⊎ (get_or passed cell true ≡ false)) → (ring : List ℕ) × IsLoop flat ring
ring_from flat marks inside zero passed head chain left free chained known =
    let next = inside head free in
    elim (known next.0 next.1) [ inl c ↦ closed_path flat head chain next.0 chained c next.2 | inr f ↦ let n = count_set passed next.0 f in absurd (omega arith) ]
ring_from flat marks inside (suc steps) passed head chain left free chained known =
    let next = inside head free in
    elim (known next.0 next.1) [
      | inl c ↦ closed_path flat head chain next.0 chained c next.2
      | inr f ↦
          ring_from flat marks inside steps (set passed next.0 true) next.0 (head ∷ chain) (let n = count_set passed next.0 f in omega arith) next.1 (next.2, chained) (λ cell e. further passed next.0 (head ∷ chain) cell (known cell e))
    ]

ring_among : (flat : Flat) (marks : List Bool) → ReadInside flat marks → (cell : ℕ) → get_or marks cell true ≡ false → (ring : List ℕ) × IsLoop flat ring
ring_among flat marks inside cell free = ring_from flat marks inside (unseen (set marks cell true)) (set marks cell true) cell [] refl free tt (λ other e. known other (free_after marks cell other e)) where
  known : (other : ℕ) → (other ≡ cell) ⊎ (get_or (set marks cell true) other true ≡ false) → Contains (cell ∷ []) other ⊎ (get_or (set marks cell true) other true ≡ false)
  known other (inl e) = inl (subst (Contains (cell ∷ [])) (sym e) (contains_here cell []))
  known other (inr f) = inr f

-- ---- where the walk leaves cells over there is a ring

le_tells : (n m : ℕ) → (m < n) ⊎ (n ≤ m)
le_tells n m = elim (leb_tells n m) [ inl t ↦ inr t.1 | inr t ↦ let l = t.1 in inl (omega arith) ]

module _ (flat : Flat) (fits : IsFlat jtl_table flat) (seen : List Bool) (order : List ℕ) (done : IsDone flat seen order) where
  -- a cell that was not seen reads from another that was not seen
  left_reads : ReadInside flat seen
  left_reads cell free = go (pin_there flat fits cell within) where
    within : cell < length flat.cells
    within = let l = unseen_within seen cell free in let f = done.walk.flags in omega arith

    unlike : get_or seen cell false ≡ true → ⊥
    unlike e = let l = unseen_within seen cell free in let same = seen_either seen cell l in absurd cc

    back : (net before : ℕ) → Reads flat (reader.Pin cell 0) net → net ≡ first_output flat + before → before < length flat.cells → (b : Bool) → get_or seen before true ≡ b
        → (before : ℕ) × (get_or seen before true ≡ false) × ReadsFrom flat cell before
    back net before r is l true e =
        let from : ReadsFrom flat cell before = (0, 0, net, subst (λ (k : ℕ). IsDrivenBy flat k (driver.Out before 0)) (sym is) (driven flat fits before l), r) in
        let was : get_or seen before false ≡ true = sym (seen_either seen before (let f = done.walk.flags in omega arith)) ∙ e in
        let at = contained_got order before (done.walk.seen_in before was) in
        absurd (unlike (done.cells at.0 before cell (slice_get_within order at.0 before at.1) at.1 from))
    back net before r is l false e = (before, e, (0, 0, net, subst (λ (k : ℕ). IsDrivenBy flat k (driver.Out before 0)) (sym is) (driven flat fits before l), r))

    go : (net : ℕ) × IsPin flat cell (reader.Pin cell 0) net × (net < length flat.nets) → (before : ℕ) × (get_or seen before true ≡ false) × ReadsFrom flat cell before
    go (net, is_pin, l) = elim (le_tells (first_output flat) net) [
      | inl below ↦ absurd (unlike (done.inputs net below cell 0 (cell, is_pin)))
      | inr above ↦
          let before : ℕ = net - first_output flat in
          back net before (cell, is_pin) (omega arith) (let n = cells_within flat fits in omega arith) (get_or seen before true) refl
    ]

  pub ring_of : length order < length flat.cells → ¬ HasNoRing flat
  ring_of lt none =
      let some = some_unseen seen (let n = done.walk.count in omega arith) in
      let ring = ring_among flat seen left_reads some.0 some.1 in
      none ring.0 ring.1

-- ---- where there is an order there is no ring

-- a cell of a ring, or its first one, reads from one of it
reads_inside : (flat : Flat) (first before : ℕ) (cells : List ℕ) → Closes flat first before cells → (cell : ℕ) → (first ≡ cell) ⊎ Contains cells cell → (other : ℕ) × Contains (before ∷ cells) other × ReadsFrom flat cell other
reads_inside flat first before [] closes cell (inl e) = (before, contains_here before [], subst (λ (c : ℕ). ReadsFrom flat c before) e closes)
reads_inside flat first before [] closes cell (inr h) = absurd (contains_none cell h)
reads_inside flat first before (c ∷ cells) closes cell (inl e) = let deep = reads_inside flat first c cells closes.1 cell (inl e) in (deep.0, contains_there before (c ∷ cells) deep.0 deep.1, deep.2)
reads_inside flat first before (c ∷ cells) closes cell (inr h) = elim (contains_cons c cells cell h) [
  | inl e ↦ (before, contains_here before (c ∷ cells), subst (λ (k : ℕ). ReadsFrom flat k before) e closes.0)
  | inr g ↦ let deep = reads_inside flat first c cells closes.1 cell (inr g) in (deep.0, contains_there before (c ∷ cells) deep.0 deep.1, deep.2)
]

module _ (flat : Flat) (fits : IsFlat jtl_table flat) (order : List ℕ) (ordered : IsOrder flat order) where
  none_before : (head : ℕ) (chain : List ℕ) → Closes flat head head chain → (n place cell : ℕ) → place < n → slice_get order place ≡ Some cell → Contains (head ∷ chain) cell → ⊥
  none_before head chain closes zero place cell l e c = absurd (omega arith)
  none_before head chain closes (suc n) place cell l e c =
      let from = reads_inside flat head head chain closes cell (contains_cons head chain cell c) in
      let t = taken_before place order from.0 (ordered.after place cell from.0 e from.2) in
      none_before head chain closes n t.0 from.0 (let m = t.1 in omega arith) t.2 from.1

  pub no_ring_of : HasNoRing flat
  no_ring_of [] loop = loop
  no_ring_of (head ∷ chain) loop =
      let from = reads_inside flat head head chain loop head (inl refl) in
      let at = contained_got order head (ordered.each head (reader_within flat fits head from.0 from.2)) in
      none_before head chain loop (suc at.0) at.0 head (omega arith) at.1 (contains_here head chain)
