-- A route passes each cell once at most, so it is short.
use Rattle.std.proofs.Common.{◌≡◌, inl, inr, ℕ, zero, suc, ◌+◌, ◌<◌, ◌≤◌, List, [], ◌∷◌, length, take, sym, ap, ◌∙◌, subst, arith}
use Rattle.std.proofs.lemmas.List.{length_push}
use Rattle.std.proofs.lemmas.Option.{slice_get_within, option_and_then_some}
use Rattle.std.specs.Prelude.{Some, slice_get}
use Rattle.std.specs.List.{Contains}
use Rattle.rsfq_ids.specs.declared.table.CellRow.{CellRow}
use Rattle.rsfq_ids.specs.declared.circuit.FlatCell.{FlatCell}
use Rattle.rsfq_ids.specs.declared.circuit.Driver.TheVariants as driver
use Rattle.rsfq_ids.specs.declared.circuit.Reader.TheVariants as reader
use Rattle.rsfq_ids.specs.declared.offence.PathArc.{PathArc}
use Rattle.rsfq_ids.specs.declared.offence.PathArc.TheVariants as arc
use Rattle.rsfq_ids.specs.Design.{Design}
use Rattle.rsfq_ids.specs.Circuit.{IsDrivenBy, Reads, IsOf}
use Rattle.rsfq_ids.specs.Path.{IsRoute}
use Rattle.rsfq_ids.specs.Order.{IsOrder}
use Rattle.lane_forest.proofs.Routes.{route_last, RouteBefore}

-- an item of the front of a list stands before
front_at : (xs : List ℕ) (n : ℕ) (x : ℕ) → Contains (take n xs) x → (k : ℕ) × (k < n) × (slice_get xs k ≡ Some x)
front_at [] zero x (k, l, e) = absurd (omega arith)
front_at [] (suc n) x (k, l, e) = absurd (omega arith)
front_at (y ∷ xs) zero x (k, l, e) = absurd (omega arith)
front_at (y ∷ xs) (suc n) x (zero, l, e) = (0, omega arith, ap Some e)
front_at (y ∷ xs) (suc n) x (suc k, l, e) = let f = front_at xs n x (k, omega arith, e) in (suc f.0, (let a = f.1 in omega arith), f.2)

contains_at : (xs : List ℕ) (x : ℕ) → Contains xs x → (k : ℕ) × (k < length xs) × (slice_get xs k ≡ Some x)
contains_at [] x (k, l, e) = absurd (omega arith)
contains_at (y ∷ xs) x (zero, l, e) = (0, omega arith, ap Some e)
contains_at (y ∷ xs) x (suc k, l, e) = let f = contains_at xs x (k, omega arith, e) in (suc f.0, (let a = f.1 in omega arith), f.2)

module _ (design : Design) (order : List ℕ) (is : IsOrder design.flat order) where
  longer : (arcs : List PathArc) (net : ℕ) (b : RouteBefore design arcs net) → length arcs ≡ length b.before + 1
  longer arcs net b = ap (λ (xs : List PathArc). length xs) b.parts ∙ length_push b.before (arc.Through b.cell b.pin b.out)

  -- the cell at the end of a route stands so far back in the order at least
  within : (fuel : ℕ) (arcs : List PathArc) (net cell out place : ℕ) → length arcs ≤ fuel → IsRoute design arcs net → IsDrivenBy design.flat net (driver.Out cell out) → slice_get order place ≡ Some cell → length arcs ≤ place + 2
  within zero arcs net cell out place l route driven at = omega arith
  within (suc fuel) arcs net cell out place l route driven at = elim (route_last design arcs net route) [
    | inl (port, one, from_port) ↦ (let n : length arcs ≡ 1 = ap (λ (xs : List PathArc). length xs) one in omega arith)
    | inr b ↦
        (let n = longer arcs net b in
        let e : Some (driver.Out b.cell b.out) ≡ Some (driver.Out cell out) = sym b.driven ∙ driven in
        let cells : b.cell ≡ cell = cc in
        let reads : Reads design.flat (reader.Pin cell b.pin) b.mid = subst (λ (c : ℕ). Reads design.flat (reader.Pin c b.pin) b.mid) cells b.reads in
        elim (route_last design b.before b.mid b.route) [
          | inl (port, one, from_port) ↦ (let m : length b.before ≡ 1 = ap (λ (xs : List PathArc). length xs) one in omega arith)
          | inr c ↦
              (let earlier = front_at order place c.cell (is.after place cell c.cell at (b.pin, c.out, b.mid, c.driven, reads)) in
              let m = within fuel b.before b.mid c.cell c.out earlier.0 (omega arith) b.route c.driven earlier.2 in
              let k = earlier.1 in omega arith)
        ])
  ]

  cell_below : (cell : ℕ) (row : CellRow) → IsOf design cell row → cell < length design.flat.cells
  cell_below cell row of = option_and_then_some (λ (c : FlatCell). slice_get design.table.rows c.row) (slice_get design.flat.cells cell) row of (λ c is row. slice_get_within design.flat.cells cell c is)

  pub route_short : (arcs : List PathArc) (net : ℕ) → IsRoute design arcs net → length arcs ≤ length design.flat.cells + 1
  route_short arcs net route = elim (route_last design arcs net route) [
    | inl (port, one, from_port) ↦ (let n : length arcs ≡ 1 = ap (λ (xs : List PathArc). length xs) one in omega arith)
    | inr b ↦
        (let at = contains_at order b.cell (is.each b.cell (cell_below b.cell b.row b.of)) in
        let n = within (length arcs) arcs net b.cell b.out at.0 (omega arith) route b.driven at.2 in
        let m = at.1 in
        let k = is.once in omega arith)
  ]
