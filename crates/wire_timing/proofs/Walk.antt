-- What is kept of the nets while the cells are passed in order.
use Rattle.std.proofs.Common.{◌≡◌, ℕ, ◌+◌, ◌*◌, ◌<◌, ◌≤◌, ◌⊎◌, ℤ, pos, ◌+ℤ◌, ◌≤ℤ◌, List, [], ◌∷◌, ◌++◌, length, get_or, set, take, map, refl, sym, ap, ◌∙◌, subst, arith, inl, inr, length-append, get_or-set_same, get_or-set_other}
use Rattle.std.proofs.lemmas.Int.{ints}
use Rattle.std.proofs.lemmas.Bool.{cases_eq}
use Rattle.std.proofs.lemmas.List.{map-append, length-set, length-take, get_or-take}
use Rattle.std.proofs.lemmas.List.Elements.{All-set, All-get_or, All-from_get_or}
use Rattle.std.proofs.lemmas.Option.{slice_get-get_or, get_or_from_slice_get, slice_get_within}
use Rattle.std.specs.Prelude.{slice_get, Option, Some, None, IfSome}
use Rattle.std.specs.Option.{option_map}
use Rattle.std.specs.List.{Contains}
use Rattle.rsfq_ids.specs.declared.table.CellRow.{CellRow}
use Rattle.rsfq_ids.specs.declared.circuit.Driver.{Driver}
use Rattle.rsfq_ids.specs.declared.circuit.Driver.TheVariants as driver
use Rattle.rsfq_ids.specs.declared.circuit.PortUse.TheVariants as port_use
use Rattle.rsfq_ids.specs.declared.circuit.Reader.{Reader}
use Rattle.rsfq_ids.specs.declared.circuit.Reader.TheVariants as reader
use Rattle.rsfq_ids.specs.declared.offence.PathArc.{PathArc}
use Rattle.rsfq_ids.specs.declared.offence.PathArc.TheVariants as arc
use Rattle.rsfq_ids.specs.Design.{Design}
use Rattle.rsfq_ids.specs.Time.{total}
use Rattle.rsfq_ids.specs.Circuit.{IsDrivenBy, IsPin, Reads, IsOf}
use Rattle.rsfq_ids.specs.Bench.{IsUsed}
use Rattle.rsfq_ids.specs.Path.{BeginsAtPort}
use Rattle.wire_timing.specs.declared.reach.Reach.{Reach}
use Rattle.wire_timing.specs.Wires.{AreWires}
use Rattle.wire_timing.specs.Reach.{HasBounds, Reaches, IsSmall, AreSmall, AreReached, StartsAt, AreStarted, IsPassed, advanced}
use Rattle.wire_timing.proofs.Lists.{zip_push, zip_at}
use Rattle.wire_timing.proofs.Shape.{all_at, inputs, net_at, net_is, row_fits, arrives, arrival_fits, driven, read_net}
use Rattle.wire_timing.proofs.Routes.{route_more, leads}
use Rattle.wire_timing.proofs.Delays.{total-append}

more_small : (limit : ℕ) (row : CellRow) (reach : Reach) → pos 0 ≤ℤ row.low → row.low ≤ℤ row.high → row.high ≤ℤ pos 1000000000 → IsSmall limit reach → IsSmall (limit + 1) (advanced row reach)
more_small limit row reach low order high small =
    let c = small.cells in
    let l = small.low in
    let o = small.order in
    let h = small.high in record { cells = omega arith; low = omega (arith, ints); order = omega (arith, ints); high = omega (arith, ints) }

still_small : (limit more : ℕ) (reach : Reach) → limit ≤ more → IsSmall limit reach → IsSmall more reach
still_small limit more reach le small =
    let c = small.cells in
    let h = small.high in
    let m : limit * 1000000000 ≤ more * 1000000000 = omega arith in record { cells = omega arith; low = small.low; order = small.order; high = omega (arith, ints) }

some_small : (limit more : ℕ) (found : Option Reach) → limit ≤ more → IfSome found (IsSmall limit) → IfSome found (IsSmall more)
some_small limit more None le small = tt
some_small limit more (Some reach) le small = still_small limit more reach le small

pub all_small : (limit more : ℕ) (reached : List (Option Reach)) → limit ≤ more → AreSmall limit reached → AreSmall more reached
all_small limit more reached le small = All-from_get_or (λ found. IfSome found (IsSmall more)) reached None (λ i l. some_small limit more (get_or reached i None) le (All-get_or (λ found. IfSome found (IsSmall limit)) reached i None l small))

taken_at : (i : ℕ) (xs : List ℕ) (x : ℕ) → Contains (take i xs) x → (k : ℕ) × (k < i) × (slice_get xs k ≡ Some x)
taken_at i xs x (k, within, is) =
    let count = length-take i xs in
    let below : k < i = omega arith in
    let inside : k < length xs = omega arith in
    (k, below, slice_get-get_or xs k x inside ∙ ap (λ (y : ℕ). Some y) (sym (get_or-take i xs k x below) ∙ is))

begins_more : (arcs : List PathArc) (a : PathArc) (port : ℕ) → BeginsAtPort arcs port → BeginsAtPort (arcs ++ a ∷ []) port
begins_more [] a port begins = absurd begins
begins_more (b ∷ arcs) a port begins = begins

-- a net has been reached
abbrev pub Known : Design → List (Option Reach) → ℕ → Type 0
Known design reached net = (reach : Reach) × (get_or reached net None ≡ Some reach) × Reaches design net reach

-- behind so many cells of the order
pub record IsWalked (design : Design) (order : List ℕ) (i : ℕ) (reached : List (Option Reach)) : Type 0 where
  pub count : length reached ≡ length design.flat.nets
  pub small : AreSmall (i + 1) reached
  pub started : (net port : ℕ) (low high : ℤ) → IsDrivenBy design.flat net (driver.Port port) → IsUsed design.bench port (port_use.Arrival low high) → Known design reached net
  pub passed : (k : ℕ) (cell : ℕ) → k < i → slice_get order k ≡ Some cell → Known design reached (inputs design + cell)

module _ (design : Design) (order : List ℕ) (wires : AreWires design order) where
  -- ---- the start

  start_small : (found : Option Reach) (from : Driver) → StartsAt design.bench from found → IfSome found (IsSmall 1)
  start_small None from starts = tt
  start_small (Some reach) from (tells, (none, is)) =
      let (low, high, order) = arrival_fits design wires.set_up wires.jtls reach.source reach.low reach.high is in
      let h = high.to in record { cells = omega arith; low = low.from; order = order; high = omega (arith, ints) }

  pub walk_starts : (reached : List (Option Reach)) → AreStarted design.flat design.bench reached → IsWalked design order 0 reached
  walk_starts reached starts = record {
    count = starts.count;
    small = All-from_get_or (λ found. IfSome found (IsSmall 1)) reached None (λ i l.
        let e = starts.count in
        start_small (get_or reached i None) (get_or design.flat.nets i (driver.Port 0)) (zip_at (StartsAt design.bench) design.flat.nets reached i (driver.Port 0) None starts.each (omega arith)));
    started = λ net port low high is in_use.
        let at = (zip_at (StartsAt design.bench) design.flat.nets reached net (driver.Port 0) None starts.each (slice_get_within design.flat.nets net (driver.Port port) is)).0 port low high (get_or_from_slice_get design.flat.nets net (driver.Port port) (driver.Port 0) is) in_use in (
          record { source = port; cells = 0; low = low; high = high },
          at,
          record {
            arcs = arc.Port port ∷ [];
            bounds = (low, high) ∷ [];
            route = (net, is, refl);
            begins = refl;
            bounded = (in_use, tt);
            cells = refl;
            low = omega (arith, ints);
            high = omega (arith, ints);
          },
        );
    passed = λ k cell l. absurd (omega arith);
  }

  -- ---- a step

  -- what a cell before the place reads is known
  read_known : (i cell : ℕ) (reached : List (Option Reach)) → IsWalked design order i reached → slice_get order i ≡ Some cell → (at net : ℕ) → Reads design.flat (reader.Pin cell at) net → Known design reached net
  read_known i cell reached walked here at net reads = go (driven design wires.set_up wires.jtls net (read_net design wires.set_up wires.jtls (reader.Pin cell at) net reads))
    where
      go : (d : Driver) × IsDrivenBy design.flat net d → Known design reached net
      go (driver.Port port, is) =
          let (low, high, in_use) = arrives design wires.set_up wires.jtls net port is (λ same. wires.clock net (reader.Pin cell at) (subst (λ (p : ℕ). IsDrivenBy design.flat net (driver.Port p)) same is) reads) in
          walked.started net port low high is in_use
      go (driver.Out before out, is) =
          let place = taken_at i order before (wires.ordered.after i cell before here (at, out, net, is, reads)) in
          let stands = net_is design wires.set_up wires.jtls net before out is in
          subst (λ (n : ℕ). Known design reached n) (sym stands.0) (walked.passed place.0 before place.1 place.2)

  -- what is known behind a cell
  known_behind : (row : CellRow) (cell net : ℕ) (reach : Reach) → IsOf design cell row → IsPin design.flat cell (reader.Pin cell 0) net → cell < length design.flat.cells → Reaches design net reach →
      Reaches design (inputs design + cell) (advanced row reach)
  known_behind row cell net reach of reads within reaches =
      let drives = net_at design wires.set_up wires.jtls cell within in
      let on = leads design wires.set_up wires.jtls net cell (inputs design + cell) row of reads drives in
      record {
        arcs = reaches.arcs ++ arc.Through cell 0 0 ∷ [];
        bounds = reaches.bounds ++ (row.low, row.high) ∷ [];
        route = route_more design reaches.arcs net (arc.Through cell 0 0) (inputs design + cell) reaches.route on;
        begins = begins_more reaches.arcs (arc.Through cell 0 0) reach.source reaches.begins;
        bounded = zip_push (HasBounds design) reaches.arcs reaches.bounds (arc.Through cell 0 0) (row.low, row.high) reaches.bounded (row, of, refl, refl);
        cells = (let e = length-append reaches.arcs (arc.Through cell 0 0 ∷ []) in let c = reaches.cells in omega arith);
        low = ap (λ (z : ℤ). z +ℤ row.low) reaches.low ∙ sym (ap total (map-append (λ (b : ℤ × ℤ). b.0) reaches.bounds ((row.low, row.high) ∷ [])) ∙ total-append design (map (λ (b : ℤ × ℤ). b.0) reaches.bounds) row.low);
        high = ap (λ (z : ℤ). z +ℤ row.high) reaches.high ∙ sym (ap total (map-append (λ (b : ℤ × ℤ). b.1) reaches.bounds ((row.low, row.high) ∷ [])) ∙ total-append design (map (λ (b : ℤ × ℤ). b.1) reaches.bounds) row.high);
      }

  -- what is known stays known where something known is written
  known_still : (reached : List (Option Reach)) (place : ℕ) (reach : Reach) → place < length reached → Reaches design place reach → (net : ℕ) → Known design reached net → Known design (set reached place (Some reach)) net
  known_still reached place reach within reaches net (found, is, has) = elim (cases_eq net place) [
    | inl same ↦ (reach, ap (λ (n : ℕ). get_or (set reached place (Some reach)) n None) same ∙ get_or-set_same reached place (Some reach) None within, subst (λ (n : ℕ). Reaches design n reach) (sym same) reaches)
    | inr other ↦ (found, get_or-set_other reached place net (Some reach) None other ∙ is, has)
  ]

  module _ (i cell : ℕ) (reached : List (Option Reach)) (walked : IsWalked design order i reached) (here : slice_get order i ≡ Some cell) where
    pub cell_within : cell < length design.flat.cells
    cell_within = all_at (λ (c : ℕ). c < length design.flat.cells) order i cell here wires.ordered.cells

    pub place_within : inputs design + cell < length reached
    place_within =
        let l = cell_within in
        let c = walked.count in slice_get_at_count (slice_get_within design.flat.nets (inputs design + cell) (driver.Out cell 0) (net_at design wires.set_up wires.jtls cell l)) c
      where
        slice_get_at_count : {n m k : ℕ} → k < n → m ≡ n → k < m
        slice_get_at_count l e = omega arith

    written : (behind : Option Reach) (reach : Reach) → behind ≡ Some reach → Reaches design (inputs design + cell) reach → IsSmall (i + 1 + 1) reach → IsWalked design order (i + 1) (set reached (inputs design + cell) behind)
    written behind reach is reaches small =
        subst (λ (b : Option Reach). IsWalked design order (i + 1) (set reached (inputs design + cell) b)) (sym is) (record {
          count = length-set reached (inputs design + cell) (Some reach) ∙ walked.count;
          small = All-set (λ found. IfSome found (IsSmall (i + 1 + 1))) reached (inputs design + cell) (Some reach) small (all_small (i + 1) (i + 1 + 1) reached (omega arith) walked.small);
          started = λ net port low high drives in_use. known_still reached _ reach place_within reaches net (walked.started net port low high drives in_use);
          passed = λ k other l at. passed_next k other (cases_eq k i) l at;
        })
      where
        passed_next : (k other : ℕ) → (k ≡ i) ⊎ (k ≡ i → ⊥) → k < i + 1 → slice_get order k ≡ Some other → Known design (set reached (inputs design + cell) (Some reach)) (inputs design + other)
        passed_next k other (inl same) l at =
            let e : Some cell ≡ Some other = sym here ∙ sym (ap (slice_get order) same) ∙ at in
            let f : cell ≡ other = cc in
            subst (λ (c : ℕ). Known design (set reached (inputs design + cell) (Some reach)) (inputs design + c)) f
            (reach, get_or-set_same reached (inputs design + cell) (Some reach) None place_within, reaches)
        passed_next k other (inr before) l at = known_still reached _ reach place_within reaches _ (walked.passed k other (omega arith) at)

    pub walk_on : (behind : Option Reach) → IsPassed design cell reached behind → IsWalked design order (i + 1) (set reached (inputs design + cell) behind)
    walk_on behind (row, net, of, reads, made) =
        let (reach, is, reaches) = read_known i cell reached walked here 0 net (cell, reads) in
        let fits = (row_fits design wires.set_up wires.jtls cell row of).row_fits in
        let within : net < length reached = (let l = read_net design wires.set_up wires.jtls (reader.Pin cell 0) net (cell, reads) in let c = walked.count in omega arith) in
        let small_at : IfSome (get_or reached net None) (IsSmall (i + 1)) = All-get_or (λ found. IfSome found (IsSmall (i + 1))) reached net None within walked.small in
        let small : IsSmall (i + 1) reach = subst (λ (found : Option Reach). IfSome found (IsSmall (i + 1))) is small_at in
        written behind (advanced row reach) (made ∙ ap (option_map (advanced row)) is) (known_behind row cell net reach of reads cell_within reaches)
        (more_small (i + 1) row reach fits.low.from fits.delays fits.high.to small)

  -- ---- the end

  pub walk_ends : (n : ℕ) (reached : List (Option Reach)) → length order ≤ n → n ≤ length order → IsWalked design order n reached → AreReached design reached
  walk_ends n reached up down walked = record {
    count = walked.count;
    small = all_small (n + 1) 100001 reached (let a = wires.ordered.once in let b = wires.set_up.flat_fits.cells in omega arith) walked.small;
    each = λ net by reads. known net by reads (driven design wires.set_up wires.jtls net (read_net design wires.set_up wires.jtls by net reads));
  }
    where
      known : (net : ℕ) (by : Reader) → Reads design.flat by net → (d : Driver) × IsDrivenBy design.flat net d → Known design reached net
      known net by reads (driver.Port port, is) =
          let (low, high, in_use) = arrives design wires.set_up wires.jtls net port is (λ same. wires.clock net by (subst (λ (p : ℕ). IsDrivenBy design.flat net (driver.Port p)) same is) reads) in
          walked.started net port low high is in_use
      known net by reads (driver.Out cell out, is) =
          let stands = net_is design wires.set_up wires.jtls net cell out is in
          let (k, within, at) = wires.ordered.each cell stands.2 in
          let here : slice_get order k ≡ Some cell = slice_get-get_or order k cell within ∙ ap (λ (c : ℕ). Some c) at in
          subst (λ (m : ℕ). Known design reached m) (sym stands.0) (walked.passed k cell (omega arith) here)
