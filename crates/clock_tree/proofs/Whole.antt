-- What a graph and its clock give: a rank by the order, and one path to each clock pin.
use Rattle.std.proofs.Common.{◌≡◌, ℕ, zero, suc, ◌<◌, ◌≤◌, true, false, cond, List, [], ◌∷◌, length, take, Option, Some, None, sym, ap, ◌∙◌, subst, arith, inl, inr}
use Rattle.std.proofs.lemmas.Bool.{cases_lt}
use Rattle.std.proofs.lemmas.List.Sums.{sum_by-cons}
use Rattle.std.proofs.lemmas.Option.{same_Some}
use Rattle.std.specs.Prelude.{slice_get}
use Rattle.std.specs.Option.{option_map_or}
use Rattle.std.specs.List.{Contains, count_by}
use Rattle.rsfq_ids.specs.declared.table.CellRow.{CellRow}
use Rattle.rsfq_ids.specs.declared.table.Kind.{Kind}
use Rattle.rsfq_ids.specs.declared.table.Kind.TheVariants as kind
use Rattle.rsfq_ids.specs.declared.circuit.Bench.{Bench}
use Rattle.rsfq_ids.specs.declared.circuit.Pin.{Pin}
use Rattle.rsfq_ids.specs.declared.circuit.Reader.{Reader}
use Rattle.rsfq_ids.specs.declared.circuit.Reader.TheVariants as reader
use Rattle.rsfq_ids.specs.declared.offence.PathArc.{PathArc}
use Rattle.rsfq_ids.specs.declared.offence.PathArc.TheVariants as arc
use Rattle.rsfq_ids.specs.Design.{Design}
use Rattle.rsfq_ids.specs.Circuit.{IsPin, IsOf, row_of, is_gate, clock_pin}
use Rattle.rsfq_ids.specs.Path.{IsRoute, IsPath, IsClockRoute, passes}
use Rattle.rsfq_ids.specs.Numbering.{IsRanked}
use Rattle.net_graph.specs.Graph.{NetGraph, IsGraph}
use Rattle.clock_tree.specs.Clock.{design_of, HasClock, IsOnlyClockPath}
use Rattle.clock_tree.proofs.Clocks.{no_copy, clock_one}
use Rattle.clock_tree.proofs.Marking.{row_within}
use Rattle.clock_tree.proofs.Backward.{find_place, place_at, place_low}

-- ---- the place in the order is a rank

in_front : (xs : List ℕ) (n k x : ℕ) → k < n → slice_get xs k ≡ Some x → Contains (take n xs) x
in_front xs zero k x l is = absurd (omega arith)
in_front [] (suc n) k x l is = cc
in_front (y ∷ xs) (suc n) zero x l is = (0, omega arith, same_Some y x is)
in_front (y ∷ xs) (suc n) (suc k) x l is = let rest = in_front xs n k x (omega arith) is in (suc rest.0, (let a = rest.1 in omega arith), rest.2)

module _ (graph : NetGraph) (g : IsGraph graph) where
  abbrev pub rank_of : ℕ → ℕ
  rank_of cell = find_place graph.order cell

  pub at_rank : (cell : ℕ) → cell < length graph.flat.cells → slice_get graph.order (rank_of cell) ≡ Some cell
  at_rank cell within = place_at graph.order cell (g.least.each cell within)

  pub ranked : IsRanked graph.flat rank_of
  ranked cell before reads =
      let has = g.pins cell reads.0 reads.2 reads.4 in
      let within = row_within graph cell has.0 has.1 in
      place_low (rank_of cell) graph.order before (g.ordered.after (rank_of cell) cell before (at_rank cell within) reads)

  -- the order has no cell twice
  pub at_place : (place cell : ℕ) → slice_get graph.order place ≡ Some cell → rank_of cell ≡ place
  at_place place cell is =
      let next = g.least.next place cell is in
      let there = at_rank cell next.inside in
      elim (cases_lt (rank_of cell) place) [
        | inl less ↦ absurd (next.fresh (in_front graph.order place (rank_of cell) cell less there))
        | inr most ↦ elim (cases_lt place (rank_of cell)) [
          | inl more ↦ absurd ((g.least.next (rank_of cell) cell there).fresh (in_front graph.order (rank_of cell) place cell more is))
          | inr same ↦ omega arith
        ]
      ]

-- ---- the one path of a clock pin

gate_joins : (k : Kind) → cond (is_gate k) 1 0 ≤ cond (no_copy k) 1 0
gate_joins kind.Jtl = omega arith
gate_joins kind.Split = omega arith
gate_joins kind.Merge = omega arith
gate_joins kind.Gate = omega arith

row_joins : (o : Option CellRow) → cond (option_map_or (λ (row : CellRow). is_gate row.kind) o false) 1 0 ≤ cond (option_map_or (λ (row : CellRow). no_copy row.kind) o false) 1 0
row_joins None = omega arith
row_joins (Some row) = gate_joins row.kind

arc_joins : (design : Design) (a : PathArc) → cond (passes is_gate design a) 1 0 ≤ cond (passes no_copy design a) 1 0
arc_joins design (arc.Port port) = omega arith
arc_joins design (arc.Through cell pin out) = row_joins (row_of design cell)

gates_join : (design : Design) (arcs : List PathArc) → count_by (passes is_gate design) arcs ≤ count_by (passes no_copy design) arcs
gates_join design [] = omega arith
gates_join design (a ∷ arcs) =
    let head = arc_joins design a in
    let tail = gates_join design arcs in
    rw (sum_by-cons (λ x. cond (passes is_gate design x) 1 0) a arcs, sum_by-cons (λ x. cond (passes no_copy design x) 1 0) a arcs) (omega arith)

-- a clock route is a path
clock_path : (design : Design) (arcs : List PathArc) (net : ℕ) → IsClockRoute design arcs net → IsPath design arcs net
clock_path design arcs net clock =
    let few = gates_join design arcs in
    let none : count_by (passes no_copy design) arcs ≡ 0 = clock.alone in
    record { route = clock.route; one_gate = omega arith; clocked = λ some. absurd (omega arith) }

same_net : (graph : NetGraph) (pin net : ℕ) (by : Reader) (end : Pin) → IsPin graph.flat pin by net → slice_get graph.flat.pins pin ≡ Some end → end.net ≡ net
same_net graph pin net by end one two = let e : end ≡ record { reader = by; net = net } = same_Some end (record { reader = by; net = net }) (sym two ∙ one) in ap (λ (p : Pin). p.net) e

pub one_path : (graph : NetGraph) (bench : Bench) (gate : ℕ) (row : CellRow) (pin net : ℕ) → IsGraph graph → HasClock (design_of graph bench) → IsOf (design_of graph bench) gate row → is_gate row.kind ≡ true →
    IsPin graph.flat pin (reader.Pin gate (clock_pin row)) net → (path : List PathArc) × IsOnlyClockPath (design_of graph bench) pin gate path
one_path graph bench gate row pin net g (marks, clocked) of is_gate pin_is =
    let clock = clocked.clock_pins gate row net of is_gate (pin, pin_is) in (
      clock.0,
      record {
        is_path = (record { reader = reader.Pin gate (clock_pin row); net = net }, pin_is, clock_path (design_of graph bench) clock.0 net clock.1);
        is_clock = (row, net, of, (pin, pin_is), clock.1);
        only = λ other path. clock_one graph g bench clock.0 other net clock.1 (subst (IsRoute (design_of graph bench) other) (same_net graph pin net (reader.Pin gate (clock_pin row)) path.0 pin_is path.1) path.2.route);
      },
    )
