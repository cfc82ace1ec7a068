-- What holds along the pulses of a circuit: of the nets of its inputs, and through each cell.
use Rattle.std.proofs.Common.{◌≡◌, ◌∙◌, ◌<◌, ◌+◌, ℕ, zero, suc, true, false, refl, sym, ap, subst, arith, List, [], ◌∷◌, length, get_or, Option, Some, None, ◌⊎◌, inl, inr}
use Rattle.std.specs.Prelude.{ℤ, slice_get}
use Rattle.std.specs.List.{All, AllZip, flat_map, range_with_len}
use Rattle.std.proofs.lemmas.Bool.{cases_Bool}
use Rattle.std.proofs.lemmas.List.Elements.{All-cons, All-nil, All-append}
use Rattle.std.proofs.lemmas.Option.{slice_get_within, slice_get-get_or}
use Rattle.rsfq_ids.specs.declared.table.CellRow.{CellRow}
use Rattle.rsfq_ids.specs.declared.table.Kind.{Kind}
use Rattle.rsfq_ids.specs.declared.table.Kind.TheVariants as kind
use Rattle.rsfq_ids.specs.declared.circuit.Bench.{Bench}
use Rattle.rsfq_ids.specs.declared.circuit.PortBit.{PortBit}
use Rattle.rsfq_ids.specs.declared.circuit.FlatCell.{FlatCell}
use Rattle.rsfq_ids.specs.declared.circuit.PortUse.{PortUse}
use Rattle.rsfq_ids.specs.declared.circuit.PortUse.TheVariants as port_use
use Rattle.rsfq_ids.specs.declared.circuit.Driver.{Driver}
use Rattle.rsfq_ids.specs.declared.circuit.Driver.TheVariants as driver
use Rattle.rsfq_ids.specs.declared.circuit.Reader.TheVariants as reader
use Rattle.rsfq_ids.specs.Design.{Design}
use Rattle.rsfq_ids.specs.Circuit.{IsDrivenBy, Reads, InputNets, is_gate, is_copying}
use Rattle.rsfq_ids.specs.Bench.{IsUsed}
use Rattle.rsfq_ids.specs.Numbering.{IsRanked}
use Rattle.rsfq_ids.specs.Formula.{Clause}
use Rattle.net_graph.specs.Graph.{NetGraph, IsGraph, IsRowOf}
use Rattle.clock_tree.specs.Clock.{design_of, IsClockNet}
use Rattle.clock_tree.proofs.Clocks.{clock_first, clock_more}
use Rattle.miter_cnf.specs.Variables.{IsGroup, IsGroupOf, NamesOutput, variable_at, variable_of}
use Rattle.miter_cnf.specs.Circuits.{IsNamedCircuit}
use Rattle.miter_cnf.proofs.Literals.{not_both, all_first, all_second}

-- ---- lists side by side

pub zip_at : {A B : Type 0} (R : A → B → Type 0) (xs : List A) (ys : List B) (k : ℕ) (d : A) (e : B) → AllZip R xs ys → k < length xs → R (get_or xs k d) (get_or ys k e)
zip_at R [] ys k d e all lt = absurd (omega arith)
zip_at R (x ∷ xs) [] k d e all lt = absurd all
zip_at R (x ∷ xs) (y ∷ ys) zero d e all lt = all.0
zip_at R (x ∷ xs) (y ∷ ys) (suc k) d e all lt = zip_at R xs ys k d e all.1 (omega arith)

pub zip_long : {A B : Type 0} (R : A → B → Type 0) (xs : List A) (ys : List B) → AllZip R xs ys → length ys ≡ length xs
zip_long R [] [] all = refl
zip_long R [] (b ∷ ys) all = absurd all
zip_long R (a ∷ xs) [] all = absurd all
zip_long R (a ∷ xs) (b ∷ ys) all = ap suc (zip_long R xs ys all.1)

pub range_long : (a n : ℕ) → length (range_with_len a n) ≡ n
range_long a zero = refl
range_long a (suc n) = ap suc (range_long (a + 1) n)

pub range_at : (a n k d : ℕ) → k < n → get_or (range_with_len a n) k d ≡ a + k
range_at a zero k d lt = absurd (omega arith)
range_at a (suc n) zero d lt = omega arith
range_at a (suc n) (suc k) d lt = let rest = range_at (a + 1) n k d (omega arith) in omega (arith, rest)

-- the items of some item's list
pub flat_at : {X Y : Type 0} (f : X → List Y) (P : Y → Type 0) (xs : List X) (k : ℕ) (d : X) → k < length xs → All P (flat_map f xs) → All P (f (get_or xs k d))
flat_at f P [] k d lt all = absurd (omega arith)
flat_at f P (x ∷ xs) zero d lt all = all_first P (f x) (flat_map f xs) all
flat_at f P (x ∷ xs) (suc k) d lt all = flat_at f P xs k d (omega arith) (all_second P (f x) (flat_map f xs) all)

pub all_flat : {X Y : Type 0} (f : X → List Y) (P : Y → Type 0) (xs : List X) → ((k : ℕ) (d : X) → k < length xs → All P (f (get_or xs k d))) → All P (flat_map f xs)
all_flat f P [] each = All-nil P
all_flat f P (x ∷ xs) each = All-append P (f x) (flat_map f xs) (each zero x (omega arith)) (all_flat f P xs (λ k d lt. each (suc k) d (omega arith)))

pub same_some : {X : Type 0} (x y : X) → Some x ≡ Some y → x ≡ y
same_some x y e = cc

-- nets that pins read, one by one
pub nets_all : (graph : NetGraph) (cell from count : ℕ) (nets : List ℕ) (P : ℕ → Type 0) → AllZip (λ pin net. Reads graph.flat (reader.Pin cell pin) net) (range_with_len from count) nets
    → ((pin net : ℕ) → pin < from + count → Reads graph.flat (reader.Pin cell pin) net → P net) → All P nets
nets_all graph cell from zero [] P read each = All-nil P
nets_all graph cell from zero (net ∷ nets) P read each = absurd read
nets_all graph cell from (suc count) [] P read each = absurd read
nets_all graph cell from (suc count) (net ∷ nets) P read each =
    All-cons P net nets (each from net (omega arith) read.0) (nets_all graph cell (from + 1) count nets P read.1 (λ pin other lt reads. each pin other (omega arith) reads))

-- the pins of a cell read one list of nets
pub same_nets : (graph : NetGraph) → IsGraph graph → (cell from count : ℕ) (nets others : List ℕ) → AllZip (λ pin net. Reads graph.flat (reader.Pin cell pin) net) (range_with_len from count) nets
    → AllZip (λ pin net. Reads graph.flat (reader.Pin cell pin) net) (range_with_len from count) others → nets ≡ others
same_nets graph is cell from zero [] [] read also = refl
same_nets graph is cell from zero [] (other ∷ others) read also = absurd also
same_nets graph is cell from zero (net ∷ nets) others read also = absurd read
same_nets graph is cell from (suc count) [] others read also = absurd read
same_nets graph is cell from (suc count) (net ∷ nets) [] read also = absurd also
same_nets graph is cell from (suc count) (net ∷ nets) (other ∷ others) read also =
    let one : net ≡ other = is.numbered.one_read (reader.Pin cell from) net other read.0 also.0 in
    let rest : nets ≡ others = same_nets graph is cell (from + 1) count nets others read.1 also.1 in
    cc

pub same_row : (graph : NetGraph) (cell : ℕ) (row other : CellRow) → IsRowOf graph cell row → IsRowOf graph cell other → row ≡ other
same_row graph cell row other one two = same_some row other (sym one ∙ two)

pub cell_within : (graph : NetGraph) (cell : ℕ) (row : CellRow) → IsRowOf graph cell row → cell < length graph.flat.cells
cell_within graph cell row of = within (slice_get graph.flat.cells cell) refl
  where
    within : (o : Option FlatCell) → slice_get graph.flat.cells cell ≡ o → cell < length graph.flat.cells
    within None none = (let no : None ≡ Some row = rw none at of in cc)
    within (Some c) there = slice_get_within graph.flat.cells cell c there

-- ---- along the pulses

module _ (graph : NetGraph) (is : IsGraph graph) (rank : ℕ → ℕ) (ranked : IsRanked graph.flat rank) (P : ℕ → Type 0)
    (ports : (net port : ℕ) → IsDrivenBy graph.flat net (driver.Port port) → P net)
    (passes : (cell : ℕ) (row : CellRow) → IsRowOf graph cell row → ((pin from : ℕ) → Reads graph.flat (reader.Pin cell pin) from → P from) → (out net : ℕ) → IsDrivenBy graph.flat net (driver.Out cell out) → P net) where
  served : (fuel cell pin from : ℕ) (source : Driver) → rank cell < suc fuel → Reads graph.flat (reader.Pin cell pin) from → IsDrivenBy graph.flat from source
      → ((before out : ℕ) → rank before < fuel → IsDrivenBy graph.flat from (driver.Out before out) → P from) → P from
  served fuel cell pin from (driver.Port port) lt reads driven go = ports from port driven
  served fuel cell pin from (driver.Out before out) lt reads driven go =
      let lower = ranked cell before (pin, out, from, driven, reads) in
      go before out (omega (arith, lower, lt)) driven

  passed : (fuel cell out net : ℕ) → rank cell < fuel → IsDrivenBy graph.flat net (driver.Out cell out) → P net
  passed zero cell out net lt driven = absurd (omega arith)
  passed (suc fuel) cell out net lt driven =
      let has = is.outputs net cell out driven in
      passes cell has.0 has.1
      (λ pin from reads.
      let source = is.numbered.has_driver (reader.Pin cell pin) from reads in
      served fuel cell pin from source.0 lt reads source.1 (λ before other lower on. passed fuel before other from lower on))
      out net driven

  holds_at : (net : ℕ) (source : Driver) → IsDrivenBy graph.flat net source → P net
  holds_at net (driver.Port port) driven = ports net port driven
  holds_at net (driver.Out cell out) driven = passed (suc (rank cell)) cell out net (omega arith) driven

  pub along : (net : ℕ) (source : Driver) → IsDrivenBy graph.flat net source → P net
  along net source driven = holds_at net source driven

-- ---- the named nets of a circuit

module _ (graph : NetGraph) (bench : Bench) (inputs : List ℕ) (variables : List ℕ) (clauses : List Clause) (circuit : IsNamedCircuit graph bench inputs variables clauses) where
  abbrev design : Design
  design = design_of graph bench

  -- the clauses of a cell
  pub group_at : (cell : ℕ) → cell < length graph.flat.cells → (group : List Clause) × IsGroup graph (length inputs) variables cell group × ((P : Clause → Type 0) → All P clauses → All P group)
  group_at cell lt =
      let groups = circuit.grouped.0 in
      let long = range_long 0 (length graph.flat.cells) in
      let many = zip_long (IsGroup graph (length inputs) variables) (range_with_len 0 (length graph.flat.cells)) groups circuit.grouped.1 in
      let at = zip_at (IsGroup graph (length inputs) variables) (range_with_len 0 (length graph.flat.cells)) groups cell 0 [] circuit.grouped.1 (omega (arith, long, lt)) in
      let here : get_or (range_with_len 0 (length graph.flat.cells)) cell 0 ≡ cell = range_at 0 (length graph.flat.cells) cell 0 lt ∙ omega arith in (
        get_or groups cell [],
        subst (λ (k : ℕ). IsGroup graph (length inputs) variables k (get_or groups cell [])) here at,
        λ P all. flat_at (λ (g : List Clause). g) P groups cell [] (omega (arith, many, long, lt)) (subst (All P) circuit.grouped.2 all),
      )

  -- the nets that a gate or merger reads
  joined_of : (k : Kind) (cell : ℕ) (row : CellRow) (group : List Clause) → is_copying k ≡ false → IsGroupOf k graph (length inputs) variables cell row group → (nets : List ℕ) × InputNets graph.flat cell row nets
  joined_of kind.Jtl cell row group joins is = cc
  joined_of kind.Split cell row group joins is = cc
  joined_of kind.Merge cell row group joins is = (is.0, is.1)
  joined_of kind.Gate cell row group joins is = (is.0, is.1)

  pub inputs_of : (cell : ℕ) (row : CellRow) → cell < length graph.flat.cells → IsRowOf graph cell row → is_copying row.kind ≡ false → (nets : List ℕ) × InputNets graph.flat cell row nets
  inputs_of cell row lt of joins =
      let at = group_at cell lt in
      let group = at.1 in
      let same = same_row graph cell group.0 row group.1 of in
      joined_of row.kind cell row at.0 joins (subst (λ (r : CellRow). IsGroupOf r.kind graph (length inputs) variables cell r at.0) same group.2)

  copied_from : (k : Kind) (cell variable : ℕ) → is_copying k ≡ true → NamesOutput k graph (length inputs) variables cell variable
      → (from : ℕ) × Reads graph.flat (reader.Pin cell 0) from × (variable ≡ variable_at variables from)
  copied_from kind.Jtl cell variable copies names = names
  copied_from kind.Split cell variable copies names = names
  copied_from kind.Merge cell variable copies names = cc
  copied_from kind.Gate cell variable copies names = cc

  own_of : (k : Kind) (cell variable : ℕ) → is_copying k ≡ false → NamesOutput k graph (length inputs) variables cell variable → variable ≡ variable_of graph (length inputs) cell
  own_of kind.Jtl cell variable joins names = cc
  own_of kind.Split cell variable joins names = cc
  own_of kind.Merge cell variable joins names = names
  own_of kind.Gate cell variable joins names = names

  names_of : (cell out net : ℕ) (row : CellRow) → IsRowOf graph cell row → IsDrivenBy graph.flat net (driver.Out cell out) → NamesOutput row.kind graph (length inputs) variables cell (variable_at variables net)
  names_of cell out net row of driven =
      let named = circuit.named.named net (driver.Out cell out) driven in
      subst (λ (r : CellRow). NamesOutput r.kind graph (length inputs) variables cell (variable_at variables net)) (same_row graph cell named.0 row named.1 of) named.2

  -- a JTL or splitter gives its outputs the variable of what it reads
  pub copy_named : (cell out net : ℕ) (row : CellRow) → IsRowOf graph cell row → is_copying row.kind ≡ true → IsDrivenBy graph.flat net (driver.Out cell out)
      → (from : ℕ) × Reads graph.flat (reader.Pin cell 0) from × (variable_at variables net ≡ variable_at variables from)
  copy_named cell out net row of copies driven = copied_from row.kind cell (variable_at variables net) copies (names_of cell out net row of driven)

  -- a gate or merger has its own
  pub joined_named : (cell out net : ℕ) (row : CellRow) → IsRowOf graph cell row → is_copying row.kind ≡ false → IsDrivenBy graph.flat net (driver.Out cell out)
      → variable_at variables net ≡ variable_of graph (length inputs) cell
  joined_named cell out net row of joins driven = own_of row.kind cell (variable_at variables net) joins (names_of cell out net row of driven)

  -- no gate or merger reads a net of the clock
  pub no_clock : (cell pin net : ℕ) (row : CellRow) (k : Kind) → row.kind ≡ k → is_copying k ≡ false → IsRowOf graph cell row → pin < length row.inputs → Reads graph.flat (reader.Pin cell pin) net → IsClockNet design net → ⊥
  no_clock cell pin net row kind.Jtl same joins of lt reads clock = cc
  no_clock cell pin net row kind.Split same joins of lt reads clock = cc
  no_clock cell pin net row kind.Merge same joins of lt reads clock =
      circuit.shape.clock_merged reads.0 clock.0 (record { place = (cell, pin, net, (row, of, same, lt), reads.1, clock.1) })
  no_clock cell pin net row kind.Gate same joins of lt reads clock =
      circuit.shape.clock_on_data reads.0 clock.0 (record { place = (cell, pin, net, (row, of, ap is_gate same, lt), reads.1, clock.1) })

  used_at : (port : ℕ) (bit : PortBit) → slice_get graph.flat.ports port ≡ Some bit → (used : PortUse) × IsUsed bench port used
  used_at port bit at =
      let lt = slice_get_within graph.flat.ports port bit at in
      let many = circuit.bench_fits.ports in
      (get_or bench.uses port port_use.Clock, slice_get-get_or bench.uses port port_use.Clock (omega (arith, lt, many)))

  module _ (rank : ℕ → ℕ) (ranked : IsRanked graph.flat rank) (Q : ℕ → Type 0)
      (of_port : (net port place : ℕ) (low high : ℤ) → IsDrivenBy graph.flat net (driver.Port port) → IsUsed bench port (port_use.Arrival low high) → slice_get inputs place ≡ Some port → Q net)
      (of_copy : (net cell out from : ℕ) (row : CellRow) → IsRowOf graph cell row → is_copying row.kind ≡ true → IsDrivenBy graph.flat net (driver.Out cell out) → Reads graph.flat (reader.Pin cell 0) from
      → variable_at variables net ≡ variable_at variables from → Q from → Q net)
      (of_joined : (net cell out : ℕ) (row : CellRow) (nets : List ℕ) → IsRowOf graph cell row → is_copying row.kind ≡ false → IsDrivenBy graph.flat net (driver.Out cell out) → InputNets graph.flat cell row nets → All Q nets → Q net) where
    abbrev P : ℕ → Type 0
    P net = IsClockNet design net ⊎ Q net

    port_passes : (net port : ℕ) (bit : PortBit) (used : PortUse) → IsDrivenBy graph.flat net (driver.Port port) → slice_get graph.flat.ports port ≡ Some bit → bit.output ≡ false → IsUsed bench port used → P net
    port_passes net port bit port_use.Clock driven at output used =
        let fits = circuit.bench_fits.uses port bit port_use.Clock at used in
        inl (clock_first design net (subst (λ (p : ℕ). IsDrivenBy graph.flat net (driver.Port p)) fits.0 driven))
    port_passes net port bit (port_use.Strobed strobe) driven at output used =
        let fits = circuit.bench_fits.uses port bit (port_use.Strobed strobe) at used in
        not_both bit.output fits.0 output
    port_passes net port bit (port_use.Arrival low high) driven at output used =
        let has = circuit.listed port low high used in
        inr (of_port net port has.0 low high driven used (slice_get-get_or inputs has.0 port has.1 ∙ ap Some has.2))

    ports_pass : (net port : ℕ) → IsDrivenBy graph.flat net (driver.Port port) → P net
    ports_pass net port driven =
        let bit = circuit.fits.inputs net port driven in
        let used = used_at port bit.0 bit.1 in
        port_passes net port bit.0 used.0 driven bit.1 bit.2 used.1

    data_at : (cell pin net : ℕ) (row : CellRow) → IsRowOf graph cell row → is_copying row.kind ≡ false → pin < length row.inputs → Reads graph.flat (reader.Pin cell pin) net → P net → Q net
    data_at cell pin net row of joins lt reads p = elim p [ inl clock ↦ absurd (no_clock cell pin net row row.kind refl joins of lt reads clock) | inr q ↦ q ]

    cell_passes : (cell : ℕ) (row : CellRow) → IsRowOf graph cell row → ((pin from : ℕ) → Reads graph.flat (reader.Pin cell pin) from → P from) → (out net : ℕ) → IsDrivenBy graph.flat net (driver.Out cell out) → P net
    cell_passes cell row of before out net driven = elim (cases_Bool (is_copying row.kind)) [
      | inl copies ↦
          (let copy = copy_named cell out net row of copies driven in
          elim (before 0 copy.0 copy.1) [
            | inl clock ↦ inl (clock_more graph circuit.fits bench copy.0 cell out net row of copies copy.1 driven clock)
            | inr q ↦ inr (of_copy net cell out copy.0 row of copies driven copy.1 copy.2 q)
          ])
      | inr joins ↦
          (let read = inputs_of cell row (cell_within graph cell row of) of joins in
          inr (of_joined net cell out row read.0 of joins driven read.1
          (nets_all graph cell 0 (length row.inputs) read.0 Q read.1 (λ pin from lt reads. data_at cell pin from row of joins (omega arith) reads (before pin from reads)))))
    ]

    -- a net that is driven is of the clock, or so
    pub named_along : (net : ℕ) (source : Driver) → IsDrivenBy graph.flat net source → IsClockNet design net ⊎ Q net
    named_along net source driven = along graph circuit.fits rank ranked P ports_pass cell_passes net source driven
