-- What the timing of wires finds, as the laws of pulses want it, and what they say of every run.
use Rattle.std.proofs.Common.{◌≡◌, ◌∙◌, ap, sym, subst, ◌+◌, ℕ, zero, suc, Bool, true, false, List, [], ◌∷◌, ◌++◌, get_or, ◌⊎◌, inl, inr, arith, refl}
use Rattle.std.specs.Option.{option_and_then}
use Rattle.std.specs.Prelude.{Option, Some, None, slice_get, cond, map, pos}
use Rattle.std.specs.List.{All, Contains, flat_map, enumerate_from}
use Rattle.std.proofs.lemmas.List.Elements.{All-contains, Contains-append_right, Contains-get_or}
use Rattle.rsfq_ids.specs.declared.table.CellRow.{CellRow}
use Rattle.rsfq_ids.specs.declared.circuit.FlatCell.{FlatCell}
use Rattle.rsfq_ids.specs.declared.circuit.PortBit.{PortBit}
use Rattle.rsfq_ids.specs.declared.circuit.Pin.{Pin}
use Rattle.rsfq_ids.specs.declared.circuit.Strobe.{Strobe}
use Rattle.rsfq_ids.specs.declared.circuit.Bench.{Bench}
use Rattle.rsfq_ids.specs.declared.circuit.PortUse.{PortUse}
use Rattle.rsfq_ids.specs.declared.circuit.PortUse.TheVariants as port_use
use Rattle.rsfq_ids.specs.WellFormed.{FitsUse}
use Rattle.rsfq_ids.specs.declared.circuit.Reader.TheVariants as reader
use Rattle.rsfq_ids.specs.Design.{Design}
use Rattle.rsfq_ids.specs.Circuit.{IsOf}
use Rattle.rsfq_ids.specs.Bench.{IsUsed}
use Rattle.rsfq_ids.specs.Path.{HasDepth, IsPath}
use Rattle.rsfq_ids.specs.Offence.{HasNoWindow}
use Rattle.rsfq_ids.specs.Ready.{IsSetUp}
use Rattle.rsfq_ids.specs.Signed.{HasAllDepths}
use Rattle.rsfq_ids.specs.Order.{IsOrder}
use Rattle.pulse_laws.specs.Wires.{IsWired, IsWireFrom, AreEnds, depths_of, WiresAreSigned}
use Rattle.pulse_laws.specs.Statements.{OrderIsFree}
use Rattle.flat_form.specs.Bench.{IsTimeable}
use Rattle.wire_timing.specs.declared.WireDepth.{WireDepth}
use Rattle.wire_timing.specs.Wires.{outputs_of, IsWireDepth}
use Rattle.signoff.specs.Headline.{ShowsInput, EveryRunShows}
use Rattle.signoff.proofs.Shown.{item_beside}

-- ---- lists

-- an item of a list that was made item by item comes from one
contained_map : {X Y : Type 0} (f : X → Y) (xs : List X) (y : Y) → Contains (map f xs) y → (x : X) × Contains xs x × (f x ≡ y)
contained_map f [] y at = absurd (let below = at.1 in omega arith)
contained_map f (x ∷ xs) y (zero, below, is) = (x, (0, omega arith, refl), is)
contained_map f (x ∷ xs) y (suc i, below, is) =
    let (found, at, same) = contained_map f xs y (i, omega arith, is) in
    (found, (suc at.0, (let less = at.1 in omega arith), at.2), same)

map_contains : {X Y : Type 0} (f : X → Y) (xs : List X) (x : X) → Contains xs x → Contains (map f xs) (f x)
map_contains f [] x at = absurd (let below = at.1 in omega arith)
map_contains f (x ∷ xs) y (zero, below, is) = (0, omega arith, ap f is)
map_contains f (x ∷ xs) y (suc i, below, is) =
    let at = map_contains f xs y (i, omega arith, is) in
    (suc at.0, (let less = at.1 in omega arith), at.2)

-- the number of an output bit is among those of the outputs
output_listed : (start : ℕ) (ports : List PortBit) (i : ℕ) (port : PortBit) → slice_get ports i ≡ Some port → port.output ≡ true →
    Contains (flat_map (λ (n, port). cond port.output (n ∷ []) []) (enumerate_from start ports)) (start + i)
output_listed start [] i port at is = absurd (cc)
output_listed start (first ∷ ports) zero port at is =
    let same : first ≡ port = cc in
    let out : first.output ≡ true = ap (λ (p : PortBit). p.output) same ∙ is in
    rw out (0, omega arith, omega arith)
output_listed start (first ∷ ports) (suc i) port at is =
    subst (Contains (flat_map (λ (n, port). cond port.output (n ∷ []) []) (enumerate_from start (first ∷ ports)))) (omega arith)
    (Contains-append_right (cond first.output (start ∷ []) []) (flat_map (λ (n, port). cond port.output (n ∷ []) []) (enumerate_from (start + 1) ports)) (start + 1 + i) (output_listed (start + 1) ports i port at is))

-- what is in a list behind one item, if it is there, is the item or in the list
first_or_later : (b : Bool) (start output : ℕ) (later : List ℕ) → Contains (cond b (start ∷ []) [] ++ later) output → ((b ≡ true) × (output ≡ start)) ⊎ Contains later output
first_or_later false start output later at = inr at
first_or_later true start output later (zero, below, same) = inl (refl, sym same)
first_or_later true start output later (suc k, below, same) = inr (k, omega arith, same)

-- a number among those of the outputs is that of an output bit
listed_output : (start : ℕ) (ports : List PortBit) (output : ℕ) → Contains (flat_map (λ (n, port). cond port.output (n ∷ []) []) (enumerate_from start ports)) output →
    (i : ℕ) × (port : PortBit) × (output ≡ start + i) × (slice_get ports i ≡ Some port) × (port.output ≡ true)
listed_output start [] output at = absurd (let below = at.1 in omega arith)
listed_output start (first ∷ ports) output at =
    elim (first_or_later first.output start output (flat_map (λ (n, port). cond port.output (n ∷ []) []) (enumerate_from (start + 1) ports)) at) [
      | inl here ↦ (0, first, omega (arith, here.1), refl, here.0)
      | inr later ↦ (let (i, port, is, found, out) = listed_output (start + 1) ports output later in (suc i, port, omega (arith, is), found, out))
    ]

-- an output bit is read at a strobe
strobed : (bench : Bench) (i : ℕ) (port : PortBit) (used : PortUse) → FitsUse bench i port used → port.output ≡ true → slice_get bench.uses i ≡ Some used → (strobe : Strobe) × IsUsed bench i (port_use.Strobed strobe)
strobed bench i port port_use.Clock fit out at = absurd (let in_is = fit.1 in cc)
strobed bench i port (port_use.Arrival low high) fit out at = absurd (let in_is = fit.1 in cc)
strobed bench i port (port_use.Strobed strobe) fit out at = (strobe, at)

-- an output that has a line is read at a strobe
pub output_used : (design : Design) (lines : List WireDepth) (line : WireDepth) → IsSetUp design → map (λ (line : WireDepth). line.output) lines ≡ outputs_of design.flat → Contains lines line →
    (strobe : Strobe) × IsUsed design.bench line.output (port_use.Strobed strobe)
output_used design lines line set_up outputs at =
    let listed : Contains (outputs_of design.flat) line.output = subst (λ (xs : List ℕ). Contains xs line.output) outputs (map_contains (λ (line : WireDepth). line.output) lines line at) in
    let (i, port, is, found, out) = listed_output 0 design.flat.ports line.output listed in
    let (used, at_use) = item_beside design.bench.uses design.flat.ports i port (sym set_up.bench_fits.ports) found in
    let fit = set_up.bench_fits.uses i port used found at_use in
    let (strobe, has) = strobed design.bench i port used fit out at_use in
    (strobe, subst (λ (n : ℕ). IsUsed design.bench n (port_use.Strobed strobe)) (let same : line.output ≡ i = omega (arith, is) in sym same) has)

-- ---- the design

-- what may be timed is wired
wired : (design : Design) (order : List ℕ) → IsTimeable design order → IsWired design
wired design order timeable =
    record { set_up = timeable.set_up; jtls = timeable.jtls; no_dead_time = timeable.no_dead_time; clock_unread = timeable.clock_unread; fanout = timeable.fanout }

-- an output with its depth and its input
abbrev end_of : WireDepth → ℕ × ℕ × ℕ
end_of line = (line.output, line.depth, line.source)

-- a port bit with a strobe has a line
pub line_of : (design : Design) (lines : List WireDepth) → IsSetUp design → map (λ (line : WireDepth). line.output) lines ≡ outputs_of design.flat → (port : ℕ) (strobe : Strobe) → IsUsed design.bench port (port_use.Strobed strobe) →
    (line : WireDepth) × Contains lines line × (line.output ≡ port)
line_of design lines set_up outputs port strobe used =
    let (bit, at) = item_beside design.flat.ports design.bench.uses port (port_use.Strobed strobe) set_up.bench_fits.ports used in
    let fit = set_up.bench_fits.uses port bit (port_use.Strobed strobe) at used in
    let listed : Contains (outputs_of design.flat) port = subst (Contains (outputs_of design.flat)) (omega arith) (output_listed 0 design.flat.ports port bit at fit.0) in
    contained_map (λ (line : WireDepth). line.output) lines port (subst (λ (xs : List ℕ). Contains xs port) (sym outputs) listed)

-- the data input at the other end of a wire
wire_from : (design : Design) (line : WireDepth) → IsWireDepth design line → IsWireFrom design line.output line.source
wire_from design line is =
    let (end, at, path) = is.path in
    let e : Some end ≡ Some (record { reader = reader.Port line.output; net = is.net }) = sym at ∙ is.ends in
    let same : end ≡ record { reader = reader.Port line.output; net = is.net } = cc in
    (is.arcs, is.net, is.used, (is.pin, is.ends), subst (λ (n : ℕ). IsPath design is.arcs n) (ap (λ (p : Pin). p.net) same) path, is.begins, is.source_used, is.source_data)

-- ---- every run

module _ (design : Design) (order : List ℕ) (lines : List WireDepth) (timeable : IsTimeable design order) (outputs : map (λ (line : WireDepth). line.output) lines ≡ outputs_of design.flat)
    (depths : All (IsWireDepth design) lines) where
  -- a line's output and depth are in the list
  depth_listed : (line : WireDepth) → Contains lines line → Contains {X = ℕ × ℕ} (depths_of (map end_of lines)) (line.output, line.depth)
  depth_listed line at =
      map_contains {X = ℕ × ℕ × ℕ} {Y = ℕ × ℕ} (λ (port, depth, source). (port, depth)) (map end_of lines) (end_of line) (map_contains end_of lines line at)

  -- each output has a depth in the list
  all_depths : HasAllDepths design.bench (depths_of (map end_of lines))
  all_depths port strobe used =
      let (line, at, same) = line_of design lines timeable.set_up outputs port strobe used in
      (line.depth, subst (λ (p : ℕ). Contains {X = ℕ × ℕ} (depths_of (map end_of lines)) (p, line.depth)) same (depth_listed line at))

  -- the depths and inputs are those of the lines
  end_is : (line : WireDepth) (port depth source : ℕ) → IsWireDepth design line → end_of line ≡ (port, depth, source) → HasDepth design (reader.Port port) (pos depth) × IsWireFrom design port source
  end_is line port depth source is same =
      let ports : line.output ≡ port = ap (λ (e : ℕ × ℕ × ℕ). e.0) same in
      let depths_are : line.depth ≡ depth = ap (λ (e : ℕ × ℕ × ℕ). e.1) same in
      let sources : line.source ≡ source = ap (λ (e : ℕ × ℕ × ℕ). e.2) same in
      (rw (← ports, ← depths_are) is.depth_is, rw (← ports, ← sources) (wire_from design line is))

  are_ends : AreEnds design (map end_of lines)
  are_ends port depth source at =
      let (line, listed, same) = contained_map end_of lines (port, depth, source) at in
      end_is line port depth source (All-contains (IsWireDepth design) lines line depths listed) same

  pub every_run_shows : WiresAreSigned → OrderIsFree → HasNoWindow design → EveryRunShows design lines
  every_run_shows wires_are_signed order_is_free no_window run words any =
      let signed = wires_are_signed design order (map end_of lines) (wired design order timeable) timeable.ordered no_window all_depths are_ends in
      let kept = signed.runs (record run { pulses = any.ordered }) words any.is_run in
      let free = order_is_free design run any in
      let shows : (line : WireDepth) → Contains lines line → ShowsInput design run line =
      λ line at strobe net used reads j below bound.
      (let wanted = kept.1 line.output line.depth strobe net j (depth_listed line at) used reads below bound in
      sym (free.1 strobe (j + line.depth) net) ∙ wanted line.depth line.source (map_contains end_of lines line at)) in
      (free.0.0 kept.0, λ k d below. shows (get_or lines k d) (Contains-get_or lines k d below))
