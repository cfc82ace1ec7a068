-- How pulses flow through a circuit: which pulse of a net comes from which pulse of another, and with what delay.
use Rattle.std.proofs.Common.{◌≡◌, ℕ, Bool, true, false, ℤ, pos, ◌+ℤ◌, List, [], ◌∷◌, ◌++◌, length, refl, sym, ◌∙◌, subst, arith}
use Rattle.std.proofs.lemmas.Int.{ints}
use Rattle.std.specs.Prelude.{Some}
use Rattle.std.specs.List.{range_with_len, AllZip}
use Rattle.rsfq_ids.specs.declared.table.CellRow.{CellRow}
use Rattle.rsfq_ids.specs.declared.circuit.Flat.{Flat}
use Rattle.rsfq_ids.specs.declared.circuit.Driver.TheVariants as driver
use Rattle.rsfq_ids.specs.declared.circuit.Reader.TheVariants as reader
use Rattle.rsfq_ids.specs.declared.offence.PathArc.{PathArc}
use Rattle.rsfq_ids.specs.declared.offence.PathArc.TheVariants as arc
use Rattle.rsfq_ids.specs.Time.{total}
use Rattle.rsfq_ids.specs.Circuit.{Reads, IsOf, InputNets, is_gate}
use Rattle.rsfq_ids.specs.Numbering.{IsNumbered}
use Rattle.rsfq_ids.specs.Path.{ArcLeads, ArcsLead, SameDelays}
use Rattle.rsfq_ids.specs.Design.{Design}
use Rattle.pulse_laws.specs.Flows.{time_at, Causes, GoesOn, Flows}

-- two lists of nets that the same pins read are one
pub one_list : (flat : Flat) (cell : ℕ) → IsNumbered flat → (pins nets others : List ℕ) → AllZip (λ pin net. Reads flat (reader.Pin cell pin) net) pins nets → AllZip (λ pin net. Reads flat (reader.Pin cell pin) net) pins others → nets ≡ others
one_list flat cell numbered [] [] [] one two = refl
one_list flat cell numbered [] [] (m ∷ others) one two = absurd two
one_list flat cell numbered [] (n ∷ nets) others one two = absurd one
one_list flat cell numbered (pin ∷ pins) [] others one two = absurd one
one_list flat cell numbered (pin ∷ pins) (n ∷ nets) [] one two = absurd two
one_list flat cell numbered (pin ∷ pins) (n ∷ nets) (m ∷ others) one two =
    let head : n ≡ m = numbered.one_read (reader.Pin cell pin) n m one.0 two.0 in
    let tail : nets ≡ others = one_list flat cell numbered pins nets others one.1 two.1 in cc

pub one_row : (design : Design) (cell : ℕ) (row other : CellRow) → IsOf design cell row → IsOf design cell other → row ≡ other
one_row design cell row other one two = let e : Some row ≡ Some other = sym one ∙ two in cc

causes_one : (gate : Bool) (pulses : List (List ℤ)) (row : CellRow) (nets : List ℕ) (pin out net j i k : ℕ) → Causes gate pulses row nets pin out net j i → Causes gate pulses row nets pin out net j k → i ≡ k
causes_one true pulses row nets pin out net j i k one two = one.2 ∙ sym two.2
causes_one false pulses row nets pin out net j i k one two = one.2 ∙ sym two.2

-- it goes on to one pulse of one net
pub goes_on_one : (design : Design) (pulses : List (List ℤ)) → IsNumbered design.flat → (a : PathArc) (net j next i other k : ℕ) → GoesOn design pulses a net j next i → GoesOn design pulses a net j other k → (next ≡ other) × (i ≡ k)
goes_on_one design pulses numbered (arc.Port port) net j next i other k one two = absurd one
goes_on_one design pulses numbered (arc.Through cell pin out) net j next i other k (row, nets, of, inputs, passed, reads, driven, causes) (row', nets', of', inputs', passed', reads', driven', causes') =
    let same_row : row' ≡ row = one_row design cell row' row of' of in
    let same_nets : nets' ≡ nets = one_list design.flat cell numbered (range_with_len 0 (length row.inputs)) nets' nets (subst (λ r. InputNets design.flat cell r nets') same_row inputs') inputs in (
      numbered.one_net (driver.Out cell out) next other driven driven',
      causes_one (is_gate row.kind) pulses row nets pin out net j i k causes
          (subst (λ ns. Causes (is_gate row.kind) pulses row ns pin out net j k) same_nets (subst (λ r. Causes (is_gate r.kind) pulses r nets' pin out net j k) same_row causes')),
    )

-- a delay is the difference of two times
pub same_delay : (to from d e : ℤ) → to ≡ (from +ℤ d) → to ≡ (from +ℤ e) → d ≡ e
same_delay to from d e one two = omega (arith, ints)

-- the same start and the same arcs lead to the same pulse
pub flows_one : (design : Design) (pulses : List (List ℤ)) → IsNumbered design.flat → (net j : ℕ) (arcs : List PathArc) (ds es : List ℤ) (n k m i : ℕ) →
    Flows design pulses net j arcs ds n k → Flows design pulses net j arcs es m i → (n ≡ m) × (k ≡ i) × (ds ≡ es)
flows_one design pulses numbered net j [] [] [] n k m i one two = (sym one.0 ∙ two.0, sym one.1 ∙ two.1, refl)
flows_one design pulses numbered net j [] [] (e ∷ es) n k m i one two = absurd two
flows_one design pulses numbered net j [] (d ∷ ds) es n k m i one two = absurd one
flows_one design pulses numbered net j (a ∷ arcs) [] es n k m i one two = absurd one
flows_one design pulses numbered net j (a ∷ arcs) (d ∷ ds) [] n k m i one two = absurd two
flows_one design pulses numbered net j (a ∷ arcs) (d ∷ ds) (e ∷ es) n k m i (next, place, on, time, rest) (next', place', on', time', rest') =
    let same = goes_on_one design pulses numbered a net j next place next' place' on on' in
    let here : Flows design pulses next place arcs es m i = subst (λ (x : ℕ). Flows design pulses x place arcs es m i) (sym same.0) (subst (λ (x : ℕ). Flows design pulses next' x arcs es m i) (sym same.1) rest') in
    let there : time_at pulses next place ≡ (time_at pulses net j +ℤ e) = subst (λ (x : ℕ). time_at pulses x place ≡ (time_at pulses net j +ℤ e)) (sym same.0) (subst (λ (x : ℕ). time_at pulses next' x ≡ (time_at pulses net j +ℤ e)) (sym same.1) time') in
    let tail = flows_one design pulses numbered next place arcs ds es n k m i rest here in
    let head : d ≡ e = same_delay _ _ d e time there in
    let tails : ds ≡ es = tail.2 in
    (tail.0, tail.1, cc)

-- pulses from the same start share the delays of what they share of their paths
pub flows_agree : (design : Design) (pulses : List (List ℤ)) → IsNumbered design.flat → (net j : ℕ) (arcs : List PathArc) (ds : List ℤ) (brcs : List PathArc) (es : List ℤ) (n k m i : ℕ) →
    Flows design pulses net j arcs ds n k → Flows design pulses net j brcs es m i → SameDelays arcs ds brcs es
flows_agree design pulses numbered net j [] ds brcs es n k m i one two = tt
flows_agree design pulses numbered net j (a ∷ arcs) [] brcs es n k m i one two = tt
flows_agree design pulses numbered net j (a ∷ arcs) (d ∷ ds) [] es n k m i one two = tt
flows_agree design pulses numbered net j (a ∷ arcs) (d ∷ ds) (b ∷ brcs) [] n k m i one two = tt
flows_agree design pulses numbered net j (a ∷ arcs) (d ∷ ds) (b ∷ brcs) (e ∷ es) n k m i (next, place, on, time, rest) (next', place', on', time', rest') = λ equal.
    let on'' : GoesOn design pulses a net j next' place' = subst (λ (x : PathArc). GoesOn design pulses x net j next' place') (sym equal) on' in
    let same = goes_on_one design pulses numbered a net j next place next' place' on on'' in
    let here : Flows design pulses next place brcs es m i = subst (λ (x : ℕ). Flows design pulses x place brcs es m i) (sym same.0) (subst (λ (x : ℕ). Flows design pulses next' x brcs es m i) (sym same.1) rest') in
    let there : time_at pulses next place ≡ (time_at pulses net j +ℤ e) = subst (λ (x : ℕ). time_at pulses x place ≡ (time_at pulses net j +ℤ e)) (sym same.0) (subst (λ (x : ℕ). time_at pulses next' x ≡ (time_at pulses net j +ℤ e)) (sym same.1) time') in
    (same_delay _ _ d e time there, flows_agree design pulses numbered next place arcs ds brcs es n k m i rest here)

-- one arc more
pub flows_more : (design : Design) (pulses : List (List ℤ)) (net j : ℕ) (arcs : List PathArc) (ds : List ℤ) (n k : ℕ) (a : PathArc) (d : ℤ) (m i : ℕ) →
    Flows design pulses net j arcs ds n k → GoesOn design pulses a n k m i → time_at pulses m i ≡ (time_at pulses n k +ℤ d) → Flows design pulses net j (arcs ++ a ∷ []) (ds ++ d ∷ []) m i
flows_more design pulses net j [] [] n k a d m i flow on time = (
  m,
  i,
  subst (λ (x : ℕ). GoesOn design pulses a x j m i) (sym flow.0) (subst (λ (x : ℕ). GoesOn design pulses a n x m i) (sym flow.1) on),
  subst (λ (x : ℕ). time_at pulses m i ≡ (time_at pulses x j +ℤ d)) (sym flow.0) (subst (λ (x : ℕ). time_at pulses m i ≡ (time_at pulses n x +ℤ d)) (sym flow.1) time),
  (refl, refl),
)
flows_more design pulses net j [] (e ∷ ds) n k a d m i flow on time = absurd flow
flows_more design pulses net j (b ∷ arcs) [] n k a d m i flow on time = absurd flow
flows_more design pulses net j (b ∷ arcs) (e ∷ ds) n k a d m i (next, place, go, at, rest) on time =
    (next, place, go, at, flows_more design pulses next place arcs ds n k a d m i rest on time)

-- the arcs of a flow lead from net to net
pub goes_leads : (design : Design) (pulses : List (List ℤ)) (a : PathArc) (net j next i : ℕ) → GoesOn design pulses a net j next i → ArcLeads design net a next
goes_leads design pulses (arc.Port port) net j next i on = absurd on
goes_leads design pulses (arc.Through cell pin out) net j next i (row, nets, of, inputs, passed, reads, driven, causes) = (row, of, passed, reads, driven)

pub flows_lead : (design : Design) (pulses : List (List ℤ)) (net j : ℕ) (arcs : List PathArc) (ds : List ℤ) (n k : ℕ) → Flows design pulses net j arcs ds n k → ArcsLead design net arcs n
flows_lead design pulses net j [] [] n k flow = flow.0
flows_lead design pulses net j [] (e ∷ ds) n k flow = absurd flow
flows_lead design pulses net j (a ∷ arcs) [] n k flow = absurd flow
flows_lead design pulses net j (a ∷ arcs) (d ∷ ds) n k (next, place, on, at, rest) = (next, goes_leads design pulses a net j next place on, flows_lead design pulses next place arcs ds n k rest)

-- the delays of a flow lie between its two times
between : (a b c d e : ℤ) → b ≡ (a +ℤ d) → c ≡ (b +ℤ e) → c ≡ (a +ℤ (d +ℤ e))
between a b c d e one two = omega (arith, ints)

no_delay : (a : ℤ) → a ≡ (a +ℤ pos 0)
no_delay a = omega (arith, ints)

pub flows_time : (design : Design) (pulses : List (List ℤ)) (net j : ℕ) (arcs : List PathArc) (ds : List ℤ) (n k : ℕ) → Flows design pulses net j arcs ds n k → time_at pulses n k ≡ (time_at pulses net j +ℤ total ds)
flows_time design pulses net j [] [] n k flow = rw (← flow.0, ← flow.1) (no_delay (time_at pulses net j))
flows_time design pulses net j [] (e ∷ ds) n k flow = absurd flow
flows_time design pulses net j (a ∷ arcs) [] n k flow = absurd flow
flows_time design pulses net j (a ∷ arcs) (d ∷ ds) n k (next, place, on, at, rest) =
    between (time_at pulses net j) (time_at pulses next place) (time_at pulses n k) d (total ds) at (flows_time design pulses next place arcs ds n k rest)
