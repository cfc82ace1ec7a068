-- The laws from their parts.
use Rattle.std.proofs.lemmas.Int.{ints}
use Rattle.std.proofs.Common.{get_or, [], refl, ℤ, ◌+ℤ◌, ◌-ℤ◌, ◌*ℤ◌, ◌≤ℤ◌, ◌<ℤ◌, ◌≡◌, ℕ, suc, ◌+◌, ◌<◌, Bool, pos, List, ◌∷◌, ◌-◌, sym, ◌∙◌, subst, arith}
use Rattle.std.specs.Prelude.{slice_get, Some}
use Rattle.rsfq_ids.specs.declared.circuit.Pin.{Pin}
use Rattle.rsfq_ids.specs.declared.circuit.Reader.{Reader}
use Rattle.rsfq_ids.specs.declared.circuit.Reader.TheVariants as reader
use Rattle.rsfq_ids.specs.declared.offence.PathArc.{PathArc}
use Rattle.rsfq_ids.specs.declared.offence.PathArc.TheVariants as arc
use Rattle.rsfq_ids.specs.Circuit.{IsDrivenBy, IsPin}
use Rattle.rsfq_ids.specs.declared.circuit.Driver.TheVariants as driver
use Rattle.rsfq_ids.specs.Path.{IsPath, IsPathTo}
use Rattle.rsfq_ids.specs.Value.{value_of}
use Rattle.pulse_laws.specs.Premises.{IsTimed, IsTimedAt, IsTimedBelow, IsBefore}
use Rattle.pulse_laws.specs.Statements.{SignedAsWanted, HasOutputValue, OrderIsFree, DesignsAreSigned, SignedInAnyOrder, RunsHaveTags, TagsMakeClean, StepsExist, StepsBySpread, OutputStepsBySum, ClocksRise, DepthsExist, RunsHaveValues, ValuesBelow, ValuesExist, FillingsExist, RunsHaveFillings, CircuitsAreReady, RunsAreClean, RunsHaveFillBits}
use Rattle.pulse_laws.proofs.Steps.{pin_steps, output_steps, output_steps_by, steps_by}
use Rattle.pulse_laws.proofs.Ceil.{Covers}
use Rattle.rsfq_ids.specs.Time.{total}
use Rattle.pulse_laws.proofs.Lanes.{lane_path, lane_delays}
use Rattle.pulse_laws.proofs.Bits.{fits, rising}
use Rattle.pulse_laws.proofs.Depths.{NotClock, height, gate_times, lane_at, gate_depth, pins_of, origin_of, trail_of, depth_from}
use Rattle.pulse_laws.proofs.Entries.{clock_entries}
use Rattle.pulse_laws.proofs.Valued.{gate_finds, output_shows}
use Rattle.pulse_laws.proofs.Words.{word_valued}
use Rattle.pulse_laws.proofs.Fillings.{fill_valued}
use Rattle.pulse_laws.proofs.Solve.{bound_of}
use Rattle.pulse_laws.proofs.Solutions.{values, values_one, fillings, fillings_one}
use Rattle.rsfq_ids.specs.Filling.{IsFillBit}
use Rattle.pulse_laws.proofs.FillPaths.{fill_bit}
use Rattle.pulse_laws.proofs.FillExists.{fill_exists}
use Rattle.pulse_laws.proofs.Orders.{clean_over, stream_over}
use Rattle.std.proofs.lemmas.List.Sorted.{IsPermutation-sym}
use Rattle.std.specs.List.{All}
use Rattle.rsfq_ids.specs.Bench.{IsWord}
use Rattle.rsfq_ids.specs.Run.{Run, IsClean, IsRunInAnyOrder}
use Rattle.rsfq_ids.specs.Signed.{StreamsAreWanted, IsSigned}
use Rattle.pulse_laws.proofs.Ready.{ready_from}
use Rattle.pulse_laws.proofs.Tags.{tags}
use Rattle.pulse_laws.proofs.CleanRuns.{clocks_clean, windows_clean, strobes_clean}
use Rattle.pulse_laws.proofs.Passives.{passives_clean}
use Rattle.rsfq_ids.specs.Design.{Design}

path_at : (design : Design) (arcs : List PathArc) (ends pin net : ℕ) (from : Reader) → IsPathTo design arcs ends → ends ≡ pin → IsPin design.flat pin from net → IsPath design arcs net
path_at design arcs ends pin net from path same is =
    let here : slice_get design.flat.pins pin ≡ Some path.0 = subst (λ (p : ℕ). slice_get design.flat.pins p ≡ Some path.0) same path.1 in
    let some : Some path.0 ≡ Some (record { reader = from; net = net }) = sym here ∙ is in
    let end : path.0 ≡ record { reader = from; net = net } = cc in
    subst (λ (x : Pin). IsPath design arcs x.net) end path.2

pub steps_exist : StepsExist
steps_exist design period = (
  λ cell at net pin clock clock_at row pulse clocked of gate input is is_clock setup hold pick ends cpick cends route no_window no_ahead.
      pin_steps design period.from pin clock_at cell at net clock row of gate input is is_clock setup.from hold.from pulse.arcs clocked.arcs
      (path_at design pulse.arcs pulse.ends pin net _ pick.path ends is) (path_at design clocked.arcs clocked.ends clock_at clock _ cpick.path cends is_clock) route no_window pulse.delays clocked.delays
      pick.delays cpick.delays no_ahead,
  λ port net pin strobe pulse is used setup hold pick ends no_window no_ahead.
      output_steps design period.from pin port net strobe is used setup.from hold.from pulse.arcs (path_at design pulse.arcs pulse.ends pin net _ pick.path ends is) no_window pulse.delays pick.delays no_ahead,
)

pub clocks_rise : ClocksRise
clocks_rise design rank run ready is_run cell clock row of gate no_dead reads =
    let rise = rising design run rank ready is_run cell clock row of gate reads no_dead (gate_times row.kind row gate (fits design run rank ready is_run cell row of)).dead.from in
    let entries = clock_entries design run rank ready is_run cell clock row of gate reads in
    (entries, λ i k l below. rise i k l (omega arith))

-- where the rules hold everywhere they hold at each place
at_place : (design : Design) → IsTimed design → (to : Reader) → IsTimedAt design to
at_place design timed to = record { no_window = λ pin ends. timed.no_window pin; no_ahead = λ pin ends. timed.no_ahead pin; no_unequal = timed.no_unequal to }

all_below : (design : Design) (rank : ℕ → ℕ) (top : ℕ) → IsTimed design → IsTimedBelow design rank top
all_below design rank top timed cell row of gate low = record { at = at_place design timed (reader.Pin cell 0); no_dead = λ first second. timed.no_dead cell row first second of gate }

-- a place in the order behind all cells
top_of : (design : Design) (rank : ℕ → ℕ) → (top : ℕ) × ((net cell out : ℕ) → IsDrivenBy design.flat net (driver.Out cell out) → rank cell < top)
top_of design rank = let bound = bound_of (height design rank) design.flat.nets in (bound.0, λ net cell out is. let l = bound.1 net (driver.Out cell out) is in omega arith)

pub depths_exist : DepthsExist
depths_exist design rank top ready timed = (
  λ cell out net row low of gate is. gate_depth design rank ready top timed cell row low of gate (pins_of design rank ready top timed cell row of gate out net is),
  λ port net strobe low timed_at used reads.
      let none : NotClock design net = λ arcs route. ready.clock_out reads.0 arcs (port, net, reads.1, route) in
      let lane = lane_at design rank ready (reader.Port port) net reads in
      let lengths = ready.strobes port strobe used in
      let q = output_steps design ready.period.from reads.0 port net strobe reads.1 used lengths.0.from lengths.1.from (arc.Port lane.port ∷ lane.arcs) (lane_path design net lane) (timed_at.no_window reads.0 (net, reads.1))
      (lane.delay ∷ lane.delays) (lane_delays design net lane) (timed_at.no_ahead reads.0 (net, reads.1)) in
      let origin = origin_of design rank ready top timed net low lane in
      let trail = trail_of design rank ready net none lane origin.0 origin.1 (reader.Port port) reads.0 reads.1 q.0 q.1 (reader.Port port) (net, reads.1) in
      (origin.0 + q.0, depth_from design rank ready top timed (reader.Port port) timed_at trail.0 trail.1 (pos (origin.0 + q.0)) trail.2),
)

same_entry : (j depth : ℕ) → (j + depth) + 0 ≡ j + depth
same_entry j depth = omega arith

-- an entry below the number of clock pulses is there
is_there : (k count n : ℕ) → count ≡ n → k < n → k < count
is_there k count n same l = omega arith

pub values_below : ValuesBelow
values_below design rank top run ready timed is_run = (
  λ cell low net clock depth j values is bound are. (
    is_there (j + depth) _ run.clocks (clock_entries design run rank ready is_run cell clock is.row is.of is.gate is.clock_reads) bound,
    gate_finds design run rank ready is_run top timed j 0 (value_of values) (word_valued design run rank ready is_run top timed j values are) cell clock is.pin net is.row depth (j + depth) is.of is.gate is.input is.reads is.clock_reads is.has (same_entry j depth) low bound,
  ),
  λ port from reads low timed_at strobe net depth j values is bound are.
      output_shows design run rank ready is_run top timed j 0 (value_of values) (word_valued design run rank ready is_run top timed j values are) port net strobe depth (j + depth) is.used is.reads is.has (same_entry j depth) timed_at
      (subst (λ (x : ℕ). IsBefore design.flat rank top x) (ready.numbered.one_read (reader.Port port) from net reads is.reads) low) bound,
)

pub runs_have_values : RunsHaveValues
runs_have_values design rank run ready timed is_run = (
  λ cell. (values_below design rank (suc (rank cell)) run ready (all_below design rank (suc (rank cell)) timed) is_run).0 cell (omega arith),
  λ port strobe net depth j values is bound are.
      let top = top_of design rank in
      (values_below design rank top.0 run ready (all_below design rank top.0 timed) is_run).1 port net is.reads (λ cell out drives. top.1 net cell out drives) (at_place design timed (reader.Port port)) strobe net depth j values is bound are,
)

pub values_exist : ValuesExist
values_exist design rank word ready = (values design rank ready word, λ vs ws net d v w is. values_one design rank ready word vs ws v w net d is)

pub fillings_exist : FillingsExist
fillings_exist design rank top early ready timed = (fillings design rank ready top timed early, λ vs ws net d v w is. fillings_one design rank ready top timed early vs ws v w net d is)

some_early : (k early depth : ℕ) → k < depth → k + early ≡ depth → 0 < early
some_early k early depth l e = omega arith

pub runs_have_fillings : RunsHaveFillings
runs_have_fillings design rank top run ready timed is_run = (
  λ cell low net clock depth early k values is below bound sum are. (
    is_there k _ run.clocks (clock_entries design run rank ready is_run cell clock is.row is.of is.gate is.clock_reads) bound,
    gate_finds design run rank ready is_run top timed 0 early (value_of values) (fill_valued design run rank ready is_run top timed early (some_early k early depth below sum) values are) cell clock is.pin net is.row depth k is.of is.gate is.input is.reads is.clock_reads is.has (sum ∙ omega arith) low bound,
  ),
  λ port from reads low timed_at strobe net depth early k values is below bound sum are.
      output_shows design run rank ready is_run top timed 0 early (value_of values) (fill_valued design run rank ready is_run top timed early (some_early k early depth below sum) values are) port net strobe depth k is.used is.reads is.has (sum ∙ omega arith) timed_at
      (subst (λ (x : ℕ). IsBefore design.flat rank top x) (ready.numbered.one_read (reader.Port port) from net reads is.reads) low) bound,
)

pub circuits_are_ready : CircuitsAreReady
circuits_are_ready design rank set_up shape ranked = ready_from design rank set_up shape ranked

pub runs_have_tags : RunsHaveTags
runs_have_tags design rank run ready is_run =
    let all = tags design run ready.numbered rank ready.ranked ready.one_clock ready.data_on_clock (λ cell row of. (ready.rows cell row of).kind) ready.clock_used is_run in
    (all.0, all.1, record { numbers = all.2; count = λ cell row net pin of gate is. clock_entries design run rank ready is_run cell net row of gate (pin, is) }, all.3)

pub tags_make_clean : TagsMakeClean
tags_make_clean design run tags numbered no_fanout ticks tagged = record {
  passives = passives_clean design run tags ticks tagged numbered no_fanout;
  clocks = clocks_clean design run tags ticks tagged;
  windows = windows_clean design run tags ticks tagged;
  strobes = strobes_clean design run tags ticks tagged;
}

pub runs_are_clean : RunsAreClean
runs_are_clean design rank run set_up shape ranked is_run no_passive no_clock no_window =
    let ready = ready_from design rank set_up shape ranked in
    let tags = runs_have_tags design rank run ready is_run in
    let clean = tags_make_clean design run tags.0 ready.numbered shape.fanout is_run.ticks tags.1 in
    record { passives = clean.passives no_passive; clocks = clean.clocks no_clock; windows = clean.windows no_window; strobes = clean.strobes no_window }

pub runs_have_fill_bits : RunsHaveFillBits
runs_have_fill_bits design rank ready = (
  λ timed.
      (let top = top_of design rank in
      let below = fill_exists design rank ready top.0 (all_below design rank top.0 timed) in
      (below.0, λ cell out net row nets depth k of gate is inputs has early. below.1 cell out net row nets depth k (top.1 net cell out is) of gate is inputs has early)),
  λ top timed. fill_exists design rank ready top timed,
  λ top fill run cell timed is_fill is_run low net clock depth k is below bound.
      let early : ℕ = depth - k in
      let sum : k + early ≡ depth = omega arith in
      let some : 0 < early = omega arith in
      let filled = fillings design rank ready top timed early in
      let at = gate_finds design run rank ready is_run top timed 0 early (value_of filled.0) (fill_valued design run rank ready is_run top timed early some filled.0 filled.1) cell clock is.pin net is.row depth k is.of is.gate is.input is.reads is.clock_reads is.has (sum ∙ omega arith) low bound in
      subst (λ (b : Bool). IsFillBit design fill net depth k b) (sym at)
      (fill_bit design rank ready top timed early some filled.0 filled.1 fill is_fill cell is.pin net is.reads.0 clock is.row depth k is.of is.gate is.input is.reads.1 is.clock_reads is.has sum low),
)

covers_of : (t low d : ℤ) (q : ℕ) → d ≡ low → low ≤ℤ (pos q *ℤ t) → (pos q *ℤ t) <ℤ (low +ℤ t) → Covers t d q
covers_of t low d q same l m = record { up_to = omega (arith, ints); near = omega (arith, ints) }

pub steps_by_spread : StepsBySpread
steps_by_spread design period cell at net pin clock clock_at row pulse clocked low high steps no_window of gate input is is_clock setup hold pick ends cpick cends route spread above below =
    let (ds, es, pair, reached) = spread.least in
    steps_by design period.from pin clock_at cell at net clock row of gate input is is_clock setup.from hold.from pulse.arcs clocked.arcs (path_at design pulse.arcs pulse.ends pin net _ pick.path ends is)
    (path_at design clocked.arcs clocked.ends clock_at clock _ cpick.path cends is_clock) route no_window ds es pair.first pair.second (pair.agree refl) steps (covers_of design.bench.period low (total ds -ℤ total es) steps reached above below)

pub output_steps_by_sum : OutputStepsBySum
output_steps_by_sum design period port net pin strobe pulse steps no_window is used setup hold pick ends above below =
    output_steps_by design period.from pin port net strobe is used setup.from hold.from pulse.arcs (path_at design pulse.arcs pulse.ends pin net _ pick.path ends is) no_window pulse.delays pick.delays steps
    (record { up_to = above; near = below })

pub order_is_free : OrderIsFree
order_is_free design run any = (
  (clean_over any.ordered run.pulses any.same design run.words run.clocks run.tick, clean_over run.pulses any.ordered (λ net. IsPermutation-sym _ _ (any.same net)) design run.words run.clocks run.tick),
  λ strobe k net. stream_over any.ordered run.pulses any.same strobe run.tick k net,
)

pub designs_are_signed : DesignsAreSigned
designs_are_signed design rank depths set_up shape ranked no_passive timed all deep =
    let ready = ready_from design rank set_up shape ranked in
    record {
      all = all;
      runs = λ run are_words is_run. (
        runs_are_clean design rank run set_up shape ranked is_run no_passive timed.no_dead timed.no_window,
        λ port depth strobe net j contains used reads below bound.
            (let found = values design rank ready (get_or run.words j []) in
            let shown = (runs_have_values design rank run ready timed is_run).1 port strobe net depth j found.0 (record { used = used; reads = reads; has = deep port depth contains }) bound found.1 in
            (net, reads, (found.0, found.1, sym shown))),
      );
    }

-- what is signed off holds of whatever follows from it
pub signed_over : (design : Design) (One Other : List Bool → ℕ → Bool → Type 0) (depths : List (ℕ × ℕ)) → IsSigned design One depths → ((word : List Bool) (port : ℕ) (bit : Bool) → IsWord design.bench word → One word port bit → Other word port bit) → IsSigned design Other depths
signed_over design One Other depths signed follows = record {
  all = signed.all;
  runs = λ run are_words is_run.
      (let kept = signed.runs run are_words is_run in
      (kept.0, λ port depth strobe net j contains used reads below bound. follows _ port _ (are_words j [] below) (kept.1 port depth strobe net j contains used reads below bound)));
}

pub signed_as_wanted : SignedAsWanted
signed_as_wanted design wanted depths signed same = signed_over design (HasOutputValue design) (λ word port bit. bit ≡ wanted word port) depths signed same

-- what is signed off holds of the same pulses in any order
pub in_any_order : (design : Design) (Wanted : List Bool → ℕ → Bool → Type 0) (depths : List (ℕ × ℕ)) (run : Run) → IsSigned design Wanted depths → All (IsWord design.bench) run.words → IsRunInAnyOrder design run → IsClean design run × StreamsAreWanted design Wanted depths run
in_any_order design Wanted depths run signed are_words any =
    let kept = signed.runs (record run { pulses = any.ordered }) are_words any.is_run in
    let free = order_is_free design run any in (
      free.0.0 kept.0,
      λ port depth strobe net j contains used reads below bound.
          subst (λ (b : Bool). Wanted (get_or run.words j []) port b) (free.1 strobe (j + depth) net) (kept.1 port depth strobe net j contains used reads below bound),
    )

pub signed_in_any_order : SignedInAnyOrder
signed_in_any_order design depths run are_words any = (
  λ signed. in_any_order design (HasOutputValue design) depths run signed are_words any,
  λ wanted signed. in_any_order design (λ word port bit. bit ≡ wanted word port) depths run signed are_words any,
)
