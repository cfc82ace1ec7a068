use Rattle.std.proofs.Common.{◌≡◌, ℕ, ◌-◌, List, length, set, refl, ap, arith}
use Rattle.std.specs.Vec.{with_item}
use Rattle.std.proofs.lemmas.Option.{slice_get_within, slice_get_read}
use Rattle.clock_tree.specs.Clock.{design_of}
use Rattle.lane_forest.specs.declared.growth.Span.{Span}
use Rattle.lane_forest.proofs.Grown.{pin_there, pins_served, reached, made_many, grown_more}
use Rattle.lane_forest.proofs.growth.Growth.add_pin.Goals as goal

pub make-requires-clause-served : goal.make-requires-clause-served
make-requires-clause-served c = λ end cell out end_is driven.
    (let pin_is = slice_get_read c.args.pins.now (length c.args.pins.now) c.args.place c.index-pins-place.result refl c.requires.place c.index-pins-place.is in
    pins_served (design_of c.args.graph.now c.args.bench.now) c.args.graph.now.order c.args.pins.now c.requires.order c.args.place c.index-pins-place.result end pin_is end_is c.args.self.now c.requires.grown cell out driven)

pub overflow_sub-count : goal.overflow_sub-count
overflow_sub-count c =
    let pin_is = slice_get_read c.args.pins.now (length c.args.pins.now) c.args.place c.index-pins-place.result refl c.requires.place c.index-pins-place.is in
    let there = pin_there (design_of c.args.graph.now c.args.bench.now) c.args.graph.now.order c.args.pins.now c.requires.order c.args.place c.index-pins-place.result pin_is in
    let m = made_many (design_of c.args.graph.now c.args.bench.now) c.args.graph.now.order c.args.pins.now c.requires.order c.args.place c.index-pins-place.result there.0 pin_is there.1 c.args.self.now c.requires.grown c.make.new.self (c.in_ok-make.ensures there.0 there.1) in
    let f = c.len-from.ensures.nodes in
    let t = c.len-to.ensures.nodes in omega arith

pub returns-then-count-gt-PIN_LANE_LIMIT-clause-fault : goal.returns-then-count-gt-PIN_LANE_LIMIT-clause-fault
returns-then-count-gt-PIN_LANE_LIMIT-clause-fault c =
    let pin_is = slice_get_read c.args.pins.now (length c.args.pins.now) c.args.place c.index-pins-place.result refl c.requires.place c.index-pins-place.is in
    let there = pin_there (design_of c.args.graph.now c.args.bench.now) c.args.graph.now.order c.args.pins.now c.requires.order c.args.place c.index-pins-place.result pin_is in
    let made = c.in_ok-make.ensures there.0 there.1 in
    let m = made_many (design_of c.args.graph.now c.args.bench.now) c.args.graph.now.order c.args.pins.now c.requires.order c.args.place c.index-pins-place.result there.0 pin_is there.1 c.args.self.now c.requires.grown c.make.new.self made in
    let f = c.len-from.ensures.nodes in
    let t = c.len-to.ensures.nodes in
    let count : length made.paths ≡ c.len-to.result - c.len-from.result = omega arith in
    record {
      at = there.0.reader;
      net = there.0.net;
      earlier = length c.args.self.now.forest.nodes;
      pin_is = there.1;
      reached = reached (design_of c.args.graph.now c.args.bench.now) c.args.graph.now.order c.args.pins.now c.requires.order c.args.place c.index-pins-place.result there.0 pin_is there.1 c.args.self.now c.requires.grown made.paths (c.len-to.result - c.len-from.result) made.are count;
      many = c.if-count-gt-PIN_LANE_LIMIT.true;
    }

pub returns-then-count-gt-LANE_LIMIT-clause-fault : goal.returns-then-count-gt-LANE_LIMIT-clause-fault
returns-then-count-gt-LANE_LIMIT-clause-fault c =
    let pin_is = slice_get_read c.args.pins.now (length c.args.pins.now) c.args.place c.index-pins-place.result refl c.requires.place c.index-pins-place.is in
    let there = pin_there (design_of c.args.graph.now c.args.bench.now) c.args.graph.now.order c.args.pins.now c.requires.order c.args.place c.index-pins-place.result pin_is in
    let made = c.in_ok-make.ensures there.0 there.1 in
    let m = made_many (design_of c.args.graph.now c.args.bench.now) c.args.graph.now.order c.args.pins.now c.requires.order c.args.place c.index-pins-place.result there.0 pin_is there.1 c.args.self.now c.requires.grown c.make.new.self made in
    let f = c.len-from.ensures.nodes in
    let t = c.len-to.ensures.nodes in
    record {
      at = there.0.reader;
      earlier = length c.args.self.now.forest.nodes;
      count = length made.paths;
      reached = reached (design_of c.args.graph.now c.args.bench.now) c.args.graph.now.order c.args.pins.now c.requires.order c.args.place c.index-pins-place.result there.0 pin_is there.1 c.args.self.now c.requires.grown made.paths (length made.paths) made.are refl;
      few = omega arith;
      total_is = omega arith;
      many = c.if-count-gt-LANE_LIMIT.true;
    }

pub index_mut-requires : goal.index_mut-requires
index_mut-requires c =
    let pin_is = slice_get_read c.args.pins.now (length c.args.pins.now) c.args.place c.index-pins-place.result refl c.requires.place c.index-pins-place.is in
    let there = pin_there (design_of c.args.graph.now c.args.bench.now) c.args.graph.now.order c.args.pins.now c.requires.order c.args.place c.index-pins-place.result pin_is in
    let made = c.in_ok-make.ensures there.0 there.1 in
    let l = slice_get_within c.args.graph.now.flat.pins c.index-pins-place.result there.0 there.1 in
    let s = c.requires.grown.safe.spans_many in
    let e : length c.make.new.self.spans.items ≡ length c.args.self.now.spans.items = ap (λ (xs : List Span). length xs) made.spans in
    let n = c.index.ensures.number in omega arith

pub returns-clause-grown : goal.returns-clause-grown
returns-clause-grown c =
    let pin_is = slice_get_read c.args.pins.now (length c.args.pins.now) c.args.place c.index-pins-place.result refl c.requires.place c.index-pins-place.is in
    let there = pin_there (design_of c.args.graph.now c.args.bench.now) c.args.graph.now.order c.args.pins.now c.requires.order c.args.place c.index-pins-place.result pin_is in
    let made = c.in_ok-make.ensures there.0 there.1 in
    let f = c.len-from.ensures.nodes in
    let t = c.len-to.ensures.nodes in
    grown_more (design_of c.args.graph.now c.args.bench.now) c.args.graph.now.order c.args.pins.now c.requires.order c.args.place c.index-pins-place.result there.0 pin_is there.1 c.args.self.now c.requires.grown c.make.new.self made
    (record { forest = c.make.new.self.forest; spans = with_item c.make.new.self.spans c.index.result (record { from = c.len-from.result; to = c.len-to.result }) }) (record { from = c.len-from.result; to = c.len-to.result }) f t refl (ap (λ (k : ℕ). set c.make.new.self.spans.items k (record { from = c.len-from.result; to = c.len-to.result })) c.index.ensures.number) (omega arith) (omega arith)
