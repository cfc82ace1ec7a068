use Rattle.std.proofs.Common.{◌≡◌, ◌∙◌, ◌∷◌, ◌++◌, [], ℕ, length, Some, refl, sym, ap, arith, length-append}
use Rattle.std.specs.Prelude.{slice_get}
use Rattle.std.proofs.lemmas.Option.{slice_get_read}
use Rattle.rsfq_ids.specs.declared.circuit.Pin.{Pin}
use Rattle.rsfq_ids.specs.declared.circuit.Reader.{Reader}
use Rattle.rsfq_ids.specs.declared.circuit.Reader.TheVariants as reader
use Rattle.flat_places.specs.Whole.{ReadsNet}
use Rattle.flattener.proofs.Resolving.{few_pins_read, pins_more, all_more, first_undriven}
use Rattle.flattener.proofs.shape.Shape.read_pins.Goals as goal

pub net_at-requires-clause-there : goal.net_at-requires-clause-there
net_at-requires-clause-there c = let same = c.requires.shaped.same_reads in let low = c.loop-pin-test.true in omega (arith, same, low)

pub returns-in_default-clause-err : goal.returns-in_default-clause-err
returns-in_default-clause-err c =
    let i = c.loop-pin.invariant in
    (c.requires.sound, first_undriven c.args.self c.requires.shaped c.loop-pin.pins c.loop-pin.pin c.in_ok-pin_name.field-0 i.count i.listed i.read c.loop-pin-test.true c.in_default.ensures c.in_ok-pin_name.ensures (reader.Port 0))

pub push-requires : goal.push-requires
push-requires c = let few = few_pins_read c.args.self c.requires.shaped in let count = c.loop-pin.invariant.count in let low = c.loop-pin-test.true in omega (arith, few, count, low)

pub loop-pin-preserved : goal.loop-pin-preserved
loop-pin-preserved c =
    let shape = c.args.self in
    let pins = c.loop-pin.pins in
    let pin = c.loop-pin.pin in
    let reader = c.index-self-pin.result in
    let i = c.loop-pin.invariant in
    let new : Pin = record { reader = reader; net = c.in-Some.net } in
    let added : c.push.new.self ≡ pins ++ new ∷ [] =
    c.in_ok-push.ensures.ok ∙ ap (λ (r : Reader). let p : Pin = record { reader = r; net = c.of.result } in pins ++ p ∷ []) (sym c.index-self-pin.is) ∙ ap (λ (n : ℕ). let p : Pin = record { reader = reader; net = n } in pins ++ p ∷ []) c.of.ensures in
    let got : slice_get shape.readers.now pin ≡ Some reader = slice_get_read shape.readers.now (length shape.readers.now) pin reader refl c.loop-pin-test.true c.index-self-pin.is in
    record {
      count = (let made = ap length added in let both = length-append pins (new ∷ []) in let count = i.count in omega (arith, made, both, count));
      listed = pins_more shape pins c.push.new.self pin reader c.in-Some.net c.loop-pin-test.true c.index-self-pin.is added i.listed;
      read = all_more (λ (p : Pin). ReadsNet shape.source.cells.now shape.source.bound.now shape.nets.now p.reader p.net) pins c.push.new.self new added i.read (c.in-Some.ensures reader got);
    }
