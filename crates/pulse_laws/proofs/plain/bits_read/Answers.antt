use Rattle.std.proofs.Common.{◌∷◌, [], ◌++◌, ap, ◌∙◌, get_or, length, arith, length-append}
use Rattle.std.proofs.lemmas.List.{map-append}
use Rattle.rsfq_ids.specs.Value.{value_of}
use Rattle.pulse_laws.proofs.Pins.{PinsRead-more, pins_at}
use Rattle.pulse_laws.proofs.plain.bits_read.Goals as goal

pub loop-pin-preserved : goal.loop-pin-preserved
loop-pin-preserved c = record {
  count = simp length-append at (ap length c.in_ok-push.ensures.ok) ∙ omega arith;
  read = λ all reads.
      (let (before, so_far, bits) = c.loop-pin.invariant.read all reads in
      let (net, last, value) = c.value_read.ensures (get_or all c.loop-pin.pin 0) (pins_at c.args.flat.now c.args.cell c.args.count all reads c.loop-pin.pin c.loop-pin-test.true) in (
        before ++ net ∷ [],
        PinsRead-more c.args.flat.now c.args.cell c.loop-pin.pin before net so_far last,
        c.in_ok-push.ensures.ok ∙ rw (map-append (value_of c.args.values.now) before (net ∷ []), ← bits) (ap (λ b. c.loop-pin.bits ++ b ∷ []) value),
      ));
}
