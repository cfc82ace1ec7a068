use Rattle.std.proofs.Common.{◌≡◌, [], Some, None, get_or}
use Rattle.std.specs.Prelude.{slice_get}
use Rattle.std.proofs.lemmas.Option.{slice_get-get_or}
use Rattle.bind_forms.specs.declared.bound.BoundWire.{BoundWire}
use Rattle.bind_forms.specs.Bits.{width_of}
use Rattle.flat_names.proofs.Begun.{lies_in}
use Rattle.flat_names.proofs.finding.find_wire.Goals as goal

pub returns-then-at-wires : goal.returns-then-at-wires
returns-then-at-wires c =
    let wires = c.args.wires.now in
    let at = c.last_begin-at.result in
    let wire : BoundWire = get_or wires at (record { name = []; range = None }) in
    let there : slice_get wires at ≡ Some wire = slice_get-get_or wires at (record { name = []; range = None }) c.if-at-wires.true in
    let lies = lies_in (λ (w : BoundWire). width_of w.range) wires c.args.begins.now c.args.number at wire c.requires.begins c.requires.few there c.last_begin-at.ensures.not_above c.last_begin-at.ensures.next_above in
    record { wire = wire; there = there; numbered = lies.numbered; within = lies.within }
