use Rattle.std.proofs.Common.{◌∙◌, ◌-◌, ◌++◌, ◌∷◌, [], ℕ, List, map, length, ap, arith, length-append}
use Rattle.std.specs.List.{range_with_len}
use Rattle.std.proofs.lemmas.List.FromFn.{length-map-range_with_len}
use Rattle.rsfq_ids.specs.declared.circuit.PortBit.{PortBit}
use Rattle.bind_forms.specs.Bits.{bit_name}
use Rattle.flattener.specs.Ends.{port_bit}
use Rattle.flattener.proofs.Lists.{number_step}
use Rattle.flattener.proofs.ends.push_port_bits.Goals as goal

pub push-requires : goal.push-requires
push-requires c =
    let made = ap length c.loop-place.invariant in
    let both = length-append c.args.bits.now (map (port_bit c.args.port.now) (range_with_len 0 (c.loop-place.place - 0))) in
    let new = length-map-range_with_len (port_bit c.args.port.now) 0 (c.loop-place.place - 0) in
    omega (arith, made, both, new)

pub loop-place-preserved : goal.loop-place-preserved
loop-place-preserved c =
    let bit = λ (name : List ℕ). let b : PortBit = record { name = name; output = c.args.port.now.output } in b in
    c.in_ok-push.ensures.ok
    ∙ ap (λ (name : List ℕ). c.loop-place.bits ++ bit name ∷ []) (c.in_ok-name.ensures ∙ ap (λ (text : List ℕ). bit_name text c.args.port.now.range c.loop-place.place) c.as_str.ensures)
    ∙ number_step (port_bit c.args.port.now) 0 c.loop-place.place c.loop-place.bits c.args.bits.now (omega arith) c.loop-place.invariant
