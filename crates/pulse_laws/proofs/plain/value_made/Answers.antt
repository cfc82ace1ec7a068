use Rattle.std.proofs.Common.{ℕ, List, Bool, ◌∙◌, ap, sym, subst}
use Rattle.rsfq_ids.specs.Circuit.{PinsRead}
use Rattle.rsfq_ids.specs.Value.{value_made}
use Rattle.pulse_laws.proofs.plain.value_made.Goals as goal

pub returns : goal.returns
returns c = λ read few reads.
    let (nets, is, bits) = c.in_ok-bits.ensures.read read (subst (λ (n : ℕ). PinsRead c.args.flat.now c.args.cell n read) (sym c.len-2.ensures) reads) in
    (nets, subst (λ (n : ℕ). PinsRead c.args.flat.now c.args.cell n nets) c.len-2.ensures is, c.made.ensures ∙ ap (λ (bs : List Bool). value_made c.args.row.now.kind c.args.row.now c.args.out bs) (c.as_slice.ensures ∙ bits))
