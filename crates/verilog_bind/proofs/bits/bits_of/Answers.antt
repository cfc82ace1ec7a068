use Rattle.std.proofs.Common.{sym, subst}
use Rattle.bind_sites.specs.Refused.{IsOutside}
use Rattle.verilog_bind.proofs.bits.bits_of.Goals as goal

pub unreachable-requires : goal.unreachable-requires
unreachable-requires c = c.requires.inside c.in-Some-Some.ends c.in-Some-Some.is-0 (subst (λ (r : _). IsOutside r c.in-Some-Some.ends) (sym c.in-Some-Some.is-1) c.in-None.ensures.missed)

pub unreachable-requires-in-Some-None : goal.unreachable-requires-in-Some-None
unreachable-requires-in-Some-None c = c.requires.inside c.in-Some-None.field-0-0 c.in-Some-None.is-0 (subst (λ (r : _). IsOutside r c.in-Some-None.field-0-0) (sym c.in-Some-None.is-1) tt)
