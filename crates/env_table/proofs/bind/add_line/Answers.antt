use Rattle.std.proofs.Common.{◌≡◌, ◌<◌, sym, arith, length, subst, List}
use Rattle.std.specs.List.{All}
use Rattle.rsfq_ids.specs.declared.id.PortId.{PortId}
use Rattle.env_table.specs.Names.{bits_of}
use Rattle.env_table.proofs.PortFacts.{bits_below}
use Rattle.env_table.proofs.bind.add_line.Goals as goal

pub check_line-requires-clause-there : goal.check_line-requires-clause-there
check_line-requires-clause-there c =
    let bits : c.bits_of-bits.result.now ≡ bits_of c.args.ports.now c.args.line.now.port = grind (arith, c.requires.names.printed c.args.line.now.port, c.requires.names.whole c.args.line.now.port) in
    subst (λ (bits : List PortId). All (λ bit. bit < length c.args.ports.now) bits) (sym bits) (bits_below c.args.ports.now c.args.line.now.port)

pub set_uses-requires : goal.set_uses-requires
set_uses-requires c =
    let bits : c.bits_of-bits.result.now ≡ bits_of c.args.ports.now c.args.line.now.port = grind (arith, c.requires.names.printed c.args.line.now.port, c.requires.names.whole c.args.line.now.port) in
    let there : All (λ bit. bit < length c.args.ports.now) c.bits_of-bits.result.now = subst (λ (bits : List PortId). All (λ bit. bit < length c.args.ports.now) bits) (sym bits) (bits_below c.args.ports.now c.args.line.now.port) in
    λ k d less. let below = there k d less in omega arith
