use Rattle.std.proofs.Common.{arith, ◌<◌, length}
use Rattle.std.proofs.lemmas.Option.{slice_get_within}
use Rattle.pulse_laws.proofs.plain.net_of.Goals as goal

pub returns-clause-none : goal.returns-clause-none
returns-clause-none c net reads =
    let within : reads.0 < length c.args.flat.now.pins = slice_get_within c.args.flat.now.pins reads.0 _ reads.1 in
    c.loop-i.invariant reads.0 net (omega arith) reads.1
