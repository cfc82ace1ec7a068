use Rattle.std.proofs.Common.{None, refl}
use Rattle.verilog_bind.proofs.Steps.{number_there, number_is}
use Rattle.verilog_bind.proofs.binder.Binder.number_of.Goals as goal

pub unwrap-requires : goal.unwrap-requires
unwrap-requires c =
    let h = number_there c.args.self.now.places.now c.args.self.now.numbers.now c.args.at None c.requires.numbers c.requires.bound in
    rw h.1 refl

pub returns : goal.returns
returns c = number_is c.args.self.now.places.now c.args.self.now.numbers.now c.args.at c.unwrap.result c.requires.numbers c.requires.bound c.unwrap.ensures
