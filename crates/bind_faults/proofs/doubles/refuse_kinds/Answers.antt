use Rattle.bind_kinds.specs.Netlist.{setting_of}
use Rattle.bind_faults.specs.Doubles.{IsKindTwice}
use Rattle.bind_faults.proofs.AllDoubles.{no_duplicate_kind, first_duplicate_kind, refused}
use Rattle.bind_faults.proofs.doubles.refuse_kinds.Goals as goal

pub returns : goal.returns
returns c =
    let setting = setting_of c.args.netlist.now in
    refused setting (IsKindTwice setting) c.in_ok-kind_twice.field-0 c.refuse.result c.in_ok-kind_twice.ensures (no_duplicate_kind setting c.requires.none) (first_duplicate_kind setting c.requires.none) c.refuse.ensures
