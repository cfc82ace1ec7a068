use Rattle.std.proofs.lemmas.Result.{MatchResult-at_err}
use Rattle.bind_forms.specs.Modules.{IsTop}
use Rattle.bind_forms.specs.First.{Tops}
use Rattle.bind_kinds.specs.Netlist.{setting_of}
use Rattle.bind_faults.specs.Tops.{IsTopless}
use Rattle.bind_faults.proofs.Order.{first_fault}
use Rattle.bind_faults.proofs.find.find_fault.Goals as goal

pub returns-clause-fault : goal.returns-clause-fault
returns-clause-fault c = λ other.
    let setting = setting_of c.args.netlist.now in
    first_fault setting Tops c.in-Err.fault c.in_ok-refuse_kinds-in-Err.ensures (MatchResult-at_err (IsTop setting) (IsTopless setting) c.in-Err.fault c.in-Err.is c.in_ok-top.ensures).fault
