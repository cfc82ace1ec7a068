use Rattle.std.proofs.Common.{List, ap}
use Rattle.bind_sites.specs.Sites.{Site}
use Rattle.bind_forms.specs.declared.fault.BindFault.TheVariants as fault
use Rattle.bind_forms.specs.Faults.{IsUnknownPort}
use Rattle.bind_kinds.specs.Netlist.{setting_of}
use Rattle.bind_faults.proofs.Linked.{in_list}
use Rattle.bind_faults.proofs.check.refuse_port.Goals as goal

pub returns-in_ok-of-in-Some : goal.returns-in_ok-of-in-Some
returns-in_ok-of-in-Some c = λ all has other.
    let setting = setting_of c.args.netlist.now in
    (c.in-Some.name.now, in_list setting c.args.at all (λ (l : List Site). IsUnknownPort setting l c.args.site c.in-Some.name.now) has c.in-Some.ensures.found, ap fault.UnknownPort c.in_ok-of-in-Some.ensures)

pub returns-in-None : goal.returns-in-None
returns-in-None c = λ all has why s. c.in-None.ensures.none s.0 (all, has, s.1)
