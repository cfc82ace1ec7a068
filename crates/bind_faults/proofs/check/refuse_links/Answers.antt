use Rattle.std.proofs.Common.{List, refl}
use Rattle.bind_sites.specs.Sites.{Site}
use Rattle.bind_forms.specs.Faults.{HasTooMany}
use Rattle.bind_kinds.specs.Netlist.{setting_of}
use Rattle.bind_faults.proofs.Linked.{in_list}
use Rattle.bind_faults.proofs.check.refuse_links.Goals as goal

pub returns-in-Some : goal.returns-in-Some
returns-in-Some c = λ all has other.
    let setting = setting_of c.args.netlist.now in
    (c.in-Some.have, c.in-Some.want, in_list setting c.args.at all (λ (l : List Site). HasTooMany setting l c.args.site c.in-Some.have c.in-Some.want) has c.in-Some.ensures.found, refl)

pub returns-in-None : goal.returns-in-None
returns-in-None c = λ all has why s. c.in-None.ensures.none s.0 s.1 (all, has, s.2)
