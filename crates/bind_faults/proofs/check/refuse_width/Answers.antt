use Rattle.std.proofs.Common.{List, refl, arith}
use Rattle.bind_sites.specs.Sites.{Site}
use Rattle.bind_forms.specs.Faults.{HasWidths}
use Rattle.bind_kinds.specs.Netlist.{setting_of}
use Rattle.bind_faults.proofs.Linked.{in_list, are_single}
use Rattle.bind_faults.proofs.check.refuse_width.Goals as goal

pub width-requires-clause-single : goal.width-requires-clause-single
width-requires-clause-single c = are_single (setting_of c.args.netlist.now) 9 (omega arith) c.requires.before

pub returns-in-Some : goal.returns-in-Some
returns-in-Some c = λ all has other.
    let setting = setting_of c.args.netlist.now in
    let found = c.in-Some.ensures.found in
    (c.in-Some.have, c.in-Some.want, in_list setting c.args.at all (λ (l : List Site). HasWidths setting l c.args.site c.in-Some.have c.in-Some.want) has found.0, found.1, refl)

pub returns-in-None : goal.returns-in-None
returns-in-None c = λ all has why s. c.in-None.ensures.none s.0 s.1 s.3 (all, has, s.2)
