use Rattle.std.proofs.Common.{Option, ℕ, Some, None, subst, sym, rules}
use Rattle.bind_hierarchy.specs.declared.kinds.Meaning.TheVariants as meaning
use Rattle.bind_hierarchy.specs.Modules.{Means}
use Rattle.bind_hierarchy.specs.Names.{IsFirstPlace}
use Rattle.bind_sites.specs.Sites.{port_names}
use Rattle.bind_forms.specs.WellFormed.{cell_ports}
use Rattle.bind_kinds.specs.Netlist.{ArePortsOf, setting_of}
use Rattle.bind_kinds.proofs.Ports.{matched, looked_up, found_in_first, cell_there, module_ports, pins, place_found, place_none, nothing}
use Rattle.bind_kinds.proofs.netlist.Netlist.port_place.Goals as goal

pub returns-in_err-get-in-Some-Module-clause-none : goal.returns-in_err-get-in-Some-Module-clause-none
returns-in_err-get-in-Some-Module-clause-none c =
    let setting = setting_of c.args.self.now in
    let at = c.in-Some-Module.at in
    let means : Means setting.modules setting.table c.args.kind.name.now (Some (meaning.Module at)) = matched setting c.args.kind.name.now c.args.kind.meaning (Some (meaning.Module at)) (search rules) c.requires.meant in
    absurd (found_in_first ArePortsOf setting.modules c.args.self.now.ports.now at means.0.0 c.requires.netlist.ports means.0.1 c.in_err-get-in-Some-Module.ensures.lookup.3)

pub returns-in_ok-get-in-Some-Module-clause-found : goal.returns-in_ok-get-in-Some-Module-clause-found
returns-in_ok-get-in-Some-Module-clause-found c =
    let setting = setting_of c.args.self.now in
    let at = c.in-Some-Module.at in
    let found = c.in_ok-get-in-Some-Module.ensures.lookup in
    let means : Means setting.modules setting.table c.args.kind.name.now (Some (meaning.Module at)) = matched setting c.args.kind.name.now c.args.kind.meaning (Some (meaning.Module at)) (search rules) c.requires.meant in
    let owner = looked_up ArePortsOf setting.modules c.args.self.now.ports.now at c.in_ok-get-in-Some-Module.field-0.now c.requires.netlist.ports found.3.0 found.1 in
    let names = port_names owner.0.head in
    place_found setting c.args.kind.name.now names c.args.name.now c.find.result (module_ports setting c.args.kind.name.now at owner.0 means owner.1)
    (subst (λ (p : Option ℕ). IsFirstPlace names c.args.name.now p) (sym c.find.ensures) (owner.2 c.args.name.now))

pub returns-in_ok-get-in-Some-Module-clause-none : goal.returns-in_ok-get-in-Some-Module-clause-none
returns-in_ok-get-in-Some-Module-clause-none c =
    let setting = setting_of c.args.self.now in
    let at = c.in-Some-Module.at in
    let found = c.in_ok-get-in-Some-Module.ensures.lookup in
    let means : Means setting.modules setting.table c.args.kind.name.now (Some (meaning.Module at)) = matched setting c.args.kind.name.now c.args.kind.meaning (Some (meaning.Module at)) (search rules) c.requires.meant in
    let owner = looked_up ArePortsOf setting.modules c.args.self.now.ports.now at c.in_ok-get-in-Some-Module.field-0.now c.requires.netlist.ports found.3.0 found.1 in
    let names = port_names owner.0.head in
    place_none setting c.args.kind.name.now names c.args.name.now c.find.result (module_ports setting c.args.kind.name.now at owner.0 means owner.1)
    (subst (λ (p : Option ℕ). IsFirstPlace names c.args.name.now p) (sym c.find.ensures) (owner.2 c.args.name.now))

pub returns-in_ok-get-in-Some-Cell-clause-found : goal.returns-in_ok-get-in-Some-Cell-clause-found
returns-in_ok-get-in-Some-Cell-clause-found c =
    let setting = setting_of c.args.self.now in
    let cell = c.in_ok-get-in-Some-Cell.field-0 in
    let there = cell_there c.args.self.now.cells.now.rows c.in-Some-Cell.row c.get-in-Some-Cell.result cell c.get-in-Some-Cell.ensures c.in_ok-get-in-Some-Cell.was in
    let ports = pins setting c.args.kind.name.now c.in-Some-Cell.row cell.now (matched setting c.args.kind.name.now c.args.kind.meaning (Some (meaning.Cell c.in-Some-Cell.row)) (search rules) c.requires.meant) there in
    place_found setting c.args.kind.name.now (cell_ports cell.now) c.args.name.now c.cell_place.result ports c.cell_place.ensures

pub returns-in_ok-get-in-Some-Cell-clause-none : goal.returns-in_ok-get-in-Some-Cell-clause-none
returns-in_ok-get-in-Some-Cell-clause-none c =
    let setting = setting_of c.args.self.now in
    let cell = c.in_ok-get-in-Some-Cell.field-0 in
    let there = cell_there c.args.self.now.cells.now.rows c.in-Some-Cell.row c.get-in-Some-Cell.result cell c.get-in-Some-Cell.ensures c.in_ok-get-in-Some-Cell.was in
    let ports = pins setting c.args.kind.name.now c.in-Some-Cell.row cell.now (matched setting c.args.kind.name.now c.args.kind.meaning (Some (meaning.Cell c.in-Some-Cell.row)) (search rules) c.requires.meant) there in
    place_none setting c.args.kind.name.now (cell_ports cell.now) c.args.name.now c.cell_place.result ports c.cell_place.ensures

pub returns-in-None-clause-none : goal.returns-in-None-clause-none
returns-in-None-clause-none c = λ names ports. absurd (nothing (setting_of c.args.self.now) c.args.kind.name.now (matched (setting_of c.args.self.now) c.args.kind.name.now c.args.kind.meaning None c.in-None.is c.requires.meant) names ports)
