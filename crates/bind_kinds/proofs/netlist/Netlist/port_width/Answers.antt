use Rattle.std.proofs.Common.{Some, None, rules}
use Rattle.bind_hierarchy.specs.declared.kinds.Meaning.TheVariants as meaning
use Rattle.bind_hierarchy.specs.Modules.{Means}
use Rattle.bind_names.specs.Scoped.{sites_of}
use Rattle.bind_kinds.specs.Netlist.{IsScopeOf, setting_of}
use Rattle.bind_kinds.proofs.Ports.{matched, looked_up, found_in_first, module_width, module_no_width, pin_width, no_width}
use Rattle.bind_kinds.proofs.netlist.Netlist.port_width.Goals as goal

pub returns-in_err-get-in-Some-Module-clause-none : goal.returns-in_err-get-in-Some-Module-clause-none
returns-in_err-get-in-Some-Module-clause-none c =
    let setting = setting_of c.args.self.now in
    let at = c.in-Some-Module.at in
    let means : Means setting.modules setting.table c.args.kind.name.now (Some (meaning.Module at)) = matched setting c.args.kind.name.now c.args.kind.meaning (Some (meaning.Module at)) (search rules) c.requires.meant in
    absurd (found_in_first IsScopeOf setting.modules c.args.self.now.scopes.now at means.0.0 c.requires.netlist.scopes means.0.1 c.in_err-get-in-Some-Module.ensures.lookup.3)

pub name_width-requires : goal.name_width-requires
name_width-requires c =
    let scope = c.in_ok-get-in-Some-Module.field-0.now in
    let found = c.in_ok-get-in-Some-Module.ensures.lookup in
    (looked_up IsScopeOf (setting_of c.args.self.now).modules c.args.self.now.scopes.now c.in-Some-Module.at scope c.requires.netlist.scopes found.3.0 found.1).2.is_scope

pub returns-in_ok-get-in-Some-Module-clause-found : goal.returns-in_ok-get-in-Some-Module-clause-found
returns-in_ok-get-in-Some-Module-clause-found c =
    let setting = setting_of c.args.self.now in
    let at = c.in-Some-Module.at in
    let scope = c.in_ok-get-in-Some-Module.field-0.now in
    let found = c.in_ok-get-in-Some-Module.ensures.lookup in
    let means : Means setting.modules setting.table c.args.kind.name.now (Some (meaning.Module at)) = matched setting c.args.kind.name.now c.args.kind.meaning (Some (meaning.Module at)) (search rules) c.requires.meant in
    let owner = looked_up IsScopeOf setting.modules c.args.self.now.scopes.now at scope c.requires.netlist.scopes found.3.0 found.1 in
    module_width setting c.args.kind.name.now c.args.name.now at owner.0 (sites_of scope) c.name_width.result means owner.1 owner.2.sites_are c.name_width.ensures

pub returns-in_ok-get-in-Some-Module-clause-none : goal.returns-in_ok-get-in-Some-Module-clause-none
returns-in_ok-get-in-Some-Module-clause-none c =
    let setting = setting_of c.args.self.now in
    let at = c.in-Some-Module.at in
    let scope = c.in_ok-get-in-Some-Module.field-0.now in
    let found = c.in_ok-get-in-Some-Module.ensures.lookup in
    let means : Means setting.modules setting.table c.args.kind.name.now (Some (meaning.Module at)) = matched setting c.args.kind.name.now c.args.kind.meaning (Some (meaning.Module at)) (search rules) c.requires.meant in
    let owner = looked_up IsScopeOf setting.modules c.args.self.now.scopes.now at scope c.requires.netlist.scopes found.3.0 found.1 in
    module_no_width setting c.args.kind.name.now c.args.name.now at owner.0 (sites_of scope) c.name_width.result means owner.1 owner.2.sites_are c.name_width.ensures

pub returns-in-Some-Cell-clause-found : goal.returns-in-Some-Cell-clause-found
returns-in-Some-Cell-clause-found c =
    let setting = setting_of c.args.self.now in
    let row = c.in-Some-Cell.field-0-0 in
    pin_width setting c.args.kind.name.now c.args.name.now row (matched setting c.args.kind.name.now c.args.kind.meaning (Some (meaning.Cell row)) (search rules) c.requires.meant)

pub returns-in-None-clause-none : goal.returns-in-None-clause-none
returns-in-None-clause-none c = no_width (setting_of c.args.self.now) c.args.kind.name.now c.args.name.now (matched (setting_of c.args.self.now) c.args.kind.name.now c.args.kind.meaning None c.in-None.is c.requires.meant)
