use Rattle.std.proofs.Common.{Some, None, ◌∙◌, sym, ap, rules}
use Rattle.std.specs.Option.{option_copied}
use Rattle.bind_hierarchy.specs.declared.kinds.Meaning.TheVariants as meaning
use Rattle.bind_hierarchy.specs.Modules.{Means}
use Rattle.bind_kinds.specs.Netlist.{setting_of, AreWidthsOf}
use Rattle.bind_kinds.proofs.Ports.{matched, looked_up, found_in_first, cell_there, width_found, width_lacks, width_past, pin_found, pin_past, nothing_at}
use Rattle.bind_kinds.proofs.netlist.Netlist.width_at.Goals as goal

pub returns-in_err-get-in-Some-Module-clause-none : goal.returns-in_err-get-in-Some-Module-clause-none
returns-in_err-get-in-Some-Module-clause-none c =
    let setting = setting_of c.args.self.now in
    let at = c.in-Some-Module.at in
    let means : Means setting.modules setting.table c.args.kind.name.now (Some (meaning.Module at)) = matched setting c.args.kind.name.now c.args.kind.meaning (Some (meaning.Module at)) (search rules) c.requires.meant in
    absurd (found_in_first AreWidthsOf setting.modules c.args.self.now.widths.now at means.0.0 c.requires.netlist.widths means.0.1 c.in_err-get-in-Some-Module.ensures.lookup.3)

pub returns-in_err-get-in-Some-Module-2-clause-none : goal.returns-in_err-get-in-Some-Module-2-clause-none
returns-in_err-get-in-Some-Module-2-clause-none c =
    let setting = setting_of c.args.self.now in
    let at = c.in-Some-Module.at in
    let means : Means setting.modules setting.table c.args.kind.name.now (Some (meaning.Module at)) = matched setting c.args.kind.name.now c.args.kind.meaning (Some (meaning.Module at)) (search rules) c.requires.meant in
    let found = c.in_ok-get-in-Some-Module.ensures.lookup in
    let widths = c.in_ok-get-in-Some-Module.field-0.now in
    let owner = looked_up AreWidthsOf setting.modules c.args.self.now.widths.now at widths c.requires.netlist.widths found.3.0 found.1 in
    rw c.from_residual-in_err-get-in-Some-Module-2.ensures (width_past setting c.args.kind.name.now at c.args.place owner.0 widths means owner.1 owner.2 (sym c.get-in-Some-Module.ensures ∙ ap option_copied c.in_err-get-in-Some-Module-2.was))

pub returns-in_ok-get-in-Some-Module-2-clause-found : goal.returns-in_ok-get-in-Some-Module-2-clause-found
returns-in_ok-get-in-Some-Module-2-clause-found c =
    let setting = setting_of c.args.self.now in
    let at = c.in-Some-Module.at in
    let means : Means setting.modules setting.table c.args.kind.name.now (Some (meaning.Module at)) = matched setting c.args.kind.name.now c.args.kind.meaning (Some (meaning.Module at)) (search rules) c.requires.meant in
    let found = c.in_ok-get-in-Some-Module.ensures.lookup in
    let widths = c.in_ok-get-in-Some-Module.field-0.now in
    let owner = looked_up AreWidthsOf setting.modules c.args.self.now.widths.now at widths c.requires.netlist.widths found.3.0 found.1 in
    width_found setting c.args.kind.name.now at c.args.place owner.0 widths c.in_ok-get-in-Some-Module-2.field-0.now means owner.1 owner.2 (sym c.get-in-Some-Module.ensures ∙ ap option_copied c.in_ok-get-in-Some-Module-2.was)

pub returns-in_ok-get-in-Some-Module-2-clause-none : goal.returns-in_ok-get-in-Some-Module-2-clause-none
returns-in_ok-get-in-Some-Module-2-clause-none c =
    let setting = setting_of c.args.self.now in
    let at = c.in-Some-Module.at in
    let means : Means setting.modules setting.table c.args.kind.name.now (Some (meaning.Module at)) = matched setting c.args.kind.name.now c.args.kind.meaning (Some (meaning.Module at)) (search rules) c.requires.meant in
    let found = c.in_ok-get-in-Some-Module.ensures.lookup in
    let widths = c.in_ok-get-in-Some-Module.field-0.now in
    let owner = looked_up AreWidthsOf setting.modules c.args.self.now.widths.now at widths c.requires.netlist.widths found.3.0 found.1 in
    width_lacks setting c.args.kind.name.now at c.args.place owner.0 widths c.in_ok-get-in-Some-Module-2.field-0.now means owner.1 owner.2 (sym c.get-in-Some-Module.ensures ∙ ap option_copied c.in_ok-get-in-Some-Module-2.was)

pub returns-in_ok-get-in-Some-Cell-clause-found : goal.returns-in_ok-get-in-Some-Cell-clause-found
returns-in_ok-get-in-Some-Cell-clause-found c =
    let setting = setting_of c.args.self.now in
    let row = c.in-Some-Cell.row in
    let cell = c.in_ok-get-in-Some-Cell.field-0 in
    let means : Means setting.modules setting.table c.args.kind.name.now (Some (meaning.Cell row)) = matched setting c.args.kind.name.now c.args.kind.meaning (Some (meaning.Cell row)) (search rules) c.requires.meant in
    let there = cell_there c.args.self.now.cells.now.rows row c.get-in-Some-Cell.result cell c.get-in-Some-Cell.ensures c.in_ok-get-in-Some-Cell.was in
    pin_found setting c.args.kind.name.now row c.args.place cell.now c.pin_width.result means there c.pin_width.ensures.found

pub returns-in_ok-get-in-Some-Cell-clause-none : goal.returns-in_ok-get-in-Some-Cell-clause-none
returns-in_ok-get-in-Some-Cell-clause-none c =
    let setting = setting_of c.args.self.now in
    let row = c.in-Some-Cell.row in
    let cell = c.in_ok-get-in-Some-Cell.field-0 in
    let means : Means setting.modules setting.table c.args.kind.name.now (Some (meaning.Cell row)) = matched setting c.args.kind.name.now c.args.kind.meaning (Some (meaning.Cell row)) (search rules) c.requires.meant in
    let there = cell_there c.args.self.now.cells.now.rows row c.get-in-Some-Cell.result cell c.get-in-Some-Cell.ensures c.in_ok-get-in-Some-Cell.was in
    pin_past setting c.args.kind.name.now row c.args.place cell.now c.pin_width.result means there c.pin_width.ensures.none

pub returns-in-None-clause-none : goal.returns-in-None-clause-none
returns-in-None-clause-none c =
    nothing_at (setting_of c.args.self.now) c.args.kind.name.now c.args.place (matched (setting_of c.args.self.now) c.args.kind.name.now c.args.kind.meaning None c.in-None.is c.requires.meant)
