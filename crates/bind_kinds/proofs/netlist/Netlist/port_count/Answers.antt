use Rattle.std.proofs.Common.{Some, None, rules}
use Rattle.verilog_tree.specs.Views.{view_head, view_module}
use Rattle.bind_sites.specs.Sites.{port_names}
use Rattle.bind_hierarchy.specs.declared.kinds.Meaning.TheVariants as meaning
use Rattle.bind_forms.specs.WellFormed.{cell_ports}
use Rattle.bind_kinds.specs.Netlist.{setting_of}
use Rattle.bind_kinds.proofs.Ports.{holder_there, cell_there, module_ports, pins, matched, nothing}
use Rattle.bind_kinds.proofs.netlist.Netlist.port_count.Goals as goal

pub returns-in_ok-get-in-Some-Module-clause-found : goal.returns-in_ok-get-in-Some-Module-clause-found
returns-in_ok-get-in-Some-Module-clause-found c =
    let holder = c.in_ok-get-in-Some-Module.field-0 in
    let there = holder_there c.args.self.now.source.now.modules c.in-Some-Module.at c.get.result holder c.get.ensures c.in_ok-get-in-Some-Module.was in
    (port_names (view_head holder.now.head), module_ports (setting_of c.args.self.now) c.args.kind.name.now c.in-Some-Module.at (view_module holder.now) (matched (setting_of c.args.self.now) c.args.kind.name.now c.args.kind.meaning (Some (meaning.Module c.in-Some-Module.at)) (search rules) c.requires.meant) there, c.head_count.ensures)

pub returns-in_ok-get-in-Some-Cell-clause-found : goal.returns-in_ok-get-in-Some-Cell-clause-found
returns-in_ok-get-in-Some-Cell-clause-found c =
    let cell = c.in_ok-get-in-Some-Cell.field-0 in
    let there = cell_there c.args.self.now.cells.now.rows c.in-Some-Cell.row c.get-in-Some-Cell.result cell c.get-in-Some-Cell.ensures c.in_ok-get-in-Some-Cell.was in
    (cell_ports cell.now, pins (setting_of c.args.self.now) c.args.kind.name.now c.in-Some-Cell.row cell.now (matched (setting_of c.args.self.now) c.args.kind.name.now c.args.kind.meaning (Some (meaning.Cell c.in-Some-Cell.row)) (search rules) c.requires.meant) there, c.cell_count.ensures)

pub returns-in-None-clause-none : goal.returns-in-None-clause-none
returns-in-None-clause-none c = nothing (setting_of c.args.self.now) c.args.kind.name.now (matched (setting_of c.args.self.now) c.args.kind.name.now c.args.kind.meaning None c.in-None.is c.requires.meant)
