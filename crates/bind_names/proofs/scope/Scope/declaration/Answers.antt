use Rattle.std.proofs.Common.{length}
use Rattle.bind_sites.specs.declared.sort.Sort.TheVariants as sort
use Rattle.name_table.specs.Places.{place_of}
use Rattle.bind_names.specs.Scoped.{sites_of}
use Rattle.bind_names.proofs.NameRanges.{wire_stands, no_declaration, found, missed}
use Rattle.bind_names.proofs.scope.Scope.declaration.Goals as goal

pub returns-in_err-at-clause-missed : goal.returns-in_err-at-clause-missed
returns-in_err-at-clause-missed c =
    let all = sites_of c.args.self.now in
    let none = missed sort.Wire all (length all) c.args.name.now c.find.result (place_of c.args.self.now.wires c.args.name.now) c.find.ensures c.in_err-at.was (c.requires.wires c.args.name.now) in
    rw c.from_residual.ensures (no_declaration all c.args.name.now none)

pub returns-clause-found : goal.returns-clause-found
returns-clause-found c =
    let all = sites_of c.args.self.now in
    let first = found sort.Wire all (length all) c.args.name.now c.find.result (place_of c.args.self.now.wires c.args.name.now) c.in_ok-at.at c.find.ensures c.in_ok-at.was (c.requires.wires c.args.name.now) in
    wire_stands all c.args.name.now c.in_ok-at.at c.range_at.result first.1 c.range_at.ensures
