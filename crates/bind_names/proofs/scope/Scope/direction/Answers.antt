use Rattle.std.proofs.Common.{length}
use Rattle.bind_sites.specs.declared.sort.Sort.TheVariants as sort
use Rattle.name_table.specs.Places.{place_of}
use Rattle.bind_names.specs.Scoped.{sites_of}
use Rattle.bind_names.proofs.NameRanges.{port_found, port_missing, no_direction, found, missed}
use Rattle.bind_names.proofs.scope.Scope.direction.Goals as goal

pub returns-in_err-at-clause-missed : goal.returns-in_err-at-clause-missed
returns-in_err-at-clause-missed c =
    let all = sites_of c.args.self.now in
    let none = missed sort.Direction all (length all) c.args.name.now c.find.result (place_of c.args.self.now.directions c.args.name.now) c.find.ensures c.in_err-at.was (c.requires.directions c.args.name.now) in
    rw c.from_residual.ensures (no_direction all c.args.name.now none)

pub returns-in-Port-clause-found : goal.returns-in-Port-clause-found
returns-in-Port-clause-found c =
    let all = sites_of c.args.self.now in
    let first = found sort.Direction all (length all) c.args.name.now c.find.result (place_of c.args.self.now.directions c.args.name.now) c.in_ok-at.at c.find.ensures c.in_ok-at.was (c.requires.directions c.args.name.now) in
    port_found c.args.self.now.sites.now c.in_ok-at.at _ c.args.name.now c.in-Port.name c.in-Port.output c.in-Port.range first.0 first.1 c.in-Port.is

pub returns-in_default : goal.returns-in_default
returns-in_default c =
    let all = sites_of c.args.self.now in
    let first = found sort.Direction all (length all) c.args.name.now c.find.result (place_of c.args.self.now.directions c.args.name.now) c.in_ok-at.at c.find.ensures c.in_ok-at.was (c.requires.directions c.args.name.now) in
    absurd (port_missing c.args.self.now.sites.now c.in_ok-at.at _ c.args.name.now first.0 first.1 c.in_default.not-Port)
