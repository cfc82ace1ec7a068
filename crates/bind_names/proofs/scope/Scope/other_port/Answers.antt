use Rattle.std.proofs.Common.{length, refl}
use Rattle.bind_sites.specs.declared.sort.Sort.TheVariants as sort
use Rattle.name_table.specs.Places.{place_of}
use Rattle.bind_names.specs.Scoped.{sites_of}
use Rattle.bind_names.proofs.NameRanges.{found, missed}
use Rattle.bind_names.proofs.RangeFaults.{port_missed, port_other, port_same}
use Rattle.bind_names.proofs.scope.Scope.other_port.Goals as goal

pub returns-in_err-earlier-clause-none : goal.returns-in_err-earlier-clause-none
returns-in_err-earlier-clause-none c =
    let all = sites_of c.args.self.now in
    let none = missed sort.Direction all (length all) c.args.name.now c.find.result (place_of c.args.self.now.directions c.args.name.now) c.find.ensures c.in_err-earlier.was (c.requires.scope.directions c.args.name.now) in
    rw c.from_residual.ensures (port_missed all c.args.at c.args.name.now c.args.range none)

pub returns-then-is_other_at-clause-found : goal.returns-then-is_other_at-clause-found
returns-then-is_other_at-clause-found c =
    let all = sites_of c.args.self.now in
    let place = found sort.Direction all (length all) c.args.name.now c.find.result (place_of c.args.self.now.directions c.args.name.now) c.in_ok-earlier.earlier c.find.ensures c.in_ok-earlier.was (c.requires.scope.directions c.args.name.now) in
    (refl, port_other all c.args.at c.in_ok-earlier.earlier c.args.name.now c.args.range place.1 c.if-is_other_at.ensures)

pub returns-else-is_other_at-clause-none : goal.returns-else-is_other_at-clause-none
returns-else-is_other_at-clause-none c =
    let all = sites_of c.args.self.now in
    let place = found sort.Direction all (length all) c.args.name.now c.find.result (place_of c.args.self.now.directions c.args.name.now) c.in_ok-earlier.earlier c.find.ensures c.in_ok-earlier.was (c.requires.scope.directions c.args.name.now) in
    port_same all c.args.at c.in_ok-earlier.earlier c.args.name.now c.args.range c.requires.single place.1 c.if-is_other_at.ensures
