use Rattle.std.proofs.Common.{length}
use Rattle.bind_sites.specs.declared.sort.Sort.TheVariants as sort
use Rattle.name_table.specs.Places.{place_of}
use Rattle.bind_names.specs.Scoped.{sites_of}
use Rattle.bind_names.proofs.NameRanges.{listing_stands, no_listing, found, missed}
use Rattle.bind_names.proofs.scope.Scope.is_listed.Goals as goal

pub returns-in-Some : goal.returns-in-Some
returns-in-Some c =
    let all = sites_of c.args.self.now in
    let first = found sort.Listed all (length all) c.args.name.now c.find.result (place_of c.args.self.now.listed c.args.name.now) c.in-Some.field-0 c.find.ensures c.in-Some.is (c.requires.listed c.args.name.now) in
    listing_stands all c.args.name.now c.in-Some.field-0 first.1

pub returns-in-None : goal.returns-in-None
returns-in-None c =
    let all = sites_of c.args.self.now in
    no_listing all c.args.name.now (missed sort.Listed all (length all) c.args.name.now c.find.result (place_of c.args.self.now.listed c.args.name.now) c.find.ensures c.in-None.is (c.requires.listed c.args.name.now))
