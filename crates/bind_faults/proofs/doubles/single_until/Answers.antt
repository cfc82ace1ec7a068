use Rattle.std.proofs.Common.{ℕ, subst}
use Rattle.std.proofs.lemmas.List.{length-map}
use Rattle.bind_sites.specs.View.{view_site}
use Rattle.bind_names.specs.Scoped.{HasNoDouble, sites_of}
use Rattle.bind_faults.proofs.FirstDoubles.{single_before, single_last, single_all}
use Rattle.bind_faults.proofs.doubles.single_until.Goals as goal

pub returns-in-Some-clause-before : goal.returns-in-Some-clause-before
returns-in-Some-clause-before c = single_before (sites_of c.args.scope.now) c.args.scope.now.double c.requires (c.in-Some.site, c.in-Some.field-0-1) c.in-Some.is

pub returns-in-Some-clause-last : goal.returns-in-Some-clause-last
returns-in-Some-clause-last c = single_last (sites_of c.args.scope.now) c.args.scope.now.double c.requires (c.in-Some.site, c.in-Some.field-0-1) c.in-Some.is

pub returns-in-None-clause-before : goal.returns-in-None-clause-before
returns-in-None-clause-before c =
    subst (λ (n : ℕ). HasNoDouble (sites_of c.args.scope.now) n) (length-map c.args.scope.now.sites.now view_site) (single_all (sites_of c.args.scope.now) c.args.scope.now.double c.requires c.in-None.is)
