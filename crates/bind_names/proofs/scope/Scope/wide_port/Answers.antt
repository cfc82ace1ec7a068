use Rattle.bind_names.specs.Scoped.{sites_of}
use Rattle.bind_names.proofs.Wide.{port_is_wide, port_fits, no_port}
use Rattle.bind_names.proofs.scope.Scope.wide_port.Goals as goal

pub returns-then-width-gt-WIDTH_LIMIT-clause-found : goal.returns-then-width-gt-WIDTH_LIMIT-clause-found
returns-then-width-gt-WIDTH_LIMIT-clause-found c =
    port_is_wide (sites_of c.args.self.now) c.args.name.now _ _ c.width_of-width.result c.in_ok-range.ensures.found c.width_of-width.ensures c.if-width-gt-WIDTH_LIMIT.true

pub returns-else-width-gt-WIDTH_LIMIT-clause-none : goal.returns-else-width-gt-WIDTH_LIMIT-clause-none
returns-else-width-gt-WIDTH_LIMIT-clause-none c =
    port_fits (sites_of c.args.self.now) c.args.name.now _ _ c.width_of-width.result c.requires.single c.in_ok-range.ensures.found c.width_of-width.ensures c.if-width-gt-WIDTH_LIMIT.false
