use Rattle.bind_names.specs.Scoped.{sites_of}
use Rattle.bind_names.proofs.Known.{known}
use Rattle.bind_names.proofs.scope.Scope.unless_known.Goals as goal

pub returns-in-Some-clause-none : goal.returns-in-Some-clause-none
returns-in-Some-clause-none c = known (sites_of c.args.self.now) c.args.name.now c.in-Some.field-0 c.in-Some.ensures.known
