use Rattle.bind_names.specs.Scoped.{sites_of}
use Rattle.bind_faults.proofs.PortLinks.{first_twice, none_twice}
use Rattle.bind_faults.proofs.scan.refuse_port_twice.Goals as goal

pub returns-in_ok-of-in-Some : goal.returns-in_ok-of-in-Some
returns-in_ok-of-in-Some c = λ setting other.
    first_twice setting (sites_of c.args.scope.now) c.in_ok-name.field-0 c.in-Some.field-0-0 c.in-Some.name c.in_ok-of-in-Some.field-0 c.in-Some.is c.in_ok-of-in-Some.ensures c.in_ok-name.ensures

pub returns-in-None : goal.returns-in-None
returns-in-None c = λ setting. none_twice setting (sites_of c.args.scope.now) c.in_ok-name.field-0 c.in-None.is c.in_ok-name.ensures
