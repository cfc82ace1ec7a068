use Rattle.bind_names.specs.Scoped.{sites_of}
use Rattle.bind_names.proofs.PortLinks.{once_more, not_again, once_all}
use Rattle.bind_names.proofs.scope.Scope.port_twice.Goals as goal

pub loop-at-preserved : goal.loop-at-preserved
loop-at-preserved c =
    let all = sites_of c.args.self.now in
    (c.in_ok-name.ensures.linked, once_more all c.loop-at.at (not_again all c.loop-at.at c.in_ok-name.field-0 c.in_default.is c.in_ok-name.ensures.again) c.loop-at.invariant.1)

pub returns : goal.returns
returns c = once_all c.args.self.now.sites.now c.loop-at.at c.loop-at-test.false c.loop-at.invariant.1
