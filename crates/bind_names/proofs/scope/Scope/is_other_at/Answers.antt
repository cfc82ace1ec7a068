use Rattle.bind_names.specs.Scoped.{sites_of}
use Rattle.bind_names.proofs.RangeFaults.{other_at}
use Rattle.bind_names.proofs.scope.Scope.is_other_at.Goals as goal

pub returns-then-earlier-at : goal.returns-then-earlier-at
returns-then-earlier-at c =
    other_at (sites_of c.args.self.now) c.args.earlier c.args.at c.args.range c.range_at.result c.is_same.result c.if-earlier-at.true c.requires.there c.range_at.ensures c.is_same.ensures
