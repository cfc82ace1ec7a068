use Rattle.bind_hierarchy.proofs.Roots.{tops_of}
use Rattle.bind_hierarchy.proofs.top.single_top.Goals as goal

pub returns : goal.returns
returns c = λ modules m. tops_of modules c.args.graph.now m c.only_root.result c.only_root.ensures
