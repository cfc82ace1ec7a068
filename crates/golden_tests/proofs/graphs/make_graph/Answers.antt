use Rattle.std.proofs.Common.{length}
use Rattle.golden_tests.proofs.Samples.{sample_graph}
use Rattle.golden_tests.proofs.graphs.make_graph.Goals as goal

pub returns : goal.returns
returns c =
    sample_graph (length c.args.in_names.now) (length c.args.out_names.now) c.new.result c.in_ok-make_constants.field-0 c.in_ok-make_entries.field-0 c.in_ok-make_entries-2.field-0 c.new.ensures
    c.in_ok-make_constants.ensures c.requires.inputs c.in_ok-make_entries.ensures c.in_ok-make_entries-2.ensures
