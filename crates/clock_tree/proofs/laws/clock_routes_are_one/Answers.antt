use Rattle.clock_tree.proofs.Clocks.{clock_one}
use Rattle.clock_tree.proofs.laws.clock_routes_are_one.Goals as goal

pub returns : goal.returns
returns c graph bench clock other net g is_clock route = clock_one graph g bench clock other net is_clock route
