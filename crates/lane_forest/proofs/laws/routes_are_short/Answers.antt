use Rattle.lane_forest.proofs.Short.{route_short}
use Rattle.lane_forest.proofs.laws.routes_are_short.Goals as goal

pub returns : goal.returns
returns c design order is arcs net route = route_short design order is arcs net route
