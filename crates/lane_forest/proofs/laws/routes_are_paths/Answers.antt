use Rattle.lane_forest.proofs.Routes.{route_path}
use Rattle.lane_forest.proofs.laws.routes_are_paths.Goals as goal

pub returns : goal.returns
returns c design rank ready arcs net route = route_path design rank ready arcs net route
