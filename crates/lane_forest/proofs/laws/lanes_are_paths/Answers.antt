use Rattle.lane_forest.proofs.PulseLaws.{lane_path, path_lane}
use Rattle.lane_forest.proofs.laws.lanes_are_paths.Goals as goal

pub returns : goal.returns
returns c design lanes are = (lane_path design lanes are, path_lane design lanes are)
