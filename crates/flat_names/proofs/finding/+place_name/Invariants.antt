use Rattle.flat_names.proofs.finding.+place_name.Given as goal

abbrev pub decreases-place_name : goal.decreases-place_name
decreases-place_name l = l.levels
