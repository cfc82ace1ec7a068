use Rattle.aiger_parts.proofs.header.+take_zeros.Given as goal

abbrev pub decreases-take_zeros : goal.decreases-take_zeros
decreases-take_zeros l = l.count
