use Rattle.aiger_parts.proofs.ands.+is_cut.Given as goal

abbrev pub decreases-is_cut : goal.decreases-is_cut
decreases-is_cut l = l.most
