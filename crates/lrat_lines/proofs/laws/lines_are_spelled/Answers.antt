use Rattle.lrat_lines.proofs.SpelledLines.{lines_spelled}
use Rattle.lrat_lines.proofs.laws.lines_are_spelled.Goals as goal

pub returns : goal.returns
returns c = lines_spelled
