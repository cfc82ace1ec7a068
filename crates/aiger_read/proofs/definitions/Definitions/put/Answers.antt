use Rattle.aiger_read.proofs.Marks.{marks_put}
use Rattle.aiger_read.proofs.definitions.Definitions.put.Goals as goal

pub returns-clause-marks : goal.returns-clause-marks
returns-clause-marks c =
    rw c.in_ok-push.ensures.ok (marks_put c.args.top c.args.literal c.args.self.now.literals c.args.self.now.marks.items c.requires.marks c.requires.inside c.requires.even)
