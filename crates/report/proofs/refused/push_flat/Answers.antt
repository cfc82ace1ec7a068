use Rattle.report.proofs.refused.push_flat.Goals as goal

pub returns-in-TwoDrivers : goal.returns-in-TwoDrivers
returns-in-TwoDrivers c = rw c.in-TwoDrivers.is c.push_three.ensures

pub returns-in-NoDriver : goal.returns-in-NoDriver
returns-in-NoDriver c = rw c.in-NoDriver.is c.push_name.ensures
