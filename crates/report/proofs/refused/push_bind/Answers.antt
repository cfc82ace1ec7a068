use Rattle.report.proofs.refused.push_bind.Goals as goal

pub returns-in-DuplicateName : goal.returns-in-DuplicateName
returns-in-DuplicateName c = rw c.in-DuplicateName.is c.push_pair.ensures

pub returns-in-NoTop : goal.returns-in-NoTop
returns-in-NoTop c = rw c.in-NoTop.is c.words.ensures

pub returns-in-Recursive : goal.returns-in-Recursive
returns-in-Recursive c = rw (c.in-Recursive.is, ← c.as_slice.ensures) c.push_names.ensures

pub returns-in-TooMany : goal.returns-in-TooMany
returns-in-TooMany c = rw c.in-TooMany.is c.push_numbers.ensures

pub returns-in-NoSuchName : goal.returns-in-NoSuchName
returns-in-NoSuchName c = rw c.in-NoSuchName.is c.push_name-in-NoSuchName.ensures

pub returns-in-WidthLimit : goal.returns-in-WidthLimit
returns-in-WidthLimit c = rw c.in-WidthLimit.is c.push_number.ensures
