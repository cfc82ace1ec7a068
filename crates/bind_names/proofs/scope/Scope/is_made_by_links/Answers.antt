use Rattle.bind_names.proofs.scope.Scope.is_made_by_links.Goals as goal

pub returns-in-Some : goal.returns-in-Some
returns-in-Some c = λ made. made.undirected (c.in-Some.field-0.0, c.in-Some.field-0.1, c.in-Some.ensures.found)
