use Rattle.std.proofs.Common.{refl}
use Rattle.bind_sites.specs.Scope.{AsPort, AsLinked}
use Rattle.bind_names.proofs.scope.Scope.range_of.Goals as goal

pub returns-in-Some-clause-known : goal.returns-in-Some-clause-known
returns-in-Some-clause-known c = AsPort c.in-Some.field-0-0 c.in-Some.ensures.found

pub returns-then-is_linked-clause-known : goal.returns-then-is_linked-clause-known
returns-then-is_linked-clause-known c = AsLinked c.in_default.ensures.missed c.in_default-declaration.ensures.missed c.if-is_linked.ensures refl
