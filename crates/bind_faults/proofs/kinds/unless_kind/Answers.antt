use Rattle.std.proofs.Common.{refl, subst, Option, None}
use Rattle.bind_hierarchy.specs.declared.kinds.Meaning.{Meaning}
use Rattle.bind_kinds.specs.Meanings.{KindMeans}
use Rattle.bind_faults.proofs.KindNames.{is_kind, no_kind}
use Rattle.bind_faults.proofs.kinds.unless_kind.Goals as goal

pub returns-in-Some-clause-none : goal.returns-in-Some-clause-none
returns-in-Some-clause-none c = λ setting meant. is_kind setting c.args.kind.name.now c.in-Some.field-0 (subst (λ (m : Option Meaning). KindMeans setting c.args.kind.name.now m) c.in-Some.is meant)

pub returns-in-None-clause-found : goal.returns-in-None-clause-found
returns-in-None-clause-found c = (refl, λ setting meant. no_kind setting c.args.kind.name.now (subst (λ (m : Option Meaning). KindMeans setting c.args.kind.name.now m) c.in-None.is meant))
