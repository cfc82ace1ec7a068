-- What the tabulation of a formula asks, but that its inputs are few.
use Rattle.std.specs.Prelude.{◌≢◌, ◌<◌}
use Rattle.std.specs.List.{All, AllPairs}
use Rattle.rsfq_ids.specs.Formula.{IsFormula}
use Rattle.rsfq_ids.specs.Propagation.{InputsDecide}
use Rattle.miter_cnf.specs.declared.made.MiterCnf.{MiterCnf}

pub record IsTabulable (made : MiterCnf) : Type 0 where
  pub formula : IsFormula made.cnf
  pub decide : InputsDecide made.cnf made.inputs
  pub vars : All (λ input. input < made.cnf.vars) made.inputs
  pub once : AllPairs (λ one other. one ≢ other) made.inputs
