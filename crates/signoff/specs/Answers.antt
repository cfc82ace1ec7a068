-- What the parts of an answer to a netlist say. It serves the clauses of private functions.
use Rattle.std.specs.Prelude.{◌≡◌, ◌⊎◌, ℕ, List, length}
use Rattle.rsfq_ids.specs.declared.id.PortId.{PortId}
use Rattle.rsfq_ids.specs.declared.circuit.Flat.{Flat}
use Rattle.rsfq_outside.specs.declared.status.Status.{Status}
use Rattle.rsfq_outside.specs.declared.status.Status.TheVariants.{Accepted, Refused}
use Rattle.flat_form.specs.Form.{IsOfForm, IsClockPort}
use Rattle.wire_timing.specs.declared.WireDepth.{WireDepth}
use Rattle.signoff.specs.declared.words.Times.{Times}
use Rattle.signoff.specs.Text.{accepted_text, stages_text, form_text}
use Rattle.signoff.specs.Verdict.{AreShallowBefore, IsFirstDeep, timed_design, IsJudged}

-- no depth is above the limit
abbrev pub AreShallow : List WireDepth → Type 0
AreShallow depths = AreShallowBefore (length depths) depths

-- the reply to depths, where no window offence exists
pub record IsPassed (flat : Flat) (depths : List WireDepth) (status : Status) (text : List ℕ) : Type 0 where
  pub answer : status ≡ Accepted
  pub shallow : AreShallow depths
  pub printed : text ≡ accepted_text flat depths

pub record IsStopped (flat : Flat) (depths : List WireDepth) (status : Status) (text : List ℕ) : Type 0 where
  pub answer : status ≡ Refused
  pub place : ℕ
  pub first : IsFirstDeep depths place
  pub printed : text ≡ stages_text flat first.found

abbrev pub IsReplied : Flat → List WireDepth → Status → List ℕ → Type 0
IsReplied flat depths status text = IsPassed flat depths status text ⊎ IsStopped flat depths status text

-- the reply to a circuit that is of no form
pub record IsFormless (flat : Flat) (status : Status) (text : List ℕ) : Type 0 where
  pub answer : status ≡ Refused
  pub none : ¬ IsOfForm flat
  pub printed : text ≡ form_text

-- the reply to a circuit of the form
pub record IsFormed (times : Times) (flat : Flat) (status : Status) (text : List ℕ) : Type 0 where
  pub clock : PortId
  pub form : IsOfForm flat
  pub clock_is : IsClockPort flat clock
  pub judged : IsJudged (timed_design times flat clock) status text

abbrev pub IsAnswer : Times → Flat → Status → List ℕ → Type 0
IsAnswer times flat status text = IsFormless flat status text ⊎ IsFormed times flat status text
