-- When a count of faults has risen, and what a call that fails leaves behind.
use Rattle.std.specs.Prelude.{◌≡◌, ℕ, ◌+◌, ◌-◌, ◌^◌, ◌≤◌, min, List, Some, OnErr, IsErrOf}
use Rattle.std.specs.declared.result.Result.{Result}
use Rattle.std.specs.declared.option.Option.{Option}
use Rattle.rsfq_outside.specs.declared.fault.CallKind.{CallKind}
use Rattle.rsfq_outside.specs.declared.fault.FolderFault.{FolderFault}
use Rattle.rsfq_outside.specs.declared.fault.FolderFault.TheVariants.{Failed}

-- one more on a count of 64 bits, which stands still at its end, 2^64 - 1
abbrev pub next_count : ℕ → ℕ
next_count n = min (n + 1) (2 ^ 64 - 1)

-- a count has risen, or stands at its end
abbrev pub Rose : ℕ → ℕ → Type 0
Rose before now = next_count before ≤ now

-- a call of a folder: its kind and the name that it was given, as bytes
abbrev pub Call : Type 0
Call = CallKind × List ℕ

-- the count doesn't fall, and an error comes only where it rose
pub record HasCause {T E : Type 0} (before now : ℕ) (result : Result T E) : Type 0 where
  pub later : before ≤ now
  pub failed : OnErr result (Rose before now)

-- The count doesn't fall. `Failed` comes only where it rose, and then this call is the one to blame; after any other
-- answer the one to blame is as before.
pub record HasBlame {T : Type 0} (before now : ℕ) (was is : Option Call) (call : Call) (result : Result T FolderFault) : Type 0 where
  pub later : before ≤ now
  pub rose : IsErrOf result Failed → Rose before now
  pub blame : IsErrOf result Failed → is ≡ Some call
  pub kept : ¬ IsErrOf result Failed → is ≡ was
