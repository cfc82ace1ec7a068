-- What the stop of a reader says of the whole file.
use Rattle.std.proofs.Common.{◌≡◌, ℕ, ◌-◌, ◌⊎◌, inl, inr, Result, Err}
use Rattle.aiger_parts.specs.declared.fault.AigerFault.{AigerFault}
use Rattle.aiger_parts.specs.declared.fault.AigerWhy.TheVariants as why
use Rattle.aiger_parts.specs.declared.fault.Stop.{Stop}
use Rattle.aiger_parts.specs.declared.fault.ReadStop.{ReadStop}
use Rattle.aiger_parts.specs.declared.fault.ReadStop.TheVariants as stop
use Rattle.aiger_parts.specs.Reading.{Fails, IsFaultOf}

pub refusal_of : {Y : Type 0} (count : ℕ) (s : ReadStop) (fault : AigerFault) (read : Result Y Stop) → Fails s read → IsFaultOf count s fault
    → (fault.why ≡ why.Memory) ⊎ ((at : Stop) × (read ≡ Err at) × (fault.why ≡ at.why) × (fault.offset ≡ count - at.left))
refusal_of count stop.Memory fault read fails is = inl is
refusal_of count (stop.At at) fault read fails is = inr (at, fails, is.0, is.1)
