-- The call that a kept `Blamed` stands for.
use Rattle.std.specs.Prelude.{None, Some, string_bytes}
use Rattle.std.specs.declared.option.Option.{Option}
use Rattle.rsfq_outside.specs.declared.blamed.Blamed.{Blamed}
use Rattle.rsfq_outside.specs.Causes.{Call}

-- its kind, and the bytes of its name
abbrev pub call_of : Option Blamed → Option Call
call_of None = None
call_of (Some b) = Some (b.kind, string_bytes b.name)
