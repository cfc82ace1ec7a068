-- The graph of a whole binary file.
use Rattle.std.specs.Prelude.{◌≡◌, ℕ, ◌+◌, ◌-◌, ◌*◌, ◌⊎◌, List, length, replicate, None, Result, Ok, Err}
use Rattle.golden_aig.specs.declared.graph.Aig.{Aig}
use Rattle.aiger_parts.specs.declared.fault.AigerWhy.TheVariants as why
use Rattle.aiger_parts.specs.declared.fault.AigerFault.{AigerFault}
use Rattle.aiger_parts.specs.declared.fault.Stop.{Stop}
use Rattle.aiger_parts.specs.Reading.{◌>>=◌, literal_at, and_at, many_at}
use Rattle.aiger_parts.specs.declared.header.Form.TheVariants as form
use Rattle.aiger_parts.specs.Header.{header_at}
use Rattle.aiger_parts.specs.Symbols.{symbols_at}

-- The header, so many output lines, so many ANDs, and the symbols.
unfoldable pub graph_at : List ℕ → Result Aig Stop
graph_at bytes = do
  head ← header_at form.Binary bytes
  outputs ← many_at (λ place. literal_at (2 * (head.0.inputs + head.0.ands) + 1)) 0 head.0.outputs head.1
  ands ← many_at (λ place. and_at (2 * (head.0.inputs + place + 1))) 0 head.0.ands outputs.1
  names ← symbols_at (length ands.1) (replicate head.0.inputs None, replicate head.0.outputs None) ands.1
  Ok (record { inputs = head.0.inputs; ands = ands.0; outputs = outputs.0; in_names = names.0; out_names = names.1 })

-- the bytes are a binary file of this graph
abbrev pub ReadsAs : List ℕ → Aig → Type 0
ReadsAs bytes aig = graph_at bytes ≡ Ok aig

-- want of memory, or the first fault of the bytes
abbrev pub IsBinaryFault : List ℕ → AigerFault → Type 0
IsBinaryFault bytes fault = (fault.why ≡ why.Memory) ⊎ ((stop : Stop) × (graph_at bytes ≡ Err stop) × (fault.why ≡ stop.why) × (fault.offset ≡ length bytes - stop.left))
