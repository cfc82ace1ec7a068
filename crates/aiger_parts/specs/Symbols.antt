-- The lines behind the ANDs: symbols, and a line that ends them.
use Rattle.std.specs.Prelude.{ℕ, zero, suc, ◌+◌, ◌==◌, ◌&&◌, not, Bool, true, cond, List, [], ◌∷◌, length, take, drop, slice_get, slice_set, Option, Some, None, Result, Ok, Err, if◌then◌else◌}
use Rattle.std.specs.Option.{option_map}
use Rattle.std.specs.Str.{is_utf8, bytes_eq}
use Rattle.aiger_parts.specs.declared.fault.AigerWhy.TheVariants as why
use Rattle.aiger_parts.specs.declared.fault.Stop.{Stop}
use Rattle.aiger_parts.specs.Reading.{◌>>=◌, fault, field_length, number_of}

-- the symbols of inputs or of outputs
abbrev pub Entries : Type 0
Entries = List (Option (List ℕ))

-- how long a line is, up to a newline or the end
abbrev pub line_length : List ℕ → ℕ
line_length [] = 0
line_length (byte ∷ bytes) = cond (byte == 10) 0 (1 + line_length bytes)

-- a name is not empty, and UTF-8
unfoldable pub name_of : List ℕ → Option (List ℕ)
name_of name = if not (length name == 0) && is_utf8 name then Some name else None

abbrev pub named : List ℕ → Option ℕ → Option (ℕ × List ℕ)
named rest None = None
named [] (Some place) = None
named (space ∷ name) (Some place) = if space == 32 then option_map (λ n. (place, n)) (name_of name) else None

-- a number, a space and a name
unfoldable pub symbol_of : List ℕ → Option (ℕ × List ℕ)
symbol_of bytes = named (drop (field_length bytes) bytes) (number_of (take (field_length bytes) bytes))

abbrev pub put_free : Entries → ℕ → List ℕ → Option (Option (List ℕ)) → Option Entries
put_free entries place name None = None
put_free entries place name (Some None) = Some (slice_set entries place (Some name))
put_free entries place name (Some (Some other)) = None

-- the entries with one more symbol, whose number is in range and was free
abbrev pub with_symbol : Entries → Option (ℕ × List ℕ) → Option Entries
with_symbol entries None = None
with_symbol entries (Some symbol) = put_free entries symbol.0 symbol.1 (slice_get entries symbol.0)

-- a line `i`, number, space, name gives an input its symbol, and one with `o` an output
abbrev pub with_line : Entries × Entries → List ℕ → Option (Entries × Entries)
with_line entries [] = None
with_line entries (kind ∷ bytes) =
    if kind == 105 then option_map (λ inputs. (inputs, entries.1)) (with_symbol entries.0 (symbol_of bytes))
    else (if kind == 111 then option_map (λ outputs. (entries.0, outputs)) (with_symbol entries.1 (symbol_of bytes)) else None)

abbrev pub line_or : List ℕ → Option (Entries × Entries) → Result (Entries × Entries) Stop
line_or bytes None = Err (fault why.Symbol bytes)
line_or bytes (Some entries) = Ok entries

-- the entries after the line at the front
unfoldable pub line_at : Entries × Entries → List ℕ → Result (Entries × Entries) Stop
line_at entries bytes = line_or bytes (with_line entries (take (line_length bytes) bytes))

-- the symbols end at the end of the file or at a line `c`
abbrev pub ends_symbols : List ℕ → Bool
ends_symbols [] = true
ends_symbols (byte ∷ bytes) = bytes_eq (take (line_length (byte ∷ bytes)) (byte ∷ bytes)) (99 ∷ [])

-- The symbols of the lines. The number is at least that of the lines: each has a byte.
unfoldable pub symbols_at : ℕ → Entries × Entries → List ℕ → Result (Entries × Entries) Stop
symbols_at zero entries bytes = Ok entries
symbols_at (suc lines) entries bytes = if ends_symbols bytes then Ok entries else do
  more ← line_at entries bytes
  symbols_at lines more (drop (line_length bytes + 1) bytes)
