-- What a method of the reader answers, against reading on lists. It serves the proofs.
use Rattle.std.specs.Prelude.{◌≡◌, ℕ, List, Result, Ok, Err}
use Rattle.verilog_tree.specs.declared.stop.Stop.{Stop}
use Rattle.verilog_tree.specs.declared.stop.Stop.TheVariants as stop
use Rattle.verilog_tree.specs.Words.{Word}

-- What a function returned, seen by view, and what it left are what reading gives, unless memory ran out.
abbrev pub Fails : {Y : Type 0} → Stop → Result Y ℕ → Type 0
Fails stop.Memory read = Unit {0}
Fails (stop.Left n) read = read ≡ Err n

abbrev pub Gives : {X Y : Type 0} → List Word → (X → Y) → Result X Stop → Result (Y × List Word) ℕ → Type 0
Gives left view (Ok x) read = read ≡ Ok (view x, left)
Gives left view (Err e) read = Fails e read

abbrev pub GivesAll : {X Y : Type 0} → (X → Y) → Result X Stop → Result Y ℕ → Type 0
GivesAll view (Ok x) read = read ≡ Ok (view x)
GivesAll view (Err e) read = Fails e read
