-- What the text of a netlist comes to, stage by stage, and which refusal comes where a stage has none.
use Rattle.std.specs.Prelude.{◌≡◌, ◌≢◌, ◌⊎◌, ℕ, List, ◌∷◌, length, slice_get, Option, ⊤}
use Rattle.std.specs.Option.{option_map_or}
use Rattle.rsfq_ids.specs.declared.table.CellTable.{CellTable}
use Rattle.rsfq_ids.specs.declared.circuit.Flat.{Flat}
use Rattle.verilog_lex.specs.declared.token.Token.{Token}
use Rattle.verilog_lex.specs.Reads.{IsOnlyReading, IsOnlyFault}
use Rattle.verilog_tree.specs.Words.{words}
use Rattle.verilog_tree.specs.Trees.{Module}
use Rattle.verilog_tree.specs.Spelling.{SpellsSource}
use Rattle.verilog_tree.specs.Fault.{IsParseFault}
use Rattle.bind_forms.specs.declared.bound.Bound.{Bound}
use Rattle.bind_forms.specs.declared.fault.BindFault.{BindFault}
use Rattle.bind_forms.specs.declared.fault.BindFault.TheVariants as bind_fault
use Rattle.bind_forms.specs.Modules.{setting}
use Rattle.bind_forms.specs.Binds.{Binds}
use Rattle.bind_forms.specs.First.{HasNoFault, IsFirstFault}
use Rattle.flat_places.specs.Circuit.{IsCircuitOf}
use Rattle.flattener.specs.declared.fault.FlatFault.{FlatFault}
use Rattle.flattener.specs.declared.fault.FlatFault.TheVariants as flat_fault
use Rattle.flattener.specs.Refused as flattening
use Rattle.loading.specs.declared.refusal.Refusal.{Refusal}
use Rattle.loading.specs.declared.refusal.Refusal.TheVariants as refusal

-- The text has one reading, and its tokens spell this tree.
pub record HasTree (text : List ℕ) (tree : List Module) : Type 0 where
  pub tokens : List Token
  pub reading : IsOnlyReading text tokens
  pub spelled : SpellsSource tree (words text tokens)

-- The tree of the text has no fault under the cells and the name of the top, and this is its bound form.
pub record HasBound (table : CellTable) (top : Option (List ℕ)) (text : List ℕ) (bound : Bound) : Type 0 where
  pub tree : List Module
  pub has_tree : HasTree text tree
  pub clean : HasNoFault (setting tree table top)
  pub binds : Binds (setting tree table top) bound

-- The bound form is within its limits, no place in it has two drivers and no places form a ring, and this is its circuit.
pub record HasCircuit (table : CellTable) (top : Option (List ℕ)) (text : List ℕ) (flat : Flat) : Type 0 where
  pub bound : Bound
  pub has_bound : HasBound table top text bound
  pub sound : flattening.IsSound table bound
  pub circuit : IsCircuitOf table bound flat

-- the place of a token in the text: its first byte, or the text's length where no token has the number
abbrev pub token_place : List ℕ → List Token → ℕ → ℕ
token_place text tokens number = option_map_or (λ token. token.start) (slice_get tokens number) (length text)

-- The text has one reading, and the words up to this place begin a tree, but go on with none.
pub record HasNoTree (text : List ℕ) (place : ℕ) : Type 0 where
  pub tokens : List Token
  pub reading : IsOnlyReading text tokens
  pub number : ℕ
  pub fault : IsParseFault (words text tokens) number
  pub place_is : place ≡ token_place text tokens number

-- Why a text has no tree, by the first two stages. Want of memory says nothing of the text.
abbrev pub HasNoTreeFor : List ℕ → Refusal → Type 0
HasNoTreeFor text (refusal.Lex fault) = IsOnlyFault text fault.offset fault.why
HasNoTreeFor text (refusal.Parse place) = HasNoTree text place
HasNoTreeFor text (refusal.Bind why) = ⊥
HasNoTreeFor text (refusal.Flat why) = ⊥
HasNoTreeFor text refusal.Memory = ⊤

-- The tree of the text has this first fault.
pub record IsUnbound (table : CellTable) (top : Option (List ℕ)) (text : List ℕ) (why : BindFault) : Type 0 where
  pub tree : List Module
  pub has_tree : HasTree text tree
  pub first : IsFirstFault (setting tree table top) why

-- The bound form of the text has no circuit, for this reason.
pub record HasNoCircuit (table : CellTable) (top : Option (List ℕ)) (text : List ℕ) (why : FlatFault) : Type 0 where
  pub bound : Bound
  pub has_bound : HasBound table top text bound
  pub refused : flattening.IsFlatFault table bound why
  pub named : why ≢ flat_fault.Memory

-- Why a text has no circuit: the stage that refuses it first, with its fault. Want of memory says nothing of the text.
abbrev pub IsRefused : CellTable → Option (List ℕ) → List ℕ → Refusal → Type 0
IsRefused table top text (refusal.Lex fault) = IsOnlyFault text fault.offset fault.why
IsRefused table top text (refusal.Parse place) = HasNoTree text place
IsRefused table top text (refusal.Bind why) = IsUnbound table top text why
IsRefused table top text (refusal.Flat why) = HasNoCircuit table top text why
IsRefused table top text refusal.Memory = ⊤

-- both name a ring of modules, from one first module on
pub record BeginAlike (one other : Refusal) : Type 0 where
  pub first : List ℕ
  pub names : List (List ℕ)
  pub others : List (List ℕ)
  pub one_is : one ≡ refusal.Bind (bind_fault.Recursive (first ∷ names))
  pub other_is : other ≡ refusal.Bind (bind_fault.Recursive (first ∷ others))

-- it names a ring of wire bits
abbrev pub NamesWires : Refusal → Type 0
NamesWires why = (wires : List (List ℕ)) × (why ≡ refusal.Flat (flat_fault.AliasLoop wires))

-- The two refusals are the same, or both name a ring: of modules, with one first module, or of wire bits.
abbrev pub AgreeButRings : Refusal → Refusal → Type 0
AgreeButRings one other = (one ≡ other) ⊎ (BeginAlike one other ⊎ (NamesWires one × NamesWires other))
