-- What is refused has no tree, no bound form and no circuit.
use Rattle.std.proofs.Common.{◌≡◌, ◌∙◌, ap, subst, ℕ, List, ◌∷◌, ◌++◌, arith, refl}
use Rattle.std.specs.Prelude.{◌≢◌, Option}
use Rattle.std.specs.List.{All, Contains}
use Rattle.std.proofs.lemmas.List.Elements.{All-contains, Contains-append_right}
use Rattle.rsfq_ids.specs.declared.table.CellTable.{CellTable}
use Rattle.rsfq_ids.specs.declared.circuit.Flat.{Flat}
use Rattle.verilog_lex.specs.declared.token.Token.{Token}
use Rattle.verilog_lex.specs.Reads.{IsOnlyReading}
use Rattle.verilog_tree.specs.Words.{words}
use Rattle.verilog_tree.specs.Trees.{Module}
use Rattle.verilog_tree.specs.Spelling.{SpellsSource}
use Rattle.verilog_tree.specs.Fault.{WordsSpellOneTree}
use Rattle.bind_forms.specs.declared.bound.Bound.{Bound}
use Rattle.bind_forms.specs.declared.fault.BindFault.{BindFault}
use Rattle.bind_forms.specs.declared.fault.BindFault.TheVariants as bind_fault
use Rattle.bind_forms.specs.Modules.{Setting, setting}
use Rattle.bind_forms.specs.Binds.{Binds}
use Rattle.bind_forms.specs.First.{StandsNowhere, HasNoFault, IsFirstFault}
use Rattle.flat_places.specs.Circuit.{IsCircuitOf}
use Rattle.flattener.specs.declared.fault.FlatFault.{FlatFault}
use Rattle.flattener.specs.declared.fault.FlatFault.TheVariants as flat_fault
use Rattle.flattener.specs.Refused.{IsSound}
use Rattle.loading.specs.declared.refusal.Refusal.{Refusal}
use Rattle.loading.specs.declared.refusal.Refusal.TheVariants as refusal
use Rattle.loading.specs.Named.{bind_refusal, flat_refusal}
use Rattle.loading.specs.Stages.{HasTree, HasNoTreeFor, HasBound, HasCircuit}

-- ---- trees

pub one_tree : WordsSpellOneTree → (text : List ℕ) (tokens : List Token) (tree other : List Module) → IsOnlyReading text tokens → SpellsSource tree (words text tokens) → HasTree text other → other ≡ tree
one_tree once text tokens tree other reading spelled has =
    let same : has.tokens ≡ tokens = reading.only has.tokens has.reading.reads in
    once (words text tokens) other tree (subst (λ (ts : List Token). SpellsSource other (words text ts)) same has.spelled) spelled

pub no_tree : (text : List ℕ) (why : Refusal) (tree : List Module) → HasNoTreeFor text why → why ≢ refusal.Memory → HasTree text tree → ⊥
no_tree text (refusal.Lex fault) tree is named has = is.no_reading has.tokens has.reading.reads
no_tree text (refusal.Parse place) tree is named has =
    let same : has.tokens ≡ is.tokens = is.reading.only has.tokens has.reading.reads in
    is.fault.none tree (subst (λ (ts : List Token). SpellsSource tree (words text ts)) same has.spelled)
no_tree text (refusal.Bind why) tree is named has = is
no_tree text (refusal.Flat why) tree is named has = is
no_tree text refusal.Memory tree is named has = named refl

-- ---- bound forms

-- no cause stands where none stands anywhere
pub no_first_fault : (s : Setting) (why : BindFault) → HasNoFault s → IsFirstFault s why → ⊥
no_first_fault s why clean first =
    let all : All (StandsNowhere s) (first.earlier ++ first.line ∷ first.later) = subst (All (StandsNowhere s)) first.order clean in
    let here : Contains (first.earlier ++ first.line ∷ first.later) first.line =
    Contains-append_right first.earlier (first.line ∷ first.later) first.line (0, omega arith, refl) in
    All-contains (StandsNowhere s) (first.earlier ++ first.line ∷ first.later) first.line all here first.place why first.stands

pub no_bound : (table : CellTable) (top : Option (List ℕ)) (text : List ℕ) (tree : List Module) (why : BindFault) (named_by : Refusal) (flat : Flat) →
    ((other : List Module) → HasTree text other → other ≡ tree) → (why ≢ bind_fault.Memory → IsFirstFault (setting tree table top) why) → named_by ≡ bind_refusal why → named_by ≢ refusal.Memory →
    HasCircuit table top text flat → ⊥
no_bound table top text tree why named_by flat only first by named has =
    let same = only has.has_bound.tree has.has_bound.has_tree in
    no_first_fault (setting tree table top) why (subst (λ (t : List Module). HasNoFault (setting t table top)) same has.has_bound.clean) (first (λ memory. named (by ∙ ap bind_refusal memory)))

-- ---- circuits

-- the bound form of the text is the only one
pub same_bound : (table : CellTable) (top : Option (List ℕ)) (text : List ℕ) (tree : List Module) (bound other : Bound) →
    ((other : List Module) → HasTree text other → other ≡ tree) → ((other : Bound) → Binds (setting tree table top) other → other ≡ bound) → HasBound table top text other → other ≡ bound
same_bound table top text tree bound other only one has =
    let same = only has.tree has.has_tree in
    one other (subst (λ (t : List Module). Binds (setting t table top) other) same has.binds)

pub one_circuit : (table : CellTable) (top : Option (List ℕ)) (text : List ℕ) (tree : List Module) (bound : Bound) (flat other : Flat) →
    ((other : List Module) → HasTree text other → other ≡ tree) → ((other : Bound) → Binds (setting tree table top) other → other ≡ bound) →
    ((other : Flat) → IsCircuitOf table bound other → other ≡ flat) → HasCircuit table top text other → other ≡ flat
one_circuit table top text tree bound flat other only one alone has =
    let same = same_bound table top text tree bound has.bound only one has.has_bound in
    alone other (subst (λ (b : Bound). IsCircuitOf table b other) same has.circuit)

pub no_circuit : (table : CellTable) (top : Option (List ℕ)) (text : List ℕ) (tree : List Module) (bound : Bound) (why : FlatFault) (named_by : Refusal) (flat : Flat) →
    ((other : List Module) → HasTree text other → other ≡ tree) → ((other : Bound) → Binds (setting tree table top) other → other ≡ bound) →
    (why ≢ flat_fault.Memory → (other : Flat) → IsSound table bound → IsCircuitOf table bound other → ⊥) → named_by ≡ flat_refusal why → named_by ≢ refusal.Memory →
    HasCircuit table top text flat → ⊥
no_circuit table top text tree bound why named_by flat only one none by named has =
    let same = same_bound table top text tree bound has.bound only one has.has_bound in
    none (λ memory. named (by ∙ ap flat_refusal memory)) flat (subst (λ (b : Bound). IsSound table b) same has.sound) (subst (λ (b : Bound). IsCircuitOf table b flat) same has.circuit)
