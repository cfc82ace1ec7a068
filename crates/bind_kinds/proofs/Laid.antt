-- Lists that are made module by module, beside the modules of the text.
use Rattle.std.proofs.Common.{◌≡◌, ℕ, ◌+◌, ◌<◌, List, [], ◌∷◌, ◌++◌, map, replicate, length, get_or, Option, Some, None, Result, Ok, Err, OnOk, refl, sym, ◌∙◌, ap, subst, arith, Bor}
use Rattle.std.specs.Prelude.{slice_get}
use Rattle.std.specs.Option.{option_copied, option_map}
use Rattle.std.specs.List.{AllZip, flat_map}
use Rattle.std.proofs.lemmas.List.{length-map}
use Rattle.std.proofs.lemmas.Option.{slice_get-map, slice_get_read, slice_get-get_or}
use Rattle.verilog_tree.specs.declared.tree.Module.{Module as CodeModule}
use Rattle.verilog_tree.specs.declared.tree.Item.{Item as CodeItem}
use Rattle.verilog_tree.specs.declared.tree.Instance.{Instance as CodeInstance}
use Rattle.verilog_tree.specs.Views.{view_module, view_item, view_instance}
use Rattle.verilog_tree.specs.Trees.{Module}
use Rattle.bind_sites.specs.declared.listing.Sites.{Sites}
use Rattle.bind_sites.specs.Listing.{all_sites}
use Rattle.bind_sites.specs.Sites.{Site, sites, port_names}
use Rattle.bind_names.specs.declared.scope.Scope.{Scope}
use Rattle.bind_names.specs.Scoped.{sites_of}
use Rattle.bind_hierarchy.specs.declared.kinds.Meaning.{Meaning}
use Rattle.bind_forms.specs.Modules.{Setting}
use Rattle.bind_kinds.specs.Netlist.{IsScopeOf, AreWidthsOf}
use Rattle.bind_kinds.specs.Meanings.{KindMeans, IsMeantAt, AreLinked, instance_kinds}
use Rattle.bind_kinds.specs.Ports.{IsWidthOf}
use Rattle.bind_kinds.proofs.Behind.{module_linked}
use Rattle.bind_kinds.proofs.Meanings.{one_row}
use Rattle.bind_kinds.proofs.Passed.{zip_same}
use Rattle.bind_kinds.proofs.Zips.{zip_append}

never : {A : Type 0} {a : A} → None ≡ Some a → ⊥
never e = cc

some_same : {A : Type 0} {a b : A} → Some a ≡ Some b → a ≡ b
some_same h = cc

pub after : {A E : Type 0} (r : Result A E) {P Q : Type 0} → OnOk r P → (P → Q) → OnOk r Q
after (Ok x) h to = to h
after (Err e) h to = tt

-- ---- the module that the code reads

pub missing : {A : Type 0} (items : List A) (at : ℕ) (r : Option (Bor A)) (x : A) → option_copied r ≡ slice_get items at → ((m : Bor A) → r ≡ Some m → ⊥) → slice_get items at ≡ Some x → ⊥
missing items at (Some m) x is different there = different m refl
missing items at None x is different there = never (is ∙ there)

pub no_module : (modules : List CodeModule) (at : ℕ) (r : Option (Bor CodeModule)) (x : Module) → option_copied r ≡ slice_get modules at → ((m : Bor CodeModule) → r ≡ Some m → ⊥) → slice_get (map view_module modules) at ≡ Some x → ⊥
no_module modules at (Some m) x is different there = different m refl
no_module modules at None x is different there = never (sym (slice_get-map view_module modules at ∙ ap (option_map view_module) (sym is)) ∙ there)

pub sites_there : (all : List Sites) (modules : List Module) (at : ℕ) (one : Sites) → map all_sites all ≡ map sites modules → at < length all → one ≡ get_or all at one → slice_get (map sites modules) at ≡ Some (all_sites one)
sites_there all modules at one same near is = ap (λ (l : List (List Site)). slice_get l at) (sym same) ∙ slice_get-map all_sites all at ∙ ap (option_map all_sites) (slice_get_read all (length all) at one refl near is)

pub same_sites : (all : List Sites) (modules : List Module) (at : ℕ) (one : Sites) (owner : Module) → map all_sites all ≡ map sites modules → at < length all → one ≡ get_or all at one → slice_get modules at ≡ Some owner → all_sites one ≡ sites owner
same_sites all modules at one owner same near is there = some_same (sym (sites_there all modules at one same near is) ∙ slice_get-map sites modules at ∙ ap (option_map sites) there)

pub owner_there : (all : List Sites) (modules : List Module) (at : ℕ) (one : Sites) → map all_sites all ≡ map sites modules → at < length all → (owner : Module) × (slice_get modules at ≡ Some owner)
owner_there all modules at one same near =
    let near_too : at < length modules = omega (arith, near, sym (length-map all all_sites) ∙ ap length same ∙ length-map modules sites) in
    (get_or modules at (blank modules at near_too), slice_get-get_or modules at (blank modules at near_too) near_too) where
      blank : (l : List Module) (n : ℕ) → n < length l → Module
      blank [] n lt = absurd (omega (arith, lt))
      blank (m ∷ l) n lt = m

-- ---- widths

pub owner_widths : (owner other : Module) (modules : List Module) (at : ℕ) (scope : Scope) (widths : List (Option ℕ)) → slice_get modules at ≡ Some owner → slice_get modules at ≡ Some other → IsScopeOf other scope
    → AllZip (IsWidthOf (sites_of scope)) (port_names owner.head) widths → AreWidthsOf owner widths
owner_widths owner other modules at scope widths there there_too is zip =
    let same : sites_of scope ≡ sites owner = is.sites_are ∙ ap sites (one_row modules at other owner there_too there) in
    subst (λ (l : List Site). AllZip (IsWidthOf l) (port_names owner.head) widths) same zip

-- ---- meanings

pub item_adds : (R : List ℕ → Option Meaning → Type 0) (kind name : List ℕ) (meaning : Option Meaning) (instances : List CodeInstance) (count : ℕ) (before : List (List ℕ)) (old new : List (Option Meaning)) → name ≡ kind → count ≡ length instances
    → R name meaning → AllZip R before old → new ≡ old ++ replicate count meaning → AllZip R (before ++ map (λ instance. kind) (map view_instance instances)) new
item_adds R kind name meaning instances count before old new is counted means done pushed =
    let here : R kind meaning = subst (λ (n : List ℕ). R n meaning) is means in
    let long : length (map view_instance instances) ≡ count = length-map instances view_instance ∙ sym counted in
    let more : AllZip R (map (λ instance. kind) (map view_instance instances)) (replicate count meaning) =
    subst (λ (n : ℕ). AllZip R (map (λ instance. kind) (map view_instance instances)) (replicate n meaning)) long (zip_same R kind meaning (map view_instance instances) here) in
    subst (λ (l : List (Option Meaning)). AllZip R (before ++ map (λ instance. kind) (map view_instance instances)) l) (sym pushed) (zip_append R before (map (λ instance. kind) (map view_instance instances)) old (replicate count meaning) done more)

pub module_meant : (setting : Setting) (owner : Module) (items : List CodeItem) (all : List Site) (instances given meanings : List (Option Meaning)) → map view_item items ≡ owner.items → all ≡ sites owner → given ≡ instances
    → AllZip (KindMeans setting) (flat_map instance_kinds (map view_item items)) instances → (AreLinked setting None all given → AllZip (IsMeantAt setting) all meanings) → AllZip (IsMeantAt setting) (sites owner) meanings
module_meant setting owner items all instances given meanings listed are is zip meant =
    let linked = module_linked setting owner instances (subst (λ (l : List _). AllZip (KindMeans setting) (flat_map instance_kinds l) instances) listed zip) in
    let linked_too : AreLinked setting None all given =
    subst (λ (l : List Site). AreLinked setting None l given) (sym are) (subst (λ (l : List (Option Meaning)). AreLinked setting None (sites owner) l) (sym is) linked) in
    subst (λ (l : List Site). AllZip (IsMeantAt setting) l meanings) are (meant linked_too)
