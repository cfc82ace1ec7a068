-- What is found of the ports of what a kind means.
use Rattle.std.proofs.Common.{◌≡◌, ℕ, ◌<◌, ◌≤◌, get_or, arith, Bool, List, [], map, Option, Some, None, IfSome, IfNone, length, refl, sym, ◌∙◌, ap, subst, Bor}
use Rattle.std.specs.Prelude.{slice_get}
use Rattle.std.specs.Option.{option_copied, option_map, IsSomeAnd}
use Rattle.std.specs.List.{AllZip}
use Rattle.std.proofs.lemmas.Option.{slice_get-map, slice_get_read, slice_get_within, slice_get-get_or, MatchOption-at_some}
use Rattle.std.proofs.lemmas.Slice.Zip.{AllZip-left, AllZip-right}
use Rattle.rsfq_ids.specs.declared.table.CellRow.{CellRow}
use Rattle.verilog_tree.specs.declared.tree.Module.{Module as CodeModule}
use Rattle.verilog_tree.specs.Trees.{Module}
use Rattle.verilog_tree.specs.Views.{view_module}
use Rattle.bind_sites.specs.Sites.{Site, sites, port_names}
use Rattle.bind_sites.specs.Selects.{width_of}
use Rattle.bind_sites.specs.Scope.{IsAt, IsPort}
use Rattle.bind_hierarchy.specs.declared.kinds.Meaning.{Meaning}
use Rattle.bind_hierarchy.specs.declared.kinds.Meaning.TheVariants as meaning
use Rattle.bind_hierarchy.specs.Modules.{Means}
use Rattle.bind_hierarchy.specs.Names.{IsFirstPlace}
use Rattle.bind_forms.specs.WellFormed.{cell_ports}
use Rattle.bind_forms.specs.Modules.{Setting, HasPorts, OfModule, OfCell}
use Rattle.bind_forms.specs.Faults.{HasSites, PortWidth, OfModulePort, OfPin}
use Rattle.bind_kinds.specs.Netlist.{AreMeaningsOf}
use Rattle.bind_kinds.specs.Meanings.{IsMeantAt}
use Rattle.bind_kinds.specs.Ports.{HasPortPlace, HasWidthAt, IsWidthOf}
use Rattle.bind_kinds.proofs.Meanings.{one_kind, one_list, ports_by, one_row}

some_same : {A : Type 0} {a b : A} → Some a ≡ Some b → a ≡ b
some_same h = cc

never : {A : Type 0} {a : A} → None ≡ Some a → ⊥
never e = cc

-- ---- two lists along each other

is_some : {A : Type 0} (P : A → Type 0) (o : Option A) → IsSomeAnd o P → (x : A) × (o ≡ Some x) × P x
is_some P None h = absurd h
is_some P (Some x) h = (x, refl, h)

pub zip_right : {A B : Type 0} (R : A → B → Type 0) (xs : List A) (ys : List B) (k : ℕ) (y : B) → AllZip R xs ys → slice_get ys k ≡ Some y → (x : A) × (slice_get xs k ≡ Some x) × R x y
zip_right {A} R xs ys k y h e = is_some (λ (x : A). R x y) (slice_get xs k) (MatchOption-at_some (Unit {0}) (λ z. IsSomeAnd (slice_get xs k) (λ x. R x z)) y e (AllZip-right R xs ys h k))

pub zip_left : {A B : Type 0} (R : A → B → Type 0) (xs : List A) (ys : List B) (k : ℕ) (x : A) → AllZip R xs ys → slice_get xs k ≡ Some x → (y : B) × (slice_get ys k ≡ Some y) × R x y
zip_left {A} {B} R xs ys k x h e = is_some (λ (y : B). R x y) (slice_get ys k) (MatchOption-at_some (Unit {0}) (λ z. IsSomeAnd (slice_get ys k) (λ y. R z y)) x e (AllZip-left R xs ys h k))

-- ---- the module and the cell that the code reads

pub holder_there : (modules : List CodeModule) (at : ℕ) (r : Option (Bor CodeModule)) (m : Bor CodeModule) → option_copied r ≡ slice_get modules at → r ≡ Some m → slice_get (map view_module modules) at ≡ Some (view_module m.now)
holder_there modules at r m is some = slice_get-map view_module modules at ∙ ap (option_map view_module) (sym is ∙ ap option_copied some)

pub cell_there : (rows : List CellRow) (row : ℕ) (r : Option (Bor CellRow)) (c : Bor CellRow) → option_copied r ≡ slice_get rows row → r ≡ Some c → slice_get rows row ≡ Some c.now
cell_there rows row r c is some = sym is ∙ ap option_copied some

pub module_ports : (setting : Setting) (kind : List ℕ) (at : ℕ) (holder : Module) → Means setting.modules setting.table kind (Some (meaning.Module at)) → slice_get setting.modules at ≡ Some holder → HasPorts setting kind (port_names holder.head)
module_ports setting kind at holder means there = OfModule at holder means there refl

pub pins : (setting : Setting) (kind : List ℕ) (row : ℕ) (cell : CellRow) → Means setting.modules setting.table kind (Some (meaning.Cell row)) → slice_get setting.table.rows row ≡ Some cell → HasPorts setting kind (cell_ports cell)
pins setting kind row cell means there = OfCell row cell means there refl

-- ---- a place, and a name

pub place_found : (setting : Setting) (kind : List ℕ) (names : List (List ℕ)) (name : List ℕ) (r : Option ℕ) → HasPorts setting kind names → IsFirstPlace names name r → IfSome r (HasPortPlace setting kind name)
place_found setting kind names name None ports first = tt
place_found setting kind names name (Some place) ports first = (names, ports, first)

pub place_none : (setting : Setting) (kind : List ℕ) (names : List (List ℕ)) (name : List ℕ) (r : Option ℕ) → HasPorts setting kind names → IsFirstPlace names name r
    → IfNone r ((others : List (List ℕ)) → HasPorts setting kind others → IsFirstPlace others name None)
place_none setting kind names name (Some place) ports first = tt
place_none setting kind names name None ports first = λ others ports_too. subst (λ (l : List (List ℕ)). IsFirstPlace l name None) (one_list setting kind names others ports ports_too) first

-- a name that means nothing has no ports
pub nothing : (setting : Setting) (kind : List ℕ) → Means setting.modules setting.table kind None → (names : List (List ℕ)) → ¬ HasPorts setting kind names
nothing setting kind means = λ names ports. ports_by setting kind None names means ports

-- ---- widths

-- the width of a port of what is meant
abbrev WidthBy : Setting → Option Meaning → List ℕ → ℕ → Type 0
WidthBy setting None name width = ⊥
WidthBy setting (Some (meaning.Module at)) name width = (all : List Site) × (output : Bool) × (range : Option (ℕ × ℕ)) × HasSites setting at all × IsPort all name output range × (width ≡ width_of range)
WidthBy setting (Some (meaning.Cell row)) name width = width ≡ 1

has_width : (setting : Setting) (kind name : List ℕ) (width : ℕ) → PortWidth setting kind name width → (one : Meaning) × Means setting.modules setting.table kind (Some one) × WidthBy setting (Some one) name width
has_width setting kind name width (OfModulePort at all output range means has port is) = (meaning.Module at, means, (all, output, range, has, port, is))
has_width setting kind name width (OfPin row means is) = (meaning.Cell row, means, is)

width_by : (setting : Setting) (kind name : List ℕ) (one : Option Meaning) (width : ℕ) → Means setting.modules setting.table kind one → PortWidth setting kind name width → WidthBy setting one name width
width_by setting kind name one width means has =
    let other = has_width setting kind name width has in
    subst (λ (m : Option Meaning). WidthBy setting m name width) (one_kind setting.modules setting.table kind (Some other.0) one other.1 means) other.2

pub no_width : (setting : Setting) (kind name : List ℕ) → Means setting.modules setting.table kind None → (width : ℕ) → ¬ PortWidth setting kind name width
no_width setting kind name means = λ width has. width_by setting kind name None width means has

pub pin_width : (setting : Setting) (kind name : List ℕ) (row : ℕ) → Means setting.modules setting.table kind (Some (meaning.Cell row)) → PortWidth setting kind name 1
pin_width setting kind name row means = OfPin row means refl

pub module_width : (setting : Setting) (kind name : List ℕ) (at : ℕ) (owner : Module) (all : List Site) (width : Option ℕ) → Means setting.modules setting.table kind (Some (meaning.Module at))
    → slice_get setting.modules at ≡ Some owner → all ≡ sites owner → IsWidthOf all name width → IfSome width (PortWidth setting kind name)
module_width setting kind name at owner all None means there is of = tt
module_width setting kind name at owner all (Some width) means there is of = OfModulePort at all of.0 of.1 means (record { owner = owner; there = there; sites_are = is }) of.2 of.3

pub module_no_width : (setting : Setting) (kind name : List ℕ) (at : ℕ) (owner : Module) (all : List Site) (found : Option ℕ) → Means setting.modules setting.table kind (Some (meaning.Module at))
    → slice_get setting.modules at ≡ Some owner → all ≡ sites owner → IsWidthOf all name found → IfNone found ((width : ℕ) → ¬ PortWidth setting kind name width)
module_no_width setting kind name at owner all (Some found) means there is of = tt
module_no_width setting kind name at owner all None means there is of = λ width has.
    let by = width_by setting kind name (Some (meaning.Module at)) width means has in
    let same : by.3.owner ≡ owner = one_row setting.modules at by.3.owner owner by.3.there there in
    let all_are : by.0 ≡ all = by.3.sites_are ∙ ap sites same ∙ sym is in
    of by.1 by.2 (subst (λ (l : List Site). IsPort l name by.1 by.2) all_are by.4)

-- the width at a place, where the kind has these ports and these widths
pub width_found : (setting : Setting) (kind : List ℕ) (at place : ℕ) (owner : Module) (widths : List (Option ℕ)) (found : Option ℕ) → Means setting.modules setting.table kind (Some (meaning.Module at)) → slice_get setting.modules at ≡ Some owner
    → AllZip (IsWidthOf (sites owner)) (port_names owner.head) widths → slice_get widths place ≡ Some found → IfSome found (HasWidthAt setting kind place)
width_found setting kind at place owner widths None means there zip is = tt
width_found setting kind at place owner widths (Some width) means there zip is =
    let name = zip_right (IsWidthOf (sites owner)) (port_names owner.head) widths place (Some width) zip is in
    (name.0, (port_names owner.head, module_ports setting kind at owner means there, name.1), module_width setting kind name.0 at owner (sites owner) (Some width) means there refl name.2)

pub width_lacks : (setting : Setting) (kind : List ℕ) (at place : ℕ) (owner : Module) (widths : List (Option ℕ)) (found : Option ℕ) → Means setting.modules setting.table kind (Some (meaning.Module at)) → slice_get setting.modules at ≡ Some owner
    → AllZip (IsWidthOf (sites owner)) (port_names owner.head) widths → slice_get widths place ≡ Some found → IfNone found ((width : ℕ) → ¬ HasWidthAt setting kind place width)
width_lacks setting kind at place owner widths (Some found) means there zip is = tt
width_lacks setting kind at place owner widths None means there zip is = λ width has.
    let name = zip_right (IsWidthOf (sites owner)) (port_names owner.head) widths place None zip is in
    let same : has.1.0 ≡ port_names owner.head = one_list setting kind has.1.0 (port_names owner.head) has.1.1 (module_ports setting kind at owner means there) in
    let named : has.0 ≡ name.0 = some_same (sym has.1.2 ∙ ap (λ (l : List (List ℕ)). slice_get l place) same ∙ name.1) in
    module_no_width setting kind name.0 at owner (sites owner) None means there refl name.2 width (subst (λ (n : List ℕ). PortWidth setting kind n width) named has.2)

-- past the last port
pub width_past : (setting : Setting) (kind : List ℕ) (at place : ℕ) (owner : Module) (widths : List (Option ℕ)) → Means setting.modules setting.table kind (Some (meaning.Module at)) → slice_get setting.modules at ≡ Some owner
    → AllZip (IsWidthOf (sites owner)) (port_names owner.head) widths → slice_get widths place ≡ None → (width : ℕ) → ¬ HasWidthAt setting kind place width
width_past setting kind at place owner widths means there zip none = λ width has.
    let same : has.1.0 ≡ port_names owner.head = one_list setting kind has.1.0 (port_names owner.head) has.1.1 (module_ports setting kind at owner means there) in
    let here = zip_left (IsWidthOf (sites owner)) (port_names owner.head) widths place has.0 zip (ap (λ (l : List (List ℕ)). slice_get l place) (sym same) ∙ has.1.2) in
    never (sym none ∙ here.1)

pub pin_at : (setting : Setting) (kind : List ℕ) (row place : ℕ) (cell : CellRow) → Means setting.modules setting.table kind (Some (meaning.Cell row)) → slice_get setting.table.rows row ≡ Some cell → place < length (cell_ports cell) → HasWidthAt setting kind place 1
pin_at setting kind row place cell means there near =
    (get_or (cell_ports cell) place [], (cell_ports cell, pins setting kind row cell means there, slice_get-get_or (cell_ports cell) place [] near), pin_width setting kind (get_or (cell_ports cell) place []) row means)

pub pin_found : (setting : Setting) (kind : List ℕ) (row place : ℕ) (cell : CellRow) (found : Option ℕ) → Means setting.modules setting.table kind (Some (meaning.Cell row)) → slice_get setting.table.rows row ≡ Some cell
    → IfSome found (λ width. (width ≡ 1) × (place < length (cell_ports cell))) → IfSome found (HasWidthAt setting kind place)
pin_found setting kind row place cell None means there h = tt
pin_found setting kind row place cell (Some width) means there h = subst (λ (w : ℕ). HasWidthAt setting kind place w) (sym h.0) (pin_at setting kind row place cell means there h.1)

pub pin_past : (setting : Setting) (kind : List ℕ) (row place : ℕ) (cell : CellRow) (found : Option ℕ) → Means setting.modules setting.table kind (Some (meaning.Cell row)) → slice_get setting.table.rows row ≡ Some cell
    → IfNone found (length (cell_ports cell) ≤ place) → IfNone found ((width : ℕ) → ¬ HasWidthAt setting kind place width)
pin_past setting kind row place cell (Some width) means there h = tt
pin_past setting kind row place cell None means there h = λ width has.
    let same : has.1.0 ≡ cell_ports cell = one_list setting kind has.1.0 (cell_ports cell) has.1.1 (pins setting kind row cell means there) in
    let near : place < length (cell_ports cell) = slice_get_within (cell_ports cell) place has.0 (ap (λ (l : List (List ℕ)). slice_get l place) (sym same) ∙ has.1.2) in
    omega (arith, h, near)

pub nothing_at : (setting : Setting) (kind : List ℕ) (place : ℕ) → Means setting.modules setting.table kind None → (width : ℕ) → ¬ HasWidthAt setting kind place width
nothing_at setting kind place means = λ width has. nothing setting kind means has.1.0 has.1.1

-- what the code matched on
pub matched : (setting : Setting) (kind : List ℕ) (one other : Option Meaning) → one ≡ other → Means setting.modules setting.table kind one → Means setting.modules setting.table kind other
matched setting kind one other is means = subst (λ (m : Option Meaning). Means setting.modules setting.table kind m) is means

-- an item that the code looked up in the second of two lists, or did not find there
pub looked_up : {A B : Type 0} (R : A → B → Type 0) (xs : List A) (ys : List B) (at : ℕ) (y : B) → AllZip R xs ys → at < length ys → y ≡ get_or ys at y → (x : A) × (slice_get xs at ≡ Some x) × R x y
looked_up R xs ys at y zip near is = zip_right R xs ys at y zip (slice_get_read ys (length ys) at y refl near is)

pub found_in_first : {A B : Type 0} (R : A → B → Type 0) (xs : List A) (ys : List B) (at : ℕ) (x : A) → AllZip R xs ys → slice_get xs at ≡ Some x → length ys ≤ at → ⊥
found_in_first R xs ys at x zip there past =
    let other = zip_left R xs ys at x zip there in
    let near : at < length ys = slice_get_within ys at other.0 other.1 in
    omega arith

-- what the kind at a site means, where the code holds the meanings at the sites of its module
pub meant_there : (setting : Setting) (lists : List (List (Option Meaning))) (at : ℕ) (meanings : List (Option Meaning)) → AllZip (AreMeaningsOf setting) setting.modules lists → at < length lists → meanings ≡ get_or lists at meanings
    → (all : List Site) (site : ℕ) (here : Site) → HasSites setting at all → IsAt all site here → (meaning : Option Meaning) × (slice_get meanings site ≡ Some meaning) × IsMeantAt setting here meaning
meant_there setting lists at meanings zip near is all site here has there =
    let owner = looked_up (AreMeaningsOf setting) setting.modules lists at meanings zip near is in
    let same : has.owner ≡ owner.0 = one_row setting.modules at has.owner owner.0 has.there owner.1 in
    zip_left (IsMeantAt setting) (sites owner.0) meanings site here owner.2 (subst (λ (l : List Site). IsAt l site here) (has.sites_are ∙ ap sites same) there)

pub meant_is : (setting : Setting) (lists : List (List (Option Meaning))) (at : ℕ) (meanings : List (Option Meaning)) (site : ℕ) (found : Option Meaning) → AllZip (AreMeaningsOf setting) setting.modules lists → at < length lists
    → meanings ≡ get_or lists at meanings → slice_get meanings site ≡ Some found → (all : List Site) (here : Site) → HasSites setting at all → IsAt all site here → IsMeantAt setting here found
meant_is setting lists at meanings site found zip near is get all here has there =
    let meant = meant_there setting lists at meanings zip near is all site here has there in
    subst (λ (m : Option Meaning). IsMeantAt setting here m) (some_same (sym meant.1 ∙ get)) meant.2

pub not_lacking : (setting : Setting) (lists : List (List (Option Meaning))) (at : ℕ) (meanings : List (Option Meaning)) (site : ℕ) → AllZip (AreMeaningsOf setting) setting.modules lists → at < length lists → meanings ≡ get_or lists at meanings
    → slice_get meanings site ≡ None → (all : List Site) (here : Site) → HasSites setting at all → IsAt all site here → ⊥
not_lacking setting lists at meanings site zip near is get all here has there =
    let meant = meant_there setting lists at meanings zip near is all site here has there in
    never (sym get ∙ meant.1)
