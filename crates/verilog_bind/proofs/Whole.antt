-- The whole bound source: its modules, and what the absence of faults gives them.
use Rattle.std.proofs.Common.{◌≡◌, ◌⊎◌, inl, inr, ℕ, ◌+◌, ◌<◌, ◌≤◌, Bool, true, false, List, [], ◌∷◌, ◌++◌, map, length, take, get_or, Option, Some, Bor, refl, sym, ◌∙◌, ap, subst, arith}
use Rattle.std.specs.Prelude.{◌↔◌, slice_get, slice_index_or}
use Rattle.std.specs.Option.{option_map, option_copied}
use Rattle.std.specs.List.{All, AllZip, Contains, flat_map}
use Rattle.std.proofs.lemmas.List.{take_all, take_more, get_or_past}
use Rattle.std.proofs.lemmas.List.Elements.{Contains-get_or}
use Rattle.std.proofs.lemmas.Option.{slice_get-map, slice_get_within, get_or_from_slice_get}
use Rattle.bind_forms.specs.declared.bound.BoundWire.{BoundWire}
use Rattle.bind_forms.specs.declared.bound.BoundModule.{BoundModule}
use Rattle.bind_forms.specs.declared.bound.Bound.{Bound}
use Rattle.bind_forms.specs.declared.fault.BindFault.TheVariants as fault
use Rattle.bind_forms.specs.WellFormed.{port_wire}
use Rattle.bind_forms.specs.Modules.{Setting, MeansModule, IsTop, IsReached}
use Rattle.bind_forms.specs.Faults.{HasReachedSites}
use Rattle.bind_forms.specs.First.{Kinds, UnknownPorts, UnknownNames, Ranges, StandsNowhere, HasNoFault}
use Rattle.bind_forms.specs.Binds.{BindsPort, BindsAssign, BindsInstance, BindsModuleAt, Binds, AreOthers, item_assigns, item_instances}
use Rattle.verilog_tree.specs.Trees as tree
use Rattle.verilog_tree.specs.Text.{IsSpelledTree}
use Rattle.bind_sites.specs.Sites.{Site, Instance, sites, port_names}
use Rattle.bind_sites.specs.Scope.{IsAt}
use Rattle.bind_hierarchy.specs.Modules as hierarchy
use Rattle.bind_sites.specs.Small.{HasSmall, NumbersAreSmall}
use Rattle.bind_names.specs.declared.scope.Scope.{Scope}
use Rattle.bind_kinds.specs.Netlist.{IsScopeOf}
use Rattle.verilog_bind.specs.declared.wires.Wires.{Wires}
use Rattle.verilog_bind.specs.Listed.{InstancesAreSites}
use Rattle.verilog_bind.specs.Numbered.{sites_in, AreWires}
use Rattle.verilog_bind.specs.Places.{ArePlaces}
use Rattle.verilog_bind.specs.Sound.{IsSoundModule, AreSoundModules}
use Rattle.verilog_bind.proofs.Zips.{zip_at, zip_push, all_at}

-- ---- what the absence of faults gives

module _ (law : InstancesAreSites) (small : NumbersAreSmall) (setting : Setting) (spelled : IsSpelledTree setting.modules) (none : HasNoFault setting) (places : List ℕ) (reached_is : (at : ℕ) → Contains places at ↔ IsReached setting at) where
  reached_sites : (at : ℕ) (owner : tree.Module) → Contains places at → slice_get setting.modules at ≡ Some owner → HasReachedSites setting at (sites owner)
  reached_sites at owner within there = record { reached = (reached_is at).0 within; has = record { owner = owner; there = there; sites_are = refl } }

  -- a module that a bound one instantiates is bound
  inner_bound : (at : ℕ) (owner : tree.Module) (site : ℕ) (kind name : List ℕ) (links : tree.Links) → Contains places at → slice_get setting.modules at ≡ Some owner → IsAt (sites owner) site (Instance kind name links)
      → (inner : ℕ) → MeansModule setting kind inner → Contains places inner
  inner_bound at owner site kind name links within there stands inner means =
      let outer = (reached_is at).0 within in
      let holds = (law.stands owner kind (record { name = name; links = links })).0 (site, stands) in
      let some : 0 < length holds.0 = (let w = holds.2.1 in omega (arith, w)) in
      (reached_is inner).1 (record {
        top = outer.top;
        top_is = outer.top_is;
        reaches = hierarchy.Inner at inner outer.reaches (record { holder = owner; there = there; kind = kind; instances = holds.0; stands = holds.1; some = some; means = means });
      })

  module_sound : (at : ℕ) (owner : tree.Module) → Contains places at → slice_get setting.modules at ≡ Some owner → IsSoundModule setting places (sites owner)
  module_sound at owner within there =
      let no_kinds : StandsNowhere setting Kinds = none 2 Kinds (omega arith) in
      let no_ports : StandsNowhere setting UnknownPorts = none 4 UnknownPorts (omega arith) in
      let no_names : StandsNowhere setting UnknownNames = none 7 UnknownNames (omega arith) in
      let no_ranges : StandsNowhere setting Ranges = none 8 Ranges (omega arith) in
      let here = reached_sites at owner within there in
      record {
        kinds = λ site kind name links stands. record {
          known = λ lacks. no_kinds (record { at = at; site = site }) (fault.NoSuchModule kind)
              (kind, record { all = sites owner; sites_are = here; name = name; links = links; there = stands; none = lacks }, refl);
          bound = inner_bound at owner site kind name links within there stands;
        };
        ports = λ site name unknown. no_ports (record { at = at; site = site }) (fault.UnknownPort name) (name, (sites owner, here, unknown), refl);
        names = λ site name unknown. no_names (record { at = at; site = site }) (fault.NoSuchName name) (name, (sites owner, here, unknown), refl);
        ranges = λ site name out. no_ranges (record { at = at; site = site }) (fault.Range name) (name, (sites owner, here, out), refl);
        small = all_at (λ (m : tree.Module). All HasSmall (sites m)) setting.modules owner at (small setting.modules spelled) there;
      }

-- a place is reached exactly where its flag is set
pub flags_reach : (setting : Setting) (reached : List Bool) (places : List ℕ) (numbers : List (Option ℕ)) → ArePlaces reached places numbers → ((at : ℕ) → (slice_index_or reached at false ≡ true) ↔ IsReached setting at)
    → (at : ℕ) → Contains places at ↔ IsReached setting at
flags_reach setting reached places numbers are flags at = (λ within. (flags at).0 ((are.flagged at).0 within), λ is. (are.flagged at).1 ((flags at).1 is))

flag_within : (reached : List Bool) (at : ℕ) → get_or reached at false ≡ true → at < length reached
flag_within reached at flag = elim (order at (length reached)) [
  | inl lt ↦ lt
  | inr le ↦ absurd (apart (get_or reached at false) (get_or_past reached at false le) flag)
] where
  order : (a b : ℕ) → (a < b) ⊎ (b ≤ a)
  order a b = grind arith

  apart : (b : Bool) → b ≡ false → b ≡ true → ⊥
  apart b e f = cc

pub modules_sound : (law : InstancesAreSites) (small : NumbersAreSmall) (setting : Setting) (reached : List Bool) (places : List ℕ) (numbers : List (Option ℕ)) → IsSpelledTree setting.modules → HasNoFault setting
    → length reached ≡ length setting.modules → ArePlaces reached places numbers → ((at : ℕ) → (slice_index_or reached at false ≡ true) ↔ IsReached setting at) → AreSoundModules setting places
modules_sound law small setting reached places numbers spelled none len are flags = record {
  there = λ at within. (let lt = flag_within reached at ((are.flagged at).0 within) in omega (arith, lt, len));
  sound = module_sound law small setting spelled none places (flags_reach setting reached places numbers are flags);
}

pub top_within : (setting : Setting) (reached : List Bool) (places : List ℕ) (numbers : List (Option ℕ)) (top : ℕ) → IsTop setting top → ArePlaces reached places numbers
    → ((at : ℕ) → (slice_index_or reached at false ≡ true) ↔ IsReached setting at) → Contains places top
top_within setting reached places numbers top is are flags = (flags_reach setting reached places numbers are flags top).1 (record { top = top; top_is = is; reaches = hierarchy.Top })

pub place_within : (reached : List Bool) (places : List ℕ) (numbers : List (Option ℕ)) (at : ℕ) → ArePlaces reached places numbers → Contains places at → at < length numbers
place_within reached places numbers at are within = (let lt = flag_within reached at ((are.flagged at).0 within) in omega (arith, lt, are.count))

pub bound_whole : (setting : Setting) (reached : List Bool) (places : List ℕ) (numbers : List (Option ℕ)) (top : ℕ) (bound : Bound) → IsTop setting top → ArePlaces reached places numbers
    → ((at : ℕ) → (slice_index_or reached at false ≡ true) ↔ IsReached setting at) → AllZip (BindsModuleAt setting places) places bound.modules → slice_get places bound.top ≡ Some top → Binds setting bound
bound_whole setting reached places numbers top bound is are flags modules place = record {
  places = places;
  rising = are.rising;
  reached = flags_reach setting reached places numbers are flags;
  modules = modules;
  top = top;
  top_is = is;
  top_place = place;
}

-- ---- one module

-- the module that the code reads
pub module_read : {X : Type 0} (view : X → tree.Module) (xs : List X) (at : ℕ) (r : Option (Bor X)) (owner : Bor X) → option_copied r ≡ slice_get xs at → r ≡ Some owner → slice_get (map view xs) at ≡ Some (view owner.now)
module_read view xs at r owner e is = slice_get-map view xs at ∙ ap (option_map view) (sym e ∙ ap option_copied is)

-- and its names
pub scope_read : (modules : List tree.Module) (scopes : List Scope) (at : ℕ) (owner : tree.Module) (scope : Scope) → AllZip IsScopeOf modules scopes → slice_get modules at ≡ Some owner → scope ≡ get_or scopes at scope → IsScopeOf owner scope
scope_read modules scopes at owner scope zip there is =
    let found = zip_at IsScopeOf modules scopes at owner zip there in
    subst (λ (s : Scope). IsScopeOf owner s) (sym (is ∙ get_or_from_slice_get scopes at found.0 scope found.1)) found.2

pub scope_missing : (modules : List tree.Module) (scopes : List Scope) (at : ℕ) (owner : tree.Module) → AllZip IsScopeOf modules scopes → slice_get modules at ≡ Some owner → length scopes ≤ at → ⊥
scope_missing modules scopes at owner zip there past =
    let found = zip_at IsScopeOf modules scopes at owner zip there in
    let near = slice_get_within scopes at found.0 found.1 in
    omega (arith, near, past)

pub module_bound : (setting : Setting) (places : List ℕ) (at : ℕ) (owner : tree.Module) (wires : Wires) (bound : BoundModule) → slice_get setting.modules at ≡ Some owner → sites_in wires ≡ sites owner → AreWires (sites_in wires) wires
    → bound.name ≡ owner.name → AllZip (BindsPort (sites owner)) (port_names owner.head) wires.ports → bound.ports ≡ wires.ports → bound.wires ≡ wires.list
    → AllZip (BindsAssign wires.list) (flat_map item_assigns owner.items) bound.assigns → AllZip (BindsInstance setting places wires.list) (flat_map item_instances owner.items) bound.instances → BindsModuleAt setting places at bound
module_bound setting places at owner wires bound there are done name ports ports_are wires_are assigns instances = record {
  owner = owner;
  there = there;
  binds = record {
    name = name;
    ports = subst (λ (l : List _). AllZip (BindsPort (sites owner)) (port_names owner.head) l) (sym ports_are) ports;
    others = done.others;
    wires = wires_are ∙ done.list ∙ ap (λ (l : List _). map port_wire l ++ done.others) (sym ports_are);
    others_are = subst (λ (l : List Site). AreOthers l done.others) are done.others_are;
    assigns = subst (λ (l : List BoundWire). AllZip (BindsAssign l) (flat_map item_assigns owner.items) bound.assigns) (sym wires_are) assigns;
    instances = subst (λ (l : List BoundWire). AllZip (BindsInstance setting places l) (flat_map item_instances owner.items) bound.instances) (sym wires_are) instances;
  };
}

-- ---- all modules

pub modules_start : (setting : Setting) (places : List ℕ) (bound : List BoundModule) → bound ≡ [] → AllZip (BindsModuleAt setting places) (take 0 places) bound
modules_start setting places bound e = subst (λ (l : List BoundModule). AllZip (BindsModuleAt setting places) (take 0 places) l) (sym e) (start places) where
  start : (xs : List ℕ) → AllZip (BindsModuleAt setting places) (take 0 xs) []
  start [] = tt
  start (x ∷ xs) = tt

pub modules_more : (setting : Setting) (places : List ℕ) (i d : ℕ) (old new : List BoundModule) (bound : BoundModule) → i < length places → AllZip (BindsModuleAt setting places) (take i places) old
    → BindsModuleAt setting places (get_or places i d) bound → new ≡ old ++ bound ∷ [] → AllZip (BindsModuleAt setting places) (take (i + 1) places) new
modules_more setting places i d old new bound lt before binds pushed =
    subst (λ (l : List ℕ). AllZip (BindsModuleAt setting places) l new) (sym (take_more places i d lt))
    (subst (λ (l : List BoundModule). AllZip (BindsModuleAt setting places) (take i places ++ get_or places i d ∷ []) l) (sym pushed)
    (zip_push (BindsModuleAt setting places) (take i places) old (get_or places i d) bound before binds))

pub modules_all : (setting : Setting) (places : List ℕ) (i : ℕ) (bound : List BoundModule) → length places ≤ i → AllZip (BindsModuleAt setting places) (take i places) bound → AllZip (BindsModuleAt setting places) places bound
modules_all setting places i bound le h = subst (λ (l : List ℕ). AllZip (BindsModuleAt setting places) l bound) (take_all i places le) h

pub place_listed : (places : List ℕ) (i d : ℕ) → i < length places → Contains places (get_or places i d)
place_listed places i d lt = Contains-get_or places i d lt
