-- What is bound, with the names in each module, as the code holds them.
use Rattle.std.specs.Prelude.{◌≡◌, ℕ, List, Option}
use Rattle.std.specs.Option.{option_map}
use Rattle.std.specs.List.{AllZip}
use Rattle.name_table.specs.declared.places.FirstNames.{FirstNames}
use Rattle.name_table.specs.Places.{place_of}
use Rattle.verilog_tree.specs.Trees.{Module}
use Rattle.verilog_tree.specs.Views.{view_source}
use Rattle.bind_sites.specs.Sites.{sites, port_names}
use Rattle.bind_names.specs.declared.scope.Scope.{Scope}
use Rattle.bind_names.specs.Scoped.{IsScope, sites_of}
use Rattle.bind_hierarchy.specs.Names.{IsFirstPlace}
use Rattle.bind_hierarchy.specs.Kinds.{AreKinds}
use Rattle.bind_hierarchy.specs.declared.kinds.Meaning.{Meaning}
use Rattle.bind_forms.specs.Modules.{Setting}
use Rattle.bind_kinds.specs.declared.netlist.Netlist.{Netlist}
use Rattle.bind_kinds.specs.Meanings.{IsMeantAt}
use Rattle.bind_kinds.specs.Ports.{IsWidthOf}

-- the names in a module
pub record IsScopeOf (owner : Module) (scope : Scope) : Type 0 where
  pub is_scope : IsScope scope
  pub sites_are : sites_of scope ≡ sites owner

-- the ports of a module, each name with its first place in the head
abbrev pub ArePortsOf : Module → FirstNames → Type 0
ArePortsOf owner ports = (name : List ℕ) → IsFirstPlace (port_names owner.head) name (place_of ports name)

-- what the kinds at the sites of a module mean, site by site
abbrev pub AreMeaningsOf : Setting → Module → List (Option Meaning) → Type 0
AreMeaningsOf setting owner meanings = AllZip (IsMeantAt setting) (sites owner) meanings

-- the widths of the ports of a module, in port order
abbrev pub AreWidthsOf : Module → List (Option ℕ) → Type 0
AreWidthsOf owner widths = AllZip (IsWidthOf (sites owner)) (port_names owner.head) widths

-- what is bound
abbrev pub setting_of : Netlist → Setting
setting_of netlist = record { modules = view_source netlist.source.now; table = netlist.cells.now; top = option_map (λ name. name.now) netlist.top }

-- The kinds are those of what is bound, and each module has its names, what its kinds mean, and the widths of its ports.
pub record IsNetlist (netlist : Netlist) : Type 0 where
  pub kinds : AreKinds (setting_of netlist).modules (setting_of netlist).table netlist.kinds.now
  pub scopes : AllZip IsScopeOf (setting_of netlist).modules netlist.scopes.now
  pub ports : AllZip ArePortsOf (setting_of netlist).modules netlist.ports.now
  pub meanings : AllZip (AreMeaningsOf (setting_of netlist)) (setting_of netlist).modules netlist.meanings.now
  pub widths : AllZip AreWidthsOf (setting_of netlist).modules netlist.widths.now
