-- What was made for each module.
use Rattle.std.proofs.Common.{◌≡◌, List, map, ◌∙◌, subst}
use Rattle.std.specs.Option.{option_map}
use Rattle.verilog_tree.specs.declared.tree.Module.{Module as CodeModule}
use Rattle.verilog_tree.specs.Trees.{Module}
use Rattle.verilog_tree.specs.Views.{view_module}
use Rattle.bind_sites.specs.declared.listing.Sites.{Sites}
use Rattle.bind_sites.specs.Sites.{Site, sites}
use Rattle.bind_sites.specs.Listing.{all_sites}
use Rattle.name_table.specs.declared.places.FirstNames.{FirstNames}
use Rattle.bind_names.specs.declared.scope.Scope.{Scope}
use Rattle.bind_names.specs.Scoped.{IsScope, IsFirstDouble, sites_of}
use Rattle.std.specs.List.{AllZip}
use Rattle.bind_kinds.specs.Netlist.{IsScopeOf, ArePortsOf}
use Rattle.bind_kinds.specs.Ports.{HasFirstDouble}
use Rattle.bind_kinds.proofs.Zips.{zip_along}

-- the names in a module, by its sites
pub record IsMade (all : Sites) (scope : Scope) : Type 0 where
  pub is_scope : IsScope scope
  pub sites_are : sites_of scope ≡ all_sites all
  pub double : IsFirstDouble (all_sites all) (option_map (λ (at, name). (at, name.now)) scope.double)

abbrev pub HavePorts : CodeModule → FirstNames → Type 0
HavePorts owner ports = ArePortsOf (view_module owner) ports

pub made_scopes : (all : List Sites) (modules : List Module) (scopes : List Scope) → map all_sites all ≡ map sites modules → AllZip IsMade all scopes → AllZip IsScopeOf modules scopes
made_scopes all modules scopes same made =
    zip_along all_sites sites IsMade IsScopeOf (λ one owner scope is m. record { is_scope = m.is_scope; sites_are = m.sites_are ∙ is }) all modules scopes same made

pub made_doubles : (all : List Sites) (modules : List Module) (scopes : List Scope) → map all_sites all ≡ map sites modules → AllZip IsMade all scopes → AllZip HasFirstDouble modules scopes
made_doubles all modules scopes same made =
    zip_along all_sites sites IsMade HasFirstDouble (λ one owner scope is m. subst (λ (s : List Site). IsFirstDouble s (option_map (λ (at, name). (at, name.now)) scope.double)) is m.double) all modules scopes same made
