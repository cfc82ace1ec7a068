use Rattle.std.proofs.Common.{rules}
use Rattle.bind_kinds.specs.Netlist.{setting_of}
use Rattle.bind_faults.proofs.Lookups.{has_sites, no_sites, fits_by}
use Rattle.bind_faults.proofs.widths.fits.Goals as goal

pub returns-in-Some : goal.returns-in-Some
returns-in-Some c =
    let netlist = c.args.netlist.now in
    let scope = c.in-Some.scope.now in
    let found = c.in-Some.ensures.lookup in
    fits_by (setting_of netlist) c.args.at scope (has_sites (setting_of netlist) netlist.scopes.now c.args.at scope c.requires.scopes found.3.0 found.1)

pub returns-in-None : goal.returns-in-None
returns-in-None c = (
  λ t all has. absurd (no_sites (setting_of c.args.netlist.now) c.args.netlist.now.scopes.now c.args.at all c.requires.scopes c.in-None.ensures.lookup.3 has),
  λ fits. search rules,
)
