use Rattle.std.proofs.Common.{arith}
use Rattle.bind_kinds.specs.Netlist.{setting_of}
use Rattle.bind_faults.proofs.Places.{scopes_count}
use Rattle.bind_faults.proofs.FirstDoubles.{clear_double, first_double, no_double_at_all}
use Rattle.bind_faults.proofs.doubles.name_twice.Goals as goal

pub double_at-requires-clause-flag : goal.double_at-requires-clause-flag
double_at-requires-clause-flag c = omega (arith, c.loop-at-test.true, c.requires.reached.count, scopes_count c.args.netlist.now c.requires.told.is_netlist)

pub returns-in-Some : goal.returns-in-Some
returns-in-Some c = first_double (setting_of c.args.netlist.now) c.loop-at.at c.in-Some.site c.in-Some.name.now c.in_ok-of.field-0 c.loop-at.invariant c.in-Some.ensures c.in_ok-of.ensures

pub loop-at-preserved : goal.loop-at-preserved
loop-at-preserved c = clear_double (setting_of c.args.netlist.now) c.loop-at.at c.loop-at.invariant c.in_default.ensures

pub returns : goal.returns
returns c = no_double_at_all (setting_of c.args.netlist.now) c.loop-at.at (omega (arith, c.loop-at-test.false, scopes_count c.args.netlist.now c.requires.told.is_netlist)) c.loop-at.invariant
