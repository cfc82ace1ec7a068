use Rattle.std.proofs.Common.{◌≡◌, ◌∙◌, true, false, sym, arith}
use Rattle.std.proofs.lemmas.Result.{err_from_is_err_and}
use Rattle.bind_kinds.specs.Netlist.{setting_of}
use Rattle.bind_faults.specs.Checks.{line_of}
use Rattle.bind_faults.proofs.Order.{first_fault, clear_more}
use Rattle.bind_faults.proofs.Places.{has_sites, scopes_count}
use Rattle.bind_faults.proofs.Sites.{first_found, reached_more, unreached_more, clear_all}
use Rattle.bind_faults.proofs.check.Check.look_over.Goals as goal
use Rattle.bind_faults.proofs.check.Check.look_over.Goals.{then-is_reached+in_ok-look_in, else-is_reached}

pub look_in-requires-clause-there : goal.look_in-requires-clause-there
look_in-requires-clause-there c = omega (arith, c.loop-at-test.true, c.requires.reached.count, scopes_count c.args.netlist.now c.requires.told.is_netlist)

pub returns-in_err-look_in : goal.returns-in_err-look_in
returns-in_err-look_in c =
    let setting = setting_of c.args.netlist.now in
    let sites = has_sites setting c.loop-at.at (omega (arith, c.loop-at-test.true, c.requires.reached.count)) in
    let p = err_from_is_err_and c.from_residual.result c.from_residual.ensures.1 in
    rw (p.1, p.2) (λ other. first_fault setting (line_of c.args.self) c.in_err-look_in.field-0.0 c.requires.before
    (first_found c.args.self setting c.loop-at.at sites.0 c.in_err-look_in.field-0.0 ((c.requires.reached.each c.loop-at.at).0 c.if-is_reached.true) sites.1 (c.in_err-look_in.ensures sites.0 sites.1 other) c.loop-at.invariant))

pub loop-at-preserved : goal.loop-at-preserved
loop-at-preserved c =
    let setting = setting_of c.args.netlist.now in
    let sites = has_sites setting c.loop-at.at (omega (arith, c.loop-at-test.true, c.requires.reached.count)) in
    elim c.if-is_reached.branch [
      | then-is_reached+in_ok-look_in w ↦ reached_more c.args.self setting c.loop-at.at sites.0 sites.1 (w.in_ok-look_in.ensures sites.0 sites.1) c.loop-at.invariant
      | else-is_reached w ↦ unreached_more c.args.self setting c.loop-at.at (λ reached. let no : true ≡ false = sym ((c.requires.reached.each c.loop-at.at).1 reached) ∙ w.if-is_reached.false in cc) c.loop-at.invariant
    ]

pub returns : goal.returns
returns c =
    let setting = setting_of c.args.netlist.now in
    clear_more setting (line_of c.args.self) c.requires.before (clear_all c.args.self setting c.loop-at.at (omega (arith, c.loop-at-test.false, c.requires.reached.count)) c.loop-at.invariant)
