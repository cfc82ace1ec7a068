use Rattle.std.proofs.Common.{List, Bool, Vec, ℕ, Global, refl, sym, subst, arith}
use Rattle.std.specs.Option.{option_map}
use Rattle.std.proofs.lemmas.Result.{err_from_is_err_and}
use Rattle.bind_forms.specs.First.{Tops}
use Rattle.bind_kinds.specs.Netlist.{setting_of}
use Rattle.bind_faults.specs.Checks.{AreReached}
use Rattle.bind_faults.proofs.Order.{clear_more}
use Rattle.bind_faults.proofs.Places.{scopes_count}
use Rattle.bind_faults.proofs.OneTop.{top_below}
use Rattle.bind_faults.proofs.NoTops.{no_tops}
use Rattle.bind_faults.proofs.Flags.{are_reached, reached_by}
use Rattle.bind_faults.proofs.find.find_under.Goals as goal

pub refuse_doubles-requires-clause-reached : goal.refuse_doubles-requires-clause-reached
refuse_doubles-requires-clause-reached c =
    let setting = setting_of c.args.netlist.now in
    subst (λ (l : List Bool). AreReached setting l) (sym c.as_slice-reached.ensures.value)
    (are_reached setting c.args.top c.requires.top c.in_ok-reach.reach.reached.items c.in_ok-reach.reach.order.items (option_map (λ (ring : Vec ℕ Global). ring.items) c.in_ok-reach.reach.ring) (c.in_ok-reach.ensures setting.modules c.requires.graph))

pub refuse_doubles-requires-clause-there : goal.refuse_doubles-requires-clause-there
refuse_doubles-requires-clause-there c =
    omega (arith, top_below (setting_of c.args.netlist.now) c.args.top c.requires.top, scopes_count c.args.netlist.now c.requires.told.is_netlist)

pub look_over-requires-clause-reached : goal.look_over-requires-clause-reached
look_over-requires-clause-reached c =
    let setting = setting_of c.args.netlist.now in
    subst (λ (l : List Bool). AreReached setting l) (sym c.as_slice-reached.ensures.value)
    (are_reached setting c.args.top c.requires.top c.in_ok-reach.reach.reached.items c.in_ok-reach.reach.order.items (option_map (λ (ring : Vec ℕ Global). ring.items) c.in_ok-reach.reach.ring) (c.in_ok-reach.ensures setting.modules c.requires.graph))

pub look_over-requires-clause-before : goal.look_over-requires-clause-before
look_over-requires-clause-before c =
    let setting = setting_of c.args.netlist.now in
    clear_more setting Tops c.in_ok-refuse_doubles.ensures (no_tops setting c.args.top c.requires.top)

pub refuse_sites-requires-clause-reached : goal.refuse_sites-requires-clause-reached
refuse_sites-requires-clause-reached c =
    let setting = setting_of c.args.netlist.now in
    subst (λ (l : List Bool). AreReached setting l) (sym c.as_slice-reached.ensures.value)
    (are_reached setting c.args.top c.requires.top c.in_ok-reach.reach.reached.items c.in_ok-reach.reach.order.items (option_map (λ (ring : Vec ℕ Global). ring.items) c.in_ok-reach.reach.ring) (c.in_ok-reach.ensures setting.modules c.requires.graph))

pub returns-in_err-refuse_sites-clause-fault : goal.returns-in_err-refuse_sites-clause-fault
returns-in_err-refuse_sites-clause-fault c =
    let p = err_from_is_err_and c.from_residual-in_err-refuse_sites.result c.from_residual-in_err-refuse_sites.ensures.1 in
    rw (p.1, p.2) c.in_err-refuse_sites.ensures

pub returns-clause-reached : goal.returns-clause-reached
returns-clause-reached c =
    let setting = setting_of c.args.netlist.now in
    reached_by setting c.args.top c.requires.top (record { top = c.args.top; reached = c.in_ok-reach.reach.reached; order = c.in_ok-reach.reach.order }) c.in_ok-reach.reach.ring refl (c.in_ok-reach.ensures setting.modules c.requires.graph) c.in_ok-refuse_ring.ensures.none
