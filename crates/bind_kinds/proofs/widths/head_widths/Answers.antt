use Rattle.std.proofs.Common.{◌≡◌, List, Option, ℕ, Some, ◌+◌, [], take, get_or, sym, ◌∙◌, ap, subst, arith, ◌<◌, length}
use Rattle.std.specs.Prelude.{slice_get}
use Rattle.std.specs.Option.{option_copied}
use Rattle.std.specs.List.{AllZip}
use Rattle.std.proofs.lemmas.Option.{slice_get-get_or}
use Rattle.verilog_tree.specs.Views.{view_head}
use Rattle.bind_sites.specs.Sites.{port_names}
use Rattle.bind_names.specs.Scoped.{sites_of}
use Rattle.bind_kinds.specs.Ports.{IsWidthOf}
use Rattle.bind_kinds.proofs.Laid.{missing}
use Rattle.bind_kinds.proofs.Zips.{zip_next}
use Rattle.bind_kinds.proofs.widths.head_widths.Goals as goal

pub unreachable-requires : goal.unreachable-requires
unreachable-requires c =
    let names = port_names (view_head c.args.head.now) in
    let near : c.loop-place.place < length names = omega (arith, c.loop-place-test.true, c.head_count-place-end.ensures) in
    missing names c.loop-place.place c.head_port.result (get_or names c.loop-place.place []) c.head_port.ensures c.in_default.not-Some (slice_get-get_or names c.loop-place.place [] near)

pub loop-place-preserved : goal.loop-place-preserved
loop-place-preserved c =
    let names = port_names (view_head c.args.head.now) in
    let there : slice_get names c.loop-place.place ≡ Some c.in-Some.name.now = sym c.head_port.ensures ∙ ap option_copied c.in-Some.is in
    subst (λ (l : List (Option ℕ)). AllZip (IsWidthOf (sites_of c.args.scope.now)) (take (c.loop-place.place + 1) names) l) (sym c.in_ok-push.ensures.ok)
    (zip_next (IsWidthOf (sites_of c.args.scope.now)) names c.loop-place.place c.loop-place.widths c.in-Some.name.now c.name_width.result there c.loop-place.invariant c.name_width.ensures)
