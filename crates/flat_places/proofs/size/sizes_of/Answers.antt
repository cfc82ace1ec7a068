use Rattle.std.proofs.Common.{◌∙◌, sym, ap, subst, List, length, replicate, true}
use Rattle.bind_forms.specs.declared.bound.BoundModule.{BoundModule}
use Rattle.flat_places.specs.Sizes.{AreSizes}
use Rattle.flat_places.proofs.Levels.{level_none, level_step, below_seen}
use Rattle.flat_places.proofs.size.sizes_of.Goals as goal

pub sizes_of_modules-requires : goal.sizes_of_modules-requires
sizes_of_modules-requires c = below_seen c.args.bound.now c.loop-level._level c.loop-level.sizes.items c.as_slice.result.now c.as_slice-modules.result.now c.requires c.loop-level.invariant c.as_slice.ensures.value c.as_slice-modules.ensures

pub loop-level-init : goal.loop-level-init
loop-level-init c =
    subst (AreSizes c.args.bound.now 0) (sym (c.in_ok-sizes.ensures ∙ ap (λ (ms : List BoundModule). replicate (length ms) (record { deep = true; cells = 0; bits = 0 })) c.as_slice-modules.ensures)) (level_none c.args.bound.now)

pub loop-level-preserved : goal.loop-level-preserved
loop-level-preserved c =
    level_step c.args.bound.now c.loop-level._level c.loop-level.sizes.items c.as_slice.result.now c.in_ok-sizes-2.sizes.items c.as_slice-modules.result.now c.requires c.loop-level.invariant c.as_slice.ensures.value c.as_slice-modules.ensures c.in_ok-sizes-2.ensures
