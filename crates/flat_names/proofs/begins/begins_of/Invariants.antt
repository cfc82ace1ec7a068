use Rattle.std.proofs.Common.{◌≡◌, ◌<◌, ℕ, length, get_or}
use Rattle.bind_forms.specs.declared.bound.BoundModule.{BoundModule}
use Rattle.flat_names.specs.declared.begins.Begins.{Begins}
use Rattle.flat_names.specs.Begins.{IsBegun}
use Rattle.flat_names.proofs.begins.begins_of.Given as goal

abbrev pub invariant-loop-owner : goal.invariant-loop-owner
invariant-loop-owner l = record {
  counted : length l.begins.items ≡ l.owner-index;
  each : (at : ℕ) (owner : BoundModule) (begin : Begins) → at < l.owner-index → IsBegun l.source.sizes.now (get_or l.owner-items at owner) (get_or l.begins.items at begin);
}
