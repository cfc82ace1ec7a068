use Rattle.std.proofs.Common.{◌≡◌, ℕ, List, get_or, Some}
use Rattle.std.specs.Prelude.{slice_get}
use Rattle.std.proofs.lemmas.Option.{slice_get-get_or}
use Rattle.rsfq_ids.specs.declared.circuit.Driver.{Driver}
use Rattle.flat_places.specs.Names.{driver_name}
use Rattle.flat_names.proofs.Lists.{ok_then}
use Rattle.flattener.specs.Ends.{printed_driver}
use Rattle.flattener.proofs.Resolving.{net_fits, net_printed}
use Rattle.flattener.proofs.shape.Shape.net_name.Goals as goal

pub driver_name-requires : goal.driver_name-requires
driver_name-requires c =
    let nets = c.args.self.nets.now in
    net_fits c.args.self c.requires.shaped c.args.net (get_or nets c.args.net c.index-self-net.result) (slice_get-get_or nets c.args.net c.index-self-net.result c.requires.there)

pub returns : goal.returns
returns c =
    let shape = c.args.self in
    let d = c.index-self-net.result in
    ok_then (λ (name : List ℕ). name ≡ printed_driver shape.source.cells.now shape.ports.now shape.cells.now (get_or shape.nets.now c.args.net d))
    (λ (name : List ℕ). (from : Driver) → slice_get shape.nets.now c.args.net ≡ Some from → name ≡ driver_name shape.source.cells.now shape.source.bound.now from)
    (λ name is from e. net_printed shape c.requires.shaped c.args.net d from name c.requires.there is e) c.driver_name.result c.driver_name.ensures
