use Rattle.std.proofs.Common.{◌≡◌, ◌∙◌, ◌+◌, ◌++◌, List, drop, get_or, Option, Some, refl, sym, ap, subst}
use Rattle.std.specs.Prelude.{slice_get, option_to_list}
use Rattle.std.specs.List.{flat_map}
use Rattle.std.proofs.lemmas.List.{append-nil}
use Rattle.std.proofs.lemmas.Option.{slice_get_read}
use Rattle.flat_aliases.specs.declared.link.Link.{Link}
use Rattle.bind_forms.specs.declared.bound.BoundLink.{BoundLink}
use Rattle.bind_forms.specs.declared.bound.BoundPart.{BoundPart}
use Rattle.bind_forms.specs.declared.bound.BoundPort.{BoundPort}
use Rattle.flat_places.specs.Bits.{port_links}
use Rattle.flat_places.specs.Pieces.{links_of_link}
use Rattle.flattener.specs.Wiring.{IsNumberedLink}
use Rattle.flattener.proofs.Lists.{flat_step}
use Rattle.flattener.proofs.wiring.Wiring.add_links.Goals as goal

pub loop-link-preserved : goal.loop-link-preserved
loop-link-preserved c =
    let link = c.link-item.result in
    let port = c.index-ports-port.result in
    let ports = c.args.ports.now in
    let inner = c.args.inner.now in
    let offsets = c.args.offsets.now in
    let fits : IsNumberedLink ports inner offsets link = subst (λ (l : BoundLink). IsNumberedLink ports inner offsets l) (sym c.link-item.is) (c.requires c.loop-link.link-index link c.loop-link-test.true) in
    let there : slice_get ports link.port ≡ Some port = slice_get_read ports _ link.port port refl fits.port c.index-ports-port.is in
    let one : links_of_link ports inner offsets link ≡ port_links offsets (get_or inner link.port 0) port.output link.parts =
    ap (λ (o : Option BoundPort). flat_map (λ (port : BoundPort). port_links offsets (get_or inner link.port 0) port.output link.parts) (option_to_list o)) there ∙ append-nil _ in
    let f = links_of_link ports inner offsets in
    let done = c.loop-link.self.links.items in
    let added : c.push_port.new.links.items ≡ done ++ f (get_or c.args.links.now c.loop-link.link-index link) =
    c.in_ok-push_port.ensures
    ∙ ap (λ (p : BoundPort). done ++ port_links offsets (get_or inner link.port 0) p.output c.as_slice.result.now) (sym c.index-ports-port.is)
    ∙ ap (λ (parts : List BoundPart). done ++ port_links offsets (get_or inner link.port 0) port.output parts) c.as_slice.ensures
    ∙ ap (λ (links : List Link). done ++ links) (sym one)
    ∙ ap (λ (l : BoundLink). done ++ f l) c.link-item.is in
    record {
      links = ap (λ (links : List Link). links ++ flat_map f (drop (c.loop-link.link-index + 1) c.args.links.now)) added ∙ flat_step f c.args.links.now c.loop-link.link-index link done _ c.loop-link-test.true c.loop-link.invariant.links;
      places = c.loop-link.invariant.places;
      cells = c.loop-link.invariant.cells;
      reads = c.loop-link.invariant.reads;
      outputs = c.loop-link.invariant.outputs;
    }
