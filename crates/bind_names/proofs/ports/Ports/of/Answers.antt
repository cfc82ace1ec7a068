use Rattle.std.proofs.Common.{◌≡◌, map, length, slice_get, Some, refl, sym, ◌∙◌, ap, arith}
use Rattle.std.proofs.lemmas.Option.{slice_get_read}
use Rattle.bind_sites.specs.View.{view_site}
use Rattle.bind_names.specs.Places.{listed_name, directed_name}
use Rattle.bind_names.proofs.Indexing.{any_step, none_seen, viewed_at, named_at, fit_step}
use Rattle.bind_names.proofs.ports.Ports.of.Goals as goal

pub loop-at-init : goal.loop-at-init
loop-at-init c = record {
  listed_first = none_seen _ c.new-listed.result c.new-listed.ensures;
  directed_first = none_seen _ c.new-directed.result c.new-directed.ensures;
  fit = λ at lt. absurd (omega arith);
}

pub loop-at-preserved : goal.loop-at-preserved
loop-at-preserved c =
    let here : slice_get c.args.sites.now c.loop-at.at ≡ Some c.index-sites-at.result =
    slice_get_read c.args.sites.now (length c.args.sites.now) c.loop-at.at c.index-sites-at.result refl (omega arith) c.index-sites-at.is in
    let all = map view_site c.args.sites.now in
    let site = viewed_at c.args.sites.now c.loop-at.at c.index-sites-at.result here in
    record {
      listed_first = any_step _ c.loop-at.at c.loop-at.listed c.see.new.names _ c.loop-at.invariant.listed_first (named_at listed_name all c.loop-at.at (view_site c.index-sites-at.result) site ∙ ap Some (sym c.listed_name.ensures)) c.in_ok-see.ensures;
      directed_first = any_step _ c.loop-at.at c.loop-at.directed c.see-in-loop-at.new.names _ c.loop-at.invariant.directed_first (named_at directed_name all c.loop-at.at (view_site c.index-sites-at.result) site ∙ ap Some (sym c.directed_name.ensures.name)) c.in_ok-see-2.ensures;
      fit = fit_step all c.loop-at.at (view_site c.index-sites-at.result) c.loop-at.invariant.fit site c.directed_name.ensures.fit;
    }
