-- What the kinds at sites mean, on the way along the sites.
use Rattle.std.proofs.Common.{◌≡◌, ℕ, ◌+◌, ◌<◌, List, [], ◌∷◌, ◌++◌, map, take, drop, replicate, length, get_or, Option, Some, refl, sym, ◌∙◌, ap, subst, arith}
use Rattle.std.specs.Prelude.{slice_get}
use Rattle.std.specs.Option.{option_map}
use Rattle.std.specs.List.{AllZip}
use Rattle.std.proofs.lemmas.List.{drop_more, length-map}
use Rattle.std.proofs.lemmas.Option.{slice_get-map, slice_get_read, get_or_from_slice_get}
use Rattle.bind_sites.specs.declared.site.Site.{Site as CodeSite}
use Rattle.bind_sites.specs.View.{view_site}
use Rattle.bind_sites.specs.Sites.{Site}
use Rattle.bind_hierarchy.specs.declared.kinds.Meaning.{Meaning}
use Rattle.bind_forms.specs.Modules.{Setting}
use Rattle.bind_kinds.specs.Meanings.{IsMeantAt, AreLinked}
use Rattle.bind_kinds.proofs.Zips.{zip_more}

-- the kinds of a list of instances, each with the meaning of all
pub zip_same : {I : Type 0} (R : List ℕ → Option Meaning → Type 0) (kind : List ℕ) (meaning : Option Meaning) (instances : List I) → R kind meaning → AllZip R (map (λ instance. kind) instances) (replicate (length instances) meaning)
zip_same R kind meaning [] r = tt
zip_same R kind meaning (first ∷ more) r = (r, zip_same R kind meaning more r)

-- one more site
pub passed_more : (setting : Setting) (sites : List CodeSite) (at : ℕ) (site : CodeSite) (before : List (Option Meaning)) (last next : Option Meaning) (rest behind : List (Option Meaning)) → at < length sites → site ≡ get_or sites at site
    → AllZip (IsMeantAt setting) (take at (map view_site sites)) before × AreLinked setting last (drop at (map view_site sites)) rest
    → ((more : List Site) → AreLinked setting last (view_site site ∷ more) rest → IsMeantAt setting (view_site site) next × AreLinked setting next more behind)
    → AllZip (IsMeantAt setting) (take (at + 1) (map view_site sites)) (before ++ next ∷ []) × AreLinked setting next (drop (at + 1) (map view_site sites)) behind
passed_more setting sites at site before last next rest behind near is done pass =
    let all = map view_site sites in
    let near_too : at < length all = omega (arith, near, length-map sites view_site) in
    let got : slice_get all at ≡ Some (view_site site) = slice_get-map view_site sites at ∙ ap (option_map view_site) (slice_get_read sites (length sites) at site refl near is) in
    let read : view_site site ≡ get_or all at (view_site site) = sym (get_or_from_slice_get all at (view_site site) (view_site site) got) in
    let split : drop at all ≡ view_site site ∷ drop (at + 1) all = drop_more all at (view_site site) near_too ∙ ap (λ (s : Site). s ∷ drop (at + 1) all) (sym read) in
    let step = pass (drop (at + 1) all) (subst (λ (l : List Site). AreLinked setting last l rest) split done.1) in
    (zip_more (IsMeantAt setting) all at before (view_site site) next near_too read done.0 step.0, step.1)
