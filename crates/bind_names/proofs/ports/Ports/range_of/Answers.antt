use Rattle.std.proofs.Common.{◌≡◌, ℕ, Option, map, length, slice_get, Some, refl, sym, ◌∙◌, ap, subst, arith, ◌≤◌}
use Rattle.std.proofs.lemmas.List.{length-map}
use Rattle.std.proofs.lemmas.Option.{slice_get_read}
use Rattle.bind_sites.specs.View.{view_site}
use Rattle.bind_names.specs.Places.{directed_name, IsFirstPlace}
use Rattle.bind_names.proofs.Indexing.{viewed_at, no_range, first_range, gives_none, stands_direction}
use Rattle.bind_names.proofs.ports.Ports.range_of.Goals as goal

pub returns-in_err-find : goal.returns-in_err-find
returns-in_err-find c =
    let all = map view_site c.args.sites.now in
    let P : Option ℕ → Type 0 = λ p. IsFirstPlace (map directed_name all) (length all) c.args.name.now p in
    rw c.from_residual.ensures (no_range all c.args.name.now (subst P (sym c.in_err-find.ensures) (c.requires.directed_first c.args.name.now)))

pub returns-in_err-range : goal.returns-in_err-range
returns-in_err-range c =
    let all = map view_site c.args.sites.now in
    let P : Option ℕ → Type 0 = λ p. IsFirstPlace (map directed_name all) (length all) c.args.name.now p in
    let first = subst P (sym c.in_ok-find.ensures) (c.requires.directed_first c.args.name.now) in
    let past : length c.args.sites.now ≤ c.in_ok-find.field-0 = c.in_err-range.ensures.lookup.3 in
    absurd (omega (arith, first.0, length-map c.args.sites.now view_site))

pub returns-in-Port : goal.returns-in-Port
returns-in-Port c =
    let all = map view_site c.args.sites.now in
    let P : Option ℕ → Type 0 = λ p. IsFirstPlace (map directed_name all) (length all) c.args.name.now p in
    let first = subst P (sym c.in_ok-find.ensures) (c.requires.directed_first c.args.name.now) in
    let here : slice_get c.args.sites.now c.in_ok-find.field-0 ≡ Some c.in_ok-range.field-0.now =
    slice_get_read c.args.sites.now (length c.args.sites.now) c.in_ok-find.field-0 c.in_ok-range.field-0.now refl c.in_ok-range.ensures.lookup.3.0 c.in_ok-range.ensures.lookup.1 in
    first_range all c.args.name.now c.in_ok-find.field-0 c.in-Port.name.now c.in-Port.output c.in-Port.range first
    (viewed_at c.args.sites.now c.in_ok-find.field-0 c.in_ok-range.field-0.now here ∙ ap (λ s. Some (view_site s)) c.in-Port.is)

pub returns-in_default : goal.returns-in_default
returns-in_default c =
    let all = map view_site c.args.sites.now in
    let P : Option ℕ → Type 0 = λ p. IsFirstPlace (map directed_name all) (length all) c.args.name.now p in
    let first = subst P (sym c.in_ok-find.ensures) (c.requires.directed_first c.args.name.now) in
    let here : slice_get c.args.sites.now c.in_ok-find.field-0 ≡ Some c.in_ok-range.field-0.now =
    slice_get_read c.args.sites.now (length c.args.sites.now) c.in_ok-find.field-0 c.in_ok-range.field-0.now refl c.in_ok-range.ensures.lookup.3.0 c.in_ok-range.ensures.lookup.1 in
    absurd (stands_direction all c.args.name.now c.in_ok-find.field-0 (view_site c.in_ok-range.field-0.now) first
    (viewed_at c.args.sites.now c.in_ok-find.field-0 c.in_ok-range.field-0.now here) (gives_none c.in_ok-range.field-0.now c.in_default.not-Port))
