use Rattle.std.proofs.Common.{◌≡◌, ℕ, ◌≤◌, Option, Some, None, map, max, nat_lt, if◌then◌else◌, length, slice_get, refl, sym, subst, arith}
use Rattle.std.proofs.lemmas.Bool.Decides.{nat_tests}
use Rattle.std.proofs.lemmas.Option.{slice_get_read}
use Rattle.bind_sites.specs.View.{view_site}
use Rattle.bind_sites.specs.Sites.{Listed}
use Rattle.bind_sites.specs.Scope.{IsAt}
use Rattle.bind_sites.specs.Again.{HasFirstRange}
use Rattle.bind_names.proofs.Indexing.{viewed_at}
use Rattle.bind_names.proofs.Least.{lists, none_scalar, no_scalar, none_bit, none_late, IsPair, is_least}
use Rattle.bind_names.proofs.ports.Ports.crossing_at.Goals as goal
use Rattle.bind_names.proofs.ports.Ports.crossing_at.Goals.{then-scalar-vector, else-scalar-vector}

pub returns-in_err-range_of : goal.returns-in_err-range_of
returns-in_err-range_of c =
    let all = map view_site c.args.sites.now in
    let here : slice_get c.args.sites.now c.args.scalar ≡ Some c.in_ok-get.field-0.now =
    slice_get_read c.args.sites.now (length c.args.sites.now) c.args.scalar c.in_ok-get.field-0.now refl c.in_ok-get.ensures.lookup.3.0 c.in_ok-get.ensures.lookup.1 in
    let there : IsAt all c.args.scalar (Listed c.in_ok-printed.printed.now) =
    lists all c.args.scalar (view_site c.in_ok-get.field-0.now) c.in_ok-printed.printed.now (viewed_at c.args.sites.now c.args.scalar c.in_ok-get.field-0.now here) (sym c.in_ok-printed.ensures) in
    rw c.from_residual-in_err-range_of.ensures (none_scalar all c.args.limit c.args.scalar c.in_ok-printed.printed.now there (c.in_err-range_of.ensures None))

pub returns-in_default : goal.returns-in_default
returns-in_default c =
    let all = map view_site c.args.sites.now in
    let here : slice_get c.args.sites.now c.args.scalar ≡ Some c.in_ok-get.field-0.now =
    slice_get_read c.args.sites.now (length c.args.sites.now) c.args.scalar c.in_ok-get.field-0.now refl c.in_ok-get.ensures.lookup.3.0 c.in_ok-get.ensures.lookup.1 in
    let there : IsAt all c.args.scalar (Listed c.in_ok-printed.printed.now) =
    lists all c.args.scalar (view_site c.in_ok-get.field-0.now) c.in_ok-printed.printed.now (viewed_at c.args.sites.now c.args.scalar c.in_ok-get.field-0.now here) (sym c.in_ok-printed.ensures) in
    let P : Option (ℕ × ℕ) → Type 0 = λ r. HasFirstRange all c.in_ok-printed.printed.now r in
    none_scalar all c.args.limit c.args.scalar c.in_ok-printed.printed.now there
    (no_scalar all c.in_ok-printed.printed.now c.in_default.field-0 (subst P c.in_default.is c.in_ok-range_of.ensures))

pub returns-in_err-vector : goal.returns-in_err-vector
returns-in_err-vector c =
    let all = map view_site c.args.sites.now in
    let here : slice_get c.args.sites.now c.args.scalar ≡ Some c.in_ok-get.field-0.now =
    slice_get_read c.args.sites.now (length c.args.sites.now) c.args.scalar c.in_ok-get.field-0.now refl c.in_ok-get.ensures.lookup.3.0 c.in_ok-get.ensures.lookup.1 in
    let there : IsAt all c.args.scalar (Listed c.in_ok-printed.printed.now) =
    lists all c.args.scalar (view_site c.in_ok-get.field-0.now) c.in_ok-printed.printed.now (viewed_at c.args.sites.now c.args.scalar c.in_ok-get.field-0.now here) (sym c.in_ok-printed.ensures) in
    rw c.from_residual-in_err-vector.ensures (none_bit all c.args.limit c.args.scalar c.in_ok-printed.printed.now there c.in_err-vector.ensures)

pub returns-then-at-limit : goal.returns-then-at-limit
returns-then-at-limit c =
    let all = map view_site c.args.sites.now in
    let here : slice_get c.args.sites.now c.args.scalar ≡ Some c.in_ok-get.field-0.now =
    slice_get_read c.args.sites.now (length c.args.sites.now) c.args.scalar c.in_ok-get.field-0.now refl c.in_ok-get.ensures.lookup.3.0 c.in_ok-get.ensures.lookup.1 in
    let there : IsAt all c.args.scalar (Listed c.in_ok-printed.printed.now) =
    lists all c.args.scalar (view_site c.in_ok-get.field-0.now) c.in_ok-printed.printed.now (viewed_at c.args.sites.now c.args.scalar c.in_ok-get.field-0.now here) (sym c.in_ok-printed.ensures) in
    let P : Option (ℕ × ℕ) → Type 0 = λ r. HasFirstRange all c.in_ok-printed.printed.now r in
    let pair : IsPair all c.args.scalar c.in_ok-printed.printed.now c.in_ok-vector.vector c.in_ok-vector.place =
    record { fit = c.requires.fit; there = there; range_is = subst P c.in-None.is c.in_ok-range_of.ensures; is_bit = c.in_ok-vector.ensures } in
    let bit_is : c.if-scalar-vector.bit ≡ (if nat_lt c.args.scalar c.in_ok-vector.vector then c.in_ok-vector.place else 0) =
    elim c.if-scalar-vector.branch [ then-scalar-vector w ↦ grind (arith, nat_tests) | else-scalar-vector w ↦ grind (arith, nat_tests) ] in
    is_least all c.args.limit c.args.scalar c.in_ok-vector.vector c.in_ok-vector.place
    (record { at = c.max-at.result; bit = c.if-scalar-vector.bit; printed = c.in_ok-printed.printed }) pair c.max-at.ensures bit_is c.if-at-limit.true

pub returns-else-at-limit : goal.returns-else-at-limit
returns-else-at-limit c =
    let all = map view_site c.args.sites.now in
    let here : slice_get c.args.sites.now c.args.scalar ≡ Some c.in_ok-get.field-0.now =
    slice_get_read c.args.sites.now (length c.args.sites.now) c.args.scalar c.in_ok-get.field-0.now refl c.in_ok-get.ensures.lookup.3.0 c.in_ok-get.ensures.lookup.1 in
    let there : IsAt all c.args.scalar (Listed c.in_ok-printed.printed.now) =
    lists all c.args.scalar (view_site c.in_ok-get.field-0.now) c.in_ok-printed.printed.now (viewed_at c.args.sites.now c.args.scalar c.in_ok-get.field-0.now here) (sym c.in_ok-printed.ensures) in
    let P : Option (ℕ × ℕ) → Type 0 = λ r. HasFirstRange all c.in_ok-printed.printed.now r in
    let pair : IsPair all c.args.scalar c.in_ok-printed.printed.now c.in_ok-vector.vector c.in_ok-vector.place =
    record { fit = c.requires.fit; there = there; range_is = subst P c.in-None.is c.in_ok-range_of.ensures; is_bit = c.in_ok-vector.ensures } in
    let late : c.args.limit ≤ max c.args.scalar c.in_ok-vector.vector = let P : ℕ → Type 0 = λ n. c.args.limit ≤ n in subst P c.max-at.ensures c.if-at-limit.false in
    none_late all c.args.limit c.args.scalar c.in_ok-printed.printed.now c.in_ok-vector.vector c.in_ok-vector.place pair late
