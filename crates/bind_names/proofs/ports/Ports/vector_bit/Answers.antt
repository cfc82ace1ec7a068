use Rattle.std.proofs.Common.{ℕ, Option, map, length, sym, subst}
use Rattle.bind_sites.specs.View.{view_site}
use Rattle.bind_sites.specs.Again.{HasFirstRange}
use Rattle.bind_names.specs.Places.{listed_name, IsFirstPlace}
use Rattle.bind_names.proofs.Crossings.{IsWritten, not_written, without_range, of_scalar, outside, not_listed, its_bit}
use Rattle.bind_names.proofs.ports.Ports.vector_bit.Goals as goal

pub returns-in_err-name : goal.returns-in_err-name
returns-in_err-name c =
    let all = map view_site c.args.sites.now in
    rw c.from_residual.ensures (not_written all c.args.printed.now c.requires.fit c.in_err-name.ensures)

pub returns-in_err-range_of : goal.returns-in_err-range_of
returns-in_err-range_of c =
    let all = map view_site c.args.sites.now in
    let written : IsWritten all c.args.printed.now c.in_ok-name.name.now c.in_ok-name.index =
    record { fit = c.requires.fit; small = c.in_ok-name.ensures.0; printed_is = c.in_ok-name.ensures.1 } in
    rw c.from_residual-in_err-range_of.ensures (without_range all c.args.printed.now c.in_ok-name.name.now c.in_ok-name.index written c.in_err-range_of.ensures)

pub returns-in_err-left : goal.returns-in_err-left
returns-in_err-left c =
    let all = map view_site c.args.sites.now in
    let written : IsWritten all c.args.printed.now c.in_ok-name.name.now c.in_ok-name.index =
    record { fit = c.requires.fit; small = c.in_ok-name.ensures.0; printed_is = c.in_ok-name.ensures.1 } in
    let P : Option (ℕ × ℕ) → Type 0 = λ r. HasFirstRange all c.in_ok-name.name.now r in
    rw c.from_residual-in_err-left.ensures (of_scalar all c.args.printed.now c.in_ok-name.name.now c.in_ok-name.index written (subst P c.in_err-left.was c.in_ok-range_of.ensures))

pub returns-in_err-bit : goal.returns-in_err-bit
returns-in_err-bit c =
    let all = map view_site c.args.sites.now in
    let written : IsWritten all c.args.printed.now c.in_ok-name.name.now c.in_ok-name.index =
    record { fit = c.requires.fit; small = c.in_ok-name.ensures.0; printed_is = c.in_ok-name.ensures.1 } in
    let P : Option (ℕ × ℕ) → Type 0 = λ r. HasFirstRange all c.in_ok-name.name.now r in
    rw c.from_residual-in_err-bit.ensures (outside all c.args.printed.now c.in_ok-name.name.now c.in_ok-name.index (c.in_ok-left.left, c.in_ok-left.right) written (subst P c.in_ok-left.was c.in_ok-range_of.ensures) c.in_err-bit.ensures)

pub returns-in_err-find : goal.returns-in_err-find
returns-in_err-find c =
    let all = map view_site c.args.sites.now in
    let written : IsWritten all c.args.printed.now c.in_ok-name.name.now c.in_ok-name.index =
    record { fit = c.requires.fit; small = c.in_ok-name.ensures.0; printed_is = c.in_ok-name.ensures.1 } in
    let P : Option ℕ → Type 0 = λ p. IsFirstPlace (map listed_name all) (length all) c.in_ok-name.name.now p in
    rw c.from_residual-in_err-find.ensures (not_listed all c.args.printed.now c.in_ok-name.name.now c.in_ok-name.index written (subst P (sym c.in_err-find.ensures) (c.requires.listed_first c.in_ok-name.name.now)))

pub returns : goal.returns
returns c =
    let all = map view_site c.args.sites.now in
    let written : IsWritten all c.args.printed.now c.in_ok-name.name.now c.in_ok-name.index =
    record { fit = c.requires.fit; small = c.in_ok-name.ensures.0; printed_is = c.in_ok-name.ensures.1 } in
    let P : Option (ℕ × ℕ) → Type 0 = λ r. HasFirstRange all c.in_ok-name.name.now r in
    let Q : Option ℕ → Type 0 = λ p. IsFirstPlace (map listed_name all) (length all) c.in_ok-name.name.now p in
    its_bit all c.args.printed.now c.in_ok-name.name.now c.in_ok-name.index (c.in_ok-left.left, c.in_ok-left.right) c.in_ok-find.field-0 c.in_ok-bit.bit written
    (subst P c.in_ok-left.was c.in_ok-range_of.ensures) c.in_ok-bit.ensures.0 c.in_ok-bit.ensures.1 (subst Q (sym c.in_ok-find.ensures) (c.requires.listed_first c.in_ok-name.name.now))
