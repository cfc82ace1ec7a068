use Rattle.std.proofs.Common.{◌≡◌, ℕ, List, map, length, arith}
use Rattle.std.specs.Borrow.{Bor}
use Rattle.std.proofs.lemmas.List.{length-map}
use Rattle.std.proofs.lemmas.Result.{err_from_is_err_and}
use Rattle.golden_aig.proofs.Texts.{side_ok, side_err}
use Rattle.golden_aig.proofs.matching.match_side.Goals as goal
use Rattle.golden_aig.proofs.matching.match_side.Goals.{else-len-ne0-via-then-len-ne0+else-len-entries, else-len-ne0-via-else-len-ne0}

pub returns-in_err-refuse_repeats-clause-err : goal.returns-in_err-refuse_repeats-clause-err
returns-in_err-refuse_repeats-clause-err c =
    let texts : List (List ℕ) = map (λ (text : Bor (List ℕ)). text.now) c.in_ok-symbols.symbols.items in
    let many : length texts ≡ length c.in_ok-symbols.symbols.items = length-map c.in_ok-symbols.symbols.items (λ (text : Bor (List ℕ)). text.now) in
    let full : length texts ≡ length c.args.entries.now = elim c.else-len-ne0.branch [
      | else-len-ne0-via-then-len-ne0+else-len-entries w ↦ omega arith
      | else-len-ne0-via-else-len-ne0 w ↦ omega arith
    ] in
    let count : length c.args.entries.now ≡ length c.args.ports.items = omega arith in
    let names = rw c.deref-2.ensures.value at c.in_ok-matched.ensures.names in
    let ports = rw c.deref.ensures.value at c.in_ok-matched.ensures.ports in
    let err = rw c.deref-3.ensures.value at c.in_err-refuse_repeats.ensures.err in
    let p = err_from_is_err_and c.from_residual-in_err-refuse_repeats.result c.from_residual-in_err-refuse_repeats.ensures.1 in
    rw (p.1, p.2) (side_err c.args.flat.now c.args.entries.now c.args.ports.items c.in_ok-matched.matched texts c.in_err-refuse_repeats.field-0.0 c.in_ok-symbols.ensures.ok names ports count full err)

pub returns-clause-ok : goal.returns-clause-ok
returns-clause-ok c =
    let texts : List (List ℕ) = map (λ (text : Bor (List ℕ)). text.now) c.in_ok-symbols.symbols.items in
    let many : length texts ≡ length c.in_ok-symbols.symbols.items = length-map c.in_ok-symbols.symbols.items (λ (text : Bor (List ℕ)). text.now) in
    let full : length texts ≡ length c.args.entries.now = elim c.else-len-ne0.branch [
      | else-len-ne0-via-then-len-ne0+else-len-entries w ↦ omega arith
      | else-len-ne0-via-else-len-ne0 w ↦ omega arith
    ] in
    let count : length c.args.entries.now ≡ length c.args.ports.items = omega arith in
    let names = rw c.deref-2.ensures.value at c.in_ok-matched.ensures.names in
    let ports = rw c.deref.ensures.value at c.in_ok-matched.ensures.ports in
    let apart = rw c.deref-3.ensures.value at c.in_ok-refuse_repeats.ensures.ok in
    side_ok c.args.flat.now c.args.entries.now c.args.ports.items c.in_ok-matched.matched texts c.in_ok-symbols.ensures.ok names ports apart count full
