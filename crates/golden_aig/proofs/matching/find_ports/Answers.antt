use Rattle.std.proofs.Common.{◌≡◌, ◌∙◌, ℕ, List, [], map, length, get_or, ap, sym, refl, inr, subst, Some, None, arith}
use Rattle.std.specs.Borrow.{Bor}
use Rattle.std.specs.List.{Contains, All}
use Rattle.std.proofs.lemmas.List.{length-map, get_or-map}
use Rattle.std.proofs.lemmas.List.Elements.{All-push}
use Rattle.golden_aig.specs.FirstPlaces.{place_in}
use Rattle.golden_aig.specs.Matched.{names_of, LacksPort}
use Rattle.golden_aig.proofs.Texts.{found_more, port_found, lacks_err}
use Rattle.golden_aig.proofs.matching.find_ports.Goals as goal

pub returns-in_default-clause-err : goal.returns-in_default-clause-err
returns-in_default-clause-err c =
    let flat = c.args.flat.now in
    let ports = c.args.ports.now in
    let symbols = c.args.symbols.now in
    let texts : List (List ℕ) = map (λ (text : Bor (List ℕ)). text.now) symbols in
    let i = c.loop-symbol.symbol-index in
    let none : Bor (List ℕ) = record { ref_ptr = (0, 0); now = [] } in
    let many : length texts ≡ length symbols = length-map symbols (λ (text : Bor (List ℕ)). text.now) in
    let test = c.loop-symbol-test.true in
    let name = get_or-map (λ (text : Bor (List ℕ)). text.now) symbols i none [] test in
    let absent : place_in (names_of flat ports) (get_or symbols i none).now ≡ None = sym (c.in_ok-table.ensures.ok (get_or symbols i none).now) ∙ sym c.in_default.ensures in
    inr (
      c.in_ok-of.field-0,
      refl,
      subst (LacksPort flat ports texts) (sym c.in_ok-of.ensures)
          (lacks_err flat ports c.loop-symbol.matched texts i (get_or symbols i none).now (omega arith) (sym name) c.loop-symbol.invariant.names c.loop-symbol.invariant.ports absent),
    )

pub loop-symbol-preserved : goal.loop-symbol-preserved
loop-symbol-preserved c =
    let flat = c.args.flat.now in
    let ports = c.args.ports.now in
    let symbols = c.args.symbols.now in
    let texts : List (List ℕ) = map (λ (text : Bor (List ℕ)). text.now) symbols in
    let i = c.loop-symbol.symbol-index in
    let none : Bor (List ℕ) = record { ref_ptr = (0, 0); now = [] } in
    let many : length texts ≡ length symbols = length-map symbols (λ (text : Bor (List ℕ)). text.now) in
    let test = c.loop-symbol-test.true in
    let name = get_or-map (λ (text : Bor (List ℕ)). text.now) symbols i none [] test in
    let first : place_in (names_of flat ports) (get_or symbols i none).now ≡ Some c.in-Some.place = sym (c.in_ok-table.ensures.ok (get_or symbols i none).now) ∙ sym c.in-Some.ensures in
    let port = c.index-ports-place.result in
    record {
      names = found_more flat ports c.loop-symbol.matched c.push.new.self texts i c.in-Some.place port (omega arith) c.loop-symbol.invariant.names c.in_ok-push.ensures.ok c.index-ports-place.is
          (ap (place_in (names_of flat ports)) name ∙ first);
      ports = subst (All (Contains ports)) (sym c.in_ok-push.ensures.ok)
          (All-push (Contains ports) c.loop-symbol.matched port c.loop-symbol.invariant.ports (port_found flat ports (get_or symbols i none).now c.in-Some.place port c.index-ports-place.is first));
    }
