use Rattle.std.proofs.Common.{ℕ, List, Some, None, map, sym, subst}
use Rattle.std.proofs.lemmas.List.{length-map}
use Rattle.bind_sites.specs.View.{view_site}
use Rattle.bind_sites.specs.Again.{IsBitAgain}
use Rattle.bind_names.specs.Crossing.{CrossesAmong, IsLeast}
use Rattle.bind_names.proofs.Repeats.{is_again, none_before, none_again}
use Rattle.bind_names.proofs.again.find_bit_again.Goals as goal

pub returns-in-Some : goal.returns-in-Some
returns-in-Some c =
    let all = map view_site c.args.sites.now in
    let P : ℕ → Type 0 = λ n. IsLeast (CrossesAmong all c.args.limit n) (Some c.in-Some.crossing) in
    let least = subst P (sym (length-map c.args.sites.now view_site)) c.in-Some.ensures in
    let fit = c.in_ok-ports.ensures.fit in
    let Q : List ℕ → Type 0 = λ n. IsBitAgain all c.in-Some.crossing.at n in (
      least.0.2.0,
      subst Q (sym c.in_ok-of-in-Some.ensures) (is_again all c.args.limit c.in-Some.crossing c.requires fit least),
      none_before all c.args.limit c.in-Some.crossing c.requires fit least,
    )

pub returns : goal.returns
returns c =
    let all = map view_site c.args.sites.now in
    let P : ℕ → Type 0 = λ n. IsLeast (CrossesAmong all c.args.limit n) None in
    none_again all c.args.limit c.requires c.in_ok-ports.ensures.fit (subst P (sym (length-map c.args.sites.now view_site)) c.in-None.ensures)
