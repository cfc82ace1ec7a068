use Rattle.std.proofs.Common.{◌≡◌, ◌∙◌, ◌-◌, true, false, get_or, length, length-set, ap, refl, arith, [], ◌<◌}
use Rattle.std.specs.Prelude.{slice_index_or}
use Rattle.std.specs.Vec.{with_item}
use Rattle.proof_arena.specs.Step.{reading}
use Rattle.proof_arena.specs.Table.{falses_of}
use Rattle.cube_proof.specs.Search.{IsLook, IsVisit, point_of}
use Rattle.cube_proof.proofs.Lists.{ok_then, same_item}
use Rattle.cube_proof.proofs.Looking.{not_read, is_read, lowered, lowered_on}
use Rattle.cube_proof.proofs.search.Search.look_at.Goals as goal

pub returns-then-left-gt-FEW-clause-looked : goal.returns-then-left-gt-FEW-clause-looked
returns-then-left-gt-FEW-clause-looked c none =
    let search = c.args.self.now in
    let many = c.requires.under_way.many in
    let there = c.requires.there in
    let within : c.args.place < length search.left.items = omega (arith, many, there) in
    let read = c.index.ensures ∙ same_item search.left.items c.args.place c.index.result.now 0 within in
    let down : c.saturating_sub-left.result ≡ get_or search.left.items c.args.place 0 - 1 = c.saturating_sub-left.ensures ∙ ap (λ n. n - 1) read in
    not_read c.args.cnf.now.vars c.args.cnf.now.clauses c.args.word.now c.args.lit c.args.place c.saturating_sub-left.result search (with_item search.left c.args.place c.saturating_sub-left.result)
    c.requires.under_way c.requires.watched c.requires.there (c.requires.formula.once c.args.place [] there) refl down c.if-left-gt-FEW.true

pub returns-clause-looked : goal.returns-clause-looked
returns-clause-looked c =
    let search = c.args.self.now in
    let many = c.requires.under_way.many in
    let there = c.requires.there in
    let within : c.args.place < length search.left.items = omega (arith, many, there) in
    let read = c.index.ensures ∙ same_item search.left.items c.args.place c.index.result.now 0 within in
    let down : c.saturating_sub-left.result ≡ get_or search.left.items c.args.place 0 - 1 = c.saturating_sub-left.ensures ∙ ap (λ n. n - 1) read in
    let left = with_item search.left c.args.place c.saturating_sub-left.result in
    ok_then (λ conflict. IsVisit (reading (falses_of search.marks) (slice_index_or c.args.cnf.now.clauses c.args.place [])) c.args.place (point_of (lowered search left)) conflict (point_of c.visit.new.self))
    (λ conflict. conflict ≡ false → IsLook c.args.cnf.now.vars c.args.cnf.now.clauses c.args.word.now c.args.lit c.args.place search c.visit.new.self)
    (λ conflict visit none. is_read c.args.cnf.now c.args.word.now c.args.lit c.args.place c.saturating_sub-left.result search left c.visit.new.self conflict c.requires.formula c.requires.under_way c.requires.watched there
    refl down visit c.visit.ensures.tables c.visit.ensures.left none)
    c.visit.result c.visit.ensures.visit
