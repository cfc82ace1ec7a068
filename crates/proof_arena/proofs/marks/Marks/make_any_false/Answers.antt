use Rattle.std.proofs.Common.{◌≡◌, ◌∙◌, ◌≤◌, ℕ, ap, length, map, arith}
use Rattle.std.specs.Prelude.{◌==◌}
use Rattle.std.proofs.lemmas.List.{length-map}
use Rattle.proof_arena.specs.Step.{makes_false}
use Rattle.proof_arena.specs.Table.{Marked, falses_of}
use Rattle.proof_arena.proofs.Marked.{beyond_falses, inserted}
use Rattle.proof_arena.proofs.marks.Marks.make_any_false.Goals as goal

pub returns-clause-falses : goal.returns-clause-falses
returns-clause-falses c =
    let size : length (map (λ (s : ℕ). s == c.self.inside.count) c.self.inside.stamps.items) ≡ length c.self.inside.stamps.items =
    length-map c.self.inside.stamps.items (λ (s : ℕ). s == c.self.inside.count) in
    let past : length (map (λ (s : ℕ). s == c.self.inside.count) c.self.inside.stamps.items) ≤ c.index-place.result = omega arith in
    beyond_falses (map (λ (s : ℕ). s == c.self.inside.count) c.self.inside.stamps.items) c.self.inside.beyond.keys c.insert.new.self.keys c.index-place.result past
    (inserted c.self.inside.beyond.keys c.insert.new.self.keys c.index-place.result c.in_ok-insert.ensures.updates.0)
    ∙ (ap (λ (m : Marked). makes_false (falses_of m) c.index-place.result) c.self.view_is ∙ ap (makes_false (falses_of c.args.self.now)) c.index-place.ensures.number)
