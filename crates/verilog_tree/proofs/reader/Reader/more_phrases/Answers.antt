use Rattle.std.proofs.Common.{◌≡◌, ◌++◌, ◌∷◌, [], map, sym, ◌∙◌, refl}
use Rattle.std.proofs.lemmas.Result.{err_from_is_err_and}
use Rattle.std.proofs.lemmas.List.{map_push}
use Rattle.verilog_tree.specs.Reading.{with_front}
use Rattle.verilog_tree.specs.Parsing.{behind_comma, more_commas}
use Rattle.verilog_tree.specs.Words.{is_mark}
use Rattle.verilog_tree.proofs.Loop.{so_far_step, so_far_end, so_far_fail}
use Rattle.verilog_tree.proofs.reader.Reader.more_phrases.Goals as goal

pub returns-in_err-next : goal.returns-in_err-next
returns-in_err-next g c =
    let p = err_from_is_err_and c.from_residual.result c.from_residual.ensures.1 in
    let view = g.P.Phrase.view in
    let reading = g.P.Phrase.reading in
    rw (p.1, p.2) (so_far_fail (is_mark 44) (behind_comma reading) (map view c.more.all) c.more.self (with_front (map view c.args.front) (more_commas reading c.args.self.now)) c.in_err-next.field-0.0 refl (sym c.is_mark.ensures ∙ c.more-test.true) c.in_err-next.ensures.gives c.more.invariant)

pub more-preserved : goal.more-preserved
more-preserved g c =
    let view = g.P.Phrase.view in
    let reading = g.P.Phrase.reading in
    let e : map view c.push.new.self ≡ map view c.more.all ++ view c.in_ok-next.next ∷ [] = rw c.in_ok-push.ensures.ok (map_push view c.more.all c.in_ok-next.next) in
    rw e (so_far_step (is_mark 44) (behind_comma reading) (map view c.more.all) c.more.self (with_front (map view c.args.front) (more_commas reading c.args.self.now)) (view c.in_ok-next.next) c.next_phrase.new.self (sym c.is_mark.ensures ∙ c.more-test.true) c.in_ok-next.ensures.gives c.in_ok-next.ensures.less c.more.invariant)

pub more-smaller : goal.more-smaller
more-smaller g c = c.in_ok-next.ensures.less

pub returns : goal.returns
returns g c =
    let view = g.P.Phrase.view in
    let reading = g.P.Phrase.reading in
    so_far_end (is_mark 44) (behind_comma reading) (map view c.more.all) c.more.self (with_front (map view c.args.front) (more_commas reading c.args.self.now)) (sym c.is_mark.ensures ∙ c.more-test.false) c.more.invariant
