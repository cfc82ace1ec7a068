use Rattle.std.proofs.Common.{◌≡◌, ◌++◌, ◌∷◌, [], map, sym, ◌∙◌, refl, length, ◌<◌}
use Rattle.std.proofs.lemmas.Result.{err_from_is_err_and}
use Rattle.std.proofs.lemmas.List.{map_push}
use Rattle.verilog_tree.specs.Reading.{with_front, many}
use Rattle.verilog_tree.specs.Parsing.{item}
use Rattle.verilog_tree.specs.Spelling.{SpellsItem}
use Rattle.verilog_tree.specs.Words.{begins_item}
use Rattle.verilog_tree.specs.Views.{view_item}
use Rattle.verilog_tree.proofs.Loop.{so_far_step, so_far_end, so_far_fail}
use Rattle.verilog_tree.proofs.Phrases.{exact_item, item_leads}
use Rattle.verilog_tree.proofs.Loop.{shorter}
use Rattle.verilog_tree.proofs.reader.Reader.more_items.Goals as goal

pub returns-in_err-next : goal.returns-in_err-next
returns-in_err-next c =
    let p = err_from_is_err_and c.from_residual.result c.from_residual.ensures.1 in
    rw (p.1, p.2) (so_far_fail (begins_item) item (map view_item c.more.all) c.more.self (with_front (map view_item c.args.front) (many (begins_item) item (length c.args.self.now) c.args.self.now)) c.in_err-next.field-0.0 refl (sym c.begins_item.ensures ∙ c.more-test.true) c.in_err-next.ensures c.more.invariant)

pub more-preserved : goal.more-preserved
more-preserved c =
    let lt : length c.item.new.self < length c.more.self = shorter (begins_item) _ SpellsItem item _ exact_item item_leads c.more.self (view_item c.in_ok-next.next) c.item.new.self c.in_ok-next.ensures in
    let e : map view_item c.push.new.self ≡ map view_item c.more.all ++ view_item c.in_ok-next.next ∷ [] = rw c.in_ok-push.ensures.ok (map_push view_item c.more.all c.in_ok-next.next) in
    rw e (so_far_step (begins_item) item (map view_item c.more.all) c.more.self (with_front (map view_item c.args.front) (many (begins_item) item (length c.args.self.now) c.args.self.now)) (view_item c.in_ok-next.next) c.item.new.self (sym c.begins_item.ensures ∙ c.more-test.true) c.in_ok-next.ensures lt c.more.invariant)

pub more-smaller : goal.more-smaller
more-smaller c = shorter (begins_item) _ SpellsItem item _ exact_item item_leads c.more.self (view_item c.in_ok-next.next) c.item.new.self c.in_ok-next.ensures

pub returns : goal.returns
returns c = so_far_end (begins_item) item (map view_item c.more.all) c.more.self (with_front (map view_item c.args.front) (many (begins_item) item (length c.args.self.now) c.args.self.now)) (sym c.begins_item.ensures ∙ c.more-test.false) c.more.invariant
