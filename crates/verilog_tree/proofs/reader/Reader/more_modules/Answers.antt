use Rattle.std.proofs.Common.{◌≡◌, ◌++◌, ◌∷◌, [], map, sym, ◌∙◌, refl, length, ◌<◌}
use Rattle.std.proofs.lemmas.Result.{err_from_is_err_and}
use Rattle.std.proofs.lemmas.List.{map_push}
use Rattle.verilog_tree.specs.Reading.{with_front, many}
use Rattle.verilog_tree.specs.Parsing.{module_of}
use Rattle.verilog_tree.specs.Spelling.{SpellsModule}
use Rattle.verilog_tree.specs.Words.{next_is, key_of}
use Rattle.verilog_tree.specs.declared.lexeme.Keyword.TheVariants as key
use Rattle.verilog_tree.specs.Views.{view_module}
use Rattle.verilog_tree.proofs.Loop.{so_far_step, so_far_end, so_far_fail}
use Rattle.verilog_tree.proofs.Phrases.{exact_module, module_leads}
use Rattle.verilog_tree.proofs.Loop.{shorter}
use Rattle.verilog_tree.proofs.reader.Reader.more_modules.Goals as goal

pub returns-in_err-next : goal.returns-in_err-next
returns-in_err-next c =
    let p = err_from_is_err_and c.from_residual.result c.from_residual.ensures.1 in
    rw (p.1, p.2) (so_far_fail (next_is (key_of key.Module)) module_of (map view_module c.more.all) c.more.self (with_front (map view_module c.args.front) (many (next_is (key_of key.Module)) module_of (length c.args.self.now) c.args.self.now)) c.in_err-next.field-0.0 refl (sym c.is_key.ensures ∙ c.more-test.true) c.in_err-next.ensures c.more.invariant)

pub more-preserved : goal.more-preserved
more-preserved c =
    let lt : length c.module.new.self < length c.more.self = shorter (next_is (key_of key.Module)) _ SpellsModule module_of _ exact_module module_leads c.more.self (view_module c.in_ok-next.next) c.module.new.self c.in_ok-next.ensures in
    let e : map view_module c.push.new.self ≡ map view_module c.more.all ++ view_module c.in_ok-next.next ∷ [] = rw c.in_ok-push.ensures.ok (map_push view_module c.more.all c.in_ok-next.next) in
    rw e (so_far_step (next_is (key_of key.Module)) module_of (map view_module c.more.all) c.more.self (with_front (map view_module c.args.front) (many (next_is (key_of key.Module)) module_of (length c.args.self.now) c.args.self.now)) (view_module c.in_ok-next.next) c.module.new.self (sym c.is_key.ensures ∙ c.more-test.true) c.in_ok-next.ensures lt c.more.invariant)

pub more-smaller : goal.more-smaller
more-smaller c = shorter (next_is (key_of key.Module)) _ SpellsModule module_of _ exact_module module_leads c.more.self (view_module c.in_ok-next.next) c.module.new.self c.in_ok-next.ensures

pub returns : goal.returns
returns c = so_far_end (next_is (key_of key.Module)) module_of (map view_module c.more.all) c.more.self (with_front (map view_module c.args.front) (many (next_is (key_of key.Module)) module_of (length c.args.self.now) c.args.self.now)) (sym c.is_key.ensures ∙ c.more-test.false) c.more.invariant
