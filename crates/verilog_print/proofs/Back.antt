-- The printed form of a tree is read back.
use Rattle.std.proofs.Common.{◌≡◌, List, map, sym, ap, ◌∙◌, subst}
use Rattle.verilog_lex.specs.Words as lex
use Rattle.verilog_lex.specs.Written.{WrittenWordsAreRead}
use Rattle.verilog_tree.specs.Words.{Word, meaning, words}
use Rattle.verilog_tree.specs.Trees.{Module}
use Rattle.verilog_tree.specs.Spelling.{SpellsSource}
use Rattle.verilog_print.specs.Printing.{printed}
use Rattle.verilog_tree.specs.Text.{IsSpelledTree}
use Rattle.verilog_tree.proofs.Good.{AllGood}
use Rattle.verilog_tree.proofs.Tokens.{words_are}
use Rattle.verilog_print.specs.Text.{written, printed_text, IsReadBack}
use Rattle.verilog_print.proofs.Written.{meanings_good, all_written, words_back}
use Rattle.verilog_print.proofs.Prints.{printed_again, printed_good}

pub read_back : WrittenWordsAreRead → (tree : List Module) → IsSpelledTree tree → IsReadBack (printed_text tree) tree
read_back law tree t =
    let good : AllGood (printed tree) = printed_good tree (map meaning t.tokens) t.spelled (meanings_good t.tokens t.good) in
    let r = law (map written (printed tree)) (all_written (printed tree) good) in
    let same : words (printed_text tree) r.tokens ≡ printed tree = words_are (printed_text tree) r.tokens ∙ ap (λ (ws : List lex.Word). map meaning ws) r.words_are ∙ words_back (printed tree) good in
    record { tokens = r.tokens; reading = r.reading; spelled = subst (λ (ws : List Word). SpellsSource tree ws) (sym same) (printed_again tree (map meaning t.tokens) t.spelled) }
