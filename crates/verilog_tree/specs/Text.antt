-- Trees that some tokens spell.
use Rattle.std.specs.Prelude.{List, map}
use Rattle.verilog_lex.specs.Words as lex
use Rattle.verilog_tree.specs.Words.{meaning}
use Rattle.verilog_tree.specs.Trees.{Module}
use Rattle.verilog_tree.specs.Spelling.{SpellsSource}

-- The tree is spelled by some tokens: each is what its kind says, and their words spell the tree.
pub record IsSpelledTree (tree : List Module) : Type 0 where
  pub tokens : List lex.Word
  pub good : lex.AreSpelled tokens
  pub spelled : SpellsSource tree (map meaning tokens)
