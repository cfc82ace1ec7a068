-- Where words spell no tree, and what parsing answers of them.
use Rattle.std.specs.Prelude.{◌≡◌, ℕ, ◌+◌, ◌<◌, ◌≤◌, List, ◌++◌, length, map, take, Result, Ok, Err}
use Rattle.verilog_lex.specs.Words as lex
use Rattle.verilog_tree.specs.Words.{Word, meaning}
use Rattle.verilog_tree.specs.Trees.{Module}
use Rattle.verilog_tree.specs.Spelling.{SpellsSource}
use Rattle.verilog_tree.specs.Views.{view_source}
use Rattle.verilog_tree.specs.declared.tree.Source.{Source}
use Rattle.verilog_tree.specs.declared.parsing.ParseFault.{ParseFault}
use Rattle.verilog_tree.specs.declared.parsing.ParseFault.TheVariants as fault

-- Some tree's tokens begin so: with further tokens behind them, each of which is what its kind says, they spell it.
abbrev pub BeginsTree : List Word → Type 0
BeginsTree front = (tree : List Module) × (tail : List lex.Word) × lex.AreSpelled tail × SpellsSource tree (front ++ map meaning tail)

-- The words before this place begin a tree, and so do fewer of them. With the word there they begin none; where no word is there, they spell none.
pub record IsParseFault (ts : List Word) (at : ℕ) : Type 0 where
  pub within : at ≤ length ts
  pub before : BeginsTree (take at ts)
  pub there : at < length ts → ¬ BeginsTree (take (at + 1) ts)
  pub none : (tree : List Module) → ¬ SpellsSource tree ts

-- what a refusal says of the words: its place is their fault; want of memory says nothing
abbrev pub Explains : List Word → ParseFault → Type 0
Explains ts (fault.NoTree at) = IsParseFault ts at
Explains ts fault.Memory = Unit {0}

-- the answer is this tree, or want of memory
abbrev pub IsTreeOrMemory : List Module → Result Source ParseFault → Type 0
IsTreeOrMemory tree (Ok source) = view_source source ≡ tree
IsTreeOrMemory tree (Err e) = e ≡ fault.Memory

-- Some words spell one tree at most.
abbrev pub WordsSpellOneTree : Type 0
WordsSpellOneTree = (words : List Word) (a b : List Module) → SpellsSource a words → SpellsSource b words → a ≡ b
