use Rattle.std.proofs.Common.{◌<◌, List, [], ◌∷◌, length, arith}
use Rattle.std.specs.Prelude.{slice_index_or}
use Rattle.std.specs.List.{AllByRecursion}
use Rattle.verilog_tree.specs.Words.{IsToken}
use Rattle.verilog_tree.proofs.reader.Reader.peek.Goals as goal

first_all : {A : Type 0} (P : A → Type 0) (xs : List A) (d : A) → 0 < length xs → AllByRecursion P xs → P (slice_index_or xs 0 d)
first_all P [] d lt h = absurd (omega arith)
first_all P (x ∷ xs) d lt h = h.0

pub of-requires : goal.of-requires
of-requires c = first_all (IsToken c.self.inside.bytes.now) c.self.inside.rest.now _ (omega arith) c.self.invariant
