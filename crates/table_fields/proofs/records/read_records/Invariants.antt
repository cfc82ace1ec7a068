use Rattle.std.proofs.Common.{◌≡◌, ◌<◌, ℕ, List, Some, map}
use Rattle.csv.specs.Reading.{Reached, Ready, default_config, source_of, strip_bom}
use Rattle.csv.specs.Records.{fields_of}
use Rattle.csv.specs.declared.parser.State.TheVariants as st
use Rattle.csv.specs.declared.reader.Trim.TheVariants as trim
use Rattle.table_fields.proofs.records.read_records.Given as goal

abbrev pub invariant-loop-row : goal.invariant-loop-row
invariant-loop-row l = let reader = l.row-iterator.rdr in
    (reader.trim ≡ trim.None) × Ready reader × (0 < l.row-iterator.left) × (reader.config ≡ default_config)
    × (left : List ℕ) × (source_of (λ s. Some s.now) reader ≡ Some left)
    × Reached default_config st.StartRecord (strip_bom l.fn.bytes) (map fields_of l.rows.items) reader.state left
