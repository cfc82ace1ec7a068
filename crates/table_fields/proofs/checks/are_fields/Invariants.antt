use Rattle.std.proofs.Common.{◌≡◌, true, map}
use Rattle.std.specs.List.{list_all, range_with_len}
use Rattle.std.specs.Str.{bytes_eq}
use Rattle.csv.specs.Records.{fields_of}
use Rattle.table_fields.specs.Records.{field}
use Rattle.table_fields.proofs.checks.are_fields.Given as goal

abbrev pub invariant-loop-place : goal.invariant-loop-place
invariant-loop-place l = list_all (λ place. bytes_eq (field (fields_of l.fields) place) (field (map (λ field. field.now) l.wanted) place)) (range_with_len 0 l.place) ≡ true
