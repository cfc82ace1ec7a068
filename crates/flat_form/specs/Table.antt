-- The table of the one kind of cell of JTL wires.
use Rattle.std.specs.Prelude.{[], ◌∷◌, pos, None, codes}
use Rattle.rsfq_ids.specs.declared.table.CellTable.{CellTable}
use Rattle.rsfq_ids.specs.declared.table.CellRow.{CellRow}
use Rattle.rsfq_ids.specs.declared.table.Kind.TheVariants as kind

-- The JTL: pin a to pin q in 2000 to 3000 fs, dead time 0.
abbrev pub jtl_row : CellRow
jtl_row = record {
  name = codes "JTL";
  kind = kind.Jtl;
  inputs = codes "a" ∷ [];
  clock = None;
  outputs = codes "q" ∷ [];
  truth = 0;
  low = pos 2000;
  high = pos 3000;
  setup = pos 0;
  hold = pos 0;
  dead = pos 0;
}

abbrev pub jtl_table : CellTable
jtl_table = record { rows = jtl_row ∷ [] }
