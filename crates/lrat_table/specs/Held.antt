-- The entries that the table's fields hold.
use Rattle.std.specs.Prelude.{List, map}
use Rattle.std.specs.Option.{option_map}
use Rattle.lrat_table.specs.Entries.{TableEntry, AreRising}
use Rattle.lrat_table.specs.declared.table.Entry.{Entry}
use Rattle.lrat_table.specs.declared.table.ClauseTable.TheInside.{Inside}

abbrev pub entry_of : Entry → TableEntry
entry_of entry = record { id = entry.id; clause = option_map (λ clause. clause.now) entry.clause }

abbrev pub entries_of : Inside → List TableEntry
entries_of a = map entry_of a.entries.items

abbrev pub HasRisingIds : Inside → Type 0
HasRisingIds a = AreRising 0 (entries_of a)
