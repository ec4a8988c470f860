-- What a snapshot that isn't read is at fault for.
use Rattle.std.specs.Prelude.{ℕ}
use Rattle.rad_journal.specs.declared.journal.JournalFault.{JournalFault}
use Rattle.rad_journal.specs.declared.journal.JournalFault.TheVariants as journal
use Rattle.rad_row_fault.specs.declared.row_fault.RowFault.{RowFault}
use Rattle.rad_row_fault.specs.declared.row_fault.RowFault.TheVariants as faults
use Rattle.rad_snapshot.specs.declared.snapshot_fault.SnapshotFault.{SnapshotFault}
use Rattle.rad_snapshot.specs.declared.snapshot_fault.SnapshotFault.TheVariants.{NoMemory, Journal, Row}
use Rattle.rad_snapshot.specs.declared.snapshot_table.SnapshotTable.{SnapshotTable}

-- what is reported of the store, or of a row that is none of its table
abbrev pub reported : JournalFault → SnapshotFault
reported journal.NoMemory = NoMemory
reported journal.Disk = Journal journal.Disk
reported journal.Damaged = Journal journal.Damaged
reported journal.NoRoom = Journal journal.NoRoom
reported journal.Full = Journal journal.Full

-- what is reported of a row at a place, which a server refuses
abbrev pub refused_at : SnapshotTable → ℕ → RowFault → SnapshotFault
refused_at table place faults.NoMemory = NoMemory
refused_at table place fault = Row table place fault

-- a journal's fault of the rows: they are damaged
abbrev pub IsDamage : JournalFault → Type 0
IsDamage journal.Damaged = Unit {0}
IsDamage journal.NoMemory = ⊥
IsDamage journal.Disk = ⊥
IsDamage journal.NoRoom = ⊥
IsDamage journal.Full = ⊥

-- the faults of the rows: they are damaged, or a server refuses one
abbrev pub IsOfRows : SnapshotFault → Type 0
IsOfRows NoMemory = ⊥
IsOfRows (Journal fault) = IsDamage fault
IsOfRows (Row table place fault) = Unit {0}
