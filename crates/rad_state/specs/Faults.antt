-- What is told of a failure of a store or a journal.
use Rattle.sqlite_trees.specs.declared.error.StoreError.{StoreError}
use Rattle.sqlite_trees.specs.declared.error.StoreError.TheVariants as store
use Rattle.rad_journal.specs.declared.journal.JournalFault.{JournalFault}
use Rattle.rad_journal.specs.declared.journal.JournalFault.TheVariants as journal
use Rattle.rad_snapshot.specs.declared.snapshot_fault.SnapshotFault.{SnapshotFault}
use Rattle.rad_snapshot.specs.declared.snapshot_fault.SnapshotFault.TheVariants as snapshot
use Rattle.rad_state.specs.declared.open_fault.OpenFault.{OpenFault}
use Rattle.rad_state.specs.declared.open_fault.OpenFault.TheVariants.{Damaged, NoMemory, Disk, NoRoom, JournalFull, Snapshot}

abbrev pub fault_of : StoreError → OpenFault
fault_of store.OutOfMemory = NoMemory
fault_of store.Io = Disk
fault_of store.Corrupt = Damaged
fault_of store.Full = NoRoom
fault_of store.Broken = Disk
fault_of store.Unstorable = NoRoom

abbrev pub fault_of_journal : JournalFault → OpenFault
fault_of_journal journal.NoMemory = NoMemory
fault_of_journal journal.Disk = Disk
fault_of_journal journal.Damaged = Damaged
fault_of_journal journal.NoRoom = NoRoom
fault_of_journal journal.Full = JournalFull

abbrev pub fault_of_snapshot : SnapshotFault → OpenFault
fault_of_snapshot snapshot.NoMemory = NoMemory
fault_of_snapshot (snapshot.Journal fault) = fault_of_journal fault
fault_of_snapshot (snapshot.Row table place fault) = Snapshot (snapshot.Row table place fault)
