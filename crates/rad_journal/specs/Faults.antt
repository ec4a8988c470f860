-- What a journal tells of a failure of its store.
use Rattle.sqlite_trees.specs.declared.error.StoreError.{StoreError}
use Rattle.sqlite_trees.specs.declared.error.StoreError.TheVariants as store
use Rattle.rad_journal.specs.declared.journal.JournalFault.{JournalFault}
use Rattle.rad_journal.specs.declared.journal.JournalFault.TheVariants.{NoMemory, Disk, Damaged, NoRoom}

abbrev pub fault_of : StoreError → JournalFault
fault_of store.OutOfMemory = NoMemory
fault_of store.Io = Disk
fault_of store.Corrupt = Damaged
fault_of store.Full = NoRoom
fault_of store.Broken = Disk
fault_of store.Unstorable = NoRoom
