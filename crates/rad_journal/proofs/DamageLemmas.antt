-- What is read as damaged.
use Rattle.std.proofs.Common.{◌≡◌, ℕ, IfSome, Some, Option, subst}
use Rattle.sqlite_value.specs.Order.{Row}
use Rattle.sqlite_trees.specs.View.{HasCause, View}
use Rattle.sqlite_trees.specs.declared.error.StoreError.{StoreError}
use Rattle.sqlite_trees.specs.declared.error.StoreError.TheVariants as store
use Rattle.rad_journal.specs.Faults.{fault_of}
use Rattle.rad_journal.specs.Rows.{IsRow, IsWithin, row_of}
use Rattle.rad_journal.specs.declared.journal.JournalFault.TheVariants.{Damaged}
use Rattle.rad_journal.specs.declared.kept.Kept.{Kept}

-- a store whose error is told as damage had a cause for it
pub damage_has_cause : (view : View) (failed unstorable : Type 0) (e : StoreError)
    → fault_of e ≡ Damaged → HasCause view failed unstorable e → failed
damage_has_cause view failed unstorable store.OutOfMemory is cause = absurd (cc is)
damage_has_cause view failed unstorable store.Io is cause = absurd (cc is)
damage_has_cause view failed unstorable store.Corrupt is cause = cause
damage_has_cause view failed unstorable store.Full is cause = absurd (cc is)
damage_has_cause view failed unstorable store.Broken is cause = absurd (cc is)
damage_has_cause view failed unstorable store.Unstorable is cause = absurd (cc is)

-- the row of an entry in its ranges
pub row_within : (number : ℕ) (row : Row) (entry : Kept) (found : Option Kept)
    → found ≡ Some entry → IfSome found IsWithin → row ≡ row_of number entry → IsRow row
row_within number row entry found is within same = (number, entry, subst (λ (o : Option Kept). IfSome o IsWithin) is within, same)
