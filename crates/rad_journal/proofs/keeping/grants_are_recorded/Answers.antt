use Rattle.rad_journal.proofs.RecordLemmas.{is_granted, none_is_granted}
use Rattle.rad_journal.proofs.keeping.grants_are_recorded.Goals as goal

pub returns-clause-granted : goal.returns-clause-granted
returns-clause-granted c = is_granted

pub returns-clause-only : goal.returns-clause-only
returns-clause-only c = none_is_granted
