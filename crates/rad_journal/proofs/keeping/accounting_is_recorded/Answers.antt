use Rattle.rad_journal.proofs.RecordLemmas.{is_recorded}
use Rattle.rad_journal.proofs.keeping.accounting_is_recorded.Goals as goal

pub returns : goal.returns
returns c = is_recorded
