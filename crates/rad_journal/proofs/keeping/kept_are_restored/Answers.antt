use Rattle.rad_journal.proofs.KeepLemmas.{replied_are_kept}
use Rattle.rad_journal.proofs.keeping.kept_are_restored.Goals as goal

pub returns : goal.returns
returns c = replied_are_kept
