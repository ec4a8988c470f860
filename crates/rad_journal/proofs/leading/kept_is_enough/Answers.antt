use Rattle.rad_journal.proofs.LeadLemmas.{fresh_are_kept, kept_last_over_time, kept_lead_on}
use Rattle.rad_journal.proofs.leading.kept_is_enough.Goals as goal

pub returns-clause-fresh : goal.returns-clause-fresh
returns-clause-fresh c = fresh_are_kept c.fresh_are_enough.ensures c.kept_are_restored.ensures

pub returns-clause-on : goal.returns-clause-on
returns-clause-on c = kept_lead_on

pub returns-clause-time : goal.returns-clause-time
returns-clause-time c = kept_last_over_time c.time_passes_unseen.ensures.alike
