use Rattle.rad_state.proofs.generations.OneGenerationGenerations.begin.Goals as goal

-- the journal is as it was, and a crash leaves what it kept
pub returns-clause-survives : goal.returns-clause-survives
returns-clause-survives g c clean journal_clean is_open base is = (
  record { base = base; entries = g.J.Journal.kept c.args._journal.now },
  (is, g.met.J.Journal.stays c.args._journal.now journal_clean is_open),
)
