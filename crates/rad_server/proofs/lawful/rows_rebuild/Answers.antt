use Rattle.rad_server.proofs.RebuildLemmas.{restore_rebuilds}
use Rattle.rad_server.proofs.RestoreLemmas.{restore_is_the_law}
use Rattle.rad_server.proofs.lawful.rows_rebuild.Goals as goal

pub returns-clause-law : goal.returns-clause-law
returns-clause-law c = restore_is_the_law (record {
  session = c.lawful_sessions.ensures.restore;
  last_session = c.lawful_sessions.ensures.restore_last;
  reply = c.lawful_replies.ensures.restore;
  challenge = c.lawful_challenges.ensures.restore;
  last_challenge = c.lawful_challenges.ensures.restore_last;
})

pub returns-clause-rebuilt : goal.returns-clause-rebuilt
returns-clause-rebuilt c = restore_rebuilds (record {
  sessions = c.lawful_sessions.ensures.rebuilt;
  replies = c.lawful_replies.ensures.rebuilt;
  challenges = c.lawful_challenges.ensures.rebuilt;
})
