use Rattle.rad_carry.proofs.RowLemmas.{all_rows, ok_then}
use Rattle.rad_carry.proofs.carrying.put_rows.Goals as goal

pub returns-clause-put : goal.returns-clause-put
returns-clause-put c =
    ok_then _ _ c.put-2.result c.put-2.ensures.put
    (all_rows c.args.places.now c.args.old.now.state c.sessions-sessions.result.now.table c.recent.result.now.table
    c.challenges-challenges.result.now.table c.last.result
    c.last-2.result
    (record {
      table_is = c.sessions-sessions.ensures;
      replies_are = c.recent.ensures;
      challenges_are = c.challenges-challenges.ensures;
      last_is = c.last.ensures;
      given_is = c.last-2.ensures;
    }) c.args.new.now c.put_sessions.new.server c.put.new.server c.put_replies.new.server c.put_challenges.new.server
    c.put-2.new.server.state
    c.in_ok-put_sessions.ensures.put c.put_sessions.ensures.configuration c.in_ok-put.ensures.put c.put.ensures.configuration
    c.in_ok-put_replies.ensures.put
    c.put_replies.ensures.configuration c.in_ok-put_challenges.ensures.put c.put_challenges.ensures.configuration)
