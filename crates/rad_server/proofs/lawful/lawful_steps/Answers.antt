use Rattle.rad_server.proofs.LawfulLemmas.{at_moment_is_lawful, opening_is_lawful, step_is_lawful}
use Rattle.rad_server.proofs.lawful.lawful_steps.Goals as goal

pub returns-clause-opening : goal.returns-clause-opening
returns-clause-opening c = opening_is_lawful (record {
  sessions = c.lawful_sessions.ensures.opening;
  replies = c.lawful_replies.ensures.opening;
  challenges = c.lawful_challenges.ensures.opening;
})

pub returns-clause-step : goal.returns-clause-step
returns-clause-step c = λ configuration state request moment draw valid answerable within drawn lawful.
    let sessions = c.lawful_sessions.ensures in
    let replies = c.lawful_replies.ensures in
    let challenges = c.lawful_challenges.ensures in
    step_is_lawful (record {
      sessions = record {
        expiry = sessions.expiry;
        grant = sessions.grant;
        renewal = sessions.renewal;
        stop = sessions.stop;
        reset = sessions.reset;
      };
      replies = record { expiry = replies.expiry; removal = replies.removal; keeping = replies.keeping };
      challenges = record { expiry = challenges.expiry; answer = challenges.answer; issue = challenges.issue };
    }) configuration state request moment draw (record { valid = valid; answerable = answerable; drawn = drawn }) within lawful

pub returns-clause-passing : goal.returns-clause-passing
returns-clause-passing c = at_moment_is_lawful (record {
  sessions = c.lawful_sessions.ensures.expiry;
  replies = c.lawful_replies.ensures.expiry;
  challenges = c.lawful_challenges.ensures.expiry;
})
