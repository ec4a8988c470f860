use Rattle.std.proofs.Common.{◌≡◌}
use Rattle.test_server.proofs.tests.playing.put_replies.Given as goal

-- the configuration stays
abbrev pub invariant-loop-reply : goal.invariant-loop-reply
invariant-loop-reply l =
    (goal.iterator-loop-reply).can_next l.reply-iterator ×
    (goal.iterator-loop-reply).is_finite l.reply-iterator ×
    (l.server.configuration ≡ l.fn.server.configuration)
