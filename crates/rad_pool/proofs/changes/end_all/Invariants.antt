use Rattle.rad_pool.proofs.CountLemmas.{IsResetTo}
use Rattle.rad_pool.proofs.changes.end_all.Given as goal

abbrev pub invariant-loop-session : goal.invariant-loop-session
invariant-loop-session l = IsResetTo l.source l.rows.rows l.session-iterator l.fn.counts l.counts
