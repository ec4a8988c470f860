use Rattle.std.proofs.Common.{◌∙◌, ap, map}
use Rattle.rad_pool.specs.Sessions.{session_reset}
use Rattle.rad_pool.proofs.CountLemmas.{stop_first}
use Rattle.rad_pool.proofs.changes.end_linked.Goals as goal

pub loop-step-preserved : goal.loop-step-preserved
loop-step-preserved c = record {
  counts = c.stop.ensures.counts;
  rows = ap (map (session_reset c.args.source)) c.stop.ensures.rows
      ∙ stop_first c.args.source c.in-Some.number c.loop-step.rows.rows c.numbers_rise.ensures.rising.rising c.in-Some.ensures
      ∙ c.loop-step.invariant.rows;
  last = c.stop.ensures.last ∙ c.loop-step.invariant.last;
  spans = c.stop.ensures.spans ∙ c.loop-step.invariant.spans;
  room = c.stop.ensures.room ∙ c.loop-step.invariant.room;
}
