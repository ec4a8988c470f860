use Rattle.std.proofs.Common.{◌∙◌, arith}
use Rattle.std.proofs.lemmas.List.{length-set}
use Rattle.rad_round.proofs.ShareLemmas.{asked_more, count_more, history_more}
use Rattle.rad_round.proofs.shared.ask.Goals as goal

pub loop-lane-preserved : goal.loop-lane-preserved
loop-lane-preserved g c =
    let i = c.loop-lane.invariant in
    record {
      lanes = length-set c.loop-lane.asked c.loop-lane.lane c.ask_one.result ∙ i.lanes;
      part = c.ask_one.ensures.part;
      asked = asked_more c.args.batch.now c.loop-lane.asked c.loop-lane.lane c.ask_one.result i.asked c.ask_one.ensures.asked;
      history = history_more c.args.locked.now.history c.loop-lane.locked.history c.ask_one.new.locked.history c.loop-lane.asked
          c.loop-lane.lane c.ask_one.result
          (omega (arith, i.lanes)) i.history c.ask_one.ensures.history;
      counted = count_more c.args.share.now.amount c.loop-lane.share.amount c.ask_one.new.share.amount c.loop-lane.asked
          c.loop-lane.lane c.ask_one.result
          (omega (arith, i.lanes)) i.counted c.ask_one.ensures.counted;
    }
