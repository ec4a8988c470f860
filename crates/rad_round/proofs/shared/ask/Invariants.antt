use Rattle.std.proofs.Common.{◌≡◌, ◌+◌, ◌*◌, ◌++◌, length, take}
use Rattle.rad_round.specs.Works.{AreAsked, entries_in}
use Rattle.rad_round.proofs.shared.ask.Given as goal

abbrev pub invariant-loop-lane : goal.invariant-loop-lane
invariant-loop-lane g l = record {
  lanes : length l.asked ≡ 8;
  part : l.share.parts ≡ 1;
  asked : AreAsked l.batch.arrivals (l.batch.number * 8) l.batch.verdicts l.asked;
  history : l.locked.history ≡ l.initial.locked.history ++ entries_in (take l.lane l.asked);
  counted : l.share.amount ≡ l.initial.share.amount + length (entries_in (take l.lane l.asked));
}
