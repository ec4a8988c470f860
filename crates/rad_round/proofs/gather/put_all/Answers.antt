use Rattle.std.proofs.Common.{All, [], ◌∷◌, Some, ap, subst, sym, ◌∙◌}
use Rattle.std.proofs.lemmas.List.Elements.{All-pop, All-push}
use Rattle.rad_round.specs.Works.{IsAnswered, IsInLog, put_all}
use Rattle.rad_round.proofs.HandInLemmas.{put_append}
use Rattle.rad_round.proofs.gather.put_all.Goals as goal

pub put_batch-requires : goal.put_batch-requires
put_batch-requires g c =
    (All-pop (IsAnswered c.args.setting.now.config.now.clients c.args.setting.now.arrivals.now) c.loop-batch.answered.items
    c.pop.new.self.items (Some c.in-Some.batch) c.in-Some.ensures.items c.loop-batch.invariant.right).1

pub loop-batch-preserved : goal.loop-batch-preserved
loop-batch-preserved g c =
    let i = c.loop-batch.invariant in
    let items = c.in-Some.ensures.items in
    let rest = c.pop.new.self.items in
    let in_log = IsInLog c.args.keeper.now in
    record {
      unchanged = c.put_batch.ensures.unchanged ∙ i.unchanged;
      right = (All-pop (IsAnswered c.args.setting.now.config.now.clients c.args.setting.now.arrivals.now)
          c.loop-batch.answered.items rest
          (Some c.in-Some.batch) items i.right).0;
      logged = λ logged. i.logged (subst (All in_log) (sym items) (All-push in_log rest c.in-Some.batch logged
          (subst (λ log. IsInLog log c.in-Some.batch) i.unchanged c.put_batch.ensures.logged)));
      put = ap (put_all rest) c.put_batch.ensures.put ∙ sym (put_append rest (c.in-Some.batch ∷ []) c.loop-batch.places)
          ∙ ap (λ list. put_all list c.loop-batch.places) (sym items) ∙ i.put;
    }
