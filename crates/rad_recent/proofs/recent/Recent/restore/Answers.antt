use Rattle.std.proofs.Common.{◌≡◌, ◌∙◌, ap, sym}
use Rattle.std.specs.Prelude.{Ok}
use Rattle.rad_recent.specs.Recent.{Replies, with_reply, without_key}
use Rattle.rad_recent.specs.Restored.{reply_restorable}
use Rattle.rad_recent.proofs.RestoreLemmas.{in_no_place}
use Rattle.rad_recent.proofs.recent.Recent.restore.Goals as goal

pub returns-clause-restored : goal.returns-clause-restored
returns-clause-restored c =
    let fits : reply_restorable c.args.clock c.args.reply c.args.self.now.table ≡ Ok tt =
    rw (← c.self.view_is) (sym c.check_reply.ensures ∙ c.in_ok-check_reply.was) in
    c.put.ensures.table
    ∙ ap (λ (table : Replies). with_reply c.args.reply (without_key c.args.reply.key table)) c.make_ready.ensures.unchanged
    ∙ ap (with_reply c.args.reply) (in_no_place c.args.clock c.args.reply c.args.self.now.table fits)
