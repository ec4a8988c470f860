use Rattle.std.proofs.Common.{[], get_or, None, arith}
use Rattle.rad_auth.specs.ReplyLanes.{IsReplyDigest}
use Rattle.rad_auth.proofs.LaneLemmas.{each_lane, reply_digest}
use Rattle.rad_auth.proofs.reply_authenticators.reply_digests.Goals as goal

pub returns : goal.returns
returns c =
    let made = c.digest_some.ensures in
    each_lane c.args.jobs.now (λ j lane. IsReplyDigest lane (get_or c.digest_some.result j [])) None _ _ _ _ _ _ _ _ c.told-jobs
    (reply_digest _ _ _ _ c.digested_text.ensures c.is_some.ensures (made 0 (omega arith)))
    (reply_digest _ _ _ _ c.digested_text-2.ensures c.is_some-2.ensures (made 1 (omega arith)))
    (reply_digest _ _ _ _ c.digested_text-3.ensures c.is_some-3.ensures (made 2 (omega arith)))
    (reply_digest _ _ _ _ c.digested_text-4.ensures c.is_some-4.ensures (made 3 (omega arith)))
    (reply_digest _ _ _ _ c.digested_text-5.ensures c.is_some-5.ensures (made 4 (omega arith)))
    (reply_digest _ _ _ _ c.digested_text-6.ensures c.is_some-6.ensures (made 5 (omega arith)))
    (reply_digest _ _ _ _ c.digested_text-7.ensures c.is_some-7.ensures (made 6 (omega arith)))
    (reply_digest _ _ _ _ c.digested_text-8.ensures c.is_some-8.ensures (made 7 (omega arith)))
