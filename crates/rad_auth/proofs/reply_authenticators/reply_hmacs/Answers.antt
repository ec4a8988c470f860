use Rattle.std.proofs.Common.{[], get_or, None, arith}
use Rattle.rad_auth.specs.ReplyLanes.{IsReplyHmac}
use Rattle.rad_auth.proofs.LaneLemmas.{each_lane, reply_hmac}
use Rattle.rad_auth.proofs.reply_authenticators.reply_hmacs.Goals as goal

pub returns : goal.returns
returns c =
    let made = c.hmac_some.ensures in
    each_lane c.args.jobs.now (λ j lane. IsReplyHmac lane (get_or c.hmac_some.result j [])) None _ _ _ _ _ _ _ _ c.told-jobs
    (reply_hmac _ _ _ _ _ c.key.ensures c.hmac_text.ensures.text c.has_hmac.ensures (made 0 (omega arith)))
    (reply_hmac _ _ _ _ _ c.key-2.ensures c.hmac_text-2.ensures.text c.has_hmac-2.ensures (made 1 (omega arith)))
    (reply_hmac _ _ _ _ _ c.key-3.ensures c.hmac_text-3.ensures.text c.has_hmac-3.ensures (made 2 (omega arith)))
    (reply_hmac _ _ _ _ _ c.key-4.ensures c.hmac_text-4.ensures.text c.has_hmac-4.ensures (made 3 (omega arith)))
    (reply_hmac _ _ _ _ _ c.key-5.ensures c.hmac_text-5.ensures.text c.has_hmac-5.ensures (made 4 (omega arith)))
    (reply_hmac _ _ _ _ _ c.key-6.ensures c.hmac_text-6.ensures.text c.has_hmac-6.ensures (made 5 (omega arith)))
    (reply_hmac _ _ _ _ _ c.key-7.ensures c.hmac_text-7.ensures.text c.has_hmac-7.ensures (made 6 (omega arith)))
    (reply_hmac _ _ _ _ _ c.key-8.ensures c.hmac_text-8.ensures.text c.has_hmac-8.ensures (made 7 (omega arith)))
