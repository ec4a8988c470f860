use Rattle.std.proofs.Common.{◌≡◌, length, rules, subst, sym}
use Rattle.rad_auth.specs.Sealing.{IsReply}
use Rattle.rad_server.specs.Replies.{access_challenge}
use Rattle.rad_server.proofs.ReplyLemmas.{challenge_is_reply}
use Rattle.rad_server.proofs.reply.access_challenge.Goals as goal

pub returns-clause-reply : goal.returns-clause-reply
returns-clause-reply c =
    let is : c.copy_proxy_states.new.body
    ≡ access_challenge c.args.user.now c.args.number c.args.draw.now c.args.request.now.packet = search rules in
    let drawn : length c.args.draw.now ≡ 16 = search rules in
    subst IsReply (sym is) (challenge_is_reply c.args.user.now c.args.number c.args.draw.now c.args.request.now.packet
    c.requires.challenge drawn c.requires.proxy_states.1)
