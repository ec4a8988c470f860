use Rattle.std.proofs.Common.{List, [], get_or, None, arith}
use Rattle.rad_auth.specs.Clients.{Client}
use Rattle.rad_auth.specs.RequestLanes.{IsMessageAuthenticator, OfCandidate}
use Rattle.rad_auth.proofs.LaneLemmas.{each_lane, lane_hmac}
use Rattle.rad_auth.proofs.request_authenticators.message_authenticators.Goals as goal

pub returns : goal.returns
returns c =
    let clients : List Client = c.args.clients.now in
    let made = c.hmac_some.ensures in
    each_lane c.args.lanes.now (λ j lane. OfCandidate (IsMessageAuthenticator clients (get_or c.hmac_some.result j [])) lane) None
    _ _ _ _ _ _ _ _ c.type_inv.lanes
    (lane_hmac clients _ _ _ _ _ c.key.ensures c.hmac_text.ensures.text c.has_hmac_to_check.ensures (made 0 (omega arith)))
    (lane_hmac clients _ _ _ _ _ c.key-2.ensures c.hmac_text-2.ensures.text c.has_hmac_to_check-2.ensures (made 1 (omega arith)))
    (lane_hmac clients _ _ _ _ _ c.key-3.ensures c.hmac_text-3.ensures.text c.has_hmac_to_check-3.ensures (made 2 (omega arith)))
    (lane_hmac clients _ _ _ _ _ c.key-4.ensures c.hmac_text-4.ensures.text c.has_hmac_to_check-4.ensures (made 3 (omega arith)))
    (lane_hmac clients _ _ _ _ _ c.key-5.ensures c.hmac_text-5.ensures.text c.has_hmac_to_check-5.ensures (made 4 (omega arith)))
    (lane_hmac clients _ _ _ _ _ c.key-6.ensures c.hmac_text-6.ensures.text c.has_hmac_to_check-6.ensures (made 5 (omega arith)))
    (lane_hmac clients _ _ _ _ _ c.key-7.ensures c.hmac_text-7.ensures.text c.has_hmac_to_check-7.ensures (made 6 (omega arith)))
    (lane_hmac clients _ _ _ _ _ c.key-8.ensures c.hmac_text-8.ensures.text c.has_hmac_to_check-8.ensures (made 7 (omega arith)))
