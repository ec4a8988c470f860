use Rattle.std.proofs.Common.{List, [], get_or, None, arith}
use Rattle.rad_auth.specs.Clients.{Client}
use Rattle.rad_auth.specs.RequestLanes.{IsAccountingAuthenticator, OfCandidate}
use Rattle.rad_auth.proofs.LaneLemmas.{each_lane, lane_accounting}
use Rattle.rad_auth.proofs.request_authenticators.accounting_authenticators.Goals as goal

pub returns : goal.returns
returns c =
    let clients : List Client = c.args.clients.now in
    let made = c.digest_some.ensures in
    each_lane c.args.lanes.now (λ j lane. OfCandidate (IsAccountingAuthenticator clients (get_or c.digest_some.result j []))
    lane) None
    _ _ _ _ _ _ _ _ c.type_inv.lanes
    (lane_accounting clients _ _ _ _ c.accounting_text.ensures c.is_accounting.ensures (made 0 (omega arith)))
    (lane_accounting clients _ _ _ _ c.accounting_text-2.ensures c.is_accounting-2.ensures (made 1 (omega arith)))
    (lane_accounting clients _ _ _ _ c.accounting_text-3.ensures c.is_accounting-3.ensures (made 2 (omega arith)))
    (lane_accounting clients _ _ _ _ c.accounting_text-4.ensures c.is_accounting-4.ensures (made 3 (omega arith)))
    (lane_accounting clients _ _ _ _ c.accounting_text-5.ensures c.is_accounting-5.ensures (made 4 (omega arith)))
    (lane_accounting clients _ _ _ _ c.accounting_text-6.ensures c.is_accounting-6.ensures (made 5 (omega arith)))
    (lane_accounting clients _ _ _ _ c.accounting_text-7.ensures c.is_accounting-7.ensures (made 6 (omega arith)))
    (lane_accounting clients _ _ _ _ c.accounting_text-8.ensures c.is_accounting-8.ensures (made 7 (omega arith)))
