use Rattle.std.proofs.Common.{◌≡◌, ◌∙◌, List, ℕ, ap, rules}
use Rattle.rad_packet.specs.Packets.{packet_octets}
use Rattle.rad_auth.specs.Datagrams.{Datagram}
use Rattle.rad_journal.proofs.OriginLemmas.{own_again}
use Rattle.rad_journal.proofs.restoring.admit_again.Goals as goal

pub returns-clause-own : goal.returns-clause-own
returns-clause-own c =
    let kept = c.args.kept.now in
    let datagram : List ℕ → Datagram =
    λ octets. record { source = kept.source; port = kept.port; door = kept.door; octets = octets } in
    let whole : packet_octets c.in_ok-request.request.packet ≡ c.octets-octets.result.now = search rules in
    own_again c.args.clients.now (datagram c.octets-octets.result.now) c.in_ok-request.request (search rules) whole
    ∙ ap datagram c.octets-octets.ensures
