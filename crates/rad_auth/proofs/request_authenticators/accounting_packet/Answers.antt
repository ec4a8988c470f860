use Rattle.std.proofs.Common.{◌++◌, List, ℕ, ap, ◌∙◌}
use Rattle.md5.specs.Md5.{md5}
use Rattle.rad_packet.specs.Packets.{Packet, packet_octets}
use Rattle.rad_auth.specs.Authenticators.{sixteen_zeros}
use Rattle.rad_auth.proofs.AuthenticatorLemmas.{unsigned_parts}
use Rattle.rad_auth.proofs.request_authenticators.accounting_packet.Goals as goal

pub returns : goal.returns
returns c =
    let p : Packet = c.args.candidate.now.request.packet in
    let joined = unsigned_parts c.octets.result.now p c.octets.ensures.whole c.octets.ensures.packet.authenticator in
    ap md5 (c.accounting_pieces.ensures ∙ ap (λ (o : List ℕ). o ++ c.octets-2.result.now) joined
    ∙ ap (λ (s : List ℕ). packet_octets (record p { authenticator = sixteen_zeros }) ++ s)
    (c.octets-2.ensures.value ∙ c.secret.ensures))
