use Rattle.std.proofs.Common.{◌≡◌, Some, length, ap, sym, ◌∙◌, refl, arith}
use Rattle.rad_packet.specs.Packets.{Packet, packet_octets}
use Rattle.rad_hmac.specs.Hmac.{hmac}
use Rattle.rad_auth.specs.Summaries.{octets_after_hmac, with_hmac}
use Rattle.rad_auth.specs.Authenticators.{sixteen_zeros}
use Rattle.rad_auth.proofs.AuthenticatorLemmas.{packet_made, packet_hmac, hmac_within, with_hmac-made}
use Rattle.rad_auth.proofs.request_authenticators.hmac_packet.Goals as goal

pub hmac_pieces-requires-clause-place : goal.hmac_pieces-requires-clause-place
hmac_pieces-requires-clause-place c =
    let p : Packet = c.args.candidate.now.request.packet in
    let is : octets_after_hmac p.attributes ≡ Some c.in-Some.after =
    sym c.args.candidate.now.is_summary.octets_after_hmac ∙ c.in-Some.is in
    omega (
      arith,
      hmac_within (packet_octets p) (packet_made p) c.in-Some.after (packet_hmac p c.in-Some.after is),
      ap length c.octets.ensures.whole,
    )

pub returns-in-Some-clause-text : goal.returns-in-Some-clause-text
returns-in-Some-clause-text c =
    let p : Packet = c.args.candidate.now.request.packet in
    let is : octets_after_hmac p.attributes ≡ Some c.in-Some.after =
    sym c.args.candidate.now.is_summary.octets_after_hmac ∙ c.in-Some.is in
    let made = with_hmac-made (packet_octets p) (packet_made p) c.in-Some.after sixteen_zeros (packet_hmac p c.in-Some.after is)
    refl in
    rw (c.in-Some.is) (λ secret. ap (hmac secret)
    (c.hmac_pieces.ensures.message ∙ ap (with_hmac c.in-Some.after sixteen_zeros) c.octets.ensures.whole ∙ made))
