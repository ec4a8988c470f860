-- Replies that are the same whatever the server remembers. No other crate cites these.
use Rattle.rad_packet.specs.Bodies.{Body}
use Rattle.rad_packet.specs.Packets.{Packet}
use Rattle.rad_server.specs.Replies.{access_reject, accounting_response, status_reply}
use Rattle.rad_server.specs.declared.fixed_reply.FixedReply.{FixedReply}
use Rattle.rad_server.specs.declared.fixed_reply.FixedReply.TheVariants.{Status, Denied, Accounting}

-- the body of a fixed reply to a packet
abbrev pub fixed_body : Packet → FixedReply → Body
fixed_body packet (Status door) = status_reply door packet
fixed_body packet (Denied denial) = access_reject denial packet
fixed_body packet Accounting = accounting_response packet
