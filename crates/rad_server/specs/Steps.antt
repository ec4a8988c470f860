-- The step of the server: from a configuration, a state and an admitted request, with its moment in milliseconds and its draw
-- of 16 octets, to the answer and the next state. A repeated request gets the reply that is kept (RFC 2865, section 3; RFC 5080,
-- section 2.2.2); that Accounting-Requests are treated alike is our choice.
use Rattle.std.specs.Prelude.{ℕ, ◌==◌, ◌||◌, not, if◌then◌else◌, is_some, Bool, List, Option, Some, None}
use Rattle.rad_packet.specs.Bodies.{Body}
use Rattle.rad_packet.specs.Codes.{code_status_server}
use Rattle.rad_packet.specs.Packets.{packet_octets}
use Rattle.rad_auth.specs.Sealing.{IsReply}
use Rattle.rad_auth.specs.declared.arrival.Door.{Door}
use Rattle.rad_auth.specs.declared.arrival.Door.TheVariants.{Auth, Acct}
use Rattle.rad_auth.specs.declared.arrival.Request.{Request}
use Rattle.rad_config.specs.Configurations.{Configuration}
use Rattle.rad_pool.specs.Sessions.{Sessions}
use Rattle.rad_recent.specs.Recent.{reply_to, without_key}
use Rattle.rad_recent.specs.Recent as replies
use Rattle.rad_recent.specs.declared.kept.Kept.{Kept}
use Rattle.rad_recent.specs.declared.key.Key.{Key}
use Rattle.rad_server.specs.Access.{access}
use Rattle.rad_server.specs.Accounting.{account, session_reported}
use Rattle.rad_server.specs.Replies.{status_reply}
use Rattle.rad_server.specs.Shares.{lacks_room}
use Rattle.rad_server.specs.States.{State, at_moment}
use Rattle.rad_server.specs.declared.answer.Answer.{Answer}
use Rattle.rad_server.specs.declared.answer.Answer.TheVariants.{Send, Busy}

-- ---- repeated requests

-- what a request is recognised by, besides its octets
abbrev pub key_of : Request → Key
key_of request = record {
  source = request.source;
  port = request.port;
  door = request.door;
  id = request.packet.identifier;
}

-- the kept reply to a request, if it is a repeat: if it has the key and the octets up to Length of one whose reply is kept
abbrev pub reply_kept : Request → State → Option Kept
reply_kept request state = reply_to (key_of request) (packet_octets request.packet) state.replies

-- the state without a reply to a request with the same key
abbrev pub without_reply : Request → State → State
without_reply request state = record state { replies = without_key (key_of request) state.replies }

-- the state in which a reply is kept for repeats of its request, after the others
abbrev pub with_reply : Request → Body → State → State
with_reply request body state = record state {
  replies = replies.with_reply (record {
    client = Some request.client;
    key = key_of request;
    octets = packet_octets request.packet;
    body = body;
    made = state.clock;
  }) state.replies;
}

-- ---- the step

-- the reply to a request by the rule of the port that it came to, and the state after it
abbrev pub reply_by_port : Door → Configuration → State → Request → List ℕ → Body × State
reply_by_port Auth configuration state request draw = access configuration state request draw
reply_by_port Acct configuration state request draw = account configuration state request

-- a reply that is sent, and kept for repeats
abbrev pub sent_and_kept : Request → Body × State → Answer × State
sent_and_kept request (body, state) = (Send body, with_reply request body state)

-- the answer to a request that is no repeat, and the state after it; without room to keep a reply to its client it is `Busy`
abbrev pub new_answer : Configuration → State → Request → List ℕ → Answer × State
new_answer configuration state request draw =
    if lacks_room configuration request.client state.replies then (Busy, state)
    else sent_and_kept request (reply_by_port request.door configuration state request draw)

-- the answer to a request, given the kept reply if it is a repeat, and the state after it
abbrev pub answer_with : Configuration → State → Request → List ℕ → Option Kept → Answer × State
answer_with configuration state request draw (Some reply) = (Send reply.body, state)
answer_with configuration state request draw None = new_answer configuration (without_reply request state) request draw

-- The answer to a request in the current state, and the state after it. A Status-Server is neither looked up nor kept, which
-- is our choice.
abbrev pub answer : Configuration → State → Request → List ℕ → Answer × State
answer configuration current request draw =
    if request.packet.code == code_status_server then (Send (status_reply request.door request.packet), current)
    else answer_with configuration current request draw (reply_kept request current)

-- the answer to a request at a moment, and the state after it
abbrev pub step : Configuration → State → Request → ℕ → List ℕ → Answer × State
step configuration state request moment draw = answer configuration (at_moment moment state) request draw

-- Whether a request in the current state is fresh: it gets a new reply, which is kept. Status-Servers and repeats aren't, nor is
-- what gets no reply for want of room.
abbrev pub is_fresh : Configuration → State → Request → Bool
is_fresh configuration current request = not ((request.packet.code == code_status_server)
    || (is_some (reply_kept request current)
    || lacks_room configuration request.client (without_reply request current).replies))

-- the number of the session that a request to a port names, if it names one
abbrev pub session_by_port : Door → Configuration → Request → Sessions → Option ℕ
session_by_port Auth configuration request table = None
session_by_port Acct configuration request table = session_reported configuration request table

-- The number of the session that a request in the current state names, if it names one. What isn't fresh names none.
abbrev pub session_at : Configuration → State → Request → Option ℕ
session_at configuration current request =
    if is_fresh configuration current request then session_by_port request.door configuration request current.sessions else None

-- an answer that is sent says what a reply may say
abbrev pub IsSealable : Answer → Type 0
IsSealable (Send body) = IsReply body
IsSealable Busy = Unit {0}
