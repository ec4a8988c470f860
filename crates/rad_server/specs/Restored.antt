-- What a server remembers, put back row by row; or which rule of the law a row breaks. `rows_rebuild` says that the rules are the
-- law.
use Rattle.std.specs.Prelude.{◌≡◌, ℕ, ◌+◌, ◌-◌, ◌<◌, ◌≤◌, ◌==◌, ◌&&◌, ◌||◌, nat_le, not, Bool, true, false, is_some, if◌then◌else◌}
use Rattle.std.specs.Prelude.{List, [], ◌∷◌, ◌++◌, length, map, slice_index_or, All, AllPairs, Option, Some, None, Result, Ok}
use Rattle.std.specs.List.{list_any}
use lib.Pointwise.{pointwise}
use Rattle.rad_packet.specs.Attributes.{Attribute, first_value, is_of, size}
use Rattle.rad_packet.specs.Bodies.{Body}
use Rattle.rad_packet.specs.Codes.{code_access_accept, code_access_challenge, code_access_reject, code_accounting_response}
use Rattle.rad_packet.specs.Codes.{code_status_server}
use Rattle.rad_packet.specs.Ladders.{◌>>=◌, refuse_if}
use Rattle.rad_packet.specs.Packets.{header_size, length_max}
use Rattle.rad_packet.specs.Types.{type_class, type_framed_ip_address, type_message_authenticator}
use Rattle.rad_auth.specs.Authenticators.{sixteen_zeros}
use Rattle.rad_auth.specs.Clients.{client_place}
use Rattle.rad_config.specs.Configurations.{Configuration, is_reached}
use Rattle.rad_pool.specs.Grants.{last_number}
use Rattle.rad_pool.specs.Restored.{last_restorable, with_last}
use Rattle.rad_pool.specs.Restored as sessions
use Rattle.rad_pool.specs.Sessions.{Sessions}
use Rattle.rad_pool.specs.declared.session.Session.{Session}
use Rattle.rad_recent.specs.Challenges.{Challenges, last_challenge, waiting_with}
use Rattle.rad_recent.specs.Recent.{Replies, replies_for, with_reply}
use Rattle.rad_recent.specs.Restored.{challenge_restorable, last_challenge_restorable, reply_restorable, with_challenge_row}
use Rattle.rad_recent.specs.Restored.{with_last_challenge}
use Rattle.rad_recent.specs.declared.challenge.Challenge.{Challenge}
use Rattle.rad_recent.specs.declared.challenge.Party.TheVariants as parties
use Rattle.rad_recent.specs.declared.kept.Kept.{Kept}
use Rattle.rad_row_fault.specs.declared.row_fault.RowFault.{RowFault}
use Rattle.rad_row_fault.specs.declared.row_fault.RowFault.TheVariants as faults
use Rattle.rad_server.specs.Replies.{class_value, four_octets}
use Rattle.rad_server.specs.Shares.{challenges_limit, challenges_share, replies_share}
use Rattle.rad_server.specs.States.{State, at_moment, opening}
use Rattle.rad_server.specs.Users.{user_at}
use Rattle.rad_server.specs.declared.state_row.StateRow.{StateRow}
use Rattle.rad_server.specs.declared.state_row.StateRow.TheVariants as rows

-- ---- kept replies

-- whether the attributes begin with a Message-Authenticator of 16 octets, and have no second
abbrev pub begins_sealable : List Attribute → Bool
begins_sealable [] = false
begins_sealable (a ∷ list) =
    is_of type_message_authenticator a && (length a.value == 16) && not (is_some (first_value type_message_authenticator list))

-- whether a body of this Code with these attributes is an Accounting-Response, or a reply to an Access-Request
abbrev pub is_reply_of : ℕ → List Attribute → Bool
is_reply_of code list =
    if code == code_accounting_response then not (is_some (first_value type_message_authenticator list))
    else ((code == code_access_accept) || (code == code_access_reject) || (code == code_access_challenge)) && begins_sealable list

-- whether a body can be sealed
abbrev pub can_be_sealed : Body → Bool
can_be_sealed body = nat_le (size body.attributes) (length_max - header_size) && is_reply_of body.code body.attributes

-- whether there is a Value, and it is this one
abbrev pub is_value : List ℕ → Option (List ℕ) → Bool
is_value value None = false
is_value value (Some own) = pointwise ◌==◌ value own

-- whether there is an address, and a Value is it
abbrev pub is_address_in : Option (List ℕ) → Option ℕ → Bool
is_address_in value None = false
is_address_in value (Some address) = is_value (four_octets address) value

-- whether a session has the address that a reply gives, the reply has the session's Class, and both were made at one moment
abbrev pub is_its_session : Kept → Session → Bool
is_its_session reply session =
    is_value (class_value session.number) (first_value type_class reply.body.attributes)
    && is_address_in (first_value type_framed_ip_address reply.body.attributes) session.address
    && (session.made == reply.made)

-- numbers of 64 bits that rise along the sessions, so no two sessions have the same
pub record HaveNumbers (table : Sessions) : Type 0 where
  pub rising : AllPairs (λ (earlier later : Session). earlier.number < later.number) table.sessions
  pub within : All (λ session. session.number ≤ last_number) table.sessions

-- whether a reply is an Access-Accept that gives an address, and there is no such session
abbrev pub lacks_session : Sessions → Kept → Bool
lacks_session table reply =
    (reply.body.code == code_access_accept) && is_some (first_value type_framed_ip_address reply.body.attributes)
    && not (list_any (is_its_session reply) table.sessions)

-- whether both places are there and the same, or neither is there
abbrev pub is_same_place : Option ℕ → Option ℕ → Bool
is_same_place None None = true
is_same_place None (Some other) = false
is_same_place (Some place) None = false
is_same_place (Some place) (Some other) = place == other

-- whether the client whose share a reply takes, if there is one, has used it up
abbrev pub has_used_share : Configuration → Replies → Option ℕ → Bool
has_used_share configuration replies None = false
has_used_share configuration replies (Some client) = is_reached (replies_share configuration client) (replies_for client replies)

-- the rules of a kept reply beside those of its table: the first that it breaks, if it breaks one
unfoldable pub reply_rules : Configuration → Sessions → Replies → Kept → Result (Unit {0}) RowFault
reply_rules configuration table replies reply = do
  sealable ← refuse_if (not (can_be_sealed reply.body)) faults.Body
  request ← refuse_if (slice_index_or reply.octets 0 0 == code_status_server) faults.Request
  owned ← refuse_if (not (is_same_place reply.client (client_place configuration.clients reply.key.source))) faults.Owner
  shared ← refuse_if (has_used_share configuration replies reply.client) faults.Share
  refuse_if (lacks_session table reply) faults.Session

-- ---- challenges

-- whether the client or the user of a challenge has as many as it may have
abbrev pub has_used_challenges : Configuration → Challenges → Challenge → Bool
has_used_challenges configuration challenges row =
    is_reached (challenges_share configuration row.client) (waiting_with (parties.Client row.client) challenges)
    || is_reached (challenges_limit configuration row.user) (waiting_with (parties.User row.user) challenges)

-- the rules of a challenge beside those of its table: the first that it breaks, if it breaks one
unfoldable pub challenge_rules : Configuration → Challenges → Challenge → Result (Unit {0}) RowFault
challenge_rules configuration challenges row = do
  client ← refuse_if (nat_le (length configuration.clients) row.client) faults.Client
  user ← refuse_if (nat_le (length configuration.users) row.user) faults.User
  answer ← refuse_if (not (is_some (user_at configuration row.user).answer)) faults.Answer
  refuse_if (has_used_challenges configuration challenges row) faults.Share

-- ---- one row

-- Whether a row can be put back into a state, or the first rule that it breaks. A table's own rules come last.
unfoldable pub restorable : Configuration → StateRow → State → Result (Unit {0}) RowFault
restorable configuration (rows.Session row) state = sessions.restorable configuration state.clock row state.sessions
restorable configuration (rows.LastSession last) state = last_restorable last state.sessions
restorable configuration (rows.Reply reply) state =
    reply_rules configuration state.sessions state.replies reply >>= λ joins. reply_restorable state.clock reply state.replies
restorable configuration (rows.Challenge row) state =
    challenge_rules configuration state.challenges row >>= λ joins. challenge_restorable state.clock row state.challenges
restorable configuration (rows.LastChallenge last) state = last_challenge_restorable last state.challenges

-- the state with a row more
abbrev pub with_row : StateRow → State → State
with_row (rows.Session row) state = record state { sessions = sessions.with_row row state.sessions }
with_row (rows.LastSession last) state = record state { sessions = with_last last state.sessions }
with_row (rows.Reply reply) state = record state { replies = with_reply reply state.replies }
with_row (rows.Challenge row) state = record state { challenges = with_challenge_row row state.challenges }
with_row (rows.LastChallenge last) state = record state { challenges = with_last_challenge last state.challenges }

-- what each row has by its type: numbers of 64 bits, and draws of 16 octets
abbrev pub IsRow : StateRow → Type 0
IsRow (rows.Session row) = row.number ≤ last_number
IsRow (rows.LastSession last) = last ≤ last_number
IsRow (rows.Reply reply) = Unit {0}
IsRow (rows.Challenge row) = (row.number ≤ last_challenge) × (length row.draw ≡ length sixteen_zeros)
IsRow (rows.LastChallenge last) = last ≤ last_challenge

-- the number of a row, if it has one, is above those that were given; none was given that is above a last number
abbrev pub IsNew : StateRow → State → Type 0
IsNew (rows.Session row) state = state.sessions.next ≤ row.number
IsNew (rows.LastSession last) state = state.sessions.next ≤ last + 1
IsNew (rows.Reply reply) state = Unit {0}
IsNew (rows.Challenge row) state = state.challenges.next ≤ row.number
IsNew (rows.LastChallenge last) state = state.challenges.next ≤ last + 1

-- ---- a state

-- the state after rows that are put back in their order, or the first refusal
unfoldable pub restored : Configuration → List StateRow → State → Result State RowFault
restored configuration [] state = Ok state
restored configuration (row ∷ rest) state = do
  fits ← restorable configuration row state
  restored configuration rest (with_row row state)

-- the rows of a state in the order in which they are put back: a reply comes after its session, and a last number after the rows
abbrev pub rows_of : State → List StateRow
rows_of state =
    map rows.Session state.sessions.sessions ++ rows.LastSession (state.sessions.next - 1)
    ∷ (map rows.Reply state.replies.kept
    ++ (map rows.Challenge state.challenges.challenges ++ rows.LastChallenge (state.challenges.next - 1) ∷ []))

-- the state before the first request, its clock at a state's, with the rows of that state
abbrev pub rebuilt : Configuration → State → Result State RowFault
rebuilt configuration state = restored configuration (rows_of state) (at_moment state.clock (opening configuration))
