-- Eight lanes of replies on their way to their frames: the header, the HMAC and the digest of each.
use Rattle.std.specs.Prelude.{◌≡◌, ℕ, ◌+◌, ◌==◌, not, Bool, false, List, [], ◌∷◌, ◌++◌, replicate, slice_index_or, Option, Some}
use Rattle.std.specs.Prelude.{None, IfSome, IsTrue}
use Rattle.std.specs.Int.{w16, to_be_bytes}
use Rattle.md5.specs.Md5.{md5}
use Rattle.rad_md5.specs.Lanes.{EachLane}
use Rattle.rad_hmac.specs.Hmac.{hmac, mac_under}
use Rattle.rad_packet.specs.Attributes.{size}
use Rattle.rad_packet.specs.Bodies.{packet_of_body}
use Rattle.rad_packet.specs.Codes.{code_accounting_response}
use Rattle.rad_packet.specs.Packets.{Packet, header_size}
use Rattle.rad_auth.specs.declared.job.Job.{Job}
use Rattle.rad_auth.specs.Authenticators.{message_authenticator, response_authenticator, signed_body}

-- the header of a reply, with the Request Authenticator in the Authenticator's place
abbrev pub header_octets : Job → List ℕ
header_octets job =
    job.body.now.code ∷ job.id ∷ to_be_bytes w16 (header_size + size job.body.now.attributes) ++ job.request_authenticator

abbrev pub lane_header : Option Job → List ℕ
lane_header None = replicate header_size 0
lane_header (Some job) = header_octets job

-- the reply before it is sealed, with the Request Authenticator as its Authenticator
abbrev pub unsealed : Job → Packet
unsealed job = packet_of_body job.body.now job.id job.request_authenticator

-- whether a lane has a reply with a Message-Authenticator
abbrev pub has_hmac : Option Job → Bool
has_hmac None = false
has_hmac (Some job) = not (job.body.now.code == code_accounting_response)

-- the Message-Authenticator of a reply, if it has one
abbrev pub HasReplyHmac : List ℕ → Job → Type 0
HasReplyHmac mac job = IsTrue (has_hmac (Some job)) → mac ≡ message_authenticator (unsealed job) job.secret.now

-- the Response Authenticator of a reply
abbrev pub HasReplyDigest : List ℕ → Job → Type 0
HasReplyDigest digest job =
    digest ≡ response_authenticator (signed_body job.body.now job.id job.request_authenticator job.secret.now) job.id
    job.request_authenticator job.secret.now

-- the same of a lane
abbrev pub IsReplyHmac : Option Job → List ℕ → Type 0
IsReplyHmac lane mac = IfSome lane (HasReplyHmac mac)

abbrev pub IsReplyDigest : Option Job → List ℕ → Type 0
IsReplyDigest lane digest = IfSome lane (HasReplyDigest digest)

-- the same of eight lanes
abbrev pub AreReplyHmacs : List (Option Job) → List (List ℕ) → Type 0
AreReplyHmacs jobs macs = EachLane (λ j. IsReplyHmac (slice_index_or jobs j None) (slice_index_or macs j []))

abbrev pub AreReplyDigests : List (Option Job) → List (List ℕ) → Type 0
AreReplyDigests jobs digests = EachLane (λ j. IsReplyDigest (slice_index_or jobs j None) (slice_index_or digests j []))

-- a key whose HMACs are those under the secret of a reply
abbrev pub IsKeyOf : List ℕ → Job → Type 0
IsKeyOf key job = (text : List ℕ) → mac_under key text ≡ hmac job.secret.now text

-- a text whose HMAC is the reply's Message-Authenticator, if it has one
abbrev pub HasReplyHmacText : List ℕ → Job → Type 0
HasReplyHmacText text job =
    IsTrue (has_hmac (Some job)) → hmac job.secret.now text ≡ message_authenticator (unsealed job) job.secret.now

-- a text whose digest is the reply's Response Authenticator
abbrev pub HasDigestedText : List ℕ → Job → Type 0
HasDigestedText text job =
    md5 text ≡ response_authenticator (signed_body job.body.now job.id job.request_authenticator job.secret.now) job.id
    job.request_authenticator job.secret.now
