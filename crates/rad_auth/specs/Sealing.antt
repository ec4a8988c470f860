-- The octets of a reply (RFC 2865, section 3; RFC 3579, section 3.2) and of a request (RFC 2866, section 3) under a secret.
use Rattle.std.specs.Prelude.{◌≡◌, ◌≢◌, ◌⊎◌, ℕ, ◌==◌, if◌then◌else◌, List, [], ◌∷◌, Option, Some, None, IfSome, All, length}
use Rattle.std.specs.Simd.Lanes.{zip2}
use Rattle.rad_packet.specs.Attributes.{Attribute, count}
use Rattle.rad_packet.specs.Bodies.{Body, FitsPacket, packet_of_body}
use Rattle.rad_packet.specs.Codes.{code_access_accept, code_access_challenge, code_access_reject, code_access_request}
use Rattle.rad_packet.specs.Codes.{code_accounting_request, code_accounting_response, code_status_server}
use Rattle.rad_packet.specs.Packets.{packet_octets}
use Rattle.rad_packet.specs.Types.{type_message_authenticator}
use Rattle.rad_auth.specs.declared.job.Job.{Job}
use Rattle.rad_auth.specs.Authenticators.{accounting_authenticator, response_authenticator, signed_body}

-- the first attribute, if there is one, is no Message-Authenticator
abbrev pub BeginsOtherwise : List Attribute → Type 0
BeginsOtherwise [] = Unit {0}
BeginsOtherwise (a ∷ list) = a.kind ≢ type_message_authenticator

-- the first attribute is a Message-Authenticator of 16 octets
abbrev pub BeginsWithMessageAuthenticator : List Attribute → Type 0
BeginsWithMessageAuthenticator [] = ⊥
BeginsWithMessageAuthenticator (a ∷ list) = (a.kind ≡ type_message_authenticator) × (length a.value ≡ 16)

-- an Accounting-Response with no Message-Authenticator
pub record IsAccountingResponse (body : Body) : Type 0 where
  pub code : body.code ≡ code_accounting_response
  pub none : count type_message_authenticator body.attributes ≡ 0

-- an Access-Accept, Access-Reject or Access-Challenge that begins with a Message-Authenticator and has no second
pub record IsAccessReply (body : Body) : Type 0 where
  pub code : (body.code ≡ code_access_accept) ⊎ ((body.code ≡ code_access_reject) ⊎ (body.code ≡ code_access_challenge))
  pub first : BeginsWithMessageAuthenticator body.attributes
  pub only : count type_message_authenticator body.attributes ≡ 1

-- a body that can be sealed
pub record IsReply (body : Body) : Type 0 where
  pub fits : FitsPacket body
  pub kind : IsAccountingResponse body ⊎ IsAccessReply body

-- a job that can be done
pub record IsJob (job : Job) : Type 0 where
  pub reply : IsReply job.body.now

-- The reply's octets: its Message-Authenticator, if it has one, is computed with the Request Authenticator in the
-- Authenticator's place, and then the Response Authenticator is made.
abbrev pub reply_octets : Body → ℕ → List ℕ → List ℕ → List ℕ
reply_octets body identifier request_authenticator secret =
    let signed = signed_body body identifier request_authenticator secret in
    packet_octets (packet_of_body signed identifier (response_authenticator signed identifier request_authenticator secret))

-- an Access-Request, an Accounting-Request or a Status-Server
abbrev pub IsRequestCode : ℕ → Type 0
IsRequestCode code = (code ≡ code_access_request) ⊎ ((code ≡ code_accounting_request) ⊎ (code ≡ code_status_server))

-- The octets of a request. An Accounting-Request gets its Authenticator; another has the one that is given, and its HMAC
-- if one of its attributes holds one.
abbrev pub request_octets : Body → ℕ → List ℕ → List ℕ → List ℕ
request_octets body identifier authenticator secret =
    if body.code == code_accounting_request
    then packet_octets (packet_of_body body identifier
    (accounting_authenticator (packet_of_body body identifier authenticator) secret))
    else packet_octets (packet_of_body (signed_body body identifier authenticator secret) identifier authenticator)

-- each job can be done
abbrev pub AreJobs : List (Option Job) → Type 0
AreJobs jobs = All (λ job. IfSome job IsJob) jobs

abbrev pub job_octets : Job → List ℕ
job_octets job = reply_octets job.body.now job.id job.request_authenticator job.secret.now

-- what a frame has after its lane: the job's reply, or what it had
abbrev pub lane_octets : Option Job → List ℕ → List ℕ
lane_octets None frame = frame
lane_octets (Some job) frame = job_octets job

-- each job's reply in the frame of its lane, and the other frames as they were
abbrev pub sealed : List (Option Job) → List (List ℕ) → List (List ℕ)
sealed jobs frames = zip2 lane_octets jobs frames
