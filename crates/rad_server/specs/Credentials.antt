-- What an Access-Request asks for access with (RFC 2865, section 4.1): a User-Name (section 5.1), a User-Password (section 5.2)
-- or a CHAP-Password (section 5.3), perhaps a CHAP-Challenge (section 5.40), and perhaps a State (section 5.24). That there must
-- be a name and a password, beside a State too, is our choice.
use Rattle.std.specs.Prelude.{ℕ, ◌==◌, nat_le, not, if◌then◌else◌, List, length, Option, Some, None, Result, Ok, Err}
use Rattle.rad_packet.specs.Attributes.{Attribute, has}
use Rattle.rad_packet.specs.Ladders.{◌>>=◌, refuse_if}
use Rattle.rad_packet.specs.Types.{type_chap_challenge, type_chap_password, type_eap_message, type_state, type_user_name}
use Rattle.rad_packet.specs.Types.{type_user_password}
use Rattle.rad_auth.specs.Chap.{chap_value_size}
use Rattle.rad_auth.specs.Passwords.{value_fits}
use Rattle.rad_server.specs.Occurrences.{Occurrence, Absent, Once, Repeated, occurrence}
use Rattle.rad_server.specs.declared.denial.Denial.{Denial}
use Rattle.rad_server.specs.declared.denial.Denial.TheVariants.{EapNotSupported, MalformedRequest}

-- a password as it was sent: hidden, or as the response to a CHAP-Challenge, if that was sent too
pub data SentPassword : Type 0 where
  UserPassword : List ℕ → SentPassword
  ChapPassword : List ℕ → Option (List ℕ) → SentPassword

pub record Credentials : Type 0 where
  pub name : List ℕ
  pub password : SentPassword
  pub state : Option (List ℕ)

-- the least octets of a CHAP-Challenge
abbrev pub chap_challenge_min : ℕ
chap_challenge_min = 5

-- one User-Name, which isn't empty
abbrev pub name_in : Occurrence → Result (List ℕ) Denial
name_in Absent = Err MalformedRequest
name_in (Once value) = if nat_le 1 (length value) then Ok value else Err MalformedRequest
name_in Repeated = Err MalformedRequest

-- at most one CHAP-Challenge, which isn't too short
abbrev pub chap_challenge_in : Occurrence → Result (Option (List ℕ)) Denial
chap_challenge_in Absent = Ok None
chap_challenge_in (Once value) = if nat_le chap_challenge_min (length value) then Ok (Some value) else Err MalformedRequest
chap_challenge_in Repeated = Err MalformedRequest

-- a User-Password
abbrev pub user_password_in : List ℕ → Result SentPassword Denial
user_password_in value = if value_fits value then Ok (UserPassword value) else Err MalformedRequest

-- a CHAP-Password beside its CHAP-Challenge
unfoldable pub chap_password_in : List ℕ → Occurrence → Result SentPassword Denial
chap_password_in value challenge = do
  fits ← refuse_if (not (length value == chap_value_size)) MalformedRequest
  against ← chap_challenge_in challenge
  Ok (ChapPassword value against)

-- one password, either way; beside a User-Password the CHAP-Challenge isn't looked at
abbrev pub password_in : Occurrence → Occurrence → Occurrence → Result SentPassword Denial
password_in (Once value) Absent challenge = user_password_in value
password_in Absent (Once value) challenge = chap_password_in value challenge
password_in hidden response challenge = Err MalformedRequest

-- at most one State
abbrev pub state_in : Occurrence → Result (Option (List ℕ)) Denial
state_in Absent = Ok None
state_in (Once value) = Ok (Some value)
state_in Repeated = Err MalformedRequest

-- the credentials among the attributes of an Access-Request, or why it is denied without a look at them
unfoldable pub credentials_in : List Attribute → Result Credentials Denial
credentials_in list = do
  supported ← refuse_if (has type_eap_message list) EapNotSupported
  name ← name_in (occurrence type_user_name list)
  password ← password_in (occurrence type_user_password list) (occurrence type_chap_password list)
      (occurrence type_chap_challenge list)
  state ← state_in (occurrence type_state list)
  Ok (record { name = name; password = password; state = state })
