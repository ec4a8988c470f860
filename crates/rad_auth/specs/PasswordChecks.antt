-- Passwords that are compared with what was sent, one in each lane. A lane without one is wrong.
use Rattle.std.specs.Prelude.{◌≡◌, ℕ, ◌==◌, ◌&&◌, nat_le, Bool, false, List, [], ◌++◌, length, slice_index_or, take, Option, Some}
use Rattle.std.specs.Prelude.{None, option_copied, unwrap_or, IfSome, IsTrue}
use Rattle.md5.specs.Md5.{md5}
use Rattle.rad_md5.specs.Lanes.{EachLane}
use Rattle.rad_packet.specs.Attributes.{value_max}
use Rattle.rad_auth.specs.Chap.{chap_right}
use Rattle.rad_auth.specs.Passwords.{password_max, password_right}
use Rattle.rad_auth.specs.declared.password_check.ChapResponse.{ChapResponse}
use Rattle.rad_auth.specs.declared.password_check.PasswordCheck.{PasswordCheck}
use Rattle.rad_auth.specs.declared.password_check.PasswordCheck.TheVariants.{UserPassword, ChapPassword}

-- the challenge of a response; without a CHAP-Challenge it is the Request Authenticator
abbrev pub challenge_of : ChapResponse → List ℕ
challenge_of response = unwrap_or (option_copied response.challenge) response.request_authenticator

-- whether a password is the one that was sent
abbrev pub is_right : PasswordCheck → Bool
is_right (UserPassword hidden) = password_right hidden.secret.now hidden.request_authenticator hidden.value.now hidden.password.now
is_right (ChapPassword response) = chap_right response.value.now response.password.now (challenge_of response)

abbrev pub is_right_in : Option PasswordCheck → Bool
is_right_in None = false
is_right_in (Some check) = is_right check

-- whether one digest in a lane is enough: for a value of one block, or for a response to a challenge as an attribute has it
abbrev pub fits_lane : PasswordCheck → Bool
fits_lane (UserPassword hidden) = length hidden.value.now == 16
fits_lane (ChapPassword response) =
    nat_le (length response.password.now) password_max && nat_le (length (challenge_of response)) value_max

abbrev pub uses_lane : Option PasswordCheck → Bool
uses_lane None = false
uses_lane (Some check) = fits_lane check

-- what the lane digests: what hides the block, or what the response is made of
abbrev pub digested : PasswordCheck → List ℕ
digested (UserPassword hidden) = hidden.secret.now ++ hidden.request_authenticator
digested (ChapPassword response) = take 1 response.value.now ++ (response.password.now ++ challenge_of response)

-- the digest of a lane, if one is enough
abbrev pub IsLaneDigest : List ℕ → PasswordCheck → Type 0
IsLaneDigest digest check = IsTrue (fits_lane check) → digest ≡ md5 (digested check)

abbrev pub AreLaneDigests : List (Option PasswordCheck) → List (List ℕ) → Type 0
AreLaneDigests checks digests = EachLane (λ j. (other : Option PasswordCheck)
    → IfSome (slice_index_or checks j other) (IsLaneDigest (slice_index_or digests j [])))
