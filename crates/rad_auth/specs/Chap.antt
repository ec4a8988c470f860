-- CHAP passwords (RFC 2865, sections 2.2 and 5.3; RFC 1994, section 4.1). A CHAP-Password's value is a CHAP identifier,
-- which is one octet, and the response to a challenge, which has 16.
use Rattle.std.specs.Prelude.{ℕ, ◌==◌, Bool, false, List, [], ◌∷◌, ◌++◌}
use lib.Pointwise.{pointwise}
use Rattle.md5.specs.Md5.{md5}

-- the octets of a CHAP-Password's value
abbrev pub chap_value_size : ℕ
chap_value_size = 17

-- the response to a challenge: the digest of the identifier, the password and the challenge
abbrev pub chap_response : ℕ → List ℕ → List ℕ → List ℕ
chap_response identifier password challenge = md5 (identifier ∷ password ++ challenge)

-- whether a CHAP-Password's value has the response that a password gives to a challenge
abbrev pub chap_right : List ℕ → List ℕ → List ℕ → Bool
chap_right [] password challenge = false
chap_right (identifier ∷ response) password challenge = pointwise ◌==◌ (chap_response identifier password challenge) response
