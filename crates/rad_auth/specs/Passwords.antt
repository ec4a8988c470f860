-- Hidden passwords (RFC 2865, section 5.2). Octets are numbers below 256, and passwords, secrets and Authenticators are
-- lists of them. A value is the String of a User-Password: the hidden password. It is made in blocks of 16 octets.
use Rattle.std.specs.Prelude.{◌≡◌, ℕ, zero, suc, ◌+◌, ◌-◌, ◌*◌, ◌/◌, ◌%◌, ◌==◌, ◌&&◌, nat_le, max, Bool, List, [], ◌∷◌, ◌++◌}
use Rattle.std.specs.Prelude.{length, take, drop, replicate}
use Rattle.std.specs.List.{concat}
use lib.Pointwise.{pointwise}
use Rattle.md5.specs.Md5.{md5}
use Rattle.rad_hmac.specs.Hmac.{xor}

-- the most octets of a password, and of its value
abbrev pub password_max : ℕ
password_max = 128

-- The blocks of a text, hidden one after the other: each block's exclusive or with the digest of the secret and what
-- precedes it. That is the hidden block before it; the Request Authenticator precedes the first.
abbrev pub hidden_blocks : List ℕ → List ℕ → List (List ℕ) → List (List ℕ)
hidden_blocks secret before [] = []
hidden_blocks secret before (block ∷ blocks) =
    let hidden = xor block (md5 (secret ++ before)) in
    hidden ∷ hidden_blocks secret hidden blocks

-- how many blocks this many octets make
abbrev pub block_count : ℕ → ℕ
block_count len = (len + 15) / 16

-- the first n blocks of octets
abbrev pub first_blocks : ℕ → List ℕ → List (List ℕ)
first_blocks zero octets = []
first_blocks (suc n) octets = take 16 octets ∷ first_blocks n (drop 16 octets)

-- a text, hidden
abbrev pub hidden_text : List ℕ → List ℕ → List ℕ → List ℕ
hidden_text secret request_authenticator text =
    concat (hidden_blocks secret request_authenticator (first_blocks (block_count (length text)) text))

-- a password padded with zeros to a length
abbrev pub padded_password : ℕ → List ℕ → List ℕ
padded_password len password = password ++ replicate (len - length password) 0

-- the length of the value of a password of this length: whole blocks, and at least one
abbrev pub value_length : ℕ → ℕ
value_length len = 16 * max 1 (block_count len)

-- the value of a password
abbrev pub hidden_password : List ℕ → List ℕ → List ℕ → List ℕ
hidden_password secret request_authenticator password =
    hidden_text secret request_authenticator (padded_password (value_length (length password)) password)

-- whether octets can be a User-Password's value: their number is a multiple of 16, from 16 to 128
abbrev pub value_fits : List ℕ → Bool
value_fits value = (length value % 16 == 0) && (nat_le 16 (length value) && nat_le (length value) password_max)

-- whether a password is right for a value: it is at most as long, and padded with zeros to the value's length it is
-- hidden as that value
abbrev pub password_right : List ℕ → List ℕ → List ℕ → List ℕ → Bool
password_right secret request_authenticator value password =
    nat_le (length password) (length value)
    && pointwise ◌==◌ (hidden_text secret request_authenticator (padded_password (length value) password)) value

-- the one text of a value's length that is hidden as the value
pub record IsRevealed (secret request_authenticator value text : List ℕ) : Type 0 where
  pub same_length : length text ≡ length value
  pub hides : hidden_text secret request_authenticator text ≡ value
  pub only : (other : List ℕ) → length other ≡ length value → hidden_text secret request_authenticator other ≡ value → other ≡ text
