-- HMAC with MD5 as H (RFC 2104, section 2), whose blocks have 64 octets. An octet is a number below 256; keys, pads,
-- texts and HMACs are lists of octets, in the order in which they are sent.
use Rattle.std.specs.Prelude.{ℕ, ◌-◌, nat_lt, if◌then◌else◌, List, ◌++◌, length, replicate, bit_xor}
use Rattle.std.specs.Borrow.{Bor}
use Rattle.std.specs.Simd.Lanes.{zip2}
use Rattle.md5.specs.Md5.{md5}
use Rattle.rad_md5.specs.Pieces.{message, message_limit}

-- the octet 0x36, 64 times
abbrev pub ipad : List ℕ
ipad = replicate 64 0x36

-- the octet 0x5C, 64 times
abbrev pub opad : List ℕ
opad = replicate 64 0x5C

-- the exclusive or of two lists of the same length, octet by octet
abbrev pub xor : List ℕ → List ℕ → List ℕ
xor a b = zip2 bit_xor a b

-- the key, or its digest where it has more than 64 octets
abbrev pub actual_key : List ℕ → List ℕ
actual_key key = if nat_lt 64 (length key) then md5 key else key

-- the key with zeros appended to 64 octets
unfoldable pub padded_key : List ℕ → List ℕ
padded_key key = actual_key key ++ replicate (64 - length (actual_key key)) 0

-- H(K XOR opad, H(K XOR ipad, text)), where K has 64 octets
unfoldable pub mac_under : List ℕ → List ℕ → List ℕ
mac_under key text = md5 (xor key opad ++ md5 (xor key ipad ++ text))

-- HMAC of a text under a key
abbrev pub hmac : List ℕ → List ℕ → List ℕ
hmac key text = mac_under (padded_key key) text

-- a text has fewer octets than this: a pad of 64 octets comes before it, and the two are one message
abbrev pub text_limit : ℕ
text_limit = message_limit - 64

-- a key of 64 octets, and a message in pieces
abbrev pub Keyed : Type 0
Keyed = Bor (List ℕ) × List (List ℕ)

-- the message: its pieces one after the other
abbrev pub keyed_message : Keyed → List ℕ
keyed_message keyed = message keyed.1

-- its HMAC under its key
abbrev pub mac_of : Keyed → List ℕ
mac_of keyed = mac_under keyed.0.now (keyed_message keyed)
