-- Eight lanes that open the blocks of a User-Password's value side by side (RFC 2865, section 5.2).
use Rattle.std.specs.Prelude.{◌≡◌, ℕ, Bool, ◌*◌, ◌<◌, List, [], ◌++◌, length, slice_index_or, take, drop}
use Rattle.md5.specs.Md5.{md5}
use Rattle.rad_md5.specs.Lanes.{EachLane}
use Rattle.rad_auth.specs.Passwords.{IsRevealed, password_right}

-- what precedes block j of a value, counted from 0: the Request Authenticator, which has 16 octets, or a block
abbrev pub block_before : List ℕ → List ℕ → ℕ → List ℕ
block_before request_authenticator value j = take 16 (drop (j * 16) (request_authenticator ++ value))

-- the digest that hides block j of a value
abbrev pub block_digest : List ℕ → List ℕ → List ℕ → ℕ → List ℕ
block_digest secret request_authenticator value j = md5 (secret ++ block_before request_authenticator value j)

-- each lane has the digest that hides its block, if the value has that block
abbrev pub AreBlockDigests : List ℕ → List ℕ → List ℕ → List (List ℕ) → Type 0
AreBlockDigests secret request_authenticator value digests =
    EachLane (λ j. j * 16 < length value → slice_index_or digests j [] ≡ block_digest secret request_authenticator value j)

-- wherever the lanes' digests hide the blocks of a value, this is the text that is hidden as it
abbrev pub Reveals : List (List ℕ) → List ℕ → List ℕ → Type 0
Reveals digests value text = (secret request_authenticator : List ℕ) → length request_authenticator ≡ 16
    → AreBlockDigests secret request_authenticator value digests → IsRevealed secret request_authenticator value text

-- wherever they do, this is whether a password is right
abbrev pub Judges : List (List ℕ) → List ℕ → List ℕ → Bool → Type 0
Judges digests value password is_right = (secret request_authenticator : List ℕ) → length request_authenticator ≡ 16
    → AreBlockDigests secret request_authenticator value digests
    → is_right ≡ password_right secret request_authenticator value password

-- the same of a value of one block, and the digest that hides it
abbrev pub JudgesBlock : List ℕ → List ℕ → List ℕ → Bool → Type 0
JudgesBlock digest value password is_right = (secret request_authenticator : List ℕ) → length request_authenticator ≡ 16
    → digest ≡ md5 (secret ++ request_authenticator) → is_right ≡ password_right secret request_authenticator value password
