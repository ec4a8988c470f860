-- What is kept of a secret.
use Rattle.std.specs.Prelude.{◌≡◌, ℕ, ◌≤◌, List, length, take}
use Rattle.rad_hmac.specs.Hmac.{hmac, mac_under}
use Rattle.rad_auth.specs.Clients.{secret_max}

-- the secret is in the first octets, as many as are counted, and the key is made of it
pub record KeepsSecret (octets : List ℕ) (len : ℕ) (key : List ℕ) : Type 0 where
  pub room : length octets ≡ secret_max
  pub some : 1 ≤ len
  pub within : len ≤ secret_max
  pub macs : (text : List ℕ) → mac_under key text ≡ hmac (take len octets) text
