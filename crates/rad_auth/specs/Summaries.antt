-- What one walk over a packet's attributes finds for the checks.
use Rattle.std.specs.Prelude.{◌≡◌, ℕ, ◌+◌, ◌-◌, ◌||◌, if◌then◌else◌, List, [], ◌∷◌, ◌++◌, length, take, drop, Option, Some, None}
use Rattle.rad_hmac.specs.Hmac.{hmac}
use Rattle.rad_packet.specs.Attributes.{Attribute, count, has, has_len, integer_size, is_of, is_of_len, of_kind, size}
use Rattle.rad_packet.specs.Types.{type_acct_status_type, type_eap_message, type_message_authenticator, type_proxy_state}
use Rattle.rad_auth.specs.declared.summary.Summary.{Summary}
use Rattle.rad_auth.specs.Authenticators.{can_hold_hmac, sixteen_zeros}

-- how many octets follow the first attribute that can hold an HMAC, if there is one
abbrev pub octets_after_hmac : List Attribute → Option ℕ
octets_after_hmac [] = None
octets_after_hmac (a ∷ list) = if can_hold_hmac a then Some (size list) else octets_after_hmac list

-- octets with a Value in place of the 16 octets before the last so many
abbrev pub with_hmac : ℕ → List ℕ → List ℕ → List ℕ
with_hmac after value octets = take (length octets - (after + 16)) octets ++ value ++ drop (length octets - after) octets

-- the HMAC under a secret of octets with zeros in place of the 16 before the last so many
abbrev pub hmac_before : ℕ → List ℕ → List ℕ → List ℕ
hmac_before after secret octets = hmac secret (with_hmac after sixteen_zeros octets)

-- what the summary of a packet's attributes says of them
pub record IsSummary (list : List Attribute) (summary : Summary) : Type 0 where
  pub message_authenticators : summary.message_authenticators ≡ count type_message_authenticator list
  pub octets_after_hmac : summary.octets_after_hmac ≡ octets_after_hmac list
  pub has_eap_message : summary.has_eap_message ≡ has type_eap_message list
  pub has_status_type : summary.has_status_type ≡ has_len type_acct_status_type integer_size list
  pub proxy_states : summary.proxy_states ≡ size (of_kind type_proxy_state list)

-- how many octets follow the first attribute that can hold an HMAC, after one more attribute, which so many octets follow
abbrev pub first_after : Attribute → ℕ → Option ℕ → Option ℕ
first_after a after (Some n) = Some n
first_after a after None = if can_hold_hmac a then Some after else None

-- the new summary says what the old one does and one more attribute, which so many octets follow
pub record IsNextSummary (a : Attribute) (after : ℕ) (old new : Summary) : Type 0 where
  pub message_authenticators : new.message_authenticators
      ≡ old.message_authenticators + (if is_of type_message_authenticator a then 1 else 0)
  pub octets_after_hmac : new.octets_after_hmac ≡ first_after a after old.octets_after_hmac
  pub has_eap_message : new.has_eap_message ≡ (old.has_eap_message || is_of type_eap_message a)
  pub has_status_type : new.has_status_type ≡ (old.has_status_type || is_of_len type_acct_status_type integer_size a)
  pub proxy_states : new.proxy_states ≡ old.proxy_states + (if is_of type_proxy_state a then length a.value + 2 else 0)
