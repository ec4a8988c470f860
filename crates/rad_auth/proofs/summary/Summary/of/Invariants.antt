use Rattle.std.proofs.Common.{◌≡◌, ◌+◌, ◌||◌}
use Rattle.std.specs.List.{AllByRecursion}
use Rattle.std.specs.Option.{option_or}
use Rattle.rad_packet.specs.Attributes.{IsAttribute, count, has, has_len, integer_size, of_kind, size}
use Rattle.rad_packet.specs.Types.{type_acct_status_type, type_eap_message, type_message_authenticator, type_proxy_state}
use Rattle.rad_auth.specs.Summaries.{octets_after_hmac}
use Rattle.rad_auth.proofs.summary.Summary.of.Given as goal

-- what is found in the attributes so far, with what those that are left say, is what all say
abbrev pub invariant-loop-attribute : goal.invariant-loop-attribute
invariant-loop-attribute l = record {
  message_authenticators : l.summary.message_authenticators + count type_message_authenticator l.rest
      ≡ count type_message_authenticator l.fn.attributes;
  octets_after_hmac : option_or l.summary.octets_after_hmac (octets_after_hmac l.rest) ≡ octets_after_hmac l.fn.attributes;
  has_eap_message : (l.summary.has_eap_message || has type_eap_message l.rest) ≡ has type_eap_message l.fn.attributes;
  has_status_type : (l.summary.has_status_type || has_len type_acct_status_type integer_size l.rest)
      ≡ has_len type_acct_status_type integer_size l.fn.attributes;
  proxy_states : l.summary.proxy_states + size (of_kind type_proxy_state l.rest) ≡ size (of_kind type_proxy_state l.fn.attributes);
  each : AllByRecursion IsAttribute l.rest;
}
