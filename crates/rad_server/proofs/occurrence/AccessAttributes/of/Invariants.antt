use Rattle.std.proofs.Common.{◌≡◌, ◌||◌}
use Rattle.rad_packet.specs.Attributes.{has}
use Rattle.rad_packet.specs.Types.{type_chap_challenge, type_chap_password, type_eap_message, type_state, type_user_name}
use Rattle.rad_packet.specs.Types.{type_user_password}
use Rattle.rad_server.specs.Occurrences.{occurrence}
use Rattle.rad_server.specs.SentCredentials.{occurrence_of}
use Rattle.rad_server.proofs.OccurrenceLemmas.{together}
use Rattle.rad_server.proofs.occurrence.AccessAttributes.of.Given as goal

-- what is found in the attributes so far, with what those that are left say, is what all say
abbrev pub invariant-loop-attribute : goal.invariant-loop-attribute
invariant-loop-attribute l = record {
  has_eap_message : (l.found.has_eap_message || has type_eap_message l.rest) ≡ has type_eap_message l.fn.attributes;
  user_name : together (occurrence_of l.found.user_name) (occurrence type_user_name l.rest)
      ≡ occurrence type_user_name l.fn.attributes;
  user_password : together (occurrence_of l.found.user_password) (occurrence type_user_password l.rest)
      ≡ occurrence type_user_password l.fn.attributes;
  chap_password : together (occurrence_of l.found.chap_password) (occurrence type_chap_password l.rest)
      ≡ occurrence type_chap_password l.fn.attributes;
  chap_challenge : together (occurrence_of l.found.chap_challenge) (occurrence type_chap_challenge l.rest)
      ≡ occurrence type_chap_challenge l.fn.attributes;
  state : together (occurrence_of l.found.state) (occurrence type_state l.rest) ≡ occurrence type_state l.fn.attributes;
}
