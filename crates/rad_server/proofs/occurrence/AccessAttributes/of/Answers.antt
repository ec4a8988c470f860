use Rattle.std.proofs.Common.{◌≡◌, ◌∷◌}
use Rattle.rad_packet.specs.Attributes.{Attribute, has, is_of}
use Rattle.rad_packet.specs.Types.{type_chap_challenge, type_chap_password, type_eap_message, type_state, type_user_name}
use Rattle.rad_packet.specs.Types.{type_user_password}
use Rattle.rad_server.specs.SentCredentials.{occurrence_of}
use Rattle.rad_server.proofs.OccurrenceLemmas.{all-any, all-occurrences, next-any, next-occurrence}
use Rattle.rad_server.proofs.occurrence.AccessAttributes.of.Goals as goal

pub loop-attribute-preserved : goal.loop-attribute-preserved
loop-attribute-preserved c =
    let a : Attribute = record { kind = c.in-Some.attribute.kind; value = c.in-Some.attribute.value.now } in
    let others = c.next.new.self in
    let rest = c.loop-attribute.rest in
    let was = c.loop-attribute.found in
    let new = c.add.new.self in
    let all = c.args.attributes in
    let known = c.loop-attribute.invariant in
    let e : rest ≡ a ∷ others = c.in-Some.ensures.steps in
    record {
      has_eap_message = next-any (is_of type_eap_message) was.has_eap_message new.has_eap_message a others rest
          (has type_eap_message all) e c.add.ensures.has_eap_message known.has_eap_message;
      user_name = next-occurrence type_user_name (occurrence_of was.user_name) (occurrence_of new.user_name) a others rest all e
          c.add.ensures.user_name known.user_name;
      user_password = next-occurrence type_user_password (occurrence_of was.user_password) (occurrence_of new.user_password) a
          others rest all e c.add.ensures.user_password known.user_password;
      chap_password = next-occurrence type_chap_password (occurrence_of was.chap_password) (occurrence_of new.chap_password) a
          others rest all e c.add.ensures.chap_password known.chap_password;
      chap_challenge = next-occurrence type_chap_challenge (occurrence_of was.chap_challenge) (occurrence_of new.chap_challenge) a
          others rest all e c.add.ensures.chap_challenge known.chap_challenge;
      state = next-occurrence type_state (occurrence_of was.state) (occurrence_of new.state) a others rest all e c.add.ensures.state
          known.state;
    }

pub returns : goal.returns
returns c =
    let rest = c.loop-attribute.rest in
    let found = c.loop-attribute.found in
    let all = c.args.attributes in
    let known = c.loop-attribute.invariant in
    let e = c.in_default.ensures.steps.0 in
    record {
      has_eap_message =
          all-any (is_of type_eap_message) found.has_eap_message rest (has type_eap_message all) e known.has_eap_message;
      user_name = all-occurrences type_user_name (occurrence_of found.user_name) rest all e known.user_name;
      user_password = all-occurrences type_user_password (occurrence_of found.user_password) rest all e known.user_password;
      chap_password = all-occurrences type_chap_password (occurrence_of found.chap_password) rest all e known.chap_password;
      chap_challenge = all-occurrences type_chap_challenge (occurrence_of found.chap_challenge) rest all e known.chap_challenge;
      state = all-occurrences type_state (occurrence_of found.state) rest all e known.state;
    }
