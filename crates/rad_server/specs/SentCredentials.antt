-- What one walk over the attributes of an Access-Request found, and the credentials among them, as definitions see them. No other
-- crate cites these.
use Rattle.std.specs.Prelude.{◌≡◌, ℕ, ◌||◌, if◌then◌else◌, List, length, option_copied, IsTrue}
use Rattle.rad_packet.specs.Attributes.{Attribute, has, is_of}
use Rattle.rad_packet.specs.Types.{type_chap_challenge, type_chap_password, type_eap_message, type_state, type_user_name}
use Rattle.rad_packet.specs.Types.{type_user_password}
use Rattle.rad_auth.specs.Chap.{chap_value_size}
use Rattle.rad_auth.specs.Passwords.{value_fits}
use Rattle.rad_server.specs.Credentials.{Credentials, SentPassword, UserPassword, ChapPassword}
use Rattle.rad_server.specs.Occurrences.{Occurrence, Absent, Once, Repeated, occurrence}
use Rattle.rad_server.specs.declared.credentials.Credentials.{Credentials as CredentialsOfCode}
use Rattle.rad_server.specs.declared.credentials.SentPassword.{SentPassword as SentPasswordOfCode}
use Rattle.rad_server.specs.declared.credentials.SentPassword.TheVariants as sent
use Rattle.rad_server.specs.declared.occurrence.AccessAttributes.{AccessAttributes}
use Rattle.rad_server.specs.declared.occurrence.Occurrence.{Occurrence as OccurrenceOfCode}
use Rattle.rad_server.specs.declared.occurrence.Occurrence.TheVariants as code

abbrev pub occurrence_of : OccurrenceOfCode → Occurrence
occurrence_of code.Absent = Absent
occurrence_of (code.Once value) = Once value.now
occurrence_of code.Repeated = Repeated

-- how often an attribute occurs that occurs once more, with this Value
abbrev pub one_more : List ℕ → Occurrence → Occurrence
one_more value Absent = Once value
one_more value (Once first) = Repeated
one_more value Repeated = Repeated

-- how often an attribute of a Type occurs after one more attribute
abbrev pub counted : ℕ → Attribute → Occurrence → Occurrence
counted kind a so_far = if is_of kind a then one_more a.value so_far else so_far

-- what one walk found is what the attributes say
pub record AreAccessAttributes (list : List Attribute) (found : AccessAttributes) : Type 0 where
  pub has_eap_message : found.has_eap_message ≡ has type_eap_message list
  pub user_name : occurrence_of found.user_name ≡ occurrence type_user_name list
  pub user_password : occurrence_of found.user_password ≡ occurrence type_user_password list
  pub chap_password : occurrence_of found.chap_password ≡ occurrence type_chap_password list
  pub chap_challenge : occurrence_of found.chap_challenge ≡ occurrence type_chap_challenge list
  pub state : occurrence_of found.state ≡ occurrence type_state list

-- the new says what the old does and one more attribute
pub record IsOneMore (a : Attribute) (old new : AccessAttributes) : Type 0 where
  pub has_eap_message : new.has_eap_message ≡ (old.has_eap_message || is_of type_eap_message a)
  pub user_name : occurrence_of new.user_name ≡ counted type_user_name a (occurrence_of old.user_name)
  pub user_password : occurrence_of new.user_password ≡ counted type_user_password a (occurrence_of old.user_password)
  pub chap_password : occurrence_of new.chap_password ≡ counted type_chap_password a (occurrence_of old.chap_password)
  pub chap_challenge : occurrence_of new.chap_challenge ≡ counted type_chap_challenge a (occurrence_of old.chap_challenge)
  pub state : occurrence_of new.state ≡ counted type_state a (occurrence_of old.state)

abbrev pub sent_password_of : SentPasswordOfCode → SentPassword
sent_password_of (sent.UserPassword value) = UserPassword value.now
sent_password_of (sent.ChapPassword value challenge) = ChapPassword value.now (option_copied challenge)

abbrev pub credentials_of : CredentialsOfCode → Credentials
credentials_of credentials = record {
  name = credentials.name.now;
  password = sent_password_of credentials.password;
  state = option_copied credentials.state;
}

-- the Values of a password that was sent have lengths that can be checked
abbrev pub IsSent : SentPassword → Type 0
IsSent (UserPassword value) = IsTrue (value_fits value)
IsSent (ChapPassword value challenge) = length value ≡ chap_value_size
