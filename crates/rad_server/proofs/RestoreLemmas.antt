-- What the rules ask of a row that is put back is what the law asks of the state with it.
use Rattle.std.proofs.Common.{◌≡◌, ◌↔◌, ◌⊎◌, ℕ, ◌+◌, ◌-◌, ◌≤◌, ◌<◌, Bool, true, false, not, cond, ◌&&◌, ◌||◌, ◌==◌, eqb, List, []}
use Rattle.std.proofs.Common.{◌∷◌, ◌++◌, length, find, All, Option, Some, None, option_map, Result, Ok, Err, arith, refl, ap, sym}
use Rattle.std.proofs.Common.{◌∙◌, inl, inr}
use Rattle.std.specs.Cmp.Lexicographic.{same_text}
use Rattle.std.specs.List.{list_any}
use Rattle.std.specs.Prelude.{is_some, nat_le, slice_index_or}
use Rattle.std.proofs.lemmas.Bool.{and_from, and_parts, both_ways, eq-eqb, eqb-true, le-leb, leb-false, leb-true, lt-leb, not-false}
use Rattle.std.proofs.lemmas.Bool.{not-true, not_from_false, not_from_true, or_parts}
use Rattle.std.proofs.lemmas.Cmp.{nat_list_eq_equiv}
use Rattle.std.proofs.lemmas.List.Elements.{All-contains, All-push, All-weaker, Contains-append_left, Contains-push}
use Rattle.std.proofs.lemmas.List.Folds.{Any-from_list_any, list_any_at}
use Rattle.std.proofs.lemmas.List.Sums.{sum_by-cons}
use Rattle.rad_packet.specs.Attributes.{Attribute, count, first_value, is_of, size}
use Rattle.rad_packet.specs.Bodies.{Body}
use Rattle.rad_packet.specs.Ladders.{◌>>=◌, refuse_if}
use Rattle.rad_packet.specs.Packets.{header_size, length_max}
use Rattle.rad_auth.specs.Clients.{client_place}
use Rattle.rad_auth.specs.Sealing.{BeginsWithMessageAuthenticator, IsAccessReply, IsAccountingResponse, IsReply}
use Rattle.rad_config.specs.Configurations.{Configuration, is_reached}
use Rattle.rad_pool.specs.Grants.{last_number}
use Rattle.rad_pool.specs.Lawful.{IsLawfulSession, RestoreIsTheLaw as SessionsRestored, RestoreLastIsTheLaw as LastSessionRestored}
use Rattle.rad_pool.specs.Restored.{last_restorable, with_last}
use Rattle.rad_pool.specs.Restored as sessions
use Rattle.rad_pool.specs.Sessions.{Sessions}
use Rattle.rad_pool.specs.declared.session.Session.{Session}
use Rattle.rad_recent.specs.Challenges.{Challenges, is_with, waiting_with}
use Rattle.rad_recent.specs.Lawful.{RestoredChallengeIsTheLaw, RestoredLastChallengeIsTheLaw, RestoredReplyIsTheLaw}
use Rattle.rad_recent.specs.Recent.{Replies, is_client, is_of as takes_share_of, with_reply}
use Rattle.rad_recent.specs.Restored.{challenge_restorable, reply_restorable, with_challenge_row}
use Rattle.rad_recent.specs.declared.challenge.Challenge.{Challenge}
use Rattle.rad_recent.specs.declared.challenge.Party.TheVariants as parties
use Rattle.rad_recent.specs.declared.kept.Kept.{Kept}
use Rattle.rad_row_fault.specs.declared.row_fault.RowFault.{RowFault}
use Rattle.rad_row_fault.specs.declared.row_fault.RowFault.TheVariants as faults
use Rattle.rad_server.proofs.AddressLemmas.{KeepsSessions, still_has}
use Rattle.rad_server.proofs.ShareLemmas.{MayWait, shares_with_nobodys, shares_with_one, spare_before, waiting_with_row}
use Rattle.rad_server.specs.Lawful.{HasItsSession, IsChallengeOf, IsLawful, IsOwned, IsRepeatable, IsSessionOf}
use Rattle.rad_server.specs.Replies.{class_value, four_octets}
use Rattle.rad_server.specs.Restored.{HaveNumbers, IsNew, IsRow, begins_sealable, challenge_rules, has_used_challenges}
use Rattle.rad_server.specs.Restored.{has_used_share, is_address_in, is_reply_of, is_same_place, can_be_sealed, is_its_session}
use Rattle.rad_server.specs.Restored.{is_value, lacks_session, reply_rules, restorable, with_row}
use Rattle.rad_server.specs.Shares.{AreSharedChallenges, AreSharedReplies, challenges_limit, challenges_share, replies_share}
use Rattle.rad_server.specs.States.{State}
use Rattle.rad_server.specs.Users.{user_at}
use Rattle.rad_server.specs.declared.state_row.StateRow.{StateRow}
use Rattle.rad_server.specs.declared.state_row.StateRow.TheVariants as rows

-- ---- ladders

-- a check that is passed, and what follows it
pub past : {A E : Type 0} (refused : Bool) (refusal : E) (next : Unit {0} → Result A E) (value : A)
    → (refuse_if refused refusal >>= next) ≡ Ok value
    → (refused ≡ false) × (next tt ≡ Ok value)
past true refusal next value is = absurd (cc)
past false refusal next value is = (refl, is)

-- the first of two checks, and what follows it
pub both_pass : {B E : Type 0} (first : Result (Unit {0}) E) (next : Result B E) (value : B) → (first >>= λ _. next) ≡ Ok value
    → (first ≡ Ok tt) × (next ≡ Ok value)
both_pass (Ok done) next value is = (refl, is)
both_pass (Err fault) next value is = absurd (cc)

past_last : {E : Type 0} (refused : Bool) (refusal : E) → refuse_if refused refusal ≡ Ok tt → refused ≡ false
past_last true refusal is = absurd (cc)
past_last false refusal is = refl

-- ---- bodies

-- a Type of which no attribute is found has none
none_counted : (kind : ℕ) (list : List Attribute) → is_some (first_value kind list) ≡ false → count kind list ≡ 0
none_counted kind [] none = refl
none_counted kind (a ∷ list) none =
    at (eqb a.kind kind) (sum_by-cons (λ (x : Attribute). cond {A = ℕ} (eqb x.kind kind) 1 0) a list) none (none_counted kind list)
  where
    at : (b : Bool) → count kind (a ∷ list) ≡ cond {A = ℕ} b 1 0 + count kind list
        → is_some (option_map (λ (x : Attribute). x.value) (cond b (Some a) (find (is_of kind) list))) ≡ false
        → (is_some (first_value kind list) ≡ false → count kind list ≡ 0) → count kind (a ∷ list) ≡ 0
    at true sum none more = absurd (both_ways true none refl)
    at false sum none more = omega (arith, sum, more none)

none_found : (kind : ℕ) (list : List Attribute) → count kind list ≡ 0 → is_some (first_value kind list) ≡ false
none_found kind [] none = refl
none_found kind (a ∷ list) none =
    at (eqb a.kind kind) (sum_by-cons (λ (x : Attribute). cond {A = ℕ} (eqb x.kind kind) 1 0) a list) none (none_found kind list)
  where
    at : (b : Bool) → count kind (a ∷ list) ≡ cond {A = ℕ} b 1 0 + count kind list → count kind (a ∷ list) ≡ 0
        → (count kind list ≡ 0 → is_some (first_value kind list) ≡ false)
        → is_some (option_map (λ (x : Attribute). x.value) (cond b (Some a) (find (is_of kind) list))) ≡ false
    at true sum none more = absurd (omega (arith, sum, none))
    at false sum none more = more (omega (arith, sum, none))

-- attributes that begin with a Message-Authenticator and have no second
begins_says : (list : List Attribute) → begins_sealable list ≡ true → BeginsWithMessageAuthenticator list × (count 80 list ≡ 1)
begins_says [] begins = absurd (both_ways false refl begins)
begins_says (a ∷ list) begins =
    let parts = and_parts (eqb a.kind 80 && eqb (length a.value) 16) (not (is_some (first_value 80 list))) begins in
    let first = and_parts (eqb a.kind 80) (eqb (length a.value) 16) parts.0 in
    let none = none_counted 80 list (not-true (is_some (first_value 80 list)) parts.1) in
    let sum = sum_by-cons (λ (x : Attribute). cond {A = ℕ} (eqb x.kind 80) 1 0) a list in
    let one : ◌≡◌ {A = ℕ} (cond (eqb a.kind 80) 1 0) 1 = ap (λ b. cond {A = ℕ} b 1 0) first.0 in
    ((eqb-true a.kind 80 first.0, eqb-true (length a.value) 16 first.1), omega (arith, sum, one, none))

begins_so : (list : List Attribute) → BeginsWithMessageAuthenticator list → count 80 list ≡ 1 → begins_sealable list ≡ true
begins_so [] begins only = absurd begins
begins_so (a ∷ list) begins only =
    let is : eqb a.kind 80 ≡ true = eq-eqb a.kind 80 begins.0 in
    let sum = sum_by-cons (λ (x : Attribute). cond {A = ℕ} (eqb x.kind 80) 1 0) a list in
    let one : ◌≡◌ {A = ℕ} (cond (eqb a.kind 80) 1 0) 1 = ap (λ b. cond {A = ℕ} b 1 0) is in
    and_from (eqb a.kind 80 && eqb (length a.value) 16) (not (is_some (first_value 80 list)))
    (and_from (eqb a.kind 80) (eqb (length a.value) 16) is (eq-eqb (length a.value) 16 begins.1))
    (not_from_false (is_some (first_value 80 list)) (none_found 80 list (omega (arith, sum, one, only))))

-- the Codes of replies to an Access-Request
code_says : (code : ℕ) → ((code == 2) || (code == 3) || (code == 11)) ≡ true → (code ≡ 2) ⊎ ((code ≡ 3) ⊎ (code ≡ 11))
code_says code is = at (code == 2) (code == 3) (code == 11) refl refl refl is
  where
    at : (a b c : Bool) → (code == 2) ≡ a → (code == 3) ≡ b → (code == 11) ≡ c → (a || b || c) ≡ true
        → (code ≡ 2) ⊎ ((code ≡ 3) ⊎ (code ≡ 11))
    at true b c x y z is = inl (eqb-true code 2 x)
    at false true c x y z is = inr (inl (eqb-true code 3 y))
    at false false true x y z is = inr (inr (eqb-true code 11 z))
    at false false false x y z is = absurd (both_ways false refl is)

-- what can be sealed
kind_says : (body : Body) → is_reply_of body.code body.attributes ≡ true → IsAccountingResponse body ⊎ IsAccessReply body
kind_says body is = at (body.code == 5) refl is
  where
    access : Bool
    access = (body.code == 2) || (body.code == 3) || (body.code == 11)

    at : (b : Bool) → (body.code == 5) ≡ b
        → cond b (not (is_some (first_value 80 body.attributes))) (access && begins_sealable body.attributes) ≡ true
        → IsAccountingResponse body ⊎ IsAccessReply body
    at true code is = inl (record {
      code = eqb-true body.code 5 code;
      none = none_counted 80 body.attributes (not-true (is_some (first_value 80 body.attributes)) is);
    })
    at false code is =
        let parts = and_parts access (begins_sealable body.attributes) is in
        let begins = begins_says body.attributes parts.1 in
        inr (record { code = code_says body.code parts.0; first = begins.0; only = begins.1 })

kind_so : (body : Body) → IsAccountingResponse body ⊎ IsAccessReply body → is_reply_of body.code body.attributes ≡ true
kind_so body (inl accounting) =
    rw (accounting.code) (not_from_false (is_some (first_value 80 body.attributes)) (none_found 80 body.attributes accounting.none))
kind_so body (inr access) = by_code access.code
  where
    begins : begins_sealable body.attributes ≡ true
    begins = begins_so body.attributes access.first access.only

    by_code : (body.code ≡ 2) ⊎ ((body.code ≡ 3) ⊎ (body.code ≡ 11)) → is_reply_of body.code body.attributes ≡ true
    by_code (inl code) = rw (code) begins
    by_code (inr (inl code)) = rw (code) begins
    by_code (inr (inr code)) = rw (code) begins

sealable_says : (body : Body) → can_be_sealed body ≡ true → IsReply body
sealable_says body is =
    let parts = and_parts (nat_le (size body.attributes) (length_max - header_size)) (is_reply_of body.code body.attributes) is in
    record {
      fits = omega (arith, leb-true (size body.attributes) (length_max - header_size) parts.0);
      kind = kind_says body parts.1;
    }

sealable_so : (body : Body) → IsReply body → can_be_sealed body ≡ true
sealable_so body is =
    and_from (nat_le (size body.attributes) (length_max - header_size)) (is_reply_of body.code body.attributes)
    (le-leb (size body.attributes) (length_max - header_size) (omega (arith, is.fits))) (kind_so body is.kind)

-- ---- the session of a reply

value_says : (value : List ℕ) (own : Option (List ℕ)) → is_value value own ≡ true → own ≡ Some value
value_says value None is = absurd (both_ways false refl is)
value_says value (Some own) is = ap Some (sym (same_text value own (sym is)))

value_so : (value : List ℕ) (own : Option (List ℕ)) → own ≡ Some value → is_value value own ≡ true
value_so value own is = rw (is) (nat_list_eq_equiv.refl value)

address_says : (value : Option (List ℕ)) (address : Option ℕ) → is_address_in value address ≡ true
    → option_map four_octets address ≡ value
address_says value None is = absurd (both_ways false refl is)
address_says value (Some address) is = sym (value_says (four_octets address) value is)

address_so : (value : List ℕ) (own : Option (List ℕ)) (address : Option ℕ) → own ≡ Some value
    → option_map four_octets address ≡ Some value → is_address_in own address ≡ true
address_so value own None own_is is = absurd (cc)
address_so value own (Some address) own_is is = value_so (four_octets address) own (own_is ∙ sym is)

-- a session that has what a reply gives
its_says : (reply : Kept) (session : Session) (value : List ℕ) → first_value 8 reply.body.attributes ≡ Some value
    → is_its_session reply session ≡ true
    → IsSessionOf reply.body value session × (session.made ≡ reply.made)
its_says reply session value gives is =
    let class = is_value (class_value session.number) (first_value 25 reply.body.attributes) in
    let address = is_address_in (first_value 8 reply.body.attributes) session.address in
    let parts = and_parts (class && address) (session.made == reply.made) is in
    let both = and_parts class address parts.0 in (
      record {
        address = address_says (first_value 8 reply.body.attributes) session.address both.1 ∙ gives;
        number = value_says (class_value session.number) (first_value 25 reply.body.attributes) both.0;
      },
      eqb-true session.made reply.made parts.1,
    )

its_so : (reply : Kept) (session : Session) (value : List ℕ) → first_value 8 reply.body.attributes ≡ Some value
    → IsSessionOf reply.body value session → session.made ≡ reply.made
    → is_its_session reply session ≡ true
its_so reply session value gives is made =
    let class = is_value (class_value session.number) (first_value 25 reply.body.attributes) in
    let address = is_address_in (first_value 8 reply.body.attributes) session.address in
    and_from (class && address) (session.made == reply.made)
    (and_from class address (value_so (class_value session.number) (first_value 25 reply.body.attributes) is.number)
    (address_so value (first_value 8 reply.body.attributes) session.address gives is.address))
    (eq-eqb session.made reply.made made)

session_says : (table : Sessions) (reply : Kept) → lacks_session table reply ≡ false → HasItsSession table reply.body reply.made
session_says table reply lacks accept value gives =
    let there : list_any (is_its_session reply) table.sessions ≡ true =
    not-false (list_any (is_its_session reply) table.sessions) (given lacks) in
    let found = Any-from_list_any (is_its_session reply) table.sessions there in
    let session : Session = found.1 in
    let its = its_says reply session value gives found.4 in
    (session, (found.0, found.2, found.3), its.0, its.1)
  where
    given : lacks_session table reply ≡ false → not (list_any (is_its_session reply) table.sessions) ≡ false
    given lacks = sym (λ j. (eq-eqb reply.body.code 2 accept j && is_some (gives j))
        && not (list_any (is_its_session reply) table.sessions)) ∙ lacks

pub session_so : (table : Sessions) (reply : Kept) → HasItsSession table reply.body reply.made → lacks_session table reply ≡ false
session_so table reply has = at (reply.body.code == 2) refl (first_value 8 reply.body.attributes) refl
  where
    at : (accept : Bool) → (reply.body.code == 2) ≡ accept → (value : Option (List ℕ)) → first_value 8 reply.body.attributes ≡ value
        → (accept && is_some value && not (list_any (is_its_session reply) table.sessions)) ≡ false
    at false is value gives = refl
    at true is None gives = refl
    at true is (Some value) gives =
        let its = has (eqb-true reply.body.code 2 is) value gives in
        let session : Session = its.0 in
        let passes = its_so reply session value gives its.2 its.3 in
        not_from_true (list_any (is_its_session reply) table.sessions)
        (list_any_at (is_its_session reply) table.sessions its.1.0 session its.1.1 (ap (is_its_session reply) (its.1.2) ∙ passes))

-- ---- what joins a reply

same_says : (place other : Option ℕ) → is_same_place place other ≡ true → place ≡ other
same_says None None is = refl
same_says None (Some other) is = absurd (both_ways false refl is)
same_says (Some place) None is = absurd (both_ways false refl is)
same_says (Some place) (Some other) is = ap Some (eqb-true place other is)

same_so : (place other : Option ℕ) → place ≡ other → is_same_place place other ≡ true
same_so None other is = rw (sym is) refl
same_so (Some place) other is = rw (sym is) (eq-eqb place place refl)

shares_say : (configuration : Configuration) (reply : Kept) (table : Replies)
    → has_used_share configuration table reply.client ≡ false
    → AreSharedReplies configuration table → AreSharedReplies configuration (with_reply reply table)
shares_say configuration reply table spare shares = by_client reply.client refl spare
  where
    by_client : (client : Option ℕ) → reply.client ≡ client → has_used_share configuration table client ≡ false
        → AreSharedReplies configuration (with_reply reply table)
    by_client None own spare = shares_with_nobodys configuration reply table own shares
    by_client (Some client) own spare = shares_with_one configuration client reply table own spare shares

pub shares_so : (configuration : Configuration) (reply : Kept) (table : Replies)
    → AreSharedReplies configuration (with_reply reply table)
    → has_used_share configuration table reply.client ≡ false
shares_so configuration reply table shares = by_client reply.client refl
  where
    by_client : (client : Option ℕ) → reply.client ≡ client → has_used_share configuration table client ≡ false
    by_client None own = refl
    by_client (Some client) own =
        spare_before (replies_share configuration client) (takes_share_of client) table.kept reply
        (ap (is_client client) own ∙ eq-eqb client client refl) (shares client)

-- what holds of a reply that joins the others
pub record Joins (configuration : Configuration) (table : Sessions) (replies : Replies) (reply : Kept) : Type 0 where
  pub repeatable : IsRepeatable reply
  pub owned : IsOwned configuration reply
  pub shares : AreSharedReplies configuration replies → AreSharedReplies configuration (with_reply reply replies)
  pub address : HasItsSession table reply.body reply.made

joins_says : (configuration : Configuration) (table : Sessions) (replies : Replies) (reply : Kept)
    → reply_rules configuration table replies reply ≡ Ok tt
    → Joins configuration table replies reply
unfolding reply_rules
joins_says configuration table replies reply is =
    let Rung : Type 0 = Unit {0} → Result (Unit {0}) RowFault in
    let lacks = lacks_session table reply in
    let used = has_used_share configuration replies reply.client in
    let other = not (is_same_place reply.client (client_place configuration.clients reply.key.source)) in
    let status = slice_index_or reply.octets 0 0 == 12 in
    let last : Rung = λ _. refuse_if lacks faults.Session in
    let fourth : Rung = λ _. refuse_if used faults.Share >>= last in
    let third : Rung = λ _. refuse_if other faults.Owner >>= fourth in
    let second : Rung = λ _. refuse_if status faults.Request >>= third in
    let a = past (not (can_be_sealed reply.body)) faults.Body second tt is in
    let b = past status faults.Request third tt a.1 in
    let c = past other faults.Owner fourth tt b.1 in
    let d = past used faults.Share last tt c.1 in
    record {
      repeatable = record { sealable = sealable_says reply.body (not-false (can_be_sealed reply.body) a.0); request = b.0 };
      owned = same_says reply.client (client_place configuration.clients reply.key.source)
          (not-false (is_same_place reply.client (client_place configuration.clients reply.key.source)) c.0);
      shares = shares_say configuration reply replies d.0;
      address = session_says table reply (past_last lacks faults.Session d.1);
    }

pub joins_so : (configuration : Configuration) (table : Sessions) (replies : Replies) (reply : Kept) → IsRepeatable reply
    → IsOwned configuration reply
    → has_used_share configuration replies reply.client ≡ false → HasItsSession table reply.body reply.made
    → reply_rules configuration table replies reply ≡ Ok tt
unfolding reply_rules
joins_so configuration table replies reply repeatable owned spare its =
    rw (
      sealable_so reply.body repeatable.sealable,
      repeatable.request,
      same_so reply.client (client_place configuration.clients reply.key.source) owned,
      spare,
      session_so table reply its,
    ) refl

-- ---- what joins a challenge

-- what holds of a challenge that joins the others
pub record Waits (configuration : Configuration) (challenges : Challenges) (row : Challenge) : Type 0 where
  pub client : row.client < length configuration.clients
  pub user : row.user < length configuration.users
  pub answer : is_some (user_at configuration row.user).answer ≡ true
  pub may : MayWait configuration row.client row.user challenges

waits_says : (configuration : Configuration) (challenges : Challenges) (row : Challenge)
    → challenge_rules configuration challenges row ≡ Ok tt
    → Waits configuration challenges row
unfolding challenge_rules
waits_says configuration challenges row is =
    let Rung : Type 0 = Unit {0} → Result (Unit {0}) RowFault in
    let used = has_used_challenges configuration challenges row in
    let unanswered = not (is_some (user_at configuration row.user).answer) in
    let last : Rung = λ _. refuse_if used faults.Share in
    let third : Rung = λ _. refuse_if unanswered faults.Answer >>= last in
    let second : Rung = λ _. refuse_if (nat_le (length configuration.users) row.user) faults.User >>= third in
    let a = past (nat_le (length configuration.clients) row.client) faults.Client second tt is in
    let b = past (nat_le (length configuration.users) row.user) faults.User third tt a.1 in
    let c = past unanswered faults.Answer last tt b.1 in
    let d = or_parts (is_reached (challenges_share configuration row.client) (waiting_with (parties.Client row.client) challenges))
    (is_reached (challenges_limit configuration row.user) (waiting_with (parties.User row.user) challenges))
    (past_last used faults.Share c.1) in
    record {
      client = leb-false (length configuration.clients) row.client a.0;
      user = leb-false (length configuration.users) row.user b.0;
      answer = not-false (is_some (user_at configuration row.user).answer) c.0;
      may = record { own = d.1; shared = d.0 };
    }

pub waits_so : (configuration : Configuration) (challenges : Challenges) (row : Challenge) → Waits configuration challenges row
    → challenge_rules configuration challenges row ≡ Ok tt
unfolding challenge_rules
waits_so configuration challenges row waits =
    rw (
      lt-leb (length configuration.clients) row.client waits.client,
      lt-leb (length configuration.users) row.user waits.user,
      waits.answer,
      waits.may.shared,
      waits.may.own,
    ) refl

pub may_wait_so : (configuration : Configuration) (challenges : Challenges) (row : Challenge)
    → AreSharedChallenges configuration (with_challenge_row row challenges)
    → MayWait configuration row.client row.user challenges
may_wait_so configuration challenges row shared = record {
  own = spare_before (challenges_limit configuration row.user) (is_with (parties.User row.user)) challenges.challenges row
      (eq-eqb row.user row.user refl) (shared.users row.user);
  shared = spare_before (challenges_share configuration row.client) (is_with (parties.Client row.client)) challenges.challenges row
      (eq-eqb row.client row.client refl) (shared.clients row.client);
}

-- ---- one row

-- the laws of the tables
pub record RowLaws : Type 0 where
  pub session : SessionsRestored
  pub last_session : LastSessionRestored
  pub reply : RestoredReplyIsTheLaw
  pub challenge : RestoredChallengeIsTheLaw
  pub last_challenge : RestoredLastChallengeIsTheLaw

-- a session more
more_keeps : (row : Session) (table : Sessions) → KeepsSessions table (sessions.with_row row table)
more_keeps row table = λ session there.
    (session, Contains-append_left table.sessions (row ∷ []) session there, record { number = refl; address = refl; made = refl })

pub restore_is_the_law : RowLaws → (configuration : Configuration) (row : StateRow) (state : State) → IsRow row
    → IsLawful configuration state
    → (restorable configuration row state ≡ Ok tt) ↔ (IsNew row state × IsLawful configuration (with_row row state))
unfolding restorable
restore_is_the_law laws configuration (rows.Session row) state is lawful =
    let law = laws.session configuration state.clock row state.sessions is lawful.sessions in (
      (λ fits. let new = law.0 fits in (
        new.0,
        record {
          clock = lawful.clock;
          spans = lawful.spans;
          window = lawful.window;
          hold = lawful.hold;
          sessions = new.1;
          replies = lawful.replies;
          owned = lawful.owned;
          shares = lawful.shares;
          repeatable = lawful.repeatable;
          addresses = All-weaker (λ (reply : Kept). HasItsSession state.sessions reply.body reply.made)
              (λ (reply : Kept). HasItsSession (sessions.with_row row state.sessions) reply.body reply.made)
              (λ reply its. still_has state.sessions (sessions.with_row row state.sessions) reply.body reply.made
              (more_keeps row state.sessions) its) state.replies.kept lawful.addresses;
          challenges = lawful.challenges;
          waiting = lawful.waiting;
          configured = lawful.configured;
        },
      )),
      (λ given. law.1 (given.0, given.1.sessions)),
    )
restore_is_the_law laws configuration (rows.LastSession last) state is lawful =
    let law = laws.last_session configuration state.clock last state.sessions is lawful.sessions in (
      (λ fits. let new = law.0 fits in (
        new.0,
        record {
          clock = lawful.clock;
          spans = lawful.spans;
          window = lawful.window;
          hold = lawful.hold;
          sessions = new.1;
          replies = lawful.replies;
          owned = lawful.owned;
          shares = lawful.shares;
          repeatable = lawful.repeatable;
          addresses = lawful.addresses;
          challenges = lawful.challenges;
          waiting = lawful.waiting;
          configured = lawful.configured;
        },
      )),
      (λ given. law.1 (given.0, given.1.sessions)),
    )
restore_is_the_law laws configuration (rows.Reply reply) state is lawful =
    let law = laws.reply state.clock reply state.replies lawful.replies in
    let last = λ (P : Kept → Type 0) (each : All P (state.replies.kept ++ reply ∷ [])). All-contains P
    (state.replies.kept ++ reply ∷ []) reply each (Contains-push state.replies.kept reply) in (
      (λ fits.
          let parts = both_pass (reply_rules configuration state.sessions state.replies reply)
          (reply_restorable state.clock reply state.replies) tt fits in
          let joins = joins_says configuration state.sessions state.replies reply parts.0 in (
            tt,
            record {
              clock = lawful.clock;
              spans = lawful.spans;
              window = lawful.window;
              hold = lawful.hold;
              sessions = lawful.sessions;
              replies = law.0 parts.1;
              owned = All-push (IsOwned configuration) state.replies.kept reply lawful.owned joins.owned;
              shares = joins.shares lawful.shares;
              repeatable = All-push IsRepeatable state.replies.kept reply lawful.repeatable joins.repeatable;
              addresses = All-push (λ (kept : Kept). HasItsSession state.sessions kept.body kept.made) state.replies.kept reply
                  lawful.addresses joins.address;
              challenges = lawful.challenges;
              waiting = lawful.waiting;
              configured = lawful.configured;
            },
          )),
      (λ given.
          let new = given.1 in
          let joins = joins_so configuration state.sessions state.replies reply (last IsRepeatable new.repeatable)
          (last (IsOwned configuration) new.owned)
          (shares_so configuration reply state.replies new.shares)
          (last (λ (kept : Kept). HasItsSession state.sessions kept.body kept.made) new.addresses) in
          ap (λ r. r >>= λ _. reply_restorable state.clock reply state.replies) joins ∙ law.1 new.replies),
    )
restore_is_the_law laws configuration (rows.Challenge row) state is lawful =
    let law = laws.challenge state.clock row state.challenges is.0 lawful.challenges in (
      (λ fits.
          let parts = both_pass (challenge_rules configuration state.challenges row)
          (challenge_restorable state.clock row state.challenges) tt fits in
          let waits = waits_says configuration state.challenges row parts.0 in
          let new = law.0 parts.1 in (
            new.0,
            record {
              clock = lawful.clock;
              spans = lawful.spans;
              window = lawful.window;
              hold = lawful.hold;
              sessions = lawful.sessions;
              replies = lawful.replies;
              owned = lawful.owned;
              shares = lawful.shares;
              repeatable = lawful.repeatable;
              addresses = lawful.addresses;
              challenges = new.1;
              waiting = waiting_with_row configuration row state.challenges waits.may lawful.waiting;
              configured = All-push (IsChallengeOf configuration) state.challenges.challenges row lawful.configured
                  (record { draw = is.1; client = waits.client; user = waits.user; answer = waits.answer });
            },
          )),
      (λ given.
          let new = given.1 in
          let own = All-contains (IsChallengeOf configuration) (state.challenges.challenges ++ row ∷ []) row new.configured
          (Contains-push state.challenges.challenges row) in
          let waits = waits_so configuration state.challenges row (record {
            client = own.client;
            user = own.user;
            answer = own.answer;
            may = may_wait_so configuration state.challenges row new.waiting;
          }) in
          ap (λ r. r >>= λ _. challenge_restorable state.clock row state.challenges) waits ∙ law.1 (given.0, new.challenges)),
    )
restore_is_the_law laws configuration (rows.LastChallenge last) state is lawful =
    let law = laws.last_challenge state.clock last state.challenges is lawful.challenges in (
      (λ fits. let new = law.0 fits in (
        new.0,
        record {
          clock = lawful.clock;
          spans = lawful.spans;
          window = lawful.window;
          hold = lawful.hold;
          sessions = lawful.sessions;
          replies = lawful.replies;
          owned = lawful.owned;
          shares = lawful.shares;
          repeatable = lawful.repeatable;
          addresses = lawful.addresses;
          challenges = new.1;
          waiting = record { clients = lawful.waiting.clients; users = lawful.waiting.users };
          configured = lawful.configured;
        },
      )),
      (λ given. law.1 (given.0, given.1.challenges)),
    )

-- the numbers of a lawful state's sessions
pub have_numbers : (configuration : Configuration) (state : State) → IsLawful configuration state → HaveNumbers state.sessions
have_numbers configuration state lawful = record {
  rising = lawful.sessions.rising;
  within = All-weaker (IsLawfulSession configuration state.clock state.sessions.next)
      (λ (session : Session). session.number ≤ last_number)
      (λ session known. omega (arith, known.number.1, lawful.sessions.next.1)) state.sessions.sessions lawful.sessions.sessions;
}
