-- What the server replies can be sealed: it fits a packet, and has a Message-Authenticator first or none.
use Rattle.std.proofs.Common.{◌≡◌, All, sym, ◌⊎◌, ℕ, ◌+◌, ◌≤◌, Bool, true, false, cond, eqb, List, [], ◌∷◌, ◌++◌, length, Option}
use Rattle.std.proofs.Common.{Some, None, refl, ap, ◌∙◌, arith, inl, inr}
use Rattle.std.specs.Int.{w64, to_be_bytes}
use Rattle.std.specs.Prelude.{IfSome, is_some, option_map}
use Rattle.std.specs.Option.{option_or}
use Rattle.std.proofs.lemmas.List.Elements.{All-head, All-tail}
use Rattle.std.proofs.lemmas.Bool.{eqb-true, false≢true, ne_eqb}
use Rattle.std.proofs.lemmas.Grind.{flat_map-append}
use Rattle.std.proofs.lemmas.List.{length-append}
use Rattle.std.proofs.lemmas.List.Sums.{sum_by-append, sum_by-cons}
use Rattle.rad_packet.specs.Attributes.{Attribute, attribute_octets, attributes_octets, count, of_kind, size, value_max}
use Rattle.rad_packet.specs.Packets.{Packet}
use Rattle.rad_auth.specs.Admission.{proxy_states_max, proxy_states_size}
use Rattle.rad_auth.specs.Authenticators.{sixteen_zeros}
use Rattle.rad_auth.specs.Sealing.{IsReply}
use Rattle.rad_auth.specs.declared.arrival.Door.TheVariants.{Acct, Auth}
use Rattle.rad_dictionary.specs.Dictionary.{may_be_granted}
use Rattle.rad_dictionary.specs.Meant.{IsGrantable}
use Rattle.rad_config.specs.Configurations.{size_if_any, text_size}
use Rattle.rad_config.specs.Ranges.{IsUser}
use Rattle.rad_server.specs.ReplyBodies.{CanBeAccepted}
use Rattle.rad_config.specs.declared.user.User.{User}
use Rattle.rad_pool.specs.declared.grant.Grant.{Grant}
use Rattle.rad_recent.specs.Challenges.{state_value}
use Rattle.rad_server.specs.Denials.{denial_text}
use Rattle.rad_server.specs.FixedReplies.{fixed_body}
use Rattle.rad_server.specs.Replies.{accept_attributes, access_accept, access_challenge, access_reject, access_reply}
use Rattle.rad_server.specs.Replies.{accounting_response, attribute, attribute_if_any, class_value, four_octets}
use Rattle.rad_server.specs.declared.denial.Denial.{Denial}
use Rattle.rad_server.specs.declared.denial.Denial.TheVariants.{EapNotSupported, MalformedRequest, StateUnknown, WrongState}
use Rattle.rad_server.specs.declared.denial.Denial.TheVariants.{AccessDenied, SessionLimit, NoAddressLeft, ServerFull}
use Rattle.rad_server.specs.declared.fixed_reply.FixedReply.{FixedReply}
use Rattle.rad_server.specs.declared.fixed_reply.FixedReply.TheVariants.{Accounting, Denied, Status}

size-append : (front back : List Attribute) → size (front ++ back) ≡ size front + size back
size-append front back =
    ap length (flat_map-append attribute_octets front back) ∙ length-append (attributes_octets front) (attributes_octets back)

count-append : (kind : ℕ) (front back : List Attribute) → count kind (front ++ back) ≡ count kind front + count kind back
count-append kind front back = sum_by-append (λ (a : Attribute). cond (eqb a.kind kind) 1 0) front back

-- a Proxy-State is no Message-Authenticator
count-of_kind : (list : List Attribute) → count 80 (of_kind 33 list) ≡ 0
count-of_kind [] = refl
count-of_kind (a ∷ list) = at (eqb a.kind 33) refl (count-of_kind list)
  where
    at : (b : Bool) → eqb a.kind 33 ≡ b → count 80 (of_kind 33 list) ≡ 0
        → count 80 (cond b (a ∷ of_kind 33 list) (of_kind 33 list)) ≡ 0
    at false e others = others
    at true e others =
        let other : eqb a.kind 80 ≡ false = ne_eqb a.kind 80 (λ is. absurd (omega (arith, eqb-true a.kind 33 e))) in
        sum_by-cons (λ (x : Attribute). cond (eqb x.kind 80) 1 0) a (of_kind 33 list) ∙ rw other (omega (arith, others))

-- so many octets at most, and no Message-Authenticator
record IsOwn (most : ℕ) (list : List Attribute) : Type 0 where
  size : size list ≤ most
  none : count 80 list ≡ 0

own-append : (m n most : ℕ) (front back : List Attribute) → m + n ≤ most → IsOwn m front → IsOwn n back → IsOwn most (front ++ back)
own-append m n most front back le f b = record {
  size = omega (arith, le, size-append front back, f.size, b.size);
  none = omega (arith, count-append 80 front back, f.none, b.none);
}

own-one : (kind most : ℕ) (value : List ℕ) → (kind ≡ 80 → ⊥) → length value ≤ most → IsOwn (2 + most) (attribute kind value)
own-one kind most value other short = record {
  size = omega (arith, short, length-append value []);
  none = rw (ne_eqb kind 80 other) refl;
}

own-integer : (kind : ℕ) (number : Option ℕ) → (kind ≡ 80 → ⊥) → IsOwn 6 (attribute_if_any kind (option_map four_octets number))
own-integer kind None other = record { size = omega arith; none = refl }
own-integer kind (Some number) other = own-one kind 4 (four_octets number) other (omega arith)

own-text : (kind : ℕ) (text : Option (List ℕ)) → (kind ≡ 80 → ⊥) → IfSome text (λ octets. length octets ≤ value_max)
    → IsOwn 255 (attribute_if_any kind text)
own-text kind None other short = record { size = omega arith; none = refl }
own-text kind (Some octets) other short = own-one kind 253 octets other short

-- attributes of no octets are none
pub no_attributes : (list : List Attribute) → size list ≡ 0 → list ≡ []
no_attributes [] none = refl
no_attributes (a ∷ list) none = absurd (omega (arith, none))

pub accounting_is_reply : (p : Packet) → proxy_states_size p ≤ proxy_states_max → IsReply (accounting_response p)
accounting_is_reply p le = record {
  fits = omega (arith, le);
  kind = inl (record { code = refl; none = count-of_kind p.attributes });
}

access_is_reply : (code : ℕ) (own : List Attribute) (p : Packet) → (code ≡ 2) ⊎ ((code ≡ 3) ⊎ (code ≡ 11)) → IsOwn 474 own
    → proxy_states_size p ≤ proxy_states_max
    → IsReply (access_reply code own p)
access_is_reply code own p is short le =
    let unsealed : Attribute = record { kind = 80; value = sixteen_zeros } in
    record {
      fits = omega (arith, size-append own (of_kind 33 p.attributes), short.size, le);
      kind = inr (record {
        code = is;
        first = (refl, refl);
        only =
            let front : count 80 (unsealed ∷ own ++ of_kind 33 p.attributes) ≡ 1 + count 80 (own ++ of_kind 33 p.attributes) =
            sum_by-cons (λ (x : Attribute). cond (eqb x.kind 80) 1 0) unsealed (own ++ of_kind 33 p.attributes) in
            front ∙ omega (arith, count-append 80 own (of_kind 33 p.attributes), count-of_kind p.attributes, short.none);
      });
    }

pub reject_is_reply : (denial : Denial) (p : Packet) → proxy_states_size p ≤ proxy_states_max → IsReply (access_reject denial p)
reject_is_reply denial p le = access_is_reply 3 (attribute 18 (denial_text denial)) p (inr (inl refl)) (short denial) le
  where
    short : (denial : Denial) → IsOwn 474 (attribute 18 (denial_text denial))
    short EapNotSupported = record { size = omega arith; none = refl }
    short MalformedRequest = record { size = omega arith; none = refl }
    short StateUnknown = record { size = omega arith; none = refl }
    short WrongState = record { size = omega arith; none = refl }
    short AccessDenied = record { size = omega arith; none = refl }
    short SessionLimit = record { size = omega arith; none = refl }
    short NoAddressLeft = record { size = omega arith; none = refl }
    short ServerFull = record { size = omega arith; none = refl }

-- what an Access-Accept has before the reply that is configured
abbrev front : User → Grant → List Attribute
front user grant =
    attribute_if_any 6 (option_map four_octets user.service) ++ attribute_if_any 7 (option_map four_octets user.protocol)
    ++ attribute_if_any 8 (option_map four_octets grant.address) ++ attribute_if_any 27 (option_map four_octets user.timeout)
    ++ attribute_if_any 18 user.message ++ attribute 25 (class_value grant.number)

-- none of it is a Message-Authenticator
none_if_any : (kind : ℕ) (value : Option (List ℕ)) → (kind ≡ 80 → ⊥) → count 80 (attribute_if_any kind value) ≡ 0
none_if_any kind None other = refl
none_if_any kind (Some value) other = rw (ne_eqb kind 80 other) refl

front_has_none : (user : User) (grant : Grant) → count 80 (front user grant) ≡ 0
front_has_none user grant =
    let service = attribute_if_any 6 (option_map four_octets user.service) in
    let protocol = attribute_if_any 7 (option_map four_octets user.protocol) in
    let address = attribute_if_any 8 (option_map four_octets grant.address) in
    let timeout = attribute_if_any 27 (option_map four_octets user.timeout) in
    let message = attribute_if_any 18 user.message in
    let class = attribute 25 (class_value grant.number) in
    let none_of_class : count 80 class ≡ 0 = refl in
    omega (
      arith,
      count-append 80 service protocol,
      count-append 80 (service ++ protocol) address,
      count-append 80 (service ++ protocol ++ address) timeout,
      count-append 80 (service ++ protocol ++ address ++ timeout) message,
      count-append 80 (service ++ protocol ++ address ++ timeout ++ message) class,
      none_if_any 6 (option_map four_octets user.service) (λ e. omega (arith, e)),
      none_if_any 7 (option_map four_octets user.protocol) (λ e. omega (arith, e)),
      none_if_any 8 (option_map four_octets grant.address) (λ e. omega (arith, e)),
      none_if_any 27 (option_map four_octets user.timeout) (λ e. omega (arith, e)),
      none_if_any 18 user.message (λ e. omega (arith, e)),
      none_of_class,
    )

pub accept_is_reply : (user : User) (grant : Grant) (p : Packet) → CanBeAccepted user grant → proxy_states_size p ≤ proxy_states_max
    → IsReply (access_accept user grant p)
accept_is_reply user grant p can le =
    access_is_reply 2 (accept_attributes user grant) p (inl refl)
    (record {
      size = can.fits;
      none = omega (arith, count-append 80 (front user grant) user.reply.attributes, front_has_none user grant, can.none);
    }) le

-- ---- what a configuration gives

-- none of the attributes that are granted is of a Type that can't be
pub granted_count : (kind : ℕ) (list : List Attribute) → may_be_granted kind ≡ false → All IsGrantable list → count kind list ≡ 0
granted_count kind [] kept_out all = refl
granted_count kind (a ∷ list) kept_out all =
    at (eqb a.kind kind) refl (granted_count kind list kept_out (All-tail IsGrantable a list all))
  where
    at : (b : Bool) → eqb a.kind kind ≡ b → count kind list ≡ 0 → count kind (a ∷ list) ≡ 0
    at false e others = sum_by-cons (λ (x : Attribute). cond (eqb x.kind kind) 1 0) a list ∙ rw e (omega (arith, others))
    at true e others = absurd (false≢true
        (sym kept_out ∙ ap may_be_granted (sym (eqb-true a.kind kind e)) ∙ (All-head IsGrantable a list all).kind))

size_integer : (kind : ℕ) (o : Option ℕ) → size (attribute_if_any kind (option_map four_octets o)) ≡ size_if_any 6 o
size_integer kind None = refl
size_integer kind (Some number) = refl

size_text : (o : Option (List ℕ)) → size (attribute_if_any 18 o) ≡ text_size o
size_text None = refl
size_text (Some text) = omega (arith, length-append text [])

size_class : (number : ℕ) → size (attribute 25 (class_value number)) ≡ 14
size_class number = refl

-- an address is there only with one of the user's own, or a pool
size_address : (address pool : Option ℕ) → (is_some address ≡ true → is_some pool ≡ true)
    → size_if_any 6 address ≤ size_if_any 6 pool
size_address None pool has = omega arith
size_address (Some address) None has = absurd (false≢true (has refl))
size_address (Some address) (Some place) has = omega arith

-- of an address of one's own and a pool, one takes no more room than both
size_either : (own pool : Option ℕ) → size_if_any 6 (option_or own pool) ≤ size_if_any 6 pool + size_if_any 6 own
size_either None pool = omega arith
size_either (Some address) pool = omega arith

pub can_be_accepted : (pools : ℕ) (user : User) (grant : Grant) → IsUser pools user
    → (is_some grant.address ≡ true → is_some (option_or user.address user.pool) ≡ true)
    → CanBeAccepted user grant
can_be_accepted pools user grant is has = record {
  fits =
      let service = attribute_if_any 6 (option_map four_octets user.service) in
      let protocol = attribute_if_any 7 (option_map four_octets user.protocol) in
      let address = attribute_if_any 8 (option_map four_octets grant.address) in
      let timeout = attribute_if_any 27 (option_map four_octets user.timeout) in
      let message = attribute_if_any 18 user.message in
      let class = attribute 25 (class_value grant.number) in
      let reply = user.reply.attributes in
      omega (
        arith,
        is.fits,
        size_address grant.address (option_or user.address user.pool) has,
        size_either user.address user.pool,
        size-append service protocol,
        size-append (service ++ protocol) address,
        size-append (service ++ protocol ++ address) timeout,
        size-append (service ++ protocol ++ address ++ timeout) message,
        size-append (service ++ protocol ++ address ++ timeout ++ message) class,
        size-append (service ++ protocol ++ address ++ timeout ++ message ++ class) reply,
        size_integer 6 user.service,
        size_integer 7 user.protocol,
        size_integer 8 grant.address,
        size_integer 27 user.timeout,
        size_text user.message,
        size_class grant.number,
      );
  none = granted_count 80 user.reply.attributes refl is.reply;
}

pub challenge_is_reply : (user : User) (number : ℕ) (draw : List ℕ) (p : Packet)
    → IfSome user.challenge (λ text. length text ≤ value_max) → length draw ≡ 16 → proxy_states_size p ≤ proxy_states_max
    → IsReply (access_challenge user number draw p)
challenge_is_reply user number draw p text drawn le =
    access_is_reply 11 (attribute_if_any 18 user.challenge ++ attribute 24 (state_value number draw)) p (inr (inr refl)) own le
  where
    own : IsOwn 474 (attribute_if_any 18 user.challenge ++ attribute 24 (state_value number draw))
    own =
        own-append 255 26 474 _ (attribute 24 (state_value number draw)) (omega arith)
        (own-text 18 user.challenge (λ e. omega (arith, e)) text)
        (own-one 24 24 (state_value number draw) (λ e. omega (arith, e))
        (omega (arith, length-append (to_be_bytes w64 number) draw, drawn)))

pub status_is_reply : (p : Packet) → proxy_states_size p ≤ proxy_states_max → IsReply (access_reply 2 [] p)
status_is_reply p le = access_is_reply 2 [] p (inl refl) (record { size = omega arith; none = refl }) le

pub fixed_is_reply : (fixed : FixedReply) (p : Packet) → proxy_states_size p ≤ proxy_states_max → IsReply (fixed_body p fixed)
fixed_is_reply (Status Auth) p le = status_is_reply p le
fixed_is_reply (Status Acct) p le = accounting_is_reply p le
fixed_is_reply (Denied denial) p le = reject_is_reply denial p le
fixed_is_reply Accounting p le = accounting_is_reply p le
