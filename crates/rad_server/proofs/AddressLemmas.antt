-- The address of a kept Access-Accept is that of its session, for as long as the reply is kept.
use Rattle.std.proofs.Common.{◌≡◌, ℕ, ◌+◌, ◌≤◌, ◌<◌, Bool, true, false, cond, eqb, nat_lt, List, [], ◌∷◌, ◌++◌, map, filter, find}
use Rattle.std.proofs.Common.{All, Contains, Option, Some, None, IfSome, option_map, arith, refl, sym, ap, ◌∙◌}
use Rattle.std.proofs.lemmas.Bool.{eqb-true, false≢true, ltb-true, lt-ltb}
use Rattle.std.proofs.lemmas.List.Elements.{All-cons, All-contains, All-head, All-nil, All-tail, All-weaker, Contains-append_left}
use Rattle.std.proofs.lemmas.List.Elements.{Contains-append_right, Contains-push}
use Rattle.rad_packet.specs.Attributes.{Attribute, first_value, is_of, of_kind}
use Rattle.rad_packet.specs.Bodies.{Body}
use Rattle.rad_packet.specs.Packets.{Packet}
use Rattle.rad_dictionary.specs.Dictionary.{may_be_granted}
use Rattle.rad_dictionary.specs.Meant.{IsGrantable}
use Rattle.rad_config.specs.declared.spans.Spans.{Spans}
use Rattle.rad_config.specs.declared.user.User.{User}
use Rattle.rad_pool.specs.Grants.{with_session}
use Rattle.rad_pool.specs.Sessions.{Sessions, cut, if_numbered, is_live, is_open, lasts_unless_stale, lives, renewed, session_ended}
use Rattle.rad_pool.specs.Sessions.{session_renewed, session_reset, source_reset, stopped, with_each}
use Rattle.rad_pool.specs.declared.grant.Grant.{Grant}
use Rattle.rad_pool.specs.declared.session.Phase.{Phase}
use Rattle.rad_pool.specs.declared.session.Phase.TheVariants.{Pending, Active, Ended}
use Rattle.rad_pool.specs.declared.session.Session.{Session}
use Rattle.rad_server.specs.Lawful.{HasItsSession}
use Rattle.rad_server.specs.Replies.{access_accept, attribute, attribute_if_any, class_value, four_octets}

-- ---- what an Access-Accept says

-- the first Value of a Type in a list and one that has none
first_before : (kind : ℕ) (xs ys : List Attribute) (o : Option (List ℕ)) → first_value kind xs ≡ o → first_value kind ys ≡ None
    → first_value kind (xs ++ ys) ≡ o
first_before kind [] ys o first none = none ∙ first
first_before kind (a ∷ xs) ys o first none = at kind a xs ys o (eqb a.kind kind) first (first_before kind xs ys o) none
  where
    at : (kind : ℕ) (a : Attribute) (xs ys : List Attribute) (o : Option (List ℕ)) (b : Bool)
        → option_map (λ x. x.value) (cond b (Some a) (find (is_of kind) xs)) ≡ o
        → (first_value kind xs ≡ o → first_value kind ys ≡ None → first_value kind (xs ++ ys) ≡ o) → first_value kind ys ≡ None
        → option_map (λ x. x.value) (cond b (Some a) (find (is_of kind) (xs ++ ys))) ≡ o
    at kind a xs ys o true first more none = first
    at kind a xs ys o false first more none = more first none

-- the same of a list that has none and one after it
first_after : (kind : ℕ) (xs ys : List Attribute) (o : Option (List ℕ)) → first_value kind xs ≡ None → first_value kind ys ≡ o
    → first_value kind (xs ++ ys) ≡ o
first_after kind [] ys o none first = first
first_after kind (a ∷ xs) ys o none first = at kind a xs ys o (eqb a.kind kind) none (first_after kind xs ys o) first
  where
    at : (kind : ℕ) (a : Attribute) (xs ys : List Attribute) (o : Option (List ℕ)) (b : Bool)
        → option_map (λ x. x.value) (cond b (Some a) (find (is_of kind) xs)) ≡ None
        → (first_value kind xs ≡ None → first_value kind ys ≡ o → first_value kind (xs ++ ys) ≡ o) → first_value kind ys ≡ o
        → option_map (λ x. x.value) (cond b (Some a) (find (is_of kind) (xs ++ ys))) ≡ o
    at kind a xs ys o true none more first = absurd cc
    at kind a xs ys o false none more first = more none first

-- an attribute of one Type is none of another
none_if_any : (kind other : ℕ) (value : Option (List ℕ)) → eqb other kind ≡ false
    → first_value kind (attribute_if_any other value) ≡ None
none_if_any kind other None apart = refl
none_if_any kind other (Some value) apart = rw (apart) refl

-- nor is any of the attributes of one Type
none_of_kind : (kind other : ℕ) (list : List Attribute) → eqb other kind ≡ false → first_value kind (of_kind other list) ≡ None
none_of_kind kind other [] apart = refl
none_of_kind kind other (a ∷ list) apart = at kind other a list (eqb a.kind other) refl apart (none_of_kind kind other list apart)
  where
    at : (kind other : ℕ) (a : Attribute) (list : List Attribute) (b : Bool) → eqb a.kind other ≡ b → eqb other kind ≡ false
        → first_value kind (of_kind other list) ≡ None
        → first_value kind (cond b (a ∷ of_kind other list) (of_kind other list)) ≡ None
    at kind other a list false is apart others = others
    at kind other a list true is apart others = rw (eqb-true a.kind other is, apart) others

-- nor is any that is granted of a Type that can't be
granted_none : (kind : ℕ) (list : List Attribute) → may_be_granted kind ≡ false → All IsGrantable list
    → first_value kind list ≡ None
granted_none kind [] kept_out all = refl
granted_none kind (a ∷ list) kept_out all =
    at (eqb a.kind kind) refl (granted_none kind list kept_out (All-tail IsGrantable a list all))
  where
    at : (b : Bool) → eqb a.kind kind ≡ b → first_value kind list ≡ None
        → option_map (λ (x : Attribute). x.value) (cond b (Some a) (find (is_of kind) list)) ≡ None
    at false e others = others
    at true e others = absurd (false≢true
        (sym kept_out ∙ ap may_be_granted (sym (eqb-true a.kind kind e)) ∙ (All-head IsGrantable a list all).kind))

-- an integer of an Access-Accept, as attributes
abbrev integer : ℕ → Option ℕ → List Attribute
integer kind number = attribute_if_any kind (option_map four_octets number)

-- the Class of an Access-Accept has the number of the session that is granted
pub accept_has_class : (user : User) (grant : Grant) (p : Packet) → All IsGrantable user.reply.attributes
    → first_value 25 (access_accept user grant p).attributes ≡ Some (class_value grant.number)
accept_has_class user grant p granted =
    let service : List Attribute = integer 6 user.service in
    let protocol : List Attribute = integer 7 user.protocol in
    let address : List Attribute = integer 8 grant.address in
    let timeout : List Attribute = integer 27 user.timeout in
    let message : List Attribute = attribute_if_any 18 user.message in
    let class : List Attribute = attribute 25 (class_value grant.number) in
    let none2 = first_after 25 service protocol None (none_if_any 25 6 (option_map four_octets user.service) refl)
    (none_if_any 25 7 (option_map four_octets user.protocol) refl) in
    let none3 = first_after 25 (service ++ protocol) address None none2
    (none_if_any 25 8 (option_map four_octets grant.address) refl) in
    let none4 = first_after 25 (service ++ protocol ++ address) timeout None none3
    (none_if_any 25 27 (option_map four_octets user.timeout) refl) in
    let none5 = first_after 25 (service ++ protocol ++ address ++ timeout) message None none4
    (none_if_any 25 18 user.message refl) in
    let found = first_after 25 (service ++ protocol ++ address ++ timeout ++ message) class (Some (class_value grant.number)) none5
    refl in
    let reply : List Attribute = user.reply.attributes in
    let first = first_before 25 (service ++ protocol ++ address ++ timeout ++ message ++ class) reply
    (Some (class_value grant.number)) found (granted_none 25 reply refl granted) in
    first_before 25 (service ++ protocol ++ address ++ timeout ++ message ++ class ++ reply) (of_kind 33 p.attributes)
    (Some (class_value grant.number)) first
    (none_of_kind 25 33 p.attributes refl)

-- the address of an Access-Accept is that of the session
pub accept_has_address : (user : User) (grant : Grant) (p : Packet) → All IsGrantable user.reply.attributes
    → first_value 8 (access_accept user grant p).attributes ≡ option_map four_octets grant.address
accept_has_address user grant p granted =
    let value : Option (List ℕ) = option_map four_octets grant.address in
    let service : List Attribute = integer 6 user.service in
    let protocol : List Attribute = integer 7 user.protocol in
    let address : List Attribute = integer 8 grant.address in
    let timeout : List Attribute = integer 27 user.timeout in
    let message : List Attribute = attribute_if_any 18 user.message in
    let class : List Attribute = attribute 25 (class_value grant.number) in
    let none2 = first_after 8 service protocol None (none_if_any 8 6 (option_map four_octets user.service) refl)
    (none_if_any 8 7 (option_map four_octets user.protocol) refl) in
    let found3 = first_after 8 (service ++ protocol) address value none2 (own grant.address) in
    let found4 = first_before 8 (service ++ protocol ++ address) timeout value found3
    (none_if_any 8 27 (option_map four_octets user.timeout) refl) in
    let found5 = first_before 8 (service ++ protocol ++ address ++ timeout) message value found4
    (none_if_any 8 18 user.message refl) in
    let found6 = first_before 8 (service ++ protocol ++ address ++ timeout ++ message) class value found5 refl in
    let reply : List Attribute = user.reply.attributes in
    let found7 = first_before 8 (service ++ protocol ++ address ++ timeout ++ message ++ class) reply value found6
    (granted_none 8 reply refl granted) in
    first_before 8 (service ++ protocol ++ address ++ timeout ++ message ++ class ++ reply) (of_kind 33 p.attributes) value found7
    (none_of_kind 8 33 p.attributes refl)
  where
    own : (o : Option ℕ) → first_value 8 (integer 8 o) ≡ option_map four_octets o
    own None = refl
    own (Some address) = refl

-- ---- sessions that are still there

-- the image of each element is in the image of a list
contains_mapped : {X Y : Type 0} (f : X → Y) (xs : List X) → All (λ x. Contains (map f xs) (f x)) xs
contains_mapped f [] = All-nil _
contains_mapped {X} {Y} f (x ∷ xs) =
    All-cons (λ y. Contains (f x ∷ map f xs) (f y)) x xs (0, omega arith, refl)
    (All-weaker (λ y. Contains (map f xs) (f y)) (λ y. Contains (f x ∷ map f xs) (f y))
    (λ y there. Contains-append_right (f x ∷ []) (map f xs) (f y) there) xs (contains_mapped f xs))

-- each element that passes a test is in the filtered list
contains_filtered : {X : Type 0} (p : X → Bool) (xs : List X) → All (λ x. p x ≡ true → Contains (filter p xs) x) xs
contains_filtered p [] = All-nil _
contains_filtered {X} p (x ∷ xs) =
    All-cons (λ y. p y ≡ true → Contains (filter p (x ∷ xs)) y) x xs (λ passes. rw (passes) (0, omega arith, refl))
    (All-weaker (λ y. p y ≡ true → Contains (filter p xs) y) (λ y. p y ≡ true → Contains (filter p (x ∷ xs)) y)
    (λ y there passes. either x (filter p xs) y (p x) (there passes)) xs (contains_filtered p xs))
  where
    either : {X : Type 0} (x : X) (xs : List X) (y : X) (b : Bool) → Contains xs y → Contains (cond b (x ∷ xs) xs) y
    either x xs y true there = Contains-append_right (x ∷ []) xs y there
    either x xs y false there = there

-- another session has the number, the address and the moment of a session
pub record IsStill (session other : Session) : Type 0 where
  pub number : other.number ≡ session.number
  pub address : other.address ≡ session.address
  pub made : other.made ≡ session.made

-- each session of a table is still in another
abbrev pub KeepsSessions : Sessions → Sessions → Type 0
KeepsSessions old new =
    (session : Session) → Contains old.sessions session → (other : Session) × Contains new.sessions other × IsStill session other

-- a reply has its session while sessions are kept
pub still_has : (old new : Sessions) (body : Body) (made : ℕ) → KeepsSessions old new → HasItsSession old body made
    → HasItsSession new body made
still_has old new body made keeps has accept value gives =
    let found = has accept value gives in
    let still = keeps found.0 found.1 in (
      still.0,
      still.1,
      record {
        address = ap (option_map four_octets) still.2.address ∙ found.2.address;
        number = found.2.number ∙ ap (λ n. Some (class_value n)) (sym still.2.number);
      },
      still.2.made ∙ found.3,
    )

-- a grant and each report keep sessions
pub grant_keeps : (client source user now : ℕ) (grant : Grant) (table : Sessions)
    → KeepsSessions table (with_session client source user now grant table)
grant_keeps client source user now grant table = λ session there.
    (session, Contains-append_left table.sessions _ session there, record { number = refl; address = refl; made = refl })

-- a session is still there, changed or not
either_is_still : (b : Bool) (session changed : Session) → IsStill session changed → IsStill session (cond b changed session)
either_is_still true session changed is = is
either_is_still false session changed is = record { number = refl; address = refl; made = refl }

each_keeps : (change : Session → Session) → ((session : Session) → IsStill session (change session)) → (table : Sessions)
    → KeepsSessions table (with_each change table)
each_keeps change is_still table = λ session there. (
  change session,
  All-contains (λ s. Contains (map change table.sessions) (change s)) table.sessions session (contains_mapped change table.sessions)
      there,
  is_still session,
)

pub renewal_keeps : (number now : ℕ) (table : Sessions) → KeepsSessions table (renewed number now table)
renewal_keeps number now table =
    each_keeps (if_numbered (session_renewed now) number)
    (λ session. either_is_still (eqb session.number number) session (session_renewed now session)
    (either_is_still (is_open session.phase) session (record session { phase = Active; seen = now })
    (record { number = refl; address = refl; made = refl }))) table

end_is_still : (session : Session) → IsStill session (session_ended session)
end_is_still session = record { number = refl; address = refl; made = refl }

pub stop_keeps : (number : ℕ) (table : Sessions) → KeepsSessions table (stopped number table)
stop_keeps number table =
    each_keeps (if_numbered session_ended number)
    (λ session. either_is_still (eqb session.number number) session (session_ended session) (end_is_still session)) table

pub reset_keeps : (source : ℕ) (table : Sessions) → KeepsSessions table (source_reset source table)
reset_keeps source table =
    each_keeps (session_reset source)
    (λ session. either_is_still (eqb session.source source) session (session_ended session) (end_is_still session)) table

-- how long a session that was granted lives: at least as long as a reply is kept
pub record OutlastReplies (spans : Spans) : Type 0 where
  pub hold : spans.window ≤ spans.hold
  pub stale : IfSome spans.stale (λ stale. spans.window ≤ stale)

-- a session lives at least for the window after its grant
lives_on : (spans : Spans) (now : ℕ) (session : Session) (phase : Phase) → OutlastReplies spans → session.made ≤ session.seen
    → now < session.made + spans.window → lives spans now phase session ≡ true
lives_on spans now session Pending outlast seen live = lt-ltb now (session.made + spans.hold) (omega (arith, outlast.hold, live))
lives_on spans now session Active outlast seen live = heard spans.stale outlast.stale
  where
    heard : (stale : Option ℕ) → IfSome stale (λ span. spans.window ≤ span) → lasts_unless_stale now session.seen stale ≡ true
    heard None long = refl
    heard (Some span) long = lt-ltb now (session.seen + span) (omega (arith, long, live, seen))
lives_on spans now session Ended outlast seen live = lt-ltb now (session.made + spans.window) live

-- a session was not heard of before its grant
pub record WasSeen (session : Session) : Type 0 where
  pub seen : session.made ≤ session.seen

-- a reply that is live still has its session, after those that are no longer live were removed
pub live_has : (now window : ℕ) (table : Sessions) (body : Body) (made : ℕ) → window ≡ table.spans.window
    → OutlastReplies table.spans → All WasSeen table.sessions
    → nat_lt now (made + window) ≡ true → HasItsSession table body made → HasItsSession (cut now table) body made
live_has now window table body made same outlast seen live has accept value gives =
    let found = has accept value gives in
    let was : WasSeen found.0 = All-contains WasSeen table.sessions found.0 seen found.1 in
    let alive : is_live table.spans now found.0 ≡ true =
    lives_on table.spans now found.0 found.0.phase outlast was.seen
    (omega (arith, ltb-true now (made + window) live, same, found.3)) in (
      found.0,
      All-contains (λ s. is_live table.spans now s ≡ true → Contains (filter (is_live table.spans now) table.sessions) s)
          table.sessions found.0
          (contains_filtered (is_live table.spans now) table.sessions) found.1 alive,
      found.2,
      found.3,
    )

-- an Access-Accept has the session that is granted
pub accept_has_session : (client source user_place now : ℕ) (user : User) (grant : Grant) (p : Packet) (table : Sessions)
    → All IsGrantable user.reply.attributes
    → HasItsSession (with_session client source user_place now grant table) (access_accept user grant p) now
accept_has_session client source user_place now user grant p table granted accept value gives =
    let new : Session = record {
      number = grant.number;
      client = client;
      source = source;
      user = user_place;
      address = grant.address;
      phase = Pending;
      made = now;
      seen = now;
    } in (
      new,
      Contains-push table.sessions new,
      record {
        address = sym (accept_has_address user grant p granted) ∙ gives;
        number = accept_has_class user grant p granted;
      },
      refl,
    )
