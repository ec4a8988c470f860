use Rattle.std.proofs.Common.{◌≡◌, ◌⊎◌, ℕ, ◌+◌, ◌-◌, ◌≤◌, ◌<◌, Bool, true, false, not, cond, ◌&&◌, ◌||◌, ◌==◌, nat_le, List, []}
use Rattle.std.proofs.Common.{◌∷◌, ◌++◌, length, get_or, map, filter, find, count_by, sum_by, All, Contains, Option, Some, None}
use Rattle.std.proofs.Common.{IfSome, option_map, Result, Ok, Err, ok_or, slice_get, arith, inl, inr, refl, sym, ap, subst, ◌∙◌}
use Rattle.std.specs.List.{position_or_len, range_with_len}
use Rattle.std.proofs.lemmas.Bool.{and_from, and_parts, both_ways, cond_both, eq-eqb, eqb-true, leb-false, leb-true, not-false}
use Rattle.std.proofs.lemmas.Bool.{not-true, or_parts}
use Rattle.std.proofs.lemmas.List.{get_or-map, length-map, length_push}
use Rattle.std.proofs.lemmas.List.Elements.{All-contains, All-contains_itself, All-filter, All-map, All-push, All-weaker}
use Rattle.std.proofs.lemmas.List.Elements.{Contains-push_cases}
use Rattle.std.proofs.lemmas.List.Filters.{sum_by-filter_both}
use Rattle.std.proofs.lemmas.List.Folds.{find_at, fold-map, list_any_at}
use Rattle.std.proofs.lemmas.List.FromFn.{get_or-range_with_len, length-range_with_len}
use Rattle.std.proofs.lemmas.List.Kept.{AllPairs-filter}
use Rattle.std.proofs.lemmas.List.Quantifiers.{all_pairs_push}
use Rattle.std.proofs.lemmas.List.Sums.{count_by-le-length, length-filter, passes_at_first, sum_by-le-sum_by, sum_by_push}
use Rattle.std.proofs.lemmas.Option.{IfSome_then, get_or_from_slice_get, slice_get_within}
use Rattle.rad_packet.specs.Ladders.{◌>>=◌, refuse_if}
use Rattle.rad_config.specs.Configurations.{Configuration, is_reached}
use Rattle.rad_config.specs.declared.pool.Pool.{Pool}
use Rattle.rad_config.specs.declared.spans.Spans.{Spans}
use Rattle.rad_pool.specs.Grants.{address_from, grant_limit, granted, has_address, is_held, is_limited, last_number, least_free}
use Rattle.rad_pool.specs.Grants.{open_sessions, pool_of, session_limit, sessions_of, with_session}
use Rattle.rad_pool.specs.Lawful.{HaveOwnAddresses, IsInPool, IsLawful, IsLawfulSession}
use Rattle.rad_pool.specs.Restored.{with_row}
use Rattle.rad_pool.specs.Sessions.{Sessions, cut, if_numbered, is_live, is_open, opening, renewed, session_ended, session_renewed}
use Rattle.rad_pool.specs.Sessions.{session_reset, sessions_max, source_reset, stopped, with_each}
use Rattle.rad_pool.specs.declared.grant.Grant.{Grant}
use Rattle.rad_pool.specs.declared.grant.Refusal.{Refusal}
use Rattle.rad_pool.specs.declared.grant.Refusal.TheVariants.{SessionLimit, NoAddress, Full}
use Rattle.rad_pool.specs.declared.session.Phase.TheVariants.{Pending, Active}
use Rattle.rad_pool.specs.declared.session.Session.{Session}

-- ---- lists

-- what a filter leaves was in the list
Contains-filter : {X : Type 0} (p : X → Bool) (xs : List X) (x : X) → Contains (filter p xs) x → Contains xs x
Contains-filter p xs x there =
    All-contains (Contains xs) (filter p xs) x (All-filter p (Contains xs) xs (All-contains_itself xs)) there

-- what a mapped list contains came from the list
Contains-map : {X Y : Type 0} (f : X → Y) (xs : List X) (y : Y) → Contains (map f xs) y → (x : X) × (Contains xs x) × (y ≡ f x)
Contains-map {X} {Y} f xs y there =
    let CameFrom : Y → Type 0 = λ z. (x : X) × (Contains xs x) × (z ≡ f x) in
    let images : All (λ x. CameFrom (f x)) xs =
    All-weaker (Contains xs) (λ x. CameFrom (f x)) (λ x within. (x, within, refl)) xs (All-contains_itself xs) in
    All-contains CameFrom (map f xs) y (All-map CameFrom f xs images) there

-- a filter counts no more
count_by-filter-le : {X : Type 0} (p q : X → Bool) (xs : List X) → count_by p (filter q xs) ≤ count_by p xs
count_by-filter-le {X} p q xs =
    let one : X → ℕ = λ x. cond (p x) 1 0 in
    omega (arith, sum_by-filter_both q (λ x. not (q x)) (λ x. refl) one xs)

-- a map counts no more if each element passes only where it passed before
count_by-map-le : {X : Type 0} (p : X → Bool) (f : X → X) (xs : List X) → ((x : X) → p (f x) ≡ true → p x ≡ true)
    → count_by p (map f xs) ≤ count_by p xs
count_by-map-le {X} p f xs falls =
    let one : X → ℕ = λ x. cond (p x) 1 0 in
    let moved : sum_by one (map f xs) ≡ sum_by (λ x. one (f x)) xs = fold-map (λ n x. n + one x) f 0 xs in
    omega (arith, moved, sum_by-le-sum_by (λ x. one (f x)) one xs (λ x. one_falls (p (f x)) (p x) (falls x)))
  where
    one_falls : (b c : Bool) → (b ≡ true → c ≡ true) → cond b 1 0 ≤ cond c 1 0
    one_falls false c h = omega arith
    one_falls true true h = omega arith
    one_falls true false h = absurd (both_ways false refl (h refl))

-- what is found among numbers in a row passes the test, and is one of them
found_in_range : (fits : ℕ → Bool) (first n found : ℕ) → find fits (range_with_len first n) ≡ Some found
    → (fits found ≡ true) × (first ≤ found) × (found < first + n)
found_in_range fits first n found is =
    let range : List ℕ = range_with_len first n in
    let place : ℕ = position_or_len fits range in
    let there : slice_get range place ≡ Some found = sym (find_at fits range) ∙ is in
    let within : place < length range = slice_get_within range place found there in
    let read : get_or range place 0 ≡ found = get_or_from_slice_get range place found 0 there in
    let below : place < n = omega (arith, within, length-range_with_len first n) in
    let number : get_or range place 0 ≡ first + place = get_or-range_with_len first n place 0 below in
    (ap fits (sym read) ∙ passes_at_first fits range 0 within, omega (arith, read, number), omega (arith, read, number, below))

-- ---- ladders

-- a ladder that gives a value has passed each check, and has got a value of each step
pub past_refusal : {B E : Type 0} (refused : Bool) (refusal : E) (next : Unit {0} → Result B E) (value : B)
    → (refuse_if refused refusal >>= next) ≡ Ok value → (refused ≡ false) × (next tt ≡ Ok value)
past_refusal true refusal next value is = absurd (cc)
past_refusal false refusal next value is = (refl, is)

past_step : {A B E : Type 0} (step : Result A E) (next : A → Result B E) (value : B)
    → (step >>= next) ≡ Ok value → (x : A) × (step ≡ Ok x) × (next x ≡ Ok value)
past_step (Ok x) next value is = (x, refl, is)
past_step (Err refusal) next value is = absurd (cc)

-- ---- no sessions

pub opening_is_lawful : (configuration : Configuration) (clock : ℕ) (spans : Spans) → IsLawful configuration clock (opening spans)
opening_is_lawful configuration clock spans = record {
  next = (omega arith, omega arith);
  few = omega arith;
  rising = λ i j d before within. absurd (omega arith);
  sessions = λ k d within. absurd (omega arith);
  limits = λ user. omega arith;
  grants = λ user. none_yet (grant_limit configuration user);
  addresses = λ one other address there here is same. absurd (omega arith);
}
  where
    none_yet : (limit : Option ℕ) → IfSome limit (λ most. 0 ≤ most)
    none_yet None = tt
    none_yet (Some most) = omega arith

-- ---- time

pub later_is_lawful : (configuration : Configuration) (clock now : ℕ) (table : Sessions) → clock ≤ now
    → IsLawful configuration clock table
    → IsLawful configuration now table
later_is_lawful configuration clock now table later lawful = record {
  next = lawful.next;
  few = lawful.few;
  rising = lawful.rising;
  limits = lawful.limits;
  grants = lawful.grants;
  addresses = lawful.addresses;
  sessions = All-weaker (IsLawfulSession configuration clock table.next) (IsLawfulSession configuration now table.next)
      (λ session known. record {
        number = known.number;
        client = known.client;
        user = known.user;
        address = known.address;
        seen = (known.seen.0, omega (arith, known.seen.1));
      }) table.sessions lawful.sessions;
}

pub cut_is_lawful : (configuration : Configuration) (now : ℕ) (table : Sessions) → IsLawful configuration now table
    → IsLawful configuration now (cut now table)
cut_is_lawful configuration now table lawful =
    let live : Session → Bool = is_live table.spans now in
    let sessions : List Session = table.sessions in
    record {
      next = lawful.next;
      few = omega (arith, length-filter live sessions, count_by-le-length live sessions, lawful.few);
      rising = AllPairs-filter (λ (earlier later : Session). earlier.number < later.number) live sessions lawful.rising;
      sessions = All-filter live (IsLawfulSession configuration now table.next) sessions lawful.sessions;
      limits = λ user.
          omega (
            arith,
            lawful.limits user,
            count_by-filter-le (λ session. (session.user == user) && is_open session.phase) live sessions,
          );
      grants = λ user. IfSome_then (grant_limit configuration user) (lawful.grants user)
          (λ most within. omega (arith, within, count_by-filter-le (λ session. session.user == user) live sessions));
      addresses = λ one other address there here.
          lawful.addresses one other address (Contains-filter live sessions one there) (Contains-filter live sessions other here);
    }

-- ---- a grant

-- an address that is granted is in the pool, and no session has it
address_is_free : (sessions : List Session) (pool : Option Pool) (address : Option ℕ) → address_from sessions pool ≡ Ok address
    → IfSome address (λ given. IsInPool pool given × (is_held sessions given ≡ false))
unfolding address_from
address_is_free sessions None address is =
    let none : None ≡ address = cc in
    subst (λ o. IfSome o (λ given. IsInPool None given × (is_held sessions given ≡ false))) none tt
address_is_free sessions (Some pool) address is = by_search (least_free sessions pool) refl is
  where
    by_search : (found : Option ℕ) → least_free sessions pool ≡ found → ok_or (option_map Some found) NoAddress ≡ Ok address
        → IfSome address (λ given. IsInPool (Some pool) given × (is_held sessions given ≡ false))
    by_search None searched is = absurd (cc)
    by_search (Some given) searched is =
        let same : Some given ≡ address = cc in
        let found = found_in_range (λ a. not (is_held sessions a)) pool.first (pool.last + 1 - pool.first) given searched in
        let low : pool.first ≤ given = found.1 in
        let high : given < pool.first + (pool.last + 1 - pool.first) = found.2 in
        let free : is_held sessions given ≡ false = not-true (is_held sessions given) found.0 in
        subst (λ o. IfSome o (λ a. IsInPool (Some pool) a × (is_held sessions a ≡ false))) same ((low, omega arith), free)

-- what a grant says of the table
record AllowsGrant (configuration : Configuration) (user : ℕ) (table : Sessions) (grant : Grant) : Type 0 where
  below : nat_le (session_limit configuration user) (open_sessions user table.sessions) ≡ false
  spared : is_reached (grant_limit configuration user) (sessions_of user table.sessions) ≡ false
  address : address_from table.sessions (pool_of configuration user) ≡ Ok grant.address
  few : length table.sessions < sessions_max
  last : table.next ≤ last_number
  number : grant.number ≡ table.next

granted_says : (configuration : Configuration) (user : ℕ) (table : Sessions) (grant : Grant)
    → granted configuration user table ≡ Ok grant
    → AllowsGrant configuration user table grant
unfolding granted
granted_says configuration user table grant is =
    let at_limit : Bool = is_limited configuration user table.sessions in
    let many : Bool = nat_le sessions_max (length table.sessions) in
    let none_left : Bool = not (nat_le table.next last_number) in
    let given : Option ℕ → Result Grant Refusal = λ address. Ok (record { number = table.next; address = address }) in
    let last_check : Option ℕ → Result Grant Refusal = λ address. refuse_if (many || none_left) Full >>= (λ fits. given address) in
    let address : Result (Option ℕ) Refusal = address_from table.sessions (pool_of configuration user) in
    let below = past_refusal at_limit SessionLimit (λ below. address >>= last_check) grant is in
    let addressed = past_step address last_check grant below.1 in
    let fits = past_refusal (many || none_left) Full (λ fits. given addressed.0) grant addressed.2 in
    let parts = or_parts many none_left fits.0 in
    let limits = or_parts (nat_le (session_limit configuration user) (open_sessions user table.sessions))
    (is_reached (grant_limit configuration user) (sessions_of user table.sessions)) below.0 in
    let made : Grant = record { number = table.next; address = addressed.0 } in
    let same : made ≡ grant = cc in
    let address_in : Grant → Result (Option ℕ) Refusal = λ g. Ok g.address in
    record {
      below = limits.0;
      spared = limits.1;
      address = addressed.1 ∙ ap address_in same;
      few = leb-false sessions_max (length table.sessions) parts.0;
      last = leb-true table.next last_number (not-false (nat_le table.next last_number) parts.1);
      number = sym (ap (λ (g : Grant). g.number) same);
    }

-- ---- one session more

-- what a session has to be, to come last in a lawful table with its number
pub record CanFollow (configuration : Configuration) (clock : ℕ) (row : Session) (table : Sessions) : Type 0 where
  pub rises : table.next ≤ row.number
  pub last : row.number ≤ last_number
  pub lawful : IsLawfulSession configuration clock (row.number + 1) row
  pub free : IfSome row.address (λ given. is_held table.sessions given ≡ false)
  pub below : (is_open row.phase && nat_le (session_limit configuration row.user) (open_sessions row.user table.sessions)) ≡ false
  pub spared : is_reached (grant_limit configuration row.user) (sessions_of row.user table.sessions) ≡ false
  pub few : length table.sessions < sessions_max

-- a lawful session is so beside a greater next number
pub lawful_below : (configuration : Configuration) (clock next later : ℕ) → next ≤ later → (session : Session)
    → IsLawfulSession configuration clock next session → IsLawfulSession configuration clock later session
lawful_below configuration clock next later more session known = record {
  number = (known.number.0, omega (arith, known.number.1, more));
  client = known.client;
  user = known.user;
  address = known.address;
  seen = known.seen;
}

-- one more session, open or not, of a user who may have one more like it
limits_with_session : (configuration : Configuration) (other : ℕ) (sessions : List Session) (new : Session)
    → (is_open new.phase && nat_le (session_limit configuration new.user) (open_sessions new.user sessions)) ≡ false
    → open_sessions other sessions ≤ session_limit configuration other
    → open_sessions other (sessions ++ new ∷ []) ≤ session_limit configuration other
limits_with_session configuration other sessions new below within =
    by_test (new.user == other) refl (is_open new.phase) refl
    (sum_by_push (λ session. cond {A = ℕ} ((session.user == other) && is_open session.phase) 1 0) sessions new)
  where
    one : ℕ
    one = cond ((new.user == other) && is_open new.phase) 1 0

    by_test : (b : Bool) → (new.user == other) ≡ b → (o : Bool) → is_open new.phase ≡ o
        → open_sessions other (sessions ++ new ∷ []) ≡ open_sessions other sessions + one
        → open_sessions other (sessions ++ new ∷ []) ≤ session_limit configuration other
    by_test false is o e sum =
        let none : one ≡ 0 = ap (λ b. cond {A = ℕ} (b && is_open new.phase) 1 0) is in
        omega (arith, sum, none, within)
    by_test true is false e sum =
        let none : one ≡ 0 = λ j. cond {A = ℕ} (is j && e j) 1 0 in
        omega (arith, sum, none, within)
    by_test true is true e sum =
        let counted : one ≡ 1 = λ j. cond {A = ℕ} (is j && e j) 1 0 in
        let limit : ℕ = session_limit configuration new.user in
        let full : Bool = nat_le limit (open_sessions new.user sessions) in
        let less = leb-false limit (open_sessions new.user sessions) (sym (ap (λ b. b && full) e) ∙ below) in
        let room = subst (λ u. open_sessions u sessions < session_limit configuration u) (eqb-true new.user other is) less in
        omega (arith, sum, counted, room)

-- one more session of a user who may have one more
grants_with_session : (configuration : Configuration) (other : ℕ) (sessions : List Session) (new : Session)
    → is_reached (grant_limit configuration new.user) (sessions_of new.user sessions) ≡ false
    → IfSome (grant_limit configuration other) (λ most. sessions_of other sessions ≤ most)
    → IfSome (grant_limit configuration other) (λ most. sessions_of other (sessions ++ new ∷ []) ≤ most)
grants_with_session configuration other sessions new spared within =
    by_test (new.user == other) refl (sum_by_push (λ (session : Session). cond {A = ℕ} (session.user == other) 1 0) sessions new)
  where
    not_reached : (limit : Option ℕ) (count more : ℕ) → is_reached limit count ≡ false → more ≡ count + 1
        → IfSome limit (λ most. more ≤ most)
    not_reached None count more free is = tt
    not_reached (Some most) count more free is = omega (arith, leb-false most count free, is)

    by_test : (b : Bool) → (new.user == other) ≡ b
        → sessions_of other (sessions ++ new ∷ []) ≡ sessions_of other sessions + cond (new.user == other) 1 0
        → IfSome (grant_limit configuration other) (λ most. sessions_of other (sessions ++ new ∷ []) ≤ most)
    by_test true is sum =
        not_reached (grant_limit configuration other) (sessions_of other sessions) _
        (subst (λ u. is_reached (grant_limit configuration u) (sessions_of u sessions) ≡ false) (eqb-true new.user other is) spared)
        (sum ∙ ap (λ b. sessions_of other sessions + cond {A = ℕ} b 1 0) is)
    by_test false is sum =
        let none : ◌≡◌ {A = ℕ} (cond (new.user == other) 1 0) 0 = rw is refl in
        IfSome_then (grant_limit configuration other) within (λ most few. omega (arith, sum, none, few))

-- the address of a session is held
holds : (sessions : List Session) (session : Session) (address : ℕ) → Contains sessions session → session.address ≡ Some address
    → is_held sessions address ≡ true
holds sessions session address there is =
    let has : has_address address session ≡ true = rw is (eq-eqb address address refl) in
    list_any_at (has_address address) sessions there.0 session there.1 (ap (has_address address) there.2 ∙ has)

-- a new session with an address that no other has
addresses_with_session : (sessions : List Session) (new : Session) → HaveOwnAddresses sessions
    → IfSome new.address (λ given. is_held sessions given ≡ false) → HaveOwnAddresses (sessions ++ new ∷ [])
addresses_with_session sessions new own free one other address there here is same =
    by_cases (Contains-push_cases sessions new one there) (Contains-push_cases sessions new other here)
  where
    is_free : (session : Session) → Contains sessions session → session.address ≡ Some address → new.address ≡ Some address → ⊥
    is_free session within has given =
        let known : is_held sessions address ≡ false = subst (λ o. IfSome o (λ a. is_held sessions a ≡ false)) given free in
        both_ways (is_held sessions address) known (holds sessions session address within has)

    by_cases : (Contains sessions one ⊎ (new ≡ one)) → (Contains sessions other ⊎ (new ≡ other)) → one.number ≡ other.number
    by_cases (inl first) (inl second) = own one other address first second is same
    by_cases (inl first) (inr second) = absurd (is_free one first is (ap (λ s. s.address) second ∙ same))
    by_cases (inr first) (inl second) = absurd (is_free other second same (ap (λ s. s.address) first ∙ is))
    by_cases (inr first) (inr second) = ap (λ s. s.number) (sym first ∙ second)

pub with_row_is_lawful : (configuration : Configuration) (clock : ℕ) (row : Session) (table : Sessions)
    → CanFollow configuration clock row table → IsLawful configuration clock table
    → IsLawful configuration clock (with_row row table)
with_row_is_lawful configuration clock row table follows lawful =
    let sessions : List Session = table.sessions in
    record {
      next = (omega arith, omega (arith, follows.last));
      few = omega (arith, length_push sessions row, follows.few);
      rising = all_pairs_push (λ (earlier later : Session). earlier.number < later.number) sessions row lawful.rising
          (λ k d within. omega (arith, (lawful.sessions k d within).number.1, follows.rises));
      sessions = All-push (IsLawfulSession configuration clock (row.number + 1)) sessions row
          (All-weaker (IsLawfulSession configuration clock table.next) (IsLawfulSession configuration clock (row.number + 1))
          (lawful_below configuration clock table.next (row.number + 1) (omega (arith, follows.rises))) sessions lawful.sessions)
          follows.lawful;
      limits = λ other. limits_with_session configuration other sessions row follows.below (lawful.limits other);
      grants = λ other. grants_with_session configuration other sessions row follows.spared (lawful.grants other);
      addresses = addresses_with_session sessions row lawful.addresses follows.free;
    }

pub with_session_is_lawful : (configuration : Configuration) (client source user now : ℕ) (grant : Grant) (table : Sessions)
    → client < length configuration.clients → user < length configuration.users → granted configuration user table ≡ Ok grant
    → IsLawful configuration now table → IsLawful configuration now (with_session client source user now grant table)
with_session_is_lawful configuration client source user now grant table known_client known_user is lawful =
    let sessions : List Session = table.sessions in
    let facts = granted_says configuration user table grant is in
    let new : Session = record {
      number = grant.number;
      client = client;
      source = source;
      user = user;
      address = grant.address;
      phase = Pending;
      made = now;
      seen = now;
    } in
    let free = address_is_free sessions (pool_of configuration user) grant.address facts.address in
    let whole = with_row_is_lawful configuration now new table (record {
      rises = omega (arith, facts.number);
      last = omega (arith, facts.number, facts.last);
      lawful = record {
        number = (omega (arith, facts.number, lawful.next.0), omega arith);
        client = known_client;
        user = known_user;
        address = IfSome_then grant.address free (λ given both. both.0);
        seen = (omega arith, omega arith);
      };
      free = IfSome_then grant.address free (λ given both. both.1);
      below = facts.below;
      spared = facts.spared;
      few = facts.few;
    }) lawful in
    subst (λ n. IsLawful configuration now (record { sessions = sessions ++ new ∷ []; next = n + 1; spans = table.spans }))
    facts.number whole

-- ---- reports

-- a change of sessions that keeps what the law reads of others, keeps each session lawful, and opens none
record IsLawfulChange (configuration : Configuration) (clock : ℕ) (change : Session → Session) : Type 0 where
  number : (session : Session) → (change session).number ≡ session.number
  user : (session : Session) → (change session).user ≡ session.user
  address : (session : Session) → (change session).address ≡ session.address
  law : (next : ℕ) (session : Session) → IsLawfulSession configuration clock next session
      → IsLawfulSession configuration clock next (change session)
  opens_none : (user : ℕ) (session : Session) → (((change session).user == user) && is_open (change session).phase) ≡ true
      → ((session.user == user) && is_open session.phase) ≡ true

-- the same change of those that pass a test
chosen : (configuration : Configuration) (clock : ℕ) (test : Session → Bool) (change : Session → Session)
    → IsLawfulChange configuration clock change
    → IsLawfulChange configuration clock (λ session. cond (test session) (change session) session)
chosen configuration clock test change lawful = record {
  number = λ session. cond_both (test session) (change session) session (λ s. s.number ≡ session.number)
      (λ _. lawful.number session) (λ _. refl);
  user = λ session. cond_both (test session) (change session) session (λ s. s.user ≡ session.user) (λ _. lawful.user session)
      (λ _. refl);
  address = λ session. cond_both (test session) (change session) session (λ s. s.address ≡ session.address)
      (λ _. lawful.address session) (λ _. refl);
  law = λ next session known.
      cond_both (test session) (change session) session (IsLawfulSession configuration clock next)
      (λ _. lawful.law next session known) (λ _. known);
  opens_none = λ user session.
      cond_both (test session) (change session) session
      (λ s. ((s.user == user) && is_open s.phase) ≡ true → ((session.user == user) && is_open session.phase) ≡ true)
      (λ _. lawful.opens_none user session) (λ _ is. is);
}

-- an open session that is heard of now
renewal_is_lawful : (configuration : Configuration) (clock : ℕ) → IsLawfulChange configuration clock (session_renewed clock)
renewal_is_lawful configuration clock = record {
  number = λ session. cond_both (is_open session.phase) (active session) session (λ s. s.number ≡ session.number) (λ _. refl)
      (λ _. refl);
  user = λ session. cond_both (is_open session.phase) (active session) session (λ s. s.user ≡ session.user) (λ _. refl) (λ _. refl);
  address = λ session. cond_both (is_open session.phase) (active session) session (λ s. s.address ≡ session.address) (λ _. refl)
      (λ _. refl);
  law = λ next session known.
      cond_both (is_open session.phase) (active session) session (IsLawfulSession configuration clock next)
      (λ _. record {
        number = known.number;
        client = known.client;
        user = known.user;
        address = known.address;
        seen = (omega (arith, known.seen.0, known.seen.1), omega arith);
      })
      (λ _. known);
  opens_none = λ user session.
      cond_both (is_open session.phase) (active session) session
      (λ s. ((s.user == user) && is_open s.phase) ≡ true → ((session.user == user) && is_open session.phase) ≡ true)
      (λ opened is. and_from (session.user == user) (is_open session.phase) (and_parts (session.user == user) true is).0 opened)
      (λ _ is. is);
}
  where
    active : Session → Session
    active session = record session { phase = Active; seen = clock }

-- a session that ends
end_is_lawful : (configuration : Configuration) (clock : ℕ) → IsLawfulChange configuration clock session_ended
end_is_lawful configuration clock = record {
  number = λ session. refl;
  user = λ session. refl;
  address = λ session. refl;
  law = λ next session known. record {
    number = known.number;
    client = known.client;
    user = known.user;
    address = known.address;
    seen = known.seen;
  };
  opens_none = λ user session is. absurd (both_ways false refl (and_parts (session.user == user) false is).1);
}

-- the number at a place, after a change
number_at : (change : Session → Session) → ((session : Session) → (change session).number ≡ session.number)
    → (sessions : List Session) (k : ℕ) (d : Session) → k < length sessions
    → (get_or (map change sessions) k d).number ≡ (get_or sessions k d).number
number_at change keeps sessions k d within =
    ap (λ s. s.number) (get_or-map change sessions k d d within) ∙ keeps (get_or sessions k d)

change_is_lawful : (configuration : Configuration) (clock : ℕ) (change : Session → Session)
    → IsLawfulChange configuration clock change
    → (table : Sessions) → IsLawful configuration clock table → IsLawful configuration clock (with_each change table)
change_is_lawful configuration clock change changes table lawful =
    let sessions : List Session = table.sessions in
    record {
      next = lawful.next;
      few = omega (arith, length-map sessions change, lawful.few);
      rising = λ i j d before within.
          let there : j < length sessions = omega (arith, length-map sessions change) in
          let first = number_at change changes.number sessions i d (omega arith) in
          let second = number_at change changes.number sessions j d there in
          omega (arith, first, second, lawful.rising i j d before there);
      sessions = All-map (IsLawfulSession configuration clock table.next) change sessions
          (All-weaker (IsLawfulSession configuration clock table.next)
          (λ s. IsLawfulSession configuration clock table.next (change s))
          (changes.law table.next) sessions lawful.sessions);
      limits = λ user.
          let is_counted : Session → Bool = λ session. (session.user == user) && is_open session.phase in
          omega (arith, lawful.limits user, count_by-map-le is_counted change sessions (changes.opens_none user));
      grants = λ user.
          IfSome_then (grant_limit configuration user) (lawful.grants user)
          (λ most few. omega (
            arith,
            few,
            count_by-map-le (λ session. session.user == user) change sessions
                (λ session is. ap (λ u. u == user) (sym (changes.user session)) ∙ is),
          ));
      addresses = λ one other address there here is same.
          let first = Contains-map change sessions one there in
          let second = Contains-map change sessions other here in
          let held = sym (changes.address first.0) ∙ ap (λ s. s.address) (sym first.2) ∙ is in
          let held_too = sym (changes.address second.0) ∙ ap (λ s. s.address) (sym second.2) ∙ same in
          let one_is = ap (λ s. s.number) first.2 ∙ changes.number first.0 in
          let other_is = ap (λ s. s.number) second.2 ∙ changes.number second.0 in
          one_is ∙ lawful.addresses first.0 second.0 address first.1 second.1 held held_too ∙ sym other_is;
    }

pub renewed_is_lawful : (configuration : Configuration) (clock number : ℕ) (table : Sessions) → IsLawful configuration clock table
    → IsLawful configuration clock (renewed number clock table)
renewed_is_lawful configuration clock number table lawful =
    change_is_lawful configuration clock (if_numbered (session_renewed clock) number)
    (chosen configuration clock (λ session. session.number == number) (session_renewed clock)
    (renewal_is_lawful configuration clock)) table lawful

pub stopped_is_lawful : (configuration : Configuration) (clock number : ℕ) (table : Sessions) → IsLawful configuration clock table
    → IsLawful configuration clock (stopped number table)
stopped_is_lawful configuration clock number table lawful =
    change_is_lawful configuration clock (if_numbered session_ended number)
    (chosen configuration clock (λ session. session.number == number) session_ended (end_is_lawful configuration clock)) table
    lawful

pub reset_is_lawful : (configuration : Configuration) (clock source : ℕ) (table : Sessions) → IsLawful configuration clock table
    → IsLawful configuration clock (source_reset source table)
reset_is_lawful configuration clock source table lawful =
    change_is_lawful configuration clock (session_reset source)
    (chosen configuration clock (λ session. session.source == source) session_ended (end_is_lawful configuration clock)) table
    lawful
