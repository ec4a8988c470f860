use Rattle.std.proofs.Common.{◌≡◌, ◌↔◌, ℕ, suc, ◌+◌, ◌-◌, ◌≤◌, ◌<◌, Bool, true, false, not, cond, ◌&&◌, ◌||◌, ◌==◌, nat_le, nat_lt}
use Rattle.std.proofs.Common.{List, [], ◌∷◌, ◌++◌, length, All, AllPairs, Contains, Option, Some, None, IfSome, Result, Ok, arith}
use Rattle.std.proofs.Common.{refl, sym, ap, subst, ◌∙◌}
use Rattle.std.proofs.lemmas.Bool.{and_from, and_parts, both_ways, eq-eqb, eqb-true, le-leb, le-ltb, leb-false, leb-true, lt-leb}
use Rattle.std.proofs.lemmas.Bool.{ltb-false, not-false, or_from, or_parts}
use Rattle.std.proofs.lemmas.List.{append-nil, append_assoc, length-append, length_push, get_or_append_left, get_or-append-add}
use Rattle.std.proofs.lemmas.List.Elements.{All-contains, All-head, All-push, All-weaker, Contains-append_left}
use Rattle.std.proofs.lemmas.List.Elements.{Contains-append_right, Contains-push}
use Rattle.std.proofs.lemmas.List.Folds.{Any-from_list_any}
use Rattle.std.proofs.lemmas.List.Sums.{sum_by-append, sum_by_push}
use Rattle.std.proofs.lemmas.Option.{IfSome_then}
use Rattle.rad_packet.specs.Ladders.{◌>>=◌, refuse_if}
use Rattle.rad_config.specs.Configurations.{Configuration, is_reached}
use Rattle.rad_config.specs.declared.pool.Pool.{Pool}
use Rattle.rad_pool.specs.Grants.{grant_limit, has_address, is_held, last_number, open_sessions, pool_of, session_limit}
use Rattle.rad_pool.specs.Grants.{sessions_of}
use Rattle.rad_pool.specs.Lawful.{HaveOwnAddresses, IsInPool, IsLawful, IsLawfulSession}
use Rattle.rad_pool.specs.Restored.{exceeds_limits, has_address_of, is_astray, is_taken, last_restorable, rebuilt, restorable}
use Rattle.rad_pool.specs.Restored.{restored, with_last, with_row}
use Rattle.rad_pool.specs.Sessions.{Sessions, is_open, sessions_max}
use Rattle.rad_row_fault.specs.declared.row_fault.RowFault.{RowFault}
use Rattle.rad_row_fault.specs.declared.row_fault.RowFault.TheVariants.{AddressHeld, AddressOutside, Client, Full, Moments, Number}
use Rattle.rad_row_fault.specs.declared.row_fault.RowFault.TheVariants.{SessionLimit, User}
use Rattle.rad_pool.specs.declared.session.Session.{Session}
use Rattle.rad_pool.proofs.LawfulLemmas.{lawful_below, past_refusal, with_row_is_lawful}
use Rattle.rad_pool.proofs.PlaceLemmas.{has_is, is_at}

-- ---- what the rules say

-- none of them refuses a row
record Fits (configuration : Configuration) (clock : ℕ) (row : Session) (table : Sessions) : Type 0 where
  rises : nat_lt row.number table.next ≡ false
  client : nat_le (length configuration.clients) row.client ≡ false
  user : nat_le (length configuration.users) row.user ≡ false
  heard : (nat_lt row.seen row.made || nat_lt clock row.seen) ≡ false
  inside : is_astray (pool_of configuration row.user) row.address ≡ false
  free : is_taken table.sessions row.address ≡ false
  below : exceeds_limits configuration row table.sessions ≡ false
  few : nat_le sessions_max (length table.sessions) ≡ false

last_refusal : {E : Type 0} (refused : Bool) (refusal : E) → refuse_if refused refusal ≡ Ok tt → refused ≡ false
last_refusal true refusal is = absurd (cc)
last_refusal false refusal is = refl

fits_says : (configuration : Configuration) (clock : ℕ) (row : Session) (table : Sessions)
    → restorable configuration clock row table ≡ Ok tt → Fits configuration clock row table
unfolding restorable
fits_says configuration clock row table is =
    let Rung : Type 0 = Unit {0} → Result (Unit {0}) RowFault in
    let few : Bool = nat_le sessions_max (length table.sessions) in
    let many : Bool = exceeds_limits configuration row table.sessions in
    let taken : Bool = is_taken table.sessions row.address in
    let astray : Bool = is_astray (pool_of configuration row.user) row.address in
    let unheard : Bool = nat_lt row.seen row.made || nat_lt clock row.seen in
    let last : Rung = λ _. refuse_if few Full in
    let seventh : Rung = λ _. refuse_if many SessionLimit >>= last in
    let sixth : Rung = λ _. refuse_if taken AddressHeld >>= seventh in
    let fifth : Rung = λ _. refuse_if astray AddressOutside >>= sixth in
    let fourth : Rung = λ _. refuse_if unheard Moments >>= fifth in
    let third : Rung = λ _. refuse_if (nat_le (length configuration.users) row.user) User >>= fourth in
    let second : Rung = λ _. refuse_if (nat_le (length configuration.clients) row.client) Client >>= third in
    let a = past_refusal (nat_lt row.number table.next) Number second tt is in
    let b = past_refusal (nat_le (length configuration.clients) row.client) Client third tt a.1 in
    let c = past_refusal (nat_le (length configuration.users) row.user) User fourth tt b.1 in
    let d = past_refusal unheard Moments fifth tt c.1 in
    let e = past_refusal astray AddressOutside sixth tt d.1 in
    let f = past_refusal taken AddressHeld seventh tt e.1 in
    let g = past_refusal many SessionLimit last tt f.1 in
    record {
      rises = a.0;
      client = b.0;
      user = c.0;
      heard = d.0;
      inside = e.0;
      free = f.0;
      below = g.0;
      few = last_refusal few Full g.1;
    }

fits_so : (configuration : Configuration) (clock : ℕ) (row : Session) (table : Sessions) → Fits configuration clock row table
    → restorable configuration clock row table ≡ Ok tt
unfolding restorable
fits_so configuration clock row table fits =
    rw (fits.rises, fits.client, fits.user, fits.heard, fits.inside, fits.free, fits.below, fits.few) refl

-- ---- an address

-- an address that isn't astray is in the pool
inside_from : (pool : Option Pool) (address : Option ℕ) → is_astray pool address ≡ false → IfSome address (IsInPool pool)
inside_from pool None is = tt
inside_from None (Some address) is = absurd (both_ways true is refl)
inside_from (Some pool) (Some address) is =
    let within : Bool = has_address_of (Some pool) address in
    let parts = and_parts (nat_le pool.first address) (nat_le address pool.last) (not-false within is) in
    (leb-true pool.first address parts.0, leb-true address pool.last parts.1)

inside_so : (pool : Option Pool) (address : Option ℕ) → IfSome address (IsInPool pool) → is_astray pool address ≡ false
inside_so pool None is = refl
inside_so None (Some address) is = absurd is
inside_so (Some pool) (Some address) is =
    ap not
    (and_from (nat_le pool.first address) (nat_le address pool.last) (le-leb pool.first address is.0)
    (le-leb address pool.last is.1))

free_from : (sessions : List Session) (address : Option ℕ) → is_taken sessions address ≡ false
    → IfSome address (λ a. is_held sessions a ≡ false)
free_from sessions None is = tt
free_from sessions (Some address) is = is

-- a session that has an address
has_says : (address : ℕ) (session : Session) → has_address address session ≡ true → session.address ≡ Some address
has_says address session has = by_address session.address (sym (has_is address session) ∙ has)
  where
    by_address : (o : Option ℕ) → is_at address o ≡ true → o ≡ Some address
    by_address None is = absurd (both_ways false refl is)
    by_address (Some held) is = ap Some (eqb-true held address is)

-- where sessions with one more have addresses of their own, and its number is above theirs, no other has its address
free_so : (sessions : List Session) (row : Session) → HaveOwnAddresses (sessions ++ row ∷ [])
    → All (λ (s : Session). s.number < row.number) sessions → is_taken sessions row.address ≡ false
free_so sessions row own lower = by_address row.address refl
  where
    by_held : (address : ℕ) → row.address ≡ Some address → (b : Bool) → is_held sessions address ≡ b
        → is_held sessions address ≡ false
    by_held address is false e = e
    by_held address is true e =
        let found = Any-from_list_any (has_address address) sessions e in
        let other : Session = found.1 in
        let there : Contains sessions other = (found.0, found.2, found.3) in
        let given = has_says address other found.4 in
        let same = own other row address (Contains-append_left sessions (row ∷ []) other there) (Contains-push sessions row)
        given is in
        let less : other.number < row.number = All-contains (λ (s : Session). s.number < row.number) sessions other lower there in
        absurd (omega (arith, same, less))

    by_address : (o : Option ℕ) → row.address ≡ o → is_taken sessions o ≡ false
    by_address None is = refl
    by_address (Some address) is = by_held address is (is_held sessions address) refl

-- ---- a user's limits

-- where a user has no more open sessions than allowed, with one more, there was room for it
below_so : (configuration : Configuration) (sessions : List Session) (row : Session)
    → open_sessions row.user (sessions ++ row ∷ []) ≤ session_limit configuration row.user
    → (is_open row.phase && nat_le (session_limit configuration row.user) (open_sessions row.user sessions)) ≡ false
below_so configuration sessions row within =
    by_open (is_open row.phase) refl
    (sum_by_push (λ session. cond {A = ℕ} ((session.user == row.user) && is_open session.phase) 1 0) sessions row)
  where
    full : Bool
    full = nat_le (session_limit configuration row.user) (open_sessions row.user sessions)

    by_open : (o : Bool) → is_open row.phase ≡ o
        → open_sessions row.user (sessions ++ row ∷ [])
        ≡ open_sessions row.user sessions + cond ((row.user == row.user) && is_open row.phase) 1 0
        → (is_open row.phase && full) ≡ false
    by_open false e sum = ap (λ b. b && full) e
    by_open true e sum =
        let own : (row.user == row.user) ≡ true = eq-eqb row.user row.user refl in
        let one : ◌≡◌ {A = ℕ} (cond ((row.user == row.user) && is_open row.phase) 1 0) 1 = λ j. cond {A = ℕ} (own j && e j) 1 0 in
        ap (λ b. b && full) e
        ∙ lt-leb (session_limit configuration row.user) (open_sessions row.user sessions) (omega (arith, sum, one, within))

-- the same of sessions of any phase
spared_so : (limit : Option ℕ) (sessions : List Session) (row : Session)
    → IfSome limit (λ most. sessions_of row.user (sessions ++ row ∷ []) ≤ most)
    → is_reached limit (sessions_of row.user sessions) ≡ false
spared_so None sessions row within = refl
spared_so (Some most) sessions row within =
    let one : ◌≡◌ {A = ℕ} (cond (row.user == row.user) 1 0) 1 = ap (λ b. cond {A = ℕ} b 1 0) (eq-eqb row.user row.user refl) in
    lt-leb most (sessions_of row.user sessions)
    (omega (arith, within, one, sum_by_push (λ (session : Session). cond {A = ℕ} (session.user == row.user) 1 0) sessions row))

-- ---- the law

pub restore_is_the_law : (configuration : Configuration) (clock : ℕ) (row : Session) (table : Sessions)
    → row.number ≤ last_number → IsLawful configuration clock table
    → (restorable configuration clock row table ≡ Ok tt)
    ↔ ((table.next ≤ row.number) × IsLawful configuration clock (with_row row table))
restore_is_the_law configuration clock row table number lawful = (so, back)
  where
    sessions : List Session
    sessions = table.sessions

    reached : Bool
    reached = is_reached (grant_limit configuration row.user) (sessions_of row.user sessions)

    full : Bool
    full = is_open row.phase && nat_le (session_limit configuration row.user) (open_sessions row.user sessions)

    so : restorable configuration clock row table ≡ Ok tt
        → (table.next ≤ row.number) × IsLawful configuration clock (with_row row table)
    so is =
        let fits = fits_says configuration clock row table is in
        let rises : table.next ≤ row.number = ltb-false row.number table.next fits.rises in
        let heard = or_parts (nat_lt row.seen row.made) (nat_lt clock row.seen) fits.heard in
        let limits = or_parts full reached fits.below in (
          rises,
          with_row_is_lawful configuration clock row table (record {
            rises = rises;
            last = number;
            lawful = record {
              number = (omega (arith, lawful.next.0, rises), omega arith);
              client = leb-false (length configuration.clients) row.client fits.client;
              user = leb-false (length configuration.users) row.user fits.user;
              address = inside_from (pool_of configuration row.user) row.address fits.inside;
              seen = (ltb-false row.seen row.made heard.0, ltb-false clock row.seen heard.1);
            };
            free = free_from sessions row.address fits.free;
            below = limits.0;
            spared = limits.1;
            few = leb-false sessions_max (length sessions) fits.few;
          }) lawful,
        )

    back : (table.next ≤ row.number) × IsLawful configuration clock (with_row row table)
        → restorable configuration clock row table ≡ Ok tt
    back given =
        let rises : table.next ≤ row.number = given.0 in
        let whole = given.1 in
        let Each : Session → Type 0 = IsLawfulSession configuration clock (row.number + 1) in
        let own : Each row = All-contains Each (sessions ++ row ∷ []) row whole.sessions (Contains-push sessions row) in
        let lower = All-weaker (IsLawfulSession configuration clock table.next) (λ (s : Session). s.number < row.number)
        (λ s known. omega (arith, known.number.1, rises)) sessions lawful.sessions in
        fits_so configuration clock row table (record {
          rises = le-ltb row.number table.next rises;
          client = lt-leb (length configuration.clients) row.client own.client;
          user = lt-leb (length configuration.users) row.user own.user;
          heard = or_from (nat_lt row.seen row.made) (nat_lt clock row.seen)
              (le-ltb row.seen row.made own.seen.0) (le-ltb clock row.seen own.seen.1);
          inside = inside_so (pool_of configuration row.user) row.address own.address;
          free = free_so sessions row whole.addresses lower;
          below = or_from full reached (below_so configuration sessions row (whole.limits row.user))
              (spared_so (grant_limit configuration row.user) sessions row (whole.grants row.user));
          few = lt-leb sessions_max (length sessions) (omega (arith, length_push sessions row, whole.few));
        })

last_fits : (last : ℕ) (table : Sessions) → table.next ≤ last + 1 → last_restorable last table ≡ Ok tt
last_fits last table most = rw (le-ltb (last + 1) table.next most) refl

pub restore_last_is_the_law : (configuration : Configuration) (clock last : ℕ) (table : Sessions)
    → last ≤ last_number → IsLawful configuration clock table
    → (last_restorable last table ≡ Ok tt) ↔ ((table.next ≤ last + 1) × IsLawful configuration clock (with_last last table))
restore_last_is_the_law configuration clock last table number lawful = (so, λ given. last_fits last table given.0)
  where
    so : last_restorable last table ≡ Ok tt → (table.next ≤ last + 1) × IsLawful configuration clock (with_last last table)
    so is =
        let most : table.next ≤ last + 1 =
        ltb-false (last + 1) table.next (last_refusal (nat_lt (last + 1) table.next) Number is) in (
          most,
          record {
            next = (omega arith, omega (arith, number));
            few = lawful.few;
            rising = lawful.rising;
            sessions = All-weaker (IsLawfulSession configuration clock table.next) (IsLawfulSession configuration clock (last + 1))
                (lawful_below configuration clock table.next (last + 1) most) table.sessions lawful.sessions;
            limits = lawful.limits;
            grants = lawful.grants;
            addresses = lawful.addresses;
          },
        )

-- ---- a whole table

-- the first rows of a lawful table
beginning_is_lawful : (configuration : Configuration) (clock : ℕ) (table : Sessions) → IsLawful configuration clock table
    → (before rest : List Session) → table.sessions ≡ before ++ rest → (next : ℕ) → 1 ≤ next → next ≤ last_number + 1
    → All (λ (s : Session). s.number < next) before
    → IsLawful configuration clock (record { sessions = before; next = next; spans = table.spans })
beginning_is_lawful configuration clock table lawful before rest split next one most lower =
    let Rises : List Session → Type 0 = AllPairs (λ (earlier later : Session). earlier.number < later.number) in
    let Each : Session → Type 0 = IsLawfulSession configuration clock table.next in
    let long = length-append before rest in
    let few : length (before ++ rest) ≤ sessions_max = subst (λ xs. length xs ≤ sessions_max) split lawful.few in
    let rising : Rises (before ++ rest) = subst Rises split lawful.rising in
    let each : All Each (before ++ rest) = subst (All Each) split lawful.sessions in
    let own : HaveOwnAddresses (before ++ rest) = subst HaveOwnAddresses split lawful.addresses in
    record {
      next = (one, most);
      few = omega (arith, long, few);
      rising = λ i j d less within.
          let low = get_or_append_left before rest d i (omega (arith, less, within)) in
          let high = get_or_append_left before rest d j within in
          let pair = rising i j d less (omega (arith, long, within)) in
          omega (arith, pair, ap (λ (s : Session). s.number) low, ap (λ (s : Session). s.number) high);
      sessions = λ k d within.
          let known = subst Each (get_or_append_left before rest d k within) (each k d (omega (arith, long, within))) in
          record {
            number = (known.number.0, lower k d within);
            client = known.client;
            user = known.user;
            address = known.address;
            seen = known.seen;
          };
      limits = λ user.
          let all = subst (λ xs. open_sessions user xs ≤ session_limit configuration user) split (lawful.limits user) in
          omega (
            arith,
            all,
            sum_by-append (λ session. cond {A = ℕ} ((session.user == user) && is_open session.phase) 1 0) before
                rest,
          );
      grants = λ user.
          let all = subst (λ xs. IfSome (grant_limit configuration user) (λ most. sessions_of user xs ≤ most)) split
          (lawful.grants user) in
          IfSome_then (grant_limit configuration user) all
          (λ most fits. omega (
            arith,
            fits,
            sum_by-append (λ (session : Session). cond {A = ℕ} (session.user == user) 1 0) before rest,
          ));
      addresses = λ one other address there here.
          own one other address (Contains-append_left before rest one there) (Contains-append_left before rest other here);
    }

-- after the row that fits comes the rest
restored_next : (configuration : Configuration) (clock : ℕ) (row : Session) (rows : List Session) (table : Sessions)
    → restorable configuration clock row table ≡ Ok tt
    → restored configuration clock (row ∷ rows) table ≡ restored configuration clock rows (with_row row table)
unfolding restored
restored_next configuration clock row rows table fits =
    ap (λ r. r >>= (λ done. restored configuration clock rows (with_row row table))) fits

restored_none : (configuration : Configuration) (clock : ℕ) (table : Sessions) → restored configuration clock [] table ≡ Ok table
unfolding restored
restored_none configuration clock table = refl

-- the rest of a lawful table's rows are put back after those before them
restored_rest : (configuration : Configuration) (clock : ℕ) (table : Sessions) → IsLawful configuration clock table
    → (rest before : List Session) (next : ℕ) → table.sessions ≡ before ++ rest → 1 ≤ next → next ≤ table.next
    → All (λ (s : Session). s.number < next) before → All (λ (s : Session). next ≤ s.number) rest
    → (reached : ℕ) × (reached ≤ table.next)
    × (restored configuration clock rest (record { sessions = before; next = next; spans = table.spans })
    ≡ Ok (record { sessions = table.sessions; next = reached; spans = table.spans }))
restored_rest configuration clock table lawful [] before next split one most lower upper =
    let Table : List Session → Sessions = λ sessions. record { sessions = sessions; next = next; spans = table.spans } in
    let done : List Session → Result Sessions RowFault = λ sessions. Ok (Table sessions) in
    (next, most, restored_none configuration clock (Table before) ∙ ap done (sym (split ∙ append-nil before)))
restored_rest configuration clock table lawful (row ∷ rest) before next split one most lower upper =
    let Rises : List Session → Type 0 = AllPairs (λ (earlier later : Session). earlier.number < later.number) in
    let Each : Session → Type 0 = IsLawfulSession configuration clock table.next in
    let Below : ℕ → Session → Type 0 = λ n (s : Session). s.number < n in
    let here : Sessions = record { sessions = before; next = next; spans = table.spans } in
    let within : next ≤ row.number = All-head (λ (s : Session). next ≤ s.number) row rest upper in
    let whole : All Each (before ++ row ∷ rest) = subst (All Each) split lawful.sessions in
    let there : Contains (before ++ row ∷ rest) row = Contains-append_right before (row ∷ rest) row (0, omega arith, refl) in
    let known : Each row = All-contains Each (before ++ row ∷ rest) row whole there in
    let small : row.number ≤ last_number = omega (arith, known.number.1, lawful.next.1) in
    let more : table.sessions ≡ (before ++ row ∷ []) ++ rest = split ∙ sym (append_assoc before (row ∷ []) rest) in
    let lower' : All (Below (row.number + 1)) (before ++ row ∷ []) =
    All-push (Below (row.number + 1)) before row
    (All-weaker (Below next) (Below (row.number + 1)) (λ s less. omega (arith, less, within)) before lower) (omega arith) in
    let rising : Rises (before ++ row ∷ rest) = subst Rises split lawful.rising in
    let upper' : All (λ (s : Session). row.number + 1 ≤ s.number) rest = λ k d lt.
    let low = get_or-append-add before (row ∷ rest) 0 d in
    let high = get_or-append-add before (row ∷ rest) (suc k) d in
    let pair = rising (length before + 0) (length before + suc k) d (omega arith)
    (omega (arith, length-append before (row ∷ rest), lt)) in
    omega (arith, pair, ap (λ (s : Session). s.number) low, ap (λ (s : Session). s.number) high) in
    let first = beginning_is_lawful configuration clock table lawful before (row ∷ rest) split next one
    (omega (arith, most, lawful.next.1)) lower in
    let then = beginning_is_lawful configuration clock table lawful (before ++ row ∷ []) rest more (row.number + 1) (omega arith)
    (omega (arith, small)) lower' in
    let fits : restorable configuration clock row here ≡ Ok tt =
    (restore_is_the_law configuration clock row here small first).1 (within, then) in
    let last = restored_rest configuration clock table lawful rest (before ++ row ∷ []) (row.number + 1) more (omega arith)
    (omega (arith, known.number.1)) lower' upper' in
    (last.0, last.1, restored_next configuration clock row rest here fits ∙ last.2)

pub restore_rebuilds : (configuration : Configuration) (clock : ℕ) (table : Sessions)
    → IsLawful configuration clock table → rebuilt configuration clock table ≡ Ok table
unfolding rebuilt
restore_rebuilds configuration clock table lawful =
    let Each : Session → Type 0 = IsLawfulSession configuration clock table.next in
    let rows = restored_rest configuration clock table lawful table.sessions [] 1 refl (omega arith) lawful.next.0
    (λ k d within. absurd (omega arith))
    (All-weaker Each (λ (s : Session). 1 ≤ s.number) (λ s known. known.number.0) table.sessions lawful.sessions) in
    let back : Sessions = record { sessions = table.sessions; next = rows.0; spans = table.spans } in
    let next : table.next - 1 + 1 ≡ table.next = omega (arith, lawful.next.0) in
    let fits = last_fits (table.next - 1) back (omega (arith, next, rows.1)) in
    let whole : ℕ → Result Sessions RowFault = λ n. Ok (record { sessions = table.sessions; next = n; spans = table.spans }) in
    let lasts : Sessions → Result Sessions RowFault =
    λ t. last_restorable (table.next - 1) t >>= (λ fits. Ok (with_last (table.next - 1) t)) in
    let after : Result (Unit {0}) RowFault → Result Sessions RowFault = λ r. r >>= (λ fits. Ok (with_last (table.next - 1) back)) in
    ap (λ r. r >>= lasts) rows.2 ∙ ap after fits ∙ ap whole next
