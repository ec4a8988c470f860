use Rattle.std.proofs.Common.{◌≡◌, ℕ, ◌+◌, ◌-◌, ◌≤◌, ◌<◌, ◌^◌, Bool, true, false, cond, ◌&&◌, List, [], ◌∷◌, ◌++◌, Option, Some}
use Rattle.std.proofs.Common.{None, refl, ap, ◌∙◌, sym, subst, eqb, filter, find, map, length, is_some, unwrap_or, true≢false}
use Rattle.std.proofs.Common.{arith, get_or, replicate}
use Rattle.std.specs.List.{All, AllPairs, FoldsTo}
use Rattle.std.specs.Option.{option_map}
use Rattle.std.proofs.lemmas.Bool.{eq-eqb, eqb-true, ne_eqb}
use Rattle.std.proofs.lemmas.List.{append-nil, append_assoc, get_or-replicate, length-replicate, map-append}
use Rattle.std.proofs.lemmas.List.Elements.{All-head, All-tail}
use Rattle.std.proofs.lemmas.List.Filters.{sum_by-filter_both}
use Rattle.std.proofs.lemmas.List.Sums.{count_by-le-length, sum_by-append, sum_by-cons, sum_by_push}
use Rattle.rad_config.specs.declared.spans.Spans.{Spans}
use Rattle.indexmap.specs.IndexMap.{IndexMap, spare}
use Rattle.rad_rows.specs.Rows.{IsBefore, SeenRows, Tells, has_number, is_dead}
use Rattle.rad_rows.specs.declared.hash_key.HashKey.{HashKey}
use Rattle.rad_rows.proofs.OrderLemmas.{IsAfter, rest_after, rising_rest}
use Rattle.rad_pool.specs.declared.counts.Counts.{Counts}
use Rattle.rad_pool.specs.declared.session.Phase.{Phase}
use Rattle.rad_pool.specs.declared.session.Phase.TheVariants.{Active, Ended, Pending}
use Rattle.rad_pool.specs.declared.session.Session.{Session}
use Rattle.rad_pool.specs.Counts.{Comes, CountsAll, CountsOpen, CountsRows, CountsSources, Ends, GainsOther, HasRoom, HoldsCounts}
use Rattle.rad_pool.specs.Counts.{KeepsRoom, Leaves, found_open_by, is_open_by, one_of, one_open_by, open_by, source_of, user_of}
use Rattle.rad_pool.specs.Grants.{sessions_of}
use Rattle.rad_pool.specs.Meant.{SentName, meant, is_meant}
use Rattle.rad_pool.specs.Sessions.{IsOfSource, if_numbered, is_live, is_open, live_sessions, session_ended, session_renewed}
use Rattle.rad_pool.specs.Sessions.{session_reset}
use Rattle.rad_pool.specs.Sources.{HasNoZero, count_at}
use Rattle.rad_pool.proofs.OtherLemmas.{others_between, others_changed, others_copied, others_granted, others_left}
use Rattle.rad_pool.proofs.PlaceLemmas.{one_same, places_between, places_changed, places_copied, places_gone, places_granted}
use Rattle.rad_pool.proofs.FindLemmas.{Means, find_false, find_none, find_true, none_passes}

abbrev pub num : Session → ℕ
num session = session.number

pub count_cons : (key : Session → ℕ) (n : ℕ) (x : Session) (xs : List Session)
    → open_by key n (x ∷ xs) ≡ one_open_by key n x + open_by key n xs
count_cons key n x xs = sum_by-cons (one_open_by key n) x xs

pub of_cons : (n : ℕ) (x : Session) (xs : List Session) → sessions_of n (x ∷ xs) ≡ one_of n x + sessions_of n xs
of_cons n x xs = sum_by-cons (one_of n) x xs

-- sessions that change, but not their user
of_changed : (change : Session → Session) → ((x : Session) → (change x).user ≡ x.user)
    → (n : ℕ) (rows rows' : List Session) (count : ℕ) → count ≡ sessions_of n rows → rows' ≡ map change rows
    → count ≡ sessions_of n rows'
of_changed change same n rows rows' count h changed = h ∙ sym (ap (sessions_of n) changed ∙ each rows)
  where
    each : (xs : List Session) → sessions_of n (map change xs) ≡ sessions_of n xs
    each [] = refl
    each (x ∷ xs) = omega (
      arith,
      of_cons n (change x) (map change xs),
      of_cons n x xs,
      ap (λ user. cond {A = ℕ} (eqb user n) 1 0) (same x),
      each xs,
    )

-- ---- sessions that go

-- a count by a key, less those that have gone, counts those that are left
gone_at : (key : Session → ℕ) (n : ℕ) (spans : Spans) (now : ℕ) (rows left : List Session) (old new : ℕ) → old ≡ open_by key n rows
    → left ≡ live_sessions spans now rows
    → new ≡ old - open_by key n (filter (is_dead is_live spans now) rows) → new ≡ open_by key n left
gone_at key n spans now rows left old new h is less =
    omega (
      arith,
      less,
      h,
      ap (open_by key n) is,
      sum_by-filter_both (is_live spans now) (is_dead is_live spans now) (λ x. refl) (one_open_by key n) rows,
    )

users_gone : (dead : List Session) (old new : Counts) → FoldsTo Leaves old dead new
    → (length new.users.items ≡ length old.users.items)
    × ((n : ℕ) → n < length old.users.items → get_or new.users.items n 0 ≡ get_or old.users.items n 0 - open_by user_of n dead)
users_gone [] old new h = (
  ap (λ (c : Counts). length c.users.items) (sym h),
  λ n lt. omega (arith, ap (λ (c : Counts). get_or c.users.items n 0) (sym h)),
)
users_gone (x ∷ dead) old new h =
    let first : Leaves old x h.0 = h.1 in
    let rest = users_gone dead h.0 new h.2 in (
      rest.0 ∙ first.users.len,
      λ n lt. omega (arith, rest.1 n (omega (arith, lt, first.users.len)), first.users.is n lt, count_cons user_of n x dead),
    )

grants_gone : (dead : List Session) (old new : Counts) → FoldsTo Leaves old dead new
    → (length new.grants.items ≡ length old.grants.items)
    × ((n : ℕ) → n < length old.grants.items → get_or new.grants.items n 0 ≡ get_or old.grants.items n 0 - sessions_of n dead)
grants_gone [] old new h = (
  ap (λ (c : Counts). length c.grants.items) (sym h),
  λ n lt. omega (arith, ap (λ (c : Counts). get_or c.grants.items n 0) (sym h)),
)
grants_gone (x ∷ dead) old new h =
    let first : Leaves old x h.0 = h.1 in
    let rest = grants_gone dead h.0 new h.2 in (
      rest.0 ∙ first.grants.len,
      λ n lt. omega (arith, rest.1 n (omega (arith, lt, first.grants.len)), first.grants.is n lt, of_cons n x dead),
    )

of_gone : (n : ℕ) (spans : Spans) (now : ℕ) (rows left : List Session) (old new : ℕ) → old ≡ sessions_of n rows
    → left ≡ live_sessions spans now rows
    → new ≡ old - sessions_of n (filter (is_dead is_live spans now) rows) → new ≡ sessions_of n left
of_gone n spans now rows left old new h is less =
    omega (
      arith,
      less,
      h,
      ap (sessions_of n) is,
      sum_by-filter_both (is_live spans now) (is_dead is_live spans now) (λ x. refl) (one_of n) rows,
    )

-- room, and what keeps it
kept_room : (old new : Counts) → HasRoom old → KeepsRoom old new → HasRoom new
kept_room old new has keeps = record {
  sources = omega (arith, has.sources, keeps.sources);
  others = omega (arith, has.others, keeps.others);
  links = record {
    newest = omega (arith, has.links.newest, keeps.links.newest);
    neighbours = omega (arith, has.links.neighbours, keeps.links.neighbours);
  };
}

same_room : (counts : Counts) → KeepsRoom counts counts
same_room counts =
    record { sources = omega arith; others = omega arith; links = record { newest = omega arith; neighbours = omega arith } }

both_room : (old mid new : Counts) → KeepsRoom old mid → KeepsRoom mid new → KeepsRoom old new
both_room old mid new first second = record {
  sources = omega (arith, first.sources, second.sources);
  others = omega (arith, first.others, second.others);
  links = record {
    newest = omega (arith, first.links.newest, second.links.newest);
    neighbours = omega (arith, first.links.neighbours, second.links.neighbours);
  };
}

room_gone : (dead : List Session) (old new : Counts) → FoldsTo Leaves old dead new → KeepsRoom old new
room_gone [] old new h = subst (KeepsRoom old) h (same_room old)
room_gone (x ∷ dead) old new h =
    let first : Leaves old x h.0 = h.1 in
    both_room old h.0 new (record { sources = first.sources.room; others = first.others.room; links = first.links })
    (room_gone dead h.0 new h.2)

ends_room : (found : Option Session) (old new : Counts) → Ends old found new → KeepsRoom old new
ends_room found old new ends =
    record { sources = ends.sources.room; others = omega (arith, ap spare ends.others); links = ends.links }

-- what sources that have gone leave of the map
record LosesAll (dead : List Session) (old new : IndexMap ℕ ℕ HashKey) : Type 0 where
  is : (n : ℕ) → count_at new.entries n ≡ count_at old.entries n - open_by source_of n dead
  only : HasNoZero old.entries → HasNoZero new.entries
  room : spare old ≤ spare new

sources_gone : (dead : List Session) (old new : Counts) → FoldsTo Leaves old dead new → LosesAll dead old.sources new.sources
sources_gone [] old new h =
    subst (λ (c : Counts). LosesAll [] old.sources c.sources) h
    (record { is = λ n. omega arith; only = λ z. z; room = omega arith })
sources_gone (x ∷ dead) old new h =
    let first : Leaves old x h.0 = h.1 in
    let rest : LosesAll dead h.0.sources new.sources = sources_gone dead h.0 new h.2 in
    record {
      is = λ n. omega (arith, rest.is n, first.sources.is n, count_cons source_of n x dead);
      only = λ z. rest.only (first.sources.only z);
      room = omega (arith, rest.room, first.sources.room);
    }

pub holds_left : (spans : Spans) (now : ℕ) (rows left : List Session) (old new : Counts) → HoldsCounts rows old
    → left ≡ live_sessions spans now rows → Tells Leaves is_live spans now rows old new → HoldsCounts left new
holds_left spans now rows left old new h is told =
    let dead = filter (is_dead is_live spans now) rows in
    let users = users_gone dead old new told in
    let grants = grants_gone dead old new told in
    let sources : LosesAll dead old.sources new.sources = sources_gone dead old new told in
    record {
      users = record {
        is = λ n lt. let before : n < length old.users.items = omega (arith, lt, users.0) in
            gone_at user_of n spans now rows left _ _ (h.users.is n before) is (users.1 n before);
      };
      grants = record {
        is = λ n lt. let before : n < length old.grants.items = omega (arith, lt, grants.0) in
            of_gone n spans now rows left _ _ (h.grants.is n before) is (grants.1 n before);
      };
      sources = record {
        is = λ n. gone_at source_of n spans now rows left _ _ (h.sources.is n) is (sources.is n);
        only = sources.only h.sources.only;
      };
      pools = places_gone spans now rows left old new h.pools is told;
      others = others_left spans now rows left old new h.others is told;
    }

pub rows_left : (now : ℕ) (rows left : SeenRows Session Spans) (old new : Counts) → CountsRows rows old
    → left.rows ≡ live_sessions rows.spans now rows.rows → left.has_room ≡ rows.has_room
    → Tells Leaves is_live rows.spans now rows.rows old new → CountsRows left new
rows_left now rows left old new h is same told = record {
  holds = holds_left rows.spans now rows.rows left.rows old new h.holds is told;
  room = λ r. kept_room old new (h.room (sym same ∙ r))
      (room_gone (filter (is_dead is_live rows.spans now) rows.rows) old new told);
}

-- ---- sessions that change, and stay open or not

module _ (key : Session → ℕ) (change : Session → Session)
    (same : (n : ℕ) (x : Session) → one_open_by key n (change x) ≡ one_open_by key n x) where
  open_changed : (n : ℕ) (rows : List Session) → open_by key n (map change rows) ≡ open_by key n rows
  open_changed n [] = refl
  open_changed n (x ∷ rows) =
      omega (arith, count_cons key n (change x) (map change rows), count_cons key n x rows, same n x, open_changed n rows)

  changed_at : (n : ℕ) (rows rows' : List Session) (count : ℕ) → count ≡ open_by key n rows → rows' ≡ map change rows
      → count ≡ open_by key n rows'
  changed_at n rows rows' count h changed = h ∙ sym (ap (open_by key n) changed ∙ open_changed n rows)

-- a session that is heard of
module _ (key : Session → ℕ) (now : ℕ) (keeps : (x : Session) → key (record x { phase = Active; seen = now }) ≡ key x) where
  one_renewed : (number n : ℕ) (x : Session) → one_open_by key n (if_numbered (session_renewed now) number x) ≡ one_open_by key n x
  one_renewed number n x = by_number (eqb x.number number)
    where
      by_open : (b : Bool) → is_open x.phase ≡ b
          → one_open_by key n (cond b (record x { phase = Active; seen = now }) x) ≡ one_open_by key n x
      by_open true is =
          ap (λ k. cond {A = ℕ} (eqb k n && true) 1 0) (keeps x) ∙ ap (λ b. cond {A = ℕ} (eqb (key x) n && b) 1 0) (sym is)
      by_open false is = refl

      by_number : (b : Bool) → one_open_by key n (cond b (session_renewed now x) x) ≡ one_open_by key n x
      by_number true = by_open (is_open x.phase) refl
      by_number false = refl

holds_renewed : (number now : ℕ) (rows rows' : List Session) (counts : Counts) → HoldsCounts rows counts
    → rows' ≡ map (if_numbered (session_renewed now) number) rows → HoldsCounts rows' counts
holds_renewed number now rows rows' counts h changed = record {
  users = record {
    is = λ n lt. changed_at user_of change (one_renewed user_of now (λ x. refl) number) n rows rows' _
        (h.users.is n lt) changed;
  };
  grants = record {
    is = λ n lt. of_changed change (λ x. user_kept (eqb x.number number) (is_open x.phase) x) n rows rows' _
        (h.grants.is n lt) changed;
  };
  sources = record {
    is = λ n. changed_at source_of change (one_renewed source_of now (λ x. refl) number) n rows rows' _
        (h.sources.is n) changed;
    only = h.sources.only;
  };
  pools = places_changed change rows rows' counts counts (λ x. address_kept (eqb x.number number) (is_open x.phase) x) h.pools
      changed refl;
  others = others_changed change rows rows' counts counts (λ x. address_kept (eqb x.number number) (is_open x.phase) x) h.others
      changed refl refl;
}
  where
    change : Session → Session
    change = if_numbered (session_renewed now) number

    user_kept : (a b : Bool) (x : Session) → Session.user (cond a (cond b (record x { phase = Active; seen = now }) x) x) ≡ x.user
    user_kept true true x = refl
    user_kept true false x = refl
    user_kept false b x = refl

    address_kept : (a b : Bool) (x : Session)
        → Session.address (cond a (cond b (record x { phase = Active; seen = now }) x) x) ≡ x.address
    address_kept true true x = refl
    address_kept true false x = refl
    address_kept false b x = refl

pub rows_renewed : (number now : ℕ) (rows rows' : SeenRows Session Spans) (counts : Counts) → CountsRows rows counts
    → rows'.rows ≡ map (if_numbered (session_renewed now) number) rows.rows
    → rows'.has_room ≡ rows.has_room → CountsRows rows' counts
rows_renewed number now rows rows' counts h changed same = record {
  holds = holds_renewed number now rows.rows rows'.rows counts h.holds changed;
  room = λ r. h.room (sym same ∙ r);
}

-- ---- a session that stops

and_false : (b : Bool) → (b && false) ≡ false
and_false true = refl
and_false false = refl

-- an ended session isn't counted
none_ended : (key : Session → ℕ) (n : ℕ) (x : Session) → one_open_by key n (session_ended x) ≡ 0
none_ended key n x = ap (λ (b : Bool). cond {A = ℕ} b 1 0) (and_false (eqb (key (session_ended x)) n))

map_rest : (n low : ℕ) (rows : List Session) → n ≤ low → All (IsAfter num low) rows → map (if_numbered session_ended n) rows ≡ rows
map_rest n low [] le h = refl
map_rest n low (row ∷ rows) le h =
    rw (ne_eqb row.number n (λ e. absurd (omega (arith, (All-head (IsAfter num low) row rows h).lt, e, le))))
    (ap (λ l. row ∷ l) (map_rest n low rows le (All-tail (IsAfter num low) row rows h)))

module _ (key : Session → ℕ) where
  stop_count : (k n : ℕ) (rows : List Session) → AllPairs (IsBefore num) rows
      → open_by key k (map (if_numbered session_ended n) rows) + found_open_by key k (find (has_number num n) rows)
      ≡ open_by key k rows
  stop_count k n [] rising = refl
  stop_count k n (row ∷ rows) rising =
      by_test (eqb row.number n) refl (stop_count k n rows (rising_rest num row rows (row ∷ rows) refl rising))
    where
      by_test : (b : Bool) → eqb row.number n ≡ b
          → open_by key k (map (if_numbered session_ended n) rows) + found_open_by key k (find (has_number num n) rows)
          ≡ open_by key k rows
          → open_by key k (map (if_numbered session_ended n) (row ∷ rows))
          + found_open_by key k (find (has_number num n) (row ∷ rows)) ≡ open_by key k (row ∷ rows)
      by_test true e more =
          let rest : map (if_numbered session_ended n) rows ≡ rows =
          map_rest n row.number rows (omega (arith, eqb-true row.number n e))
          (rest_after num row rows (row ∷ rows) refl rising) in
          rw (e) (omega (
            arith,
            count_cons key k (session_ended row) (map (if_numbered session_ended n) rows),
            count_cons key k row rows,
            none_ended key k row,
            ap (open_by key k) rest,
          ))
      by_test false e more =
          rw (e) (omega (arith, count_cons key k row (map (if_numbered session_ended n) rows), count_cons key k row rows, more))

  stopped_at : (k n : ℕ) (rows rows' : List Session) (found : Option Session) (old new : ℕ) → old ≡ open_by key k rows
      → AllPairs (IsBefore num) rows → found ≡ find (has_number num n) rows → rows' ≡ map (if_numbered session_ended n) rows
      → new ≡ old - found_open_by key k found → new ≡ open_by key k rows'
  stopped_at k n rows rows' found old new h rising is changed less =
      omega (arith, less, h, stop_count k n rows rising, ap (found_open_by key k) is, ap (open_by key k) changed)

holds_stopped : (n : ℕ) (rows rows' : List Session) (found : Option Session) (old new : Counts) → HoldsCounts rows old
    → AllPairs (IsBefore num) rows → found ≡ find (has_number num n) rows → rows' ≡ map (if_numbered session_ended n) rows
    → Ends old found new → HoldsCounts rows' new
holds_stopped n rows rows' found old new h rising is changed ends = record {
  users = record {
    is = λ k lt. let before : k < length old.users.items = omega (arith, lt, ends.users.len) in
        stopped_at user_of k n rows rows' found _ _ (h.users.is k before) rising is changed (ends.users.is k before);
  };
  grants = subst (CountsAll rows') (sym ends.grants)
      (record {
        is = λ k lt. of_changed (if_numbered session_ended n) (λ x. user_kept (eqb x.number n) x) k rows rows' _
            (h.grants.is k lt) changed;
      });
  sources = record {
    is = λ k. stopped_at source_of k n rows rows' found _ _ (h.sources.is k) rising is changed (ends.sources.is k);
    only = ends.sources.only h.sources.only;
  };
  pools = places_changed (if_numbered session_ended n) rows rows' old new (λ x. address_kept (eqb x.number n) x) h.pools changed
      ends.pools;
  others = others_changed (if_numbered session_ended n) rows rows' old new (λ x. address_kept (eqb x.number n) x) h.others changed
      ends.pools (ap (λ others. others.entries) ends.others);
}
  where
    user_kept : (b : Bool) (x : Session) → Session.user (cond b (session_ended x) x) ≡ x.user
    user_kept true x = refl
    user_kept false x = refl

    address_kept : (b : Bool) (x : Session) → Session.address (cond b (session_ended x) x) ≡ x.address
    address_kept true x = refl
    address_kept false x = refl

pub rows_stopped : (n : ℕ) (rows rows' : SeenRows Session Spans) (found : Option Session) (old new : Counts) → CountsRows rows old
    → AllPairs (IsBefore num) rows.rows → found ≡ find (has_number num n) rows.rows
    → rows'.rows ≡ map (if_numbered session_ended n) rows.rows → rows'.has_room ≡ rows.has_room → Ends old found new
    → CountsRows rows' new
rows_stopped n rows rows' found old new h rising is changed same ends = record {
  holds = holds_stopped n rows.rows rows'.rows found old new h.holds rising is changed ends;
  room = λ r. kept_room old new (h.room (sym same ∙ r)) (ends_room found old new ends);
}

-- ---- the sessions of a source, which end one after the other

ended_at : (key : Session → ℕ) (n : ℕ) (before rest : List Session) (x : Session) (old new : ℕ)
    → old ≡ open_by key n (before ++ x ∷ rest) → new ≡ old - one_open_by key n x
    → new ≡ open_by key n (before ++ session_ended x ∷ rest)
ended_at key n before rest x old new h less =
    let one : Session → ℕ = one_open_by key n in
    omega (
      arith,
      less,
      h,
      sum_by-append one before (x ∷ rest),
      sum_by-append one before (session_ended x ∷ rest),
      count_cons key n x rest,
      count_cons key n (session_ended x) rest,
      none_ended key n x,
    )

-- the user keeps a session that has ended
of_ended : (n : ℕ) (before rest : List Session) (x : Session)
    → sessions_of n (before ++ x ∷ rest) ≡ sessions_of n (before ++ session_ended x ∷ rest)
of_ended n before rest x =
    let same : one_of n (session_ended x) ≡ one_of n x = refl in
    omega (
      arith,
      same,
      sum_by-append (one_of n) before (x ∷ rest),
      sum_by-append (one_of n) before (session_ended x ∷ rest),
      of_cons n x rest,
      of_cons n (session_ended x) rest,
    )

holds_between : (before rest : List Session) (x : Session) (old new : Counts) → HoldsCounts (before ++ x ∷ rest) old
    → Ends old (Some x) new → HoldsCounts (before ++ session_ended x ∷ rest) new
holds_between before rest x old new h ends = record {
  users = record {
    is = λ n lt. let within : n < length old.users.items = omega (arith, lt, ends.users.len) in
        ended_at user_of n before rest x _ _ (h.users.is n within) (ends.users.is n within);
  };
  grants = subst (CountsAll (before ++ session_ended x ∷ rest)) (sym ends.grants)
      (record { is = λ n lt. h.grants.is n lt ∙ of_ended n before rest x });
  sources = record {
    is = λ n. ended_at source_of n before rest x _ _ (h.sources.is n) (ends.sources.is n);
    only = ends.sources.only h.sources.only;
  };
  pools = places_between before rest x old new h.pools ends.pools;
  others = others_between before rest x old new h.others ends.pools (ap (λ others. others.entries) ends.others);
}

-- those before `rest` have ended, if they are of the source; the map of sources has as much room as at the start
pub record IsResetTo (source : ℕ) (rows rest : List Session) (start counts : Counts) : Type 0 where
  before : List Session
  split : rows ≡ before ++ rest
  holds : HoldsCounts (map (session_reset source) before ++ rest) counts
  pub room : KeepsRoom start counts

pub reset_start : (source : ℕ) (rows : List Session) (counts : Counts) → HoldsCounts rows counts
    → IsResetTo source rows rows counts counts
reset_start source rows counts h = record { before = []; split = refl; holds = h; room = same_room counts }

module _ (source : ℕ) (rows rest : List Session) (x : Session) (start old new : Counts)
    (told : IsResetTo source rows (x ∷ rest) start old) where
  -- one more
  reset_more : HoldsCounts (map (session_reset source) told.before ++ session_reset source x ∷ rest) new → KeepsRoom old new
      → IsResetTo source rows rest start new
  reset_more h room =
      let before = told.before in
      record {
        before = before ++ x ∷ [];
        split = told.split ∙ sym (append_assoc before (x ∷ []) rest);
        holds = subst (λ xs. HoldsCounts xs new)
            (sym (append_assoc (map (session_reset source) before) (session_reset source x ∷ []) rest)
            ∙ ap (λ xs. xs ++ rest) (sym (map-append (session_reset source) before (x ∷ []))))
            h;
        room = both_room start old new told.room room;
      }

  pub reset_ended : x.source ≡ source → Ends old (Some x) new → IsResetTo source rows rest start new
  reset_ended same ends =
      reset_more
      (subst (λ (y : Session). HoldsCounts (map (session_reset source) told.before ++ y ∷ rest) new)
      (sym (ap (λ b. cond b (session_ended x) x) (eq-eqb x.source source same)))
      (holds_between (map (session_reset source) told.before) rest x old new told.holds ends))
      (ends_room (Some x) old new ends)

pub reset_passed : (source : ℕ) (rows rest : List Session) (x : Session) (start counts : Counts) → (x.source ≡ source → ⊥)
    → IsResetTo source rows (x ∷ rest) start counts → IsResetTo source rows rest start counts
reset_passed source rows rest x start counts other told =
    reset_more source rows rest x start counts counts told
    (subst (λ (y : Session). HoldsCounts (map (session_reset source) told.before ++ y ∷ rest) counts)
    (sym (ap (λ b. cond b (session_ended x) x) (ne_eqb x.source source other))) told.holds)
    (same_room counts)

pub reset_all : (source : ℕ) (rows rest : List Session) (start counts : Counts) → rest ≡ []
    → IsResetTo source rows rest start counts → HoldsCounts (map (session_reset source) rows) counts
reset_all source rows rest start counts none told =
    let before = told.before in
    let whole : rows ≡ before = told.split ∙ ap (λ xs. before ++ xs) none ∙ append-nil before in
    subst (λ xs. HoldsCounts xs counts)
    (ap (λ xs. map (session_reset source) before ++ xs) none ∙ append-nil (map (session_reset source) before)
    ∙ ap (map (session_reset source)) (sym whole))
    told.holds

-- where a source has no open session, its sessions have ended
pub reset_nothing : (source : ℕ) (rows : List Session) → open_by source_of source rows ≡ 0 → map (session_reset source) rows ≡ rows
reset_nothing source [] none = refl
reset_nothing source (x ∷ rows) none =
    let both = count_cons source_of source x rows in
    ap (λ y. y ∷ map (session_reset source) rows) (by_test (eqb x.source source) refl (omega (arith, both, none)))
    ∙ ap (λ xs. x ∷ xs) (reset_nothing source rows (omega (arith, both, none)))
  where
    by_phase : (phase : Phase) → x.phase ≡ phase → eqb x.source source ≡ true → one_open_by source_of source x ≡ 0
        → session_ended x ≡ x
    by_phase Ended is same zero = ap (λ (phase : Phase). record x { phase = phase }) (sym is)
    by_phase Pending is same zero =
        absurd (omega (
          arith,
          zero,
          ap (λ b. cond {A = ℕ} (b && is_open x.phase) 1 0) same,
          ap (λ phase. cond {A = ℕ} (is_open phase) 1 0) is,
        ))
    by_phase Active is same zero =
        absurd (omega (
          arith,
          zero,
          ap (λ b. cond {A = ℕ} (b && is_open x.phase) 1 0) same,
          ap (λ phase. cond {A = ℕ} (is_open phase) 1 0) is,
        ))

    by_test : (b : Bool) → eqb x.source source ≡ b → one_open_by source_of source x ≡ 0 → cond b (session_ended x) x ≡ x
    by_test true is zero = by_phase x.phase refl is zero
    by_test false is zero = refl

pub rows_reset : (source : ℕ) (rows rows' : SeenRows Session Spans) (old new : Counts) → CountsRows rows old
    → HoldsCounts (map (session_reset source) rows.rows) new → KeepsRoom old new
    → rows'.rows ≡ map (session_reset source) rows.rows → rows'.has_room ≡ rows.has_room → CountsRows rows' new
rows_reset source rows rows' old new h holds room changed same = record {
  holds = subst (λ xs. HoldsCounts xs new) (sym changed) holds;
  room = λ r. kept_room old new (h.room (sym same ∙ r)) room;
}

-- where a session of the source ends first, the sessions are the same after it
pub stop_first : (source n : ℕ) (rows : List Session) → AllPairs (IsBefore num) rows
    → IsOfSource source (find (has_number num n) rows)
    → map (session_reset source) (map (if_numbered session_ended n) rows) ≡ map (session_reset source) rows
stop_first source n [] rising own = refl
stop_first source n (row ∷ rows) rising own =
    by_test (eqb row.number n) refl (stop_first source n rows (rising_rest num row rows (row ∷ rows) refl rising))
  where
    by_test : (b : Bool) → eqb row.number n ≡ b
        → (IsOfSource source (find (has_number num n) rows)
        → map (session_reset source) (map (if_numbered session_ended n) rows) ≡ map (session_reset source) rows)
        → map (session_reset source) (map (if_numbered session_ended n) (row ∷ rows)) ≡ map (session_reset source) (row ∷ rows)
    by_test true e more =
        let rest : map (if_numbered session_ended n) rows ≡ rows =
        map_rest n row.number rows (omega (arith, eqb-true row.number n e))
        (rest_after num row rows (row ∷ rows) refl rising) in
        let mine : row.source ≡ source = subst (λ b. IsOfSource source (cond b (Some row) (find (has_number num n) rows))) e own in
        let same : eqb row.source source ≡ true = eq-eqb row.source source mine in
        let head : session_reset source (session_ended row) ≡ session_reset source row
        = ap (λ b. cond b (session_ended (session_ended row)) (session_ended row)) same
        ∙ sym (ap (λ b. cond b (session_ended row) row) same) in
        rw (e) (ap (λ y. y ∷ map (session_reset source) (map (if_numbered session_ended n) rows)) head
        ∙ ap (λ xs. session_reset source row ∷ map (session_reset source) xs) rest)
    by_test false e more =
        rw (e) (ap (λ xs. session_reset source row ∷ xs)
        (more (subst (λ b. IsOfSource source (cond b (Some row) (find (has_number num n) rows))) e own)))

-- ---- a session that comes

module _ (key : Session → ℕ) where
  -- one more can be counted
  low_count : (n : ℕ) (rows : List Session) (old : ℕ) → old ≡ open_by key n rows → length rows + 1 < 2 ^ 64 → old + 1 < 2 ^ 64
  low_count n rows old h few = omega (arith, h, count_by-le-length (is_open_by key n) rows, few)

  granted_at : (n : ℕ) (rows rows' : List Session) (session : Session) (old new : ℕ) → old ≡ open_by key n rows
      → is_open session.phase ≡ true → rows' ≡ rows ++ session ∷ []
      → new ≡ old + cond (eqb (key session) n) 1 0 → new ≡ open_by key n rows'
  granted_at n rows rows' session old new h open' is more =
      let one : one_open_by key n session ≡ cond {A = ℕ} (eqb (key session) n) 1 0 =
      ap (λ (b : Bool). cond {A = ℕ} b 1 0) (opened (eqb (key session) n) (is_open session.phase) open') in
      omega (arith, more, h, sum_by_push (one_open_by key n) rows session, ap (open_by key n) is, one)
    where
      opened : (a b : Bool) → b ≡ true → (a && b) ≡ a
      opened true b e = e
      opened false b e = refl

of_granted : (n : ℕ) (rows rows' : List Session) (session : Session) (old new : ℕ) → old ≡ sessions_of n rows
    → rows' ≡ rows ++ session ∷ []
    → new ≡ old + one_of n session → new ≡ sessions_of n rows'
of_granted n rows rows' session old new h is more =
    omega (arith, more, h, sum_by_push (one_of n) rows session, ap (sessions_of n) is)

-- one more can be counted
of_low : (n : ℕ) (rows : List Session) (old : ℕ) → old ≡ sessions_of n rows → length rows + 1 < 2 ^ 64 → old + 1 < 2 ^ 64
of_low n rows old h few = omega (arith, h, count_by-le-length (λ (session : Session). eqb session.user n) rows, few)

holds_granted : (rows rows' : List Session) (session : Session) (old new : Counts) → HoldsCounts rows old
    → is_open session.phase ≡ true → length rows + 1 < 2 ^ 64 → rows' ≡ rows ++ session ∷ [] → Comes old session new
    → HoldsCounts rows' new
holds_granted rows rows' session old new h open' few is comes = record {
  users = record {
    is = λ n lt.
        let before : n < length old.users.items = omega (arith, lt, comes.users.len) in
        granted_at user_of n rows rows' session _ _ (h.users.is n before) open' is
        (comes.users.is n before (low_count user_of n rows _ (h.users.is n before) few));
  };
  grants = record {
    is = λ n lt.
        let before : n < length old.grants.items = omega (arith, lt, comes.grants.len) in
        of_granted n rows rows' session _ _ (h.grants.is n before) is
        (comes.grants.is n before (of_low n rows _ (h.grants.is n before) few));
  };
  sources = record {
    is = λ n. granted_at source_of n rows rows' session _ _ (h.sources.is n) open' is
        (comes.sources.is n (low_count source_of session.source rows _ (h.sources.is session.source) few));
    only = comes.sources.only h.sources.only;
  };
  pools = places_granted rows rows' session old new h.pools is comes.pools;
  others = others_granted rows rows' session old new h.others few is comes.pools comes.others;
}

pub rows_granted : (rows rows' : SeenRows Session Spans) (session : Session) (old new : Counts) → CountsRows rows old
    → is_open session.phase ≡ true → length rows.rows + 1 < 2 ^ 64
    → rows'.rows ≡ rows.rows ++ session ∷ [] → rows'.has_room ≡ false → Comes old session new → CountsRows rows' new
rows_granted rows rows' session old new h open' few is none comes = record {
  holds = holds_granted rows.rows rows'.rows session old new h.holds open' few is comes;
  room = λ r. absurd (true≢false (sym r ∙ none));
}

-- ---- a session that is put back

-- one that is open comes
pub rows_back_open : (rows rows' : SeenRows Session Spans) (session : Session) (old new : Counts) → HoldsCounts rows.rows old
    → (session.phase ≡ Ended → ⊥) → length rows.rows + 1 < 2 ^ 64 → rows'.rows ≡ rows.rows ++ session ∷ [] → rows'.has_room ≡ false
    → Comes old session new → CountsRows rows' new
rows_back_open rows rows' session old new h other few is none comes = record {
  holds = holds_granted rows.rows rows'.rows session old new h (opens session.phase other) few is comes;
  room = λ r. absurd (true≢false (sym r ∙ none));
}
  where
    opens : (phase : Phase) → (phase ≡ Ended → ⊥) → is_open phase ≡ true
    opens Pending other = refl
    opens Active other = refl
    opens Ended other = absurd (other refl)

-- one that has ended comes as an open one, and ends then
pub rows_back_ended : (rows rows' : SeenRows Session Spans) (session : Session) (old mid new : Counts) → HoldsCounts rows.rows old
    → session.phase ≡ Ended → length rows.rows + 1 < 2 ^ 64 → rows'.rows ≡ rows.rows ++ session ∷ [] → rows'.has_room ≡ false
    → Comes old session mid → Ends mid (Some (record session { phase = Active })) new → CountsRows rows' new
rows_back_ended rows rows' session old mid new h ended few is none comes ends =
    let opened : Session = record session { phase = Active } in
    let gained : GainsOther old.pools.items opened old.others.entries mid.others.entries = record {
      is = λ address out low. omega (arith, comes.others.is address out low, one_same address session opened refl);
    } in
    let come : Comes old opened mid
    = record { users = comes.users; grants = comes.grants; sources = comes.sources; pools = comes.pools; others = gained } in
    let open_holds : HoldsCounts (rows.rows ++ opened ∷ []) mid
    = holds_granted rows.rows (rows.rows ++ opened ∷ []) opened old mid h refl few refl come in
    let same : session ≡ session_ended opened = ap (λ (phase : Phase). record session { phase = phase }) ended in
    record {
      holds = subst (λ xs. HoldsCounts xs new) (ap (λ x. rows.rows ++ x ∷ []) (sym same) ∙ sym is)
          (holds_between rows.rows [] opened mid new open_holds ends);
      room = λ r. absurd (true≢false (sym r ∙ none));
    }

-- ---- a session by its number

both : (a b : Bool) → (a && b) ≡ true → (a ≡ true) × (b ≡ true)
both true true h = (refl, refl)
both true false h = absurd (true≢false (sym h))
both false b h = absurd (true≢false (sym h))

module _ (client n : ℕ) (rows : List Session) where
  wanted_means : All (Means num (λ session. (eqb session.client client) && is_meant (Some n) None None session) n) rows
  wanted_means = λ k d lt. record {
    means =
        λ h. eqb-true (get_or rows k d).number n (both (eqb (get_or rows k d).client client) (eqb (get_or rows k d).number n) h).1;
  }

  pub meant_none : find (has_number num n) rows ≡ None → None ≡ meant client (Some n) None None rows
  meant_none none = sym (ap (option_map num)
      (find_none num (λ session. (eqb session.client client) && is_meant (Some n) None None session) n rows wanted_means none))

  meant_other : (x : Session) → AllPairs (IsBefore num) rows → find (has_number num n) rows ≡ Some x → eqb x.client client ≡ false
      → None ≡ meant client (Some n) None None rows
  meant_other x rising found other =
      sym (ap (option_map num) (find_false num (λ session. (eqb session.client client) && is_meant (Some n) None None session) n
      rows x rising wanted_means found (ap (λ b. b && eqb x.number n) other)))

  meant_some : (x : Session) → find (has_number num n) rows ≡ Some x → eqb x.number n ≡ true → eqb x.client client ≡ true
      → Some n ≡ meant client (Some n) None None rows
  meant_some x found same own =
      ap Some (sym (eqb-true x.number n same))
      ∙ sym (ap (option_map num) (find_true num (λ session. (eqb session.client client) && is_meant (Some n) None None session) n
      rows x wanted_means found ((λ j. own j && same j) ∙ refl)))

  found_number : (x : Session) (xs : List Session) → find (has_number num n) xs ≡ Some x → eqb x.number n ≡ true
  found_number x [] h = absurd (true≢false (ap is_some (sym h)))
  found_number x (y ∷ ys) h = by_test (eqb y.number n) refl (found_number x ys)
    where
      by_test : (b : Bool) → eqb y.number n ≡ b → (find (has_number num n) ys ≡ Some x → eqb x.number n ≡ true)
          → eqb x.number n ≡ true
      by_test true e more = subst (λ (z : Session). eqb z.number n ≡ true)
          (ap (λ o. unwrap_or o y) (sym (ap (λ b. cond b (Some y) (find (has_number num n) ys)) e) ∙ h)) e
      by_test false e more = more (sym (ap (λ b. cond b (Some y) (find (has_number num n) ys)) e) ∙ h)

  -- the session of the number, if it is the client's
  pub meant_found : (x : Session) → AllPairs (IsBefore num) rows → find (has_number num n) rows ≡ Some x
      → cond (eqb x.client client) (Some x.number) None ≡ meant client (Some n) None None rows
  meant_found x rising found = by_test (eqb x.client client) refl
    where
      same : eqb x.number n ≡ true
      same = found_number x rows found

      by_test : (b : Bool) → eqb x.client client ≡ b → cond b (Some x.number) None ≡ meant client (Some n) None None rows
      by_test true e = ap Some (eqb-true x.number n same) ∙ meant_some x found same e
      by_test false e = meant_other x rising found e

-- without a number and an address no session is meant
pub meant_nothing : (client : ℕ) (number address : Option ℕ) (name : SentName) (rows : List Session) → number ≡ None
    → address ≡ None → None ≡ meant client number address name rows
meant_nothing client number address name rows unnumbered unaddressed =
    sym (ap (λ n. meant client n address name rows) unnumbered ∙ ap (λ a. meant client None a name rows) unaddressed
    ∙ ap (option_map num) (none_passes (λ session. (eqb session.client client) && is_meant None None name session) rows
    (λ k d lt. and_false (eqb (get_or rows k d).client client))))

-- ---- no sessions

pub none_open : (key : Session → ℕ) (counts : List ℕ) (count : ℕ) → counts ≡ replicate count 0 → CountsOpen key [] counts
none_open key counts count is = record {
  is = λ n lt. ap (λ cs. get_or cs n 0) is
      ∙ get_or-replicate count n 0 0 (omega (arith, lt, ap length is, length-replicate {A = ℕ} count 0));
}

pub none_of : (counts : List ℕ) (count : ℕ) → counts ≡ replicate count 0 → CountsAll [] counts
none_of counts count is = record { is = (none_open user_of counts count is).is }

-- no source yet
pub no_source : (counts : List (ℕ × ℕ)) → counts ≡ [] → CountsSources [] counts
no_source counts is =
    subst (CountsSources []) (sym is) (record { is = λ source. refl; only = record { only = λ source zero. refl } })

-- equal counts of equal sessions
holds_copied : (rows rows' : List Session) (old new : Counts) → HoldsCounts rows old → rows' ≡ rows
    → new.users.items ≡ old.users.items → new.grants.items ≡ old.grants.items → new.sources.entries ≡ old.sources.entries
    → new.pools.items ≡ old.pools.items → new.others.entries ≡ old.others.entries → HoldsCounts rows' new
holds_copied rows rows' old new h is users grants sources places others = record {
  users = subst (λ xs. CountsOpen user_of xs new.users.items) (sym is) (subst (CountsOpen user_of rows) (sym users) h.users);
  grants = subst (λ xs. CountsAll xs new.grants.items) (sym is) (subst (CountsAll rows) (sym grants) h.grants);
  sources = subst (λ xs. CountsSources xs new.sources.entries) (sym is) (subst (CountsSources rows) (sym sources) h.sources);
  pools = places_copied rows rows' old new h.pools is places;
  others = others_copied rows rows' old new h.others is places others;
}

pub rows_copied : (rows rows' : SeenRows Session Spans) (old new : Counts) → CountsRows rows old → rows'.rows ≡ rows.rows
    → new.users.items ≡ old.users.items → new.grants.items ≡ old.grants.items → new.sources.entries ≡ old.sources.entries
    → new.pools.items ≡ old.pools.items → new.others.entries ≡ old.others.entries → (rows'.has_room ≡ true → HasRoom new)
    → CountsRows rows' new
rows_copied rows rows' old new h is users grants sources places others room = record {
  holds = holds_copied rows.rows rows'.rows old new h.holds is users grants sources places others;
  room = room;
}
