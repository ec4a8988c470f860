use Rattle.std.proofs.Common.{◌≡◌, ℕ, ◌+◌, ◌-◌, ◌≤◌, ◌<◌, ◌^◌, true, ◌&&◌, ◌||◌, not, List, [], ◌∷◌, ◌++◌, Option, refl, ap, ◌∙◌}
use Rattle.std.proofs.Common.{sym, subst, nat_le, nat_lt, filter, map, length, arith}
use Rattle.std.specs.List.{FoldsTo, list_any}
use Rattle.std.proofs.lemmas.List.Filters.{sum_by-filter_both}
use Rattle.std.proofs.lemmas.List.Sums.{count_by-le-length, sum_by-cons, sum_by_push}
use Rattle.indexmap.specs.IndexMap.{spare}
use Rattle.rad_config.specs.declared.spans.Spans.{Spans}
use Rattle.rad_rows.specs.Rows.{Tells, is_dead}
use Rattle.rad_places.specs.Places.{SeenPlaces, is_inside}
use Rattle.rad_pool.specs.declared.counts.Counts.{Counts}
use Rattle.rad_pool.specs.declared.others.Uses.{Uses}
use Rattle.rad_pool.specs.declared.session.Session.{Session}
use Rattle.rad_pool.specs.Counts.{CountsOthers, GainsOther, Leaves, is_outside, place_in, places_come, places_left}
use Rattle.rad_pool.specs.Grants.{has_address}
use Rattle.rad_pool.specs.Others.{uses_of}
use Rattle.rad_pool.specs.Sessions.{is_live, live_sessions, session_ended}
use Rattle.rad_pool.proofs.PlaceLemmas.{IsOfPool, come_at, held_between, held_by, held_changed, left_at, one}

-- the counts of the addresses of no pool
abbrev pub KnowsOthers : List Session → Counts → Type 0
KnowsOthers rows counts = CountsOthers rows counts.pools.items counts.others.entries

-- ---- pools whose uses and notes change

inside_kept : (address : ℕ) (places new : SeenPlaces) → IsOfPool places new → is_inside address new ≡ is_inside address places
inside_kept address places new same =
    ap (λ f. nat_le f address && nat_lt (address - f) (length new.uses)) same.first
    ∙ ap (λ n. nat_le places.first address && nat_lt (address - places.first) n) same.len

module _ (change : SeenPlaces → SeenPlaces) (keeps : (places : SeenPlaces) → IsOfPool places (change places)) where
  any_kept : (address : ℕ) (pools : List SeenPlaces)
      → list_any (is_inside address) (map change pools) ≡ list_any (is_inside address) pools
  any_kept address [] = refl
  any_kept address (places ∷ pools) =
      ap (λ b. b || list_any (is_inside address) (map change pools)) (inside_kept address places (change places) (keeps places))
      ∙ ap (λ b. is_inside address places || b) (any_kept address pools)

outside_come : (come : Option ℕ) (number address : ℕ) (pools : List SeenPlaces)
    → is_outside (map (places_come come number) pools) address ≡ is_outside pools address
outside_come come number address pools =
    ap not (any_kept (places_come come number) (λ places. come_at number (place_in come places) places) address pools)

outside_left : (left : Option ℕ) (address : ℕ) (pools : List SeenPlaces)
    → is_outside (map (places_left left) pools) address ≡ is_outside pools address
outside_left left address pools =
    ap not (any_kept (places_left left) (λ places. left_at (place_in left places) places) address pools)

-- ---- sessions that go

-- what sessions that have gone leave of the map
pub record LosesOthers (dead : List Session) (old new : Counts) : Type 0 where
  pub outside : (address : ℕ) → is_outside new.pools.items address ≡ is_outside old.pools.items address
  pub is : (address : ℕ) → is_outside old.pools.items address ≡ true
      → uses_of new.others.entries address ≡ uses_of old.others.entries address - held_by address dead
  pub room : spare old.others ≤ spare new.others

pub others_gone : (dead : List Session) (old new : Counts) → FoldsTo Leaves old dead new → LosesOthers dead old new
others_gone [] old new h =
    subst (LosesOthers [] old) h (record { outside = λ address. refl; is = λ address out. omega arith; room = omega arith })
others_gone (x ∷ dead) old new h =
    let first : Leaves old x h.0 = h.1 in
    let rest : LosesOthers dead h.0 new = others_gone dead h.0 new h.2 in
    let same = λ (address : ℕ). ap (λ ps. is_outside ps address) first.pools ∙ outside_left x.address address old.pools.items in
    record {
      outside = λ address. rest.outside address ∙ same address;
      is = λ address out. omega (
        arith,
        rest.is address (same address ∙ out),
        first.others.is address out,
        sum_by-cons (one address) x dead,
      );
      room = omega (arith, rest.room, first.others.room);
    }

pub others_left : (spans : Spans) (now : ℕ) (rows left : List Session) (old new : Counts) → KnowsOthers rows old
    → left ≡ live_sessions spans now rows → Tells Leaves is_live spans now rows old new → KnowsOthers left new
others_left spans now rows left old new h is told =
    let gone : LosesOthers (filter (is_dead is_live spans now) rows) old new =
    others_gone (filter (is_dead is_live spans now) rows) old new told in
    record {
      is = λ address out.
          let before : is_outside old.pools.items address ≡ true = sym (gone.outside address) ∙ out in
          omega (
            arith,
            gone.is address before,
            h.is address before,
            sum_by-filter_both (is_live spans now) (is_dead is_live spans now) (λ x. refl) (one address) rows,
            ap (held_by address) is,
          );
    }

-- ---- sessions that change, and keep their addresses

others_same : (rows rows' : List Session) (old new : Counts) → KnowsOthers rows old
    → ((address : ℕ) → held_by address rows' ≡ held_by address rows) → new.pools.items ≡ old.pools.items
    → new.others.entries ≡ old.others.entries → KnowsOthers rows' new
others_same rows rows' old new h same pools others = record {
  is = λ address out. ap (λ entries. uses_of entries address) others
      ∙ h.is address (ap (λ ps. is_outside ps address) (sym pools) ∙ out) ∙ sym (same address);
}

pub others_changed : (change : Session → Session) (rows rows' : List Session) (old new : Counts)
    → ((x : Session) → Session.address (change x) ≡ x.address) → KnowsOthers rows old → rows' ≡ map change rows
    → new.pools.items ≡ old.pools.items → new.others.entries ≡ old.others.entries → KnowsOthers rows' new
others_changed change rows rows' old new keeps h changed =
    others_same rows rows' old new h (λ address. ap (held_by address) changed ∙ held_changed change keeps address rows)

pub others_between : (before rest : List Session) (x : Session) (old new : Counts) → KnowsOthers (before ++ x ∷ rest) old
    → new.pools.items ≡ old.pools.items → new.others.entries ≡ old.others.entries
    → KnowsOthers (before ++ session_ended x ∷ rest) new
others_between before rest x old new h =
    others_same (before ++ x ∷ rest) (before ++ session_ended x ∷ rest) old new h (held_between before rest x)

pub others_copied : (rows rows' : List Session) (old new : Counts) → KnowsOthers rows old → rows' ≡ rows
    → new.pools.items ≡ old.pools.items → new.others.entries ≡ old.others.entries → KnowsOthers rows' new
others_copied rows rows' old new h is = others_same rows rows' old new h (λ address. ap (held_by address) is)

-- ---- a session that comes

pub others_granted : (rows rows' : List Session) (session : Session) (old new : Counts) → KnowsOthers rows old
    → length rows + 1 < 2 ^ 64 → rows' ≡ rows ++ session ∷ []
    → new.pools.items ≡ map (places_come session.address session.number) old.pools.items
    → GainsOther old.pools.items session old.others.entries new.others.entries → KnowsOthers rows' new
others_granted rows rows' session old new h few is come gains = record {
  is = λ address out.
      let before : is_outside old.pools.items address ≡ true =
      sym (outside_come session.address session.number address old.pools.items) ∙ ap (λ ps. is_outside ps address) (sym come)
      ∙ out in
      let low : uses_of old.others.entries address + 1 < 2 ^ 64 =
      omega (arith, h.is address before, count_by-le-length (has_address address) rows, few) in
      omega (
        arith,
        gains.is address before low,
        h.is address before,
        sum_by_push (one address) rows session,
        ap (held_by address) is,
      );
}

-- ---- no sessions

pub none_other : (pools : List SeenPlaces) (others : List (ℕ × Uses)) → others ≡ [] → CountsOthers [] pools others
none_other pools others is = record { is = λ address out. ap (λ entries. uses_of entries address) is }
