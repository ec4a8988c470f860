use Rattle.std.proofs.Common.{◌≡◌, ℕ, ◌≤◌, Bool, true, false, cond, ◌&&◌, ◌||◌, List, [], ◌∷◌, Some, None, refl, ap, ◌∙◌, sym, eqb}
use Rattle.std.proofs.Common.{filter, find, is_some, length, ltb, unwrap_or, true≢false, arith}
use Rattle.std.specs.List.{list_any}
use Rattle.std.specs.Option.{option_map}
use Rattle.std.proofs.lemmas.List.{nil_from_length}
use Rattle.std.proofs.lemmas.List.Sums.{length-filter}
use Rattle.rad_rows.specs.Rows.{has_number}
use Rattle.rad_config.specs.declared.spans.Spans.{Spans}
use Rattle.rad_pool.specs.declared.session.Session.{Session}
use Rattle.rad_pool.specs.Grants.{has_address, is_held}
use Rattle.rad_pool.specs.Meant.{SentName, meant, is_meant, name_agrees}
use Rattle.rad_pool.specs.Sessions.{is_live, is_open, live_sessions}
use Rattle.rad_pool.proofs.CountLemmas.{num}
use Rattle.rad_pool.proofs.DeadLemmas.{held_is, or_first}
use Rattle.rad_pool.proofs.PlaceLemmas.{held_by, held_cons}

-- those of a list that have an address
abbrev pub holders : ℕ → List Session → List Session
holders address rows = filter (has_address address) rows

-- ---- by the count

module _ (address : ℕ) where
  pub none_held : (rows : List Session) → held_by address rows ≡ 0 → holders address rows ≡ []
  none_held rows h = nil_from_length (holders address rows) (length-filter (has_address address) rows ∙ h)

  held_length : (rows : List Session) → is_held rows address ≡ ltb 0 (length (holders address rows))
  held_length rows = held_is address rows ∙ ap (ltb 0) (sym (length-filter (has_address address) rows))

  pub not_held : (rows : List Session) → holders address rows ≡ [] → false ≡ is_held rows address
  not_held rows h = sym (held_length rows ∙ ap (λ xs. ltb 0 (length xs)) h)

  pub held_once : (x : Session) (rows : List Session) → holders address rows ≡ x ∷ [] → true ≡ is_held rows address
  held_once x rows h = sym (held_length rows ∙ ap (λ xs. ltb 0 (length xs)) h)

  -- the session of a number
  module _ (n : ℕ) where
    same_row : (x row : Session) (rows : List Session) → eqb row.number n ≡ true → find (has_number num n) (row ∷ rows) ≡ Some x
        → row ≡ x
    same_row x row rows e at = ap (λ o. unwrap_or o row) (sym (ap (λ b. cond b (Some row) (find (has_number num n) rows)) e) ∙ at)

    in_rest : (x row : Session) (rows : List Session) → eqb row.number n ≡ false → find (has_number num n) (row ∷ rows) ≡ Some x
        → find (has_number num n) rows ≡ Some x
    in_rest x row rows e at = sym (ap (λ b. cond b (Some row) (find (has_number num n) rows)) e) ∙ at

    found_held : (x : Session) (rows : List Session) → find (has_number num n) rows ≡ Some x → has_address address x ≡ true
        → 1 ≤ held_by address rows
    found_held x [] at has = absurd (true≢false (ap is_some (sym at)))
    found_held x (row ∷ rows) at has = by_test (eqb row.number n) refl (λ at. found_held x rows at has)
      where
        by_test : (b : Bool) → eqb row.number n ≡ b → (find (has_number num n) rows ≡ Some x → 1 ≤ held_by address rows)
            → 1 ≤ held_by address (row ∷ rows)
        by_test true e rest =
            omega (arith, held_cons address row rows true (ap (has_address address) (same_row x row rows e at) ∙ has))
        by_test false e rest =
            omega (arith, held_cons address row rows (has_address address row) refl, rest (in_rest x row rows e at))

    -- where one session has the address, it is the one of the number that has it
    pub one_held : (x : Session) (rows : List Session) → find (has_number num n) rows ≡ Some x → has_address address x ≡ true
        → held_by address rows ≡ 1 → holders address rows ≡ x ∷ []
    one_held x [] at has is = absurd (true≢false (ap is_some (sym at)))
    one_held x (row ∷ rows) at has is =
        by_test (has_address address row) refl (eqb row.number n) refl (λ at is. one_held x rows at has is)
      where
        by_test : (b : Bool) → has_address address row ≡ b → (c : Bool) → eqb row.number n ≡ c
            → (find (has_number num n) rows ≡ Some x → held_by address rows ≡ 1 → holders address rows ≡ x ∷ [])
            → holders address (row ∷ rows) ≡ x ∷ []
        by_test true e true c rest =
            ap (λ b. cond b (row ∷ holders address rows) (holders address rows)) e
            ∙ ap (λ xs. row ∷ xs) (none_held rows (omega (arith, held_cons address row rows true e, is)))
            ∙ ap (λ (y : Session). y ∷ []) (same_row x row rows c at)
        by_test true e false c rest =
            absurd (omega (arith, held_cons address row rows true e, is, found_held x rows (in_rest x row rows c at) has))
        by_test false e true c rest = absurd (true≢false (sym (ap (has_address address) (same_row x row rows c at) ∙ has) ∙ e))
        by_test false e false c rest =
            ap (λ b. cond b (row ∷ holders address rows) (holders address rows)) e
            ∙ rest (in_rest x row rows c at) (omega (arith, held_cons address row rows false e, is))

-- ---- the live ones

-- what passes two tests, one after the other
any_both : (p q : Session → Bool) (rows : List Session) → list_any p (filter q rows) ≡ list_any q (filter p rows)
any_both p q [] = refl
any_both p q (row ∷ rows) = by_tests (p row) refl (q row) refl (any_both p q rows)
  where
    by_tests : (b : Bool) → p row ≡ b → (c : Bool) → q row ≡ c → list_any p (filter q rows) ≡ list_any q (filter p rows)
        → list_any p (cond (q row) (row ∷ filter q rows) (filter q rows))
        ≡ list_any q (cond (p row) (row ∷ filter p rows) (filter p rows))
    by_tests true e true f rest = rw (e, f) (or_first _ _ e)
    by_tests true e false f rest = rw (e, f) rest
    by_tests false e true f rest = rw (e, f) (ap (λ b. b || list_any p (filter q rows)) e ∙ rest)
    by_tests false e false f rest = rw (e, f) rest

module _ (spans : Spans) (now address : ℕ) (rows : List Session) where
  -- whether a live session has an address: whether one of those that have it is live
  live_held : is_held (live_sessions spans now rows) address ≡ list_any (is_live spans now) (holders address rows)
  live_held = any_both (has_address address) (is_live spans now) rows

  pub live_nobody : holders address rows ≡ [] → is_held (live_sessions spans now rows) address ≡ false
  live_nobody none = live_held ∙ ap (list_any (is_live spans now)) none

  pub live_holder : (x : Session) → holders address rows ≡ x ∷ []
      → is_held (live_sessions spans now rows) address ≡ is_live spans now x
  live_holder x one = live_held ∙ ap (list_any (is_live spans now)) one ∙ over (is_live spans now x)
    where
      over : (b : Bool) → (b || false) ≡ b
      over true = refl
      over false = refl

-- ---- the session that is meant

-- only sessions with an address are wanted
record Needs (address : ℕ) (wanted : Session → Bool) : Type 0 where
  needs : (x : Session) → has_address address x ≡ false → wanted x ≡ false

find_held : (address : ℕ) (wanted : Session → Bool) → Needs address wanted → (rows : List Session)
    → find wanted rows ≡ find wanted (holders address rows)
find_held address wanted needs [] = refl
find_held address wanted needs (row ∷ rows) = by_test (has_address address row) refl (find_held address wanted needs rows)
  where
    by_test : (b : Bool) → has_address address row ≡ b → find wanted rows ≡ find wanted (holders address rows)
        → find wanted (row ∷ rows) ≡ find wanted (holders address (row ∷ rows))
    by_test true e rest = ap (cond (wanted row) (Some row)) rest
        ∙ sym (ap (λ b. find wanted (cond b (row ∷ holders address rows) (holders address rows))) e)
    by_test false e rest =
        ap (λ b. cond b (Some row) (find wanted rows)) (needs.needs row e) ∙ rest
        ∙ sym (ap (λ b. find wanted (cond b (row ∷ holders address rows) (holders address rows))) e)

abbrev pub wants : ℕ → ℕ → SentName → Session → Bool
wants client address name session = (eqb session.client client) && is_meant None (Some address) name session

wants_needs : (client address : ℕ) (name : SentName) → Needs address (wants client address name)
wants_needs client address name =
    record {
      needs = λ x e. ap (λ b. (eqb x.client client) && (is_open x.phase && b && name_agrees name x.user)) e
          ∙ fails x.user (eqb x.client client) (is_open x.phase);
    }
  where
    fails : (u : ℕ) (a b : Bool) → (a && (b && false && name_agrees name u)) ≡ false
    fails u true true = refl
    fails u true false = refl
    fails u false b = refl

-- it is meant among those that have the address
pub meant_held : (client address : ℕ) (name : SentName) (rows found : List Session) → holders address rows ≡ found
    → meant client None (Some address) name found ≡ meant client None (Some address) name rows
meant_held client address name rows found is =
    ap (λ xs. meant client None (Some address) name xs) (sym is)
    ∙ ap (option_map num) (sym (find_held address (wants client address name) (wants_needs client address name) rows))
