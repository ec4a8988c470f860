use Rattle.std.proofs.Common.{◌≡◌, ℕ, ◌+◌, ◌≤◌, Bool, true, false, cond, not, ◌&&◌, ◌||◌, List, [], ◌∷◌, Option, Some, None, refl}
use Rattle.std.proofs.Common.{ap, ◌∙◌, sym, subst, eqb, filter, find, length, is_some, unwrap_or, true≢false, arith}
use Rattle.std.specs.List.{All, AllPairs, list_any}
use Rattle.std.specs.Option.{option_map}
use Rattle.std.proofs.lemmas.Bool.{eqb-true, eq-eqb}
use Rattle.std.proofs.lemmas.List.{length-map}
use Rattle.std.proofs.lemmas.List.Sums.{count_by-le-length, length-filter}
use Rattle.std.proofs.lemmas.List.Kept.{AllPairs-filter}
use Rattle.std.proofs.lemmas.List.Elements.{All-head, All-tail, All-filter, filter_passes}
use Rattle.rad_auth.specs.declared.arrival.Door.{Door}
use Rattle.rad_auth.specs.declared.arrival.Door.TheVariants.{Auth, Acct}
use Rattle.rad_rows.specs.Rows.{has_number, has_other}
use Rattle.rad_rows.specs.Rows.{IsBefore}
use Rattle.rad_recent.specs.declared.kept.Kept.{Kept}
use Rattle.rad_recent.specs.declared.key.Key.{Key}
use Rattle.rad_recent.specs.declared.numbered.Numbered.{Numbered}
use Rattle.rad_recent.specs.Index.{IsIndexed, replies_of}
use Rattle.rad_recent.specs.Numbers.{number_at}
use Rattle.rad_recent.specs.Recent.{same_door, same_key}
use Rattle.rad_recent.proofs.FindLemmas.{both, live_false, live_none, live_true, others_none, others_some}

-- the number of a row
abbrev pub number_of : Numbered → ℕ
number_of row = row.number

-- ---- keys

-- doors that compare equal are equal
doors_are : (x y : Door) → same_door x y ≡ true → x ≡ y
doors_are Auth Auth h = refl
doors_are Auth Acct h = absurd (true≢false (sym h))
doors_are Acct Auth h = absurd (true≢false (sym h))
doors_are Acct Acct h = refl

-- the same key is an equal one
pub key_is : (key other : Key) → same_key key other ≡ true → key ≡ other
key_is key other h =
    let a = both ((eqb key.source other.source && eqb key.port other.port) && same_door key.door other.door)
    (eqb key.id other.id) h in
    let b = both (eqb key.source other.source && eqb key.port other.port) (same_door key.door other.door) a.0 in
    let c = both (eqb key.source other.source) (eqb key.port other.port) b.0 in
    let source = eqb-true key.source other.source c.0 in
    let port = eqb-true key.port other.port c.1 in
    let door = doors_are key.door other.door b.1 in
    let id = eqb-true key.id other.id a.1 in
    λ j. record { source = source j; port = port j; door = door j; id = id j }

-- a door is the same as itself
doors_same : (x : Door) → same_door x x ≡ true
doors_same Auth = refl
doors_same Acct = refl

-- a key is the same as itself
pub key_same : (key : Key) → same_key key key ≡ true
key_same key = λ j. ((eq-eqb key.source key.source refl j && eq-eqb key.port key.port refl j) && doors_same key.door j)
    && eq-eqb key.id key.id refl j

-- and the other way round
pub key_turned : (key other : Key) → same_key key other ≡ true → same_key other key ≡ true
key_turned key other h = subst (λ k. same_key k key ≡ true) (key_is key other h) (key_same key)

-- in either order it is the same test
pub key_sym : (key other : Key) → same_key key other ≡ same_key other key
key_sym key other = at (same_key key other) (same_key other key) (key_turned key other) (key_turned other key)
  where
    at : (a b : Bool) → (a ≡ true → b ≡ true) → (b ≡ true → a ≡ true) → a ≡ b
    at true b there back = sym (there refl)
    at false true there back = back refl
    at false false there back = refl

-- ---- the number of a key's row

-- the same number
pub some_number : (a b : ℕ) → Some a ≡ Some b → a ≡ b
some_number a b h = ap (λ o. unwrap_or o a) h

-- a row has the key exactly where it has the key's number
pub agrees : (es : List (Key × ℕ)) (key : Key) (n : ℕ) (row : Numbered) → number_at es key ≡ Some n → IsIndexed es row
    → same_key key row.kept.key ≡ eqb row.number n
agrees es key n row at is = by_test (same_key key row.kept.key) refl
  where
    by_number : (b : Bool) → eqb row.number n ≡ b → same_key key row.kept.key ≡ false → false ≡ b
    by_number true e fails = sym fails ∙ is.only key (at ∙ ap Some (sym (eqb-true row.number n e)))
    by_number false e fails = refl

    by_test : (b : Bool) → same_key key row.kept.key ≡ b → same_key key row.kept.key ≡ eqb row.number n
    by_test true e = e ∙ sym (eq-eqb row.number n (some_number row.number n (sym (is.own key e) ∙ at)))
    by_test false e = e ∙ by_number (eqb row.number n) refl e ∙ refl

-- where a key has no number, it has no row
pub no_row : (es : List (Key × ℕ)) (key : Key) (row : Numbered) → number_at es key ≡ None → IsIndexed es row
    → same_key key row.kept.key ≡ false
no_row es key row at is = by_test (same_key key row.kept.key) refl
  where
    by_test : (b : Bool) → same_key key row.kept.key ≡ b → same_key key row.kept.key ≡ false
    by_test true e = absurd (true≢false (ap is_some (sym (is.own key e) ∙ at)))
    by_test false e = e

-- where a key has no number, no reply has it
pub none_has_key : (es : List (Key × ℕ)) (key : Key) (rows : List Numbered) → number_at es key ≡ None → All (IsIndexed es) rows
    → list_any (λ reply. same_key reply.key key) (replies_of rows) ≡ false
none_has_key es key [] at h = refl
none_has_key es key (row ∷ rows) at h =
    rw (key_sym row.kept.key key, no_row es key row at (All-head (IsIndexed es) row rows h))
    (none_has_key es key rows at (All-tail (IsIndexed es) row rows h))

-- otherwise one has it exactly where there is a row of the number
pub has_key_is : (es : List (Key × ℕ)) (key : Key) (n : ℕ) (rows : List Numbered) → number_at es key ≡ Some n
    → All (IsIndexed es) rows
    → list_any (λ reply. same_key reply.key key) (replies_of rows) ≡ is_some (find (has_number number_of n) rows)
has_key_is es key n [] at h = refl
has_key_is es key n (row ∷ rows) at h =
    rw (key_sym row.kept.key key, agrees es key n row at (All-head (IsIndexed es) row rows h))
    (by_test (eqb row.number n) _ _ (has_key_is es key n rows at (All-tail (IsIndexed es) row rows h)))
  where
    by_test : (b held : Bool) (found : Option Numbered) → held ≡ is_some found → (b || held) ≡ is_some (cond b (Some row) found)
    by_test true held found more = refl
    by_test false held found more = more

-- ---- replies and rows

-- to filter by a test that agrees on all rows
pub filter_all_agree : (p q : Numbered → Bool) (rows : List Numbered) → All (λ row. p row ≡ q row) rows
    → filter p rows ≡ filter q rows
filter_all_agree p q [] h = refl
filter_all_agree p q (row ∷ rows) h =
    λ j. cond (All-head (λ row. p row ≡ q row) row rows h j)
    (row ∷ filter_all_agree p q rows (All-tail (λ row. p row ≡ q row) row rows h) j)
    (filter_all_agree p q rows (All-tail (λ row. p row ≡ q row) row rows h) j)

-- the replies of the rows that pass are the replies that pass
pub replies_filter : (p : Kept → Bool) (rows : List Numbered)
    → replies_of (filter (λ row. p row.kept) rows) ≡ filter p (replies_of rows)
replies_filter p [] = refl
replies_filter p (row ∷ rows) = by_test (p row.kept) refl (replies_filter p rows)
  where
    by_test : (b : Bool) → p row.kept ≡ b → replies_of (filter (λ row. p row.kept) rows) ≡ filter p (replies_of rows)
        → replies_of (filter (λ row. p row.kept) (row ∷ rows)) ≡ filter p (replies_of (row ∷ rows))
    by_test true e more = rw (e) (ap (λ l. row.kept ∷ l) more)
    by_test false e more = rw (e) more

-- the reply that is found is that of the row that is found
pub find_replies : (p q : Kept → Bool) (rows : List Numbered)
    → find q (filter p (replies_of rows)) ≡ option_map (λ row. row.kept) (find (λ row. p row.kept && q row.kept) rows)
find_replies p q [] = refl
find_replies p q (row ∷ rows) = by_test (p row.kept) refl (q row.kept) refl (find_replies p q rows)
  where
    by_test : (a : Bool) → p row.kept ≡ a → (b : Bool) → q row.kept ≡ b
        → find q (filter p (replies_of rows)) ≡ option_map (λ row. row.kept) (find (λ row. p row.kept && q row.kept) rows)
        → find q (filter p (replies_of (row ∷ rows)))
        ≡ option_map (λ row. row.kept) (find (λ row. p row.kept && q row.kept) (row ∷ rows))
    by_test true e true e' more = rw (e, e') refl
    by_test true e false e' more = rw (e, e') more
    by_test false e b e' more = rw (e) more

-- whether a row has another key
abbrev pub has_other_key : Key → Numbered → Bool
has_other_key key row = not (same_key key row.kept.key)

module _ (es : List (Key × ℕ)) (key : Key) (rows : List Numbered) where
  -- without its number no row has the key
  pub number_removed : (n : ℕ) → number_at es key ≡ Some n → All (IsIndexed es) rows
      → filter (has_other number_of n) rows ≡ filter (has_other_key key) rows
  number_removed n at h =
      filter_all_agree (has_other number_of n) (has_other_key key) rows (λ k d lt. ap not (sym (agrees es key n _ at (h k d lt))))

  -- where a key has no number, all rows have other keys
  pub none_removed : number_at es key ≡ None → All (IsIndexed es) rows → rows ≡ filter (has_other_key key) rows
  none_removed at h = sym (all_pass rows (λ k d lt. ap not (no_row es key _ at (h k d lt))))
    where
      all_pass : (rows : List Numbered) → All (λ row. has_other_key key row ≡ true) rows → filter (has_other_key key) rows ≡ rows
      all_pass [] pass = refl
      all_pass (row ∷ rows) pass =
          rw (All-head (λ row. has_other_key key row ≡ true) row rows pass)
          (ap (λ l. row ∷ l) (all_pass rows (All-tail (λ row. has_other_key key row ≡ true) row rows pass)))

module _ (key : Key) (rows left : List Numbered) (is : left ≡ filter (has_other_key key) rows) where
  -- no row that is left has the key
  pub gone : All (λ row. same_key key row.kept.key ≡ false) left
  gone =
      subst (All (λ row. same_key key row.kept.key ≡ false)) (sym is) (λ k d lt.
      turned (same_key key _) (filter_passes (has_other_key key) rows k d lt))
    where
      turned : (b : Bool) → not b ≡ true → b ≡ false
      turned true e = absurd (true≢false (sym e))
      turned false e = refl

  -- their replies are those to requests with other keys
  pub replies_left : replies_of left ≡ filter (λ reply. not (same_key key reply.key)) (replies_of rows)
  replies_left = ap replies_of is ∙ replies_filter (λ reply. not (same_key key reply.key)) rows

-- ---- counts

-- how many live replies there are to requests with another key
module _ (p : Kept → Bool) (es : List (Key × ℕ)) (key : Key) (rows : List Numbered) (indexed : All (IsIndexed es) rows) where
  -- whether a row's reply passes
  abbrev pub live : Numbered → Bool
  live row = p row.kept

  -- how many replies pass and are to other keys
  abbrev pub others_of : ℕ
  others_of = length (filter (λ reply. not (same_key key reply.key)) (filter p (replies_of rows)))

  -- counted among the rows that pass
  among_rows : others_of ≡ length (filter (has_other_key key) (filter live rows))
  among_rows =
      ap (λ l. length (filter (λ reply. not (same_key key reply.key)) l)) (sym (replies_filter p rows))
      ∙ ap length (sym (replies_left key (filter live rows) _ refl))
      ∙ length-map (filter (has_other_key key) (filter live rows)) (λ row. row.kept)

  -- the key has no number
  pub count_none : number_at es key ≡ None → others_of ≡ length (filter live rows)
  count_none at =
      among_rows ∙ ap length (sym (none_removed es key (filter live rows) at (All-filter live (IsIndexed es) rows indexed)))

  module _ (n : ℕ) (at : number_at es key ≡ Some n) where
    -- the key has a number
    count_number : others_of ≡ length (filter (has_other number_of n) (filter live rows))
    count_number =
        among_rows ∙ ap length (sym (number_removed es key (filter live rows) n at (All-filter live (IsIndexed es) rows indexed)))

    -- the number is of no row
    pub count_vacant : find (has_number number_of n) rows ≡ None → others_of ≡ length (filter live rows)
    count_vacant none = count_number ∙ others_none number_of n (filter live rows) (live_none number_of n live rows none)

    module _ (x : Numbered) (rising : AllPairs (IsBefore number_of) rows)
        (there : find (has_number number_of n) rows ≡ Some x) where
      -- it is of a row that isn't live
      pub count_dead : p x.kept ≡ false → others_of ≡ length (filter live rows)
      count_dead dead =
          count_number ∙ others_none number_of n (filter live rows) (live_false number_of n live rows x rising there dead)

      -- it is of a live row
      pub count_live : p x.kept ≡ true → others_of + 1 ≡ length (filter live rows)
      count_live lives =
          omega (
            arith,
            count_number,
            others_some number_of n (filter live rows) x (AllPairs-filter (IsBefore number_of) live rows rising)
                (live_true number_of n live rows x there lives),
          )

-- no more replies than rows
pub others_le : (p q : Kept → Bool) (rows : List Numbered) → length (filter q (filter p (replies_of rows))) ≤ length rows
others_le p q rows =
    omega (
      arith,
      length-filter q (filter p (replies_of rows)),
      count_by-le-length q (filter p (replies_of rows)),
      length-filter p (replies_of rows),
      count_by-le-length p (replies_of rows),
      length-map rows (λ row. row.kept),
    )
