-- How many kept replies take the share of each client.
use Rattle.std.proofs.Common.{◌≡◌, ℕ, ◌+◌, ◌-◌, ◌<◌, ◌^◌, Bool, true, false, cond, not, ◌&&◌, List, [], ◌∷◌, ◌++◌, Option, Some}
use Rattle.std.proofs.Common.{None, refl, ap, ◌∙◌, sym, subst, filter, find, length, arith, get_or, replicate}
use Rattle.std.specs.Prelude.{count_by}
use Rattle.std.specs.List.{All, AllPairs, FoldsTo}
use Rattle.std.proofs.lemmas.List.{get_or-replicate, length-map, length-replicate}
use Rattle.std.proofs.lemmas.List.Filters.{sum_by-filter_both}
use Rattle.std.proofs.lemmas.List.Sums.{count_by-le-length, length-filter, sum_by-cons, sum_by_push}
use Rattle.rad_rows.specs.Rows.{IsBefore, Tells, has_number, is_dead}
use Rattle.rad_recent.specs.Index.{IsIndexed, is_row_live, replies_of}
use Rattle.rad_recent.specs.Notes.{CountsClients, GainsClient, Leaves, LosesClient, TakesOne, is_live_of, one_of}
use Rattle.rad_recent.specs.Numbers.{number_at}
use Rattle.rad_recent.specs.Recent.{is_of, is_reply_live, same_key}
use Rattle.rad_recent.specs.declared.clients.LiveReplies.{LiveReplies}
use Rattle.rad_recent.specs.declared.kept.Kept.{Kept}
use Rattle.rad_recent.specs.declared.key.Key.{Key}
use Rattle.rad_recent.specs.declared.notes.Notes.{Notes}
use Rattle.rad_recent.specs.declared.numbered.Numbered.{Numbered}
use Rattle.rad_recent.proofs.NumberedLemmas.{count_dead, count_live, count_none, count_vacant, number_of}

-- ---- tests in a row

-- to filter by one test and another is to filter by both
filter_both : {T : Type 0} (p q : T → Bool) (xs : List T) → filter q (filter p xs) ≡ filter (λ x. p x && q x) xs
filter_both p q [] = refl
filter_both {T} p q (x ∷ xs) = by_test (p x) refl (filter_both p q xs)
  where
    by_test : (b : Bool) → p x ≡ b → filter q (filter p xs) ≡ filter (λ x. p x && q x) xs
        → filter q (filter p (x ∷ xs)) ≡ filter (λ x. p x && q x) (x ∷ xs)
    by_test true e more = rw (e) (ap (λ l. cond (q x) (x ∷ l) l) more)
    by_test false e more = rw (e) more

-- in either order
filter_turned : {T : Type 0} (p q : T → Bool) (xs : List T) → filter p (filter q xs) ≡ filter q (filter p xs)
filter_turned p q [] = refl
filter_turned {T} p q (x ∷ xs) = by_test (p x) refl (q x) refl (filter_turned p q xs)
  where
    by_test : (a : Bool) → p x ≡ a → (b : Bool) → q x ≡ b → filter p (filter q xs) ≡ filter q (filter p xs)
        → filter p (filter q (x ∷ xs)) ≡ filter q (filter p (x ∷ xs))
    by_test true e true e' more = rw (e, e', e) (ap (λ l. x ∷ l) more)
    by_test true e false e' more = rw (e, e') more
    by_test false e true e' more = rw (e, e', e) more
    by_test false e false e' more = rw (e, e') more

-- ---- rows and replies

-- as many replies pass as rows do
rows_count : (p : Kept → Bool) (rows : List Numbered) → count_by p (replies_of rows) ≡ count_by (λ row. p row.kept) rows
rows_count p [] = refl
rows_count p (row ∷ rows) =
    omega (
      arith,
      sum_by-cons (λ reply. cond {A = ℕ} (p reply) 1 0) row.kept (replies_of rows),
      sum_by-cons (λ (row : Numbered). cond {A = ℕ} (p row.kept) 1 0) row rows,
      rows_count p rows,
    )

count_cons : (client : ℕ) (row : Numbered) (rows : List Numbered)
    → count_by (is_of client) (replies_of (row ∷ rows)) ≡ one_of client row.kept.client + count_by (is_of client) (replies_of rows)
count_cons client row rows = sum_by-cons (λ (reply : Kept). cond {A = ℕ} (is_of client reply) 1 0) row.kept (replies_of rows)

-- ---- without a key

module _ (es : List (Key × ℕ)) (key : Key) (rows : List Numbered) (indexed : All (IsIndexed es) rows) where
  abbrev others : List Kept → List Kept
  others replies = filter (λ reply. not (same_key key reply.key)) replies

  -- the live replies of a client
  module _ (window now client : ℕ) where
    abbrev counted : Kept → Bool
    counted reply = is_reply_live window now reply && is_of client reply

    others_counted : count_by (is_of client) (others (filter (is_reply_live window now) (replies_of rows)))
        ≡ length (others (filter counted (replies_of rows)))
    others_counted =
        sym (length-filter (is_of client) (others (filter (is_reply_live window now) (replies_of rows))))
        ∙ ap length (filter_turned (is_of client) (λ reply. not (same_key key reply.key))
        (filter (is_reply_live window now) (replies_of rows)))
        ∙ ap (λ l. length (others l)) (filter_both (is_reply_live window now) (is_of client) (replies_of rows))

    pub live_none : number_at es key ≡ None
        → count_by (is_of client) (others (filter (is_reply_live window now) (replies_of rows)))
        ≡ length (filter (is_live_of window now client) rows)
    live_none at = others_counted ∙ count_none counted es key rows indexed at

    pub live_vacant : (n : ℕ) → number_at es key ≡ Some n → find (has_number number_of n) rows ≡ None
        → count_by (is_of client) (others (filter (is_reply_live window now) (replies_of rows)))
        ≡ length (filter (is_live_of window now client) rows)
    live_vacant n at none = others_counted ∙ count_vacant counted es key rows indexed n at none

    pub live_other : (n : ℕ) (x : Numbered) → number_at es key ≡ Some n → AllPairs (IsBefore number_of) rows
        → find (has_number number_of n) rows ≡ Some x → is_live_of window now client x ≡ false
        → count_by (is_of client) (others (filter (is_reply_live window now) (replies_of rows)))
        ≡ length (filter (is_live_of window now client) rows)
    live_other n x at rising there fails = others_counted ∙ count_dead counted es key rows indexed n at x rising there fails

    pub live_own : (n : ℕ) (x : Numbered) → number_at es key ≡ Some n → AllPairs (IsBefore number_of) rows
        → find (has_number number_of n) rows ≡ Some x → is_live_of window now client x ≡ true
        → count_by (is_of client) (others (filter (is_reply_live window now) (replies_of rows))) + 1
        ≡ length (filter (is_live_of window now client) rows)
    live_own n x at rising there passes =
        omega (arith, others_counted, count_live counted es key rows indexed n at x rising there passes)

  -- all replies of a client
  module _ (client : ℕ) where
    others_all : count_by (is_of client) (others (replies_of rows)) ≡ length (others (filter (is_of client) (replies_of rows)))
    others_all = sym (length-filter (is_of client) (others (replies_of rows)))
        ∙ ap length (filter_turned (is_of client) (λ reply. not (same_key key reply.key)) (replies_of rows))

    all_rows : length (filter (λ row. is_of client row.kept) rows) ≡ count_by (is_of client) (replies_of rows)
    all_rows = length-filter (λ (row : Numbered). is_of client row.kept) rows ∙ sym (rows_count (is_of client) rows)

    pub all_none : number_at es key ≡ None
        → count_by (is_of client) (others (replies_of rows)) + 0 ≡ count_by (is_of client) (replies_of rows)
    all_none at = omega (arith, others_all, all_rows, count_none (is_of client) es key rows indexed at)

    pub all_vacant : (n : ℕ) → number_at es key ≡ Some n → find (has_number number_of n) rows ≡ None
        → count_by (is_of client) (others (replies_of rows)) + 0 ≡ count_by (is_of client) (replies_of rows)
    all_vacant n at none = omega (arith, others_all, all_rows, count_vacant (is_of client) es key rows indexed n at none)

    pub all_found : (n : ℕ) (x : Numbered) → number_at es key ≡ Some n → AllPairs (IsBefore number_of) rows
        → find (has_number number_of n) rows ≡ Some x
        → count_by (is_of client) (others (replies_of rows)) + one_of client x.kept.client
        ≡ count_by (is_of client) (replies_of rows)
    all_found n x at rising there = by_test (is_of client x.kept) refl
      where
        by_test : (b : Bool) → is_of client x.kept ≡ b
            → count_by (is_of client) (others (replies_of rows)) + one_of client x.kept.client
            ≡ count_by (is_of client) (replies_of rows)
        by_test true e =
            let one : one_of client x.kept.client ≡ 1 = ap (λ b. cond {A = ℕ} b 1 0) e in
            omega (arith, one, others_all, all_rows, count_live (is_of client) es key rows indexed n at x rising there e)
        by_test false e =
            let none : one_of client x.kept.client ≡ 0 = ap (λ b. cond {A = ℕ} b 1 0) e in
            omega (arith, none, others_all, all_rows, count_dead (is_of client) es key rows indexed n at x rising there e)

-- ---- rows that go

clients_gone : (dead : List Numbered) (old new : Notes) → FoldsTo Leaves old dead new
    → (length new.clients.items ≡ length old.clients.items)
    × ((n : ℕ) → n < length old.clients.items
    → get_or new.clients.items n 0 ≡ get_or old.clients.items n 0 - count_by (is_of n) (replies_of dead))
clients_gone [] old new h = (
  ap (λ (notes : Notes). length notes.clients.items) (sym h),
  λ n lt. omega (arith, ap (λ (notes : Notes). get_or notes.clients.items n 0) (sym h)),
)
clients_gone (row ∷ dead) old new h =
    let first : Leaves old row h.0 = h.1 in
    let rest = clients_gone dead h.0 new h.2 in (
      rest.0 ∙ first.clients.len,
      λ n lt. omega (arith, rest.1 n (omega (arith, lt, first.clients.len)), first.clients.is n lt, count_cons n row dead),
    )

-- live rows and dead ones are all rows
both_parts : (window now client : ℕ) (rows : List Numbered)
    → count_by (is_of client) (replies_of (filter (is_row_live window now) rows))
    + count_by (is_of client) (replies_of (filter (is_dead is_row_live window now) rows))
    ≡ count_by (is_of client) (replies_of rows)
both_parts window now client rows =
    omega (
      arith,
      rows_count (is_of client) (filter (is_row_live window now) rows),
      rows_count (is_of client) (filter (is_dead is_row_live window now) rows),
      rows_count (is_of client) rows,
      sum_by-filter_both (is_row_live window now) (is_dead is_row_live window now) (λ row. refl)
          (λ (row : Numbered). cond {A = ℕ} (is_of client row.kept) 1 0) rows,
    )

pub clients_left : (window now : ℕ) (rows left : List Numbered) (old new : Notes) → CountsClients rows old.clients.items
    → left ≡ filter (is_row_live window now) rows
    → Tells Leaves is_row_live window now rows old new → CountsClients left new.clients.items
clients_left window now rows left old new h is told =
    let gone = clients_gone (filter (is_dead is_row_live window now) rows) old new told in
    record {
      is = λ n lt.
          let before : n < length old.clients.items = omega (arith, lt, gone.0) in
          omega (
            arith,
            gone.1 n before,
            h.is n before,
            both_parts window now n rows,
            ap (λ l. count_by (is_of n) (replies_of l)) is,
          );
    }

-- ---- the live replies of a client

taken : (dead : List Numbered) (old new : LiveReplies) → FoldsTo TakesOne old dead new
    → new.count ≡ old.count - count_by (is_of old.client) (replies_of dead)
taken [] old new h = omega (arith, ap (λ (t : LiveReplies). t.count) h)
taken (row ∷ dead) old new h =
    let step : TakesOne old row h.0 = h.1 in
    omega (
      arith,
      taken dead h.0 new h.2,
      step.count,
      count_cons old.client row dead,
      ap (λ client. count_by (is_of client) (replies_of dead)) step.client,
    )

pub live_counted : (window now : ℕ) (rows : List Numbered) (old new : LiveReplies)
    → old.count ≡ count_by (is_of old.client) (replies_of rows) → Tells TakesOne is_row_live window now rows old new
    → new.count ≡ length (filter (is_live_of window now old.client) rows)
live_counted window now rows old new is told =
    let own : Numbered → Bool = λ row. is_of old.client row.kept in
    let live : List Numbered = filter (is_row_live window now) rows in
    omega (
      arith,
      taken (filter (is_dead is_row_live window now) rows) old new told,
      is,
      both_parts window now old.client rows,
      rows_count (is_of old.client) live,
      length-filter own live,
      ap length (filter_both (is_row_live window now) own rows),
    )

-- ---- a reply that is put

pub clients_put : (rows rows' : List Numbered) (kept : Kept) (removed : Option ℕ) (old mid new : List ℕ) → CountsClients rows old
    → length rows + 1 < 2 ^ 64
    → ((client : ℕ) → count_by (is_of client) (filter (λ reply. not (same_key kept.key reply.key)) (replies_of rows))
    + one_of client removed ≡ count_by (is_of client) (replies_of rows))
    → LosesClient removed old mid → GainsClient kept.client mid new
    → replies_of rows' ≡ filter (λ reply. not (same_key kept.key reply.key)) (replies_of rows) ++ kept ∷ []
    → CountsClients rows' new
clients_put rows rows' kept removed old mid new h few without loses gains is = record {
  is = λ n lt.
      let before : n < length mid = omega (arith, lt, gains.len) in
      let at_first : n < length old = omega (arith, before, loses.len) in
      let others : List Kept = filter (λ reply. not (same_key kept.key reply.key)) (replies_of rows) in
      let left : get_or mid n 0 ≡ count_by (is_of n) others = omega (arith, loses.is n at_first, h.is n at_first, without n) in
      let low : get_or mid n 0 + 1 < 2 ^ 64 =
      omega (arith, left, without n, count_by-le-length (is_of n) (replies_of rows), length-map rows (λ row. row.kept), few) in
      omega (
        arith,
        gains.is n before low,
        left,
        sum_by_push (λ (reply : Kept). cond {A = ℕ} (is_of n reply) 1 0) others kept,
        ap (count_by (is_of n)) is,
      );
}

-- ---- no replies, and equal ones

pub no_client : (counts : List ℕ) (count : ℕ) → counts ≡ replicate count 0 → CountsClients [] counts
no_client counts count is = record {
  is = λ n lt. ap (λ cs. get_or cs n 0) is
      ∙ get_or-replicate count n 0 0 (omega (arith, lt, ap length is, length-replicate {A = ℕ} count 0));
}

pub clients_copied : (rows rows' : List Numbered) (old new : List ℕ) → CountsClients rows old → rows' ≡ rows → new ≡ old
    → CountsClients rows' new
clients_copied rows rows' old new h is same = subst (λ xs. CountsClients xs new) (sym is) (subst (CountsClients rows) (sym same) h)
