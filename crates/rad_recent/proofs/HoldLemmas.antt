use Rattle.std.proofs.Common.{◌≡◌, ℕ, ◌+◌, ◌≤◌, ◌<◌, ◌^◌, Bool, true, false, cond, not, ◌&&◌, List, [], ◌∷◌, ◌++◌, Option, Some}
use Rattle.std.proofs.Common.{None, refl, ap, ◌∙◌}
use Rattle.std.proofs.Common.{sym, subst, eqb, filter, find, length, is_some, true≢false, arith, get_or, ◌⊎◌, inl, inr}
use Rattle.std.specs.Cmp.Lexicographic.{pointwise}
use Rattle.std.specs.List.{All, AllPairs, FoldsTo}
use Rattle.std.specs.Option.{option_map}
use Rattle.std.proofs.lemmas.Bool.{cases_lt, ne_eqb}
use Rattle.std.proofs.lemmas.List.{get_or_default}
use Rattle.std.proofs.lemmas.List.Elements.{All-head, All-tail, All-push, All-filter, filter_passes}
use Rattle.indexmap.specs.IndexMap.{spare}
use Rattle.rad_rows.specs.Rows.{IsBefore, IsGiven, SeenRows, Tells, has_number, is_dead}
use Rattle.rad_recent.specs.declared.index.Index.{Index}
use Rattle.rad_recent.specs.declared.key.Key.{Key}
use Rattle.rad_recent.specs.declared.notes.Notes.{Notes}
use Rattle.rad_recent.specs.declared.numbered.Numbered.{Numbered}
use Rattle.rad_recent.specs.Index.{Forgets, HoldsIndex, IsIndexed, is_row_live, replies_of}
use Rattle.rad_recent.specs.Notes.{Leaves}
use Rattle.rad_recent.specs.Numbers.{number_at}
use Rattle.rad_recent.specs.Recent.{Replies, cut_replies, is_reply_live, is_reply_to, same_key}
use Rattle.rad_recent.proofs.RecentLemmas.{filter_twice}
use Rattle.rad_recent.proofs.FindLemmas.{Means, both, find_false, find_none, find_true, none_passes}
use Rattle.rad_recent.proofs.NumberedLemmas.{agrees, find_replies, gone, has_other_key, key_is, key_same, key_turned, no_row}
use Rattle.rad_recent.proofs.NumberedLemmas.{number_of, replies_filter, some_number}

-- ---- a look

-- whether a row is live and a reply to the request
abbrev pub wanted : ℕ → ℕ → Key → List ℕ → Numbered → Bool
wanted window now key octets row = is_reply_live window now row.kept && is_reply_to key octets row.kept

-- it has the key then
wanted_key : (window now : ℕ) (key : Key) (octets : List ℕ) (row : Numbered) → wanted window now key octets row ≡ true
    → same_key key row.kept.key ≡ true
wanted_key window now key octets row h =
    (both (same_key key row.kept.key) (pointwise eqb octets row.kept.octets)
    (both (is_reply_live window now row.kept) (is_reply_to key octets row.kept) h).1).0

-- and the number that the index has for the key
pub wanted_means : (window now : ℕ) (key : Key) (octets : List ℕ) (es : List (Key × ℕ)) (n : ℕ) (rows : List Numbered)
    → number_at es key ≡ Some n → All (IsIndexed es) rows → All (Means number_of (wanted window now key octets) n) rows
wanted_means window now key octets es n rows at h = λ k d lt. record {
  means = λ passes. some_number (get_or rows k d).number n
      (sym ((h k d lt).own key (wanted_key window now key octets (get_or rows k d) passes)) ∙ at);
}

-- a key without a number has no reply
pub look_nothing : (window now : ℕ) (key : Key) (octets : List ℕ) (es : List (Key × ℕ)) (rows : List Numbered)
    → number_at es key ≡ None
    → All (IsIndexed es) rows
    → None ≡ find (is_reply_to key octets) (filter (is_reply_live window now) (replies_of rows))
look_nothing window now key octets es rows at h =
    sym (find_replies (is_reply_live window now) (is_reply_to key octets) rows
    ∙ ap (option_map (λ row. row.kept))
    (none_passes (wanted window now key octets) rows
    (λ k d lt. fails (get_or rows k d) (no_row es key (get_or rows k d) at (h k d lt)))))
  where
    fails : (row : Numbered) → same_key key row.kept.key ≡ false → wanted window now key octets row ≡ false
    fails row other = by_test (wanted window now key octets row) refl
      where
        by_test : (b : Bool) → wanted window now key octets row ≡ b → wanted window now key octets row ≡ false
        by_test true e = absurd (true≢false (sym (wanted_key window now key octets row e) ∙ other))
        by_test false e = e

module _ (window now : ℕ) (key : Key) (octets : List ℕ) (es : List (Key × ℕ)) (n : ℕ) (rows : List Numbered)
    (at : number_at es key ≡ Some n) (h : All (IsIndexed es) rows) where
  -- nor has one whose number is of no row
  pub look_none : find (has_number number_of n) rows ≡ None
      → None ≡ find (is_reply_to key octets) (filter (is_reply_live window now) (replies_of rows))
  look_none none =
      sym (find_replies (is_reply_live window now) (is_reply_to key octets) rows
      ∙ ap (option_map (λ row. row.kept))
      (find_none number_of (wanted window now key octets) n rows (wanted_means window now key octets es n rows at h) none))

  -- or of a row that is not wanted
  pub look_false : (x : Numbered) → AllPairs (IsBefore number_of) rows → find (has_number number_of n) rows ≡ Some x
      → wanted window now key octets x ≡ false
      → None ≡ find (is_reply_to key octets) (filter (is_reply_live window now) (replies_of rows))
  look_false x rising some fails =
      sym (find_replies (is_reply_live window now) (is_reply_to key octets) rows
      ∙ ap (option_map (λ row. row.kept))
      (find_false number_of (wanted window now key octets) n rows x rising (wanted_means window now key octets es n rows at h) some
      fails))

  -- the row of its number is found if it is wanted
  pub look_true : (x : Numbered) → find (has_number number_of n) rows ≡ Some x → wanted window now key octets x ≡ true
      → Some x.kept ≡ find (is_reply_to key octets) (filter (is_reply_live window now) (replies_of rows))
  look_true x some passes =
      sym (find_replies (is_reply_live window now) (is_reply_to key octets) rows
      ∙ ap (option_map (λ row. row.kept))
      (find_true number_of (wanted window now key octets) n rows x (wanted_means window now key octets es n rows at h) some passes))

-- ---- an index that has another number for a key, or none

module _ (es fs : List (Key × ℕ)) (key : Key) (number : Option ℕ)
    (noted : (other : Key) → number_at fs other ≡ cond (same_key key other) number (number_at es other)) where
  here : (k : Key) → same_key key k ≡ true → number_at fs k ≡ number
  here k is = noted k ∙ ap (λ b. cond b number (number_at es k)) is

  there : (k : Key) → same_key key k ≡ false → number_at fs k ≡ number_at es k
  there k is = noted k ∙ ap (λ b. cond b number (number_at es k)) is

  -- a row of another key and another number stays indexed
  still_indexed : (row : Numbered) → same_key key row.kept.key ≡ false → (number ≡ Some row.number → ⊥) → IsIndexed es row
      → IsIndexed fs row
  still_indexed row other differs is = record {
    own = λ k same. own k same (same_key key k) refl;
    only = λ k at. only k at (same_key key k) refl;
  }
    where
      own : (k : Key) → same_key k row.kept.key ≡ true → (b : Bool) → same_key key k ≡ b → number_at fs k ≡ Some row.number
      own k same true e =
          absurd (true≢false (sym (subst (λ q. same_key q row.kept.key ≡ true) (sym (key_is key k e)) same) ∙ other))
      own k same false e = there k e ∙ is.own k same

      only : (k : Key) → number_at fs k ≡ Some row.number → (b : Bool) → same_key key k ≡ b → same_key k row.kept.key ≡ true
      only k at true e = absurd (differs (sym (here k e) ∙ at))
      only k at false e = is.only k (sym (there k e) ∙ at)

  -- numbers that were given
  still_given : (last : ℕ) → ((m : ℕ) → number ≡ Some m → m ≤ last) → ((k : Key) (m : ℕ) → number_at es k ≡ Some m → m ≤ last)
      → (k : Key) (m : ℕ) → number_at fs k ≡ Some m → m ≤ last
  still_given last own given k m at = by_test (same_key key k) refl
    where
      by_test : (b : Bool) → same_key key k ≡ b → m ≤ last
      by_test true e = own m (sym (here k e) ∙ at)
      by_test false e = given k m (sym (there k e) ∙ at)

-- nothing is something: no such case
none_is_some : {A X : Type 0} (x : X) → None ≡ Some x → A
none_is_some x h = absurd (true≢false (sym (ap is_some h)))

-- ---- what is kept after each call

-- the same index, of some of the rows
holds_within : (p : Numbered → Bool) (rows left : SeenRows Numbered ℕ) (index : Index)
    → left.rows ≡ filter p rows.rows → left.last ≡ rows.last → left.has_room ≡ rows.has_room → HoldsIndex rows index
    → HoldsIndex left index
holds_within p rows left index is last room h = record {
  indexed = subst (All (IsIndexed index.map.entries)) (sym is) (All-filter p (IsIndexed index.map.entries) rows.rows h.indexed);
  given = λ key number at. omega (arith, h.given key number at, last);
  room = λ r. room ∙ h.room r;
  next = λ r. subst (λ l. l + 1 < 2 ^ 64) (sym last) (h.next r);
  spare = h.spare;
}

-- without a key that no row has
holds_forgot : (key : Key) (rows : SeenRows Numbered ℕ) (old new : Index)
    → All (λ row. same_key key row.kept.key ≡ false) rows.rows → Forgets old key new → HoldsIndex rows old → HoldsIndex rows new
holds_forgot key rows old new others forgets h =
    let ready : is_some old.ready ≡ is_some new.ready = ap is_some (sym forgets.ready) in
    record {
      indexed = λ k d lt. still_indexed old.map.entries new.map.entries key None forgets.numbers
          (get_or rows.rows k d) (others k d lt) (none_is_some _) (h.indexed k d lt);
      given = still_given old.map.entries new.map.entries key None forgets.numbers rows.last (λ m e. none_is_some m e) h.given;
      room = λ r. h.room (ready ∙ r);
      next = λ r. h.next (ready ∙ r);
      spare = λ r. omega (arith, forgets.room, h.spare (ready ∙ r));
    }

-- without a key and its row
pub holds_removed : (key : Key) (rows left : SeenRows Numbered ℕ) (old new : Index)
    → left.rows ≡ filter (has_other_key key) rows.rows → left.last ≡ rows.last → left.has_room ≡ rows.has_room
    → Forgets old key new → HoldsIndex rows old → HoldsIndex left new
holds_removed key rows left old new is last room forgets h =
    holds_forgot key left old new (gone key rows.rows left.rows is) forgets
    (holds_within (has_other_key key) rows left old is last room h)

-- without the keys of dead rows
holds_left : (dead : List Numbered) (left : SeenRows Numbered ℕ) (old new : Notes) → FoldsTo Leaves old dead new
    → All (λ row. All (λ other. same_key row.kept.key other.kept.key ≡ false) left.rows) dead
    → HoldsIndex left old.index → HoldsIndex left new.index
holds_left [] left old new told apart h = subst (λ (notes : Notes). HoldsIndex left notes.index) told h
holds_left (row ∷ dead) left old new told apart h =
    let IsApart : Numbered → Type 0 = λ row. All (λ other. same_key row.kept.key other.kept.key ≡ false) left.rows in
    let first : Leaves old row told.0 = told.1 in
    holds_left dead left told.0 new told.2 (All-tail IsApart row dead apart)
    (holds_forgot row.kept.key left old.index told.0.index (All-head IsApart row dead apart) first.index h)

-- what holds of each that passes holds of all that are left
passing : {X : Type 0} (p : X → Bool) (P : X → Type 0) (xs : List X) → All (λ x. p x ≡ true → P x) xs → All P (filter p xs)
passing p P xs h = λ k d lt. All-filter p (λ x. p x ≡ true → P x) xs h k d lt (filter_passes p xs k d lt)

-- dead rows and live ones have different keys
module _ (window now : ℕ) (rows : List Numbered) (es : List (Key × ℕ)) (rising : AllPairs (IsBefore number_of) rows)
    (h : All (IsIndexed es) rows) where
  abbrev live : Numbered → Bool
  live = is_row_live window now

  abbrev dead : Numbered → Bool
  dead = is_dead is_row_live window now

  two_apart : (j : ℕ) (e : Numbered) → j < length rows → dead (get_or rows j e) ≡ true
      → (k : ℕ) (d : Numbered) → k < length rows → live (get_or rows k d) ≡ true
      → same_key (get_or rows j e).kept.key (get_or rows k d).kept.key ≡ false
  two_apart j e within gone k d lt lives =
      let row = get_or rows j e in
      agrees es row.kept.key row.number (get_or rows k d) ((h j e within).own row.kept.key (key_same row.kept.key)) (h k d lt)
      ∙ ne_eqb (get_or rows k d).number row.number (λ same. by_order same (cases_lt j k) (cases_lt k j))
    where
      one : get_or rows k d ≡ get_or rows k e
      one = get_or_default rows k d e lt

      by_order : (get_or rows k d).number ≡ (get_or rows j e).number → (j < k) ⊎ (k ≤ j) → (k < j) ⊎ (j ≤ k) → ⊥
      by_order same (inl below) c = absurd (omega (arith, (rising j k e below lt).lt, same, ap number_of one))
      by_order same (inr le) (inl above) = absurd (omega (arith, (rising k j e above within).lt, same, ap number_of one))
      by_order same (inr le) (inr le') =
          let is : get_or rows j e ≡ get_or rows k d = ap (λ i. get_or rows i e) (omega arith) ∙ sym one in
          true≢false (sym gone ∙ ap dead is ∙ ap not lives)

  apart : All (λ row. All (λ other. same_key row.kept.key other.kept.key ≡ false) (filter live rows)) (filter dead rows)
  apart =
      passing dead (λ row. All (λ other. same_key row.kept.key other.kept.key ≡ false) (filter live rows)) rows (λ j e within gone.
      passing live (λ other. same_key (get_or rows j e).kept.key other.kept.key ≡ false) rows (λ k d lt lives.
      two_apart j e within gone k d lt lives))

-- after the rows went that are not live
pub holds_expired : (now : ℕ) (rows left : SeenRows Numbered ℕ) (old new : Notes) → AllPairs (IsBefore number_of) rows.rows
    → left.rows ≡ filter (is_row_live rows.spans now) rows.rows → left.last ≡ rows.last → left.has_room ≡ rows.has_room
    → Tells Leaves is_row_live rows.spans now rows.rows old new → HoldsIndex rows old.index → HoldsIndex left new.index
holds_expired now rows left old new rising is last room told h =
    let gone : List Numbered = filter (is_dead is_row_live rows.spans now) rows.rows in
    holds_left gone left old new told
    (subst (λ xs. All (λ row. All (λ other. same_key row.kept.key other.kept.key ≡ false) xs) gone) (sym is)
    (apart rows.spans now rows.rows old.index.map.entries rising h.indexed))
    (holds_within (is_row_live rows.spans now) rows left old.index is last room h)

-- the same key is ready
pub ready_left : (dead : List Numbered) (old new : Notes) → FoldsTo Leaves old dead new → new.index.ready ≡ old.index.ready
ready_left [] old new told = ap (λ (notes : Notes). notes.index.ready) (sym told)
ready_left (row ∷ dead) old new told =
    let first : Leaves old row told.0 = told.1 in
    ready_left dead told.0 new told.2 ∙ first.index.ready

-- the same rows and numbers, where what is ready has room
pub holds_as : (rows rows' : SeenRows Numbered ℕ) (old new : Index)
    → rows'.rows ≡ rows.rows → rows'.last ≡ rows.last → new.map.entries ≡ old.map.entries
    → (is_some new.ready ≡ true → (rows'.has_room ≡ true) × (rows.last + 1 < 2 ^ 64) × (0 < spare new.map))
    → HoldsIndex rows old → HoldsIndex rows' new
holds_as rows rows' old new is last entries ready h = record {
  indexed = subst (λ es. All (IsIndexed es) rows'.rows) (sym entries) (subst (All (IsIndexed old.map.entries)) (sym is) h.indexed);
  given = λ key number at. omega (arith, h.given key number (ap (λ es. number_at es key) (sym entries) ∙ at), last);
  room = λ r. (ready r).0;
  next = λ r. subst (λ l. l + 1 < 2 ^ 64) (sym last) (ready r).1;
  spare = λ r. (ready r).2;
}

-- after a row was put last, without an earlier one of its key
module _ (row : Numbered) (rows left rows' : SeenRows Numbered ℕ) (old new : Index) where
  pub holds_pushed : left.rows ≡ filter (has_other_key row.kept.key) rows.rows → All (IsGiven number_of rows.last) rows.rows
      → row.number ≡ rows.last + 1 → rows'.last ≡ rows.last + 1 → rows'.rows ≡ left.rows ++ row ∷ []
      → ((other : Key) → number_at new.map.entries other
      ≡ cond (same_key row.kept.key other) (Some row.number) (number_at old.map.entries other))
      → new.ready ≡ None → HoldsIndex rows old → HoldsIndex rows' new
  holds_pushed others given number last is noted none h = record {
    indexed = subst (All (IsIndexed new.map.entries)) (sym is) (All-push (IsIndexed new.map.entries) left.rows row stay
        (record {
          own = λ k own. here old.map.entries new.map.entries row.kept.key (Some row.number) noted k
              (key_turned k row.kept.key own);
          only = λ k at. only k at (same_key row.kept.key k) refl;
        }));
    given = still_given old.map.entries new.map.entries row.kept.key (Some row.number) noted rows'.last
        (λ m e. omega (arith, some_number row.number m e, number, last)) (λ k m at. omega (arith, h.given k m at, last));
    room = λ r. absurd (true≢false (sym r ∙ ap is_some none));
    next = λ r. absurd (true≢false (sym r ∙ ap is_some none));
    spare = λ r. absurd (true≢false (sym r ∙ ap is_some none));
  }
    where
      Stays : Numbered → Type 0
      Stays x = same_key row.kept.key x.kept.key ≡ false → IsIndexed new.map.entries x

      stays : All Stays rows.rows
      stays = λ k d lt other.
          still_indexed old.map.entries new.map.entries row.kept.key (Some row.number) noted (get_or rows.rows k d) other
          (λ e. absurd (omega (arith, (given k d lt).le, some_number row.number (get_or rows.rows k d).number e, number)))
          (h.indexed k d lt)

      stay : All (IsIndexed new.map.entries) left.rows
      stay = λ k d lt.
          subst (All Stays) (sym others) (All-filter (has_other_key row.kept.key) Stays rows.rows stays) k d lt
          (gone row.kept.key rows.rows left.rows others k d lt)

      only : (k : Key) → number_at new.map.entries k ≡ Some row.number → (b : Bool) → same_key row.kept.key k ≡ b
          → same_key k row.kept.key ≡ true
      only k at true e = key_turned row.kept.key k e
      only k at false e =
          let was = there old.map.entries new.map.entries row.kept.key (Some row.number) noted k e in
          absurd (omega (arith, h.given k row.number (sym was ∙ at), number))

-- ---- the table after a moment

abbrev pub table_of : SeenRows Numbered ℕ → Replies
table_of rows = record { kept = replies_of rows.rows; window = rows.spans }

module _ (now : ℕ) (rows left : SeenRows Numbered ℕ) (is : left.rows ≡ filter (is_row_live rows.spans now) rows.rows)
    (same : left.spans ≡ rows.spans) where
  pub cut_is : table_of left ≡ cut_replies now (table_of rows)
  cut_is =
      let kept : replies_of left.rows ≡ filter (is_reply_live rows.spans now) (replies_of rows.rows) =
      ap replies_of is ∙ replies_filter (is_reply_live rows.spans now) rows.rows in
      λ j. record { kept = kept j; window = same j }

  -- a moment once more changes nothing
  pub settled_is : cut_replies now (table_of left) ≡ table_of left
  settled_is =
      ap (cut_replies now) cut_is
      ∙ (λ j. record { kept = filter_twice (is_reply_live rows.spans now) (replies_of rows.rows) j; window = rows.spans })
      ∙ sym cut_is

-- what does not hold is false
pub not_full : (b : Bool) → (b ≡ true → ⊥) → b ≡ false
not_full true h = absurd (h refl)
not_full false h = refl
