use Rattle.std.proofs.Common.{◌≡◌, ℕ, ◌≤◌, ◌<◌, ◌^◌, Bool, true, false, cond, not, ◌&&◌, List, [], ◌∷◌, Option, Some, None, refl}
use Rattle.std.proofs.Common.{ap, ◌∙◌, sym, eqb, filter, find, take, is_some, unwrap_or, true≢false, arith, get_or, w64}
use Rattle.std.specs.Cmp.Lexicographic.{pointwise}
use Rattle.std.specs.Int.{from_be_bytes, to_be_bytes}
use Rattle.std.specs.List.{All, AllPairs}
use Rattle.std.proofs.lemmas.Bool.{eqb-true, eq-eqb, ne_eqb}
use Rattle.std.proofs.lemmas.List.{take_at}
use Rattle.std.proofs.lemmas.List.Elements.{All-head, All-tail}
use Rattle.std.proofs.lemmas.Nat.{from_be_bytes-to_be_bytes_8}
use Rattle.rad_rows.specs.Rows.{has_number, has_other}
use Rattle.rad_rows.specs.Rows.{IsBefore, IsGiven}
use Rattle.rad_rows.proofs.OrderLemmas.{IsAfter, rest_after, rising_rest}
use Rattle.rad_recent.specs.declared.challenge.Challenge.{Challenge}
use Rattle.rad_recent.specs.Challenges.{Challenges, cut_challenges, has_state, is_challenge_live, state_value}
use Rattle.rad_recent.proofs.FindLemmas.{Means, both, find_false, find_filter, find_none, find_true, found_holds, none_passes}
use Rattle.rad_recent.proofs.RecentLemmas.{filter_twice, filter_within}

-- the number of a row
abbrev pub number_of : Challenge → ℕ
number_of challenge = challenge.number

-- lists that compare equal are equal
lists_are : (xs ys : List ℕ) → pointwise eqb xs ys ≡ true → xs ≡ ys
lists_are [] [] h = refl
lists_are [] (y ∷ ys) h = absurd (true≢false (sym h))
lists_are (x ∷ xs) [] h = absurd (true≢false (sym h))
lists_are (x ∷ xs) (y ∷ ys) h = let b = both (eqb x y) (pointwise eqb xs ys) h in λ j. eqb-true x y b.0 j ∷ lists_are xs ys b.1 j

-- the State of a challenge that has it
pub state_is : (value : List ℕ) (client : ℕ) (challenge : Challenge) → has_state value client challenge ≡ true
    → value ≡ state_value challenge.number challenge.draw
state_is value client challenge h =
    lists_are value (state_value challenge.number challenge.draw)
    (both (eqb challenge.client client) (pointwise eqb value (state_value challenge.number challenge.draw)) h).1

-- the number in it
pub number_in : (value : List ℕ) (n : ℕ) (draw : List ℕ) → n < 2 ^ 64 → value ≡ state_value n draw
    → from_be_bytes w64 (take 8 value) ≡ n
number_in value n draw fits is =
    ap (λ v. from_be_bytes w64 (take 8 v)) is ∙ ap (from_be_bytes w64) (take_at (to_be_bytes w64 n) draw 8 refl)
    ∙ from_be_bytes-to_be_bytes_8 n fits

module _ (hold now : ℕ) (value : List ℕ) (client last : ℕ) (rows : List Challenge) (given : All (IsGiven number_of last) rows)
    (fits : last < 2 ^ 64)
    (got : Option ℕ) (says : (number : ℕ) (draw : List ℕ) → number < 2 ^ 64 → value ≡ state_value number draw
    → got ≡ Some number) where
  -- what passes has the number in the State
  means : (n : ℕ) → got ≡ Some n → All (Means number_of (λ c. is_challenge_live hold now c && has_state value client c) n) rows
  means n at = λ k d lt. record {
    means = λ h.
        let c = get_or rows k d in
        let state = state_is value client c (both (is_challenge_live hold now c) (has_state value client c) h).1 in
        ap (λ o. unwrap_or o n) (sym (says c.number c.draw (omega (arith, (given k d lt).le, fits)) state) ∙ at);
  }

  -- a State without a number is that of no challenge
  pub find_nothing : got ≡ None → None ≡ find (has_state value client) (filter (is_challenge_live hold now) rows)
  find_nothing none =
      sym (find_filter (is_challenge_live hold now) (has_state value client) rows
      ∙ none_passes (λ c. is_challenge_live hold now c && has_state value client c) rows
      (λ k d lt. fails (get_or rows k d) (given k d lt)))
    where
      fails : (c : Challenge) → IsGiven number_of last c → (is_challenge_live hold now c && has_state value client c) ≡ false
      fails c g = by_test (is_challenge_live hold now c && has_state value client c) refl
        where
          by_test : (b : Bool) → (is_challenge_live hold now c && has_state value client c) ≡ b
              → (is_challenge_live hold now c && has_state value client c) ≡ false
          by_test true e =
              let state = state_is value client c (both (is_challenge_live hold now c) (has_state value client c) e).1 in
              absurd (true≢false (ap is_some (sym (says c.number c.draw (omega (arith, g.le, fits)) state) ∙ none)))
          by_test false e = e

  module _ (n : ℕ) (at : got ≡ Some n) where
    -- nor is one whose number no challenge has
    pub find_absent : find (has_number number_of n) rows ≡ None
        → None ≡ find (has_state value client) (filter (is_challenge_live hold now) rows)
    find_absent none = sym (find_filter (is_challenge_live hold now) (has_state value client) rows
        ∙ find_none number_of (λ c. is_challenge_live hold now c && has_state value client c) n rows (means n at) none)

    -- or whose number is that of a challenge which is not answered by it
    pub find_other : (x : Challenge) → AllPairs (IsBefore number_of) rows → find (has_number number_of n) rows ≡ Some x
        → (is_challenge_live hold now x && has_state value client x) ≡ false
        → None ≡ find (has_state value client) (filter (is_challenge_live hold now) rows)
    find_other x rising some fails =
        sym (find_filter (is_challenge_live hold now) (has_state value client) rows
        ∙ find_false number_of (λ c. is_challenge_live hold now c && has_state value client c) n rows x rising (means n at) some
        fails)

    -- the challenge of its number is found if it is live and answered
    pub find_here : (x : Challenge) → find (has_number number_of n) rows ≡ Some x
        → (is_challenge_live hold now x && has_state value client x) ≡ true
        → Some x ≡ find (has_state value client) (filter (is_challenge_live hold now) rows)
    find_here x some passes = sym (find_filter (is_challenge_live hold now) (has_state value client) rows
        ∙ find_true number_of (λ c. is_challenge_live hold now c && has_state value client c) n rows x (means n at) some passes)

-- ---- without the one that was found

-- where none was found, all stay
pub none_removed : (q : Challenge → Bool) (rows : List Challenge) → find q rows ≡ None → filter (λ c. not (q c)) rows ≡ rows
none_removed q [] h = refl
none_removed q (x ∷ xs) h = by_test (q x) refl (none_removed q xs)
  where
    by_test : (b : Bool) → q x ≡ b → (find q xs ≡ None → filter (λ c. not (q c)) xs ≡ xs)
        → filter (λ c. not (q c)) (x ∷ xs) ≡ x ∷ xs
    by_test true e more = absurd (true≢false (ap is_some (sym (ap (λ b. cond b (Some x) (find q xs)) e) ∙ h)))
    by_test false e more = rw (e) (ap (λ l. x ∷ l) (more (sym (ap (λ b. cond b (Some x) (find q xs)) e) ∙ h)))

-- of rows with greater numbers all stay
all_later : (q : Challenge → Bool) (n low : ℕ) (rows : List Challenge) → n ≤ low → All (IsAfter number_of low) rows
    → All (Means number_of q n) rows → filter (has_other number_of n) rows ≡ filter (λ c. not (q c)) rows
all_later q n low [] le after m = refl
all_later q n low (x ∷ xs) le after m =
    let differs : (x.number ≡ n → ⊥) = λ e. absurd (omega (arith, (All-head (IsAfter number_of low) x xs after).lt, e, le)) in
    let rest = all_later q n low xs le (All-tail (IsAfter number_of low) x xs after) (All-tail (Means number_of q n) x xs m) in
    by_test differs rest (q x) refl
  where
    by_test : (x.number ≡ n → ⊥) → filter (has_other number_of n) xs ≡ filter (λ c. not (q c)) xs → (b : Bool) → q x ≡ b
        → filter (has_other number_of n) (x ∷ xs) ≡ filter (λ c. not (q c)) (x ∷ xs)
    by_test differs rest true e = absurd (differs ((All-head (Means number_of q n) x xs m).means e))
    by_test differs rest false e = rw (e, ne_eqb x.number n differs) (ap (λ l. x ∷ l) rest)

-- where one number alone passes, to remove that number is to remove what passes
pub one_removed : (q : Challenge → Bool) (x : Challenge) (rows : List Challenge) → AllPairs (IsBefore number_of) rows
    → All (Means number_of q x.number) rows → find q rows ≡ Some x
    → filter (has_other number_of x.number) rows ≡ filter (λ c. not (q c)) rows
one_removed q x [] rising m at = refl
one_removed q x (y ∷ ys) rising m at =
    by_test (q y) refl (one_removed q x ys (rising_rest number_of y ys (y ∷ ys) refl rising)
    (All-tail (Means number_of q x.number) y ys m))
  where
    after : All (IsAfter number_of y.number) ys
    after = rest_after number_of y ys (y ∷ ys) refl rising

    by_test : (b : Bool) → q y ≡ b → (find q ys ≡ Some x → filter (has_other number_of x.number) ys ≡ filter (λ c. not (q c)) ys)
        → filter (has_other number_of x.number) (y ∷ ys) ≡ filter (λ c. not (q c)) (y ∷ ys)
    by_test true e more =
        let same : y.number ≡ x.number = (All-head (Means number_of q x.number) y ys m).means e in
        rw (e, eq-eqb y.number x.number same)
        (all_later q x.number y.number ys (omega (arith, same)) (rest_after number_of y ys (y ∷ ys) refl rising)
        (All-tail (Means number_of q x.number) y ys m))
    by_test false e more =
        let there : find q ys ≡ Some x = sym (ap (λ b. cond b (Some y) (find q ys)) e) ∙ at in
        let later = (found_holds (IsAfter number_of y.number) q ys x (rest_after number_of y ys (y ∷ ys) refl rising) there).0 in
        rw (e, ne_eqb y.number x.number (λ same. absurd (omega (arith, later.lt, same)))) (ap (λ l. y ∷ l) (more there))

-- to remove the number of the challenge that was found is to remove what the State answers
pub removed_is : (value : List ℕ) (client last : ℕ) (x : Challenge) (rows : List Challenge) → AllPairs (IsBefore number_of) rows
    → All (IsGiven number_of last) rows → last < 2 ^ 64 → find (has_state value client) rows ≡ Some x
    → filter (has_other number_of x.number) rows ≡ filter (λ c. not (has_state value client c)) rows
removed_is value client last x rows rising given fits at =
    let found = found_holds (IsGiven number_of last) (has_state value client) rows x given at in
    let own : from_be_bytes w64 (take 8 value) ≡ x.number =
    number_in value x.number x.draw (omega (arith, found.0.le, fits)) (state_is value client x found.1) in
    one_removed (has_state value client) x rows rising
    (λ k d lt. record {
      means = λ h.
          sym (number_in value (get_or rows k d).number (get_or rows k d).draw (omega (arith, (given k d lt).le, fits))
          (state_is value client (get_or rows k d) h)) ∙ own;
    }) at

-- ---- the table after a moment

-- a moment once more changes nothing
pub settled_is : (hold hold' now next : ℕ) (rows left : List Challenge) → left ≡ filter (is_challenge_live hold now) rows
    → hold' ≡ hold
    → ◌≡◌ {A = Challenges} (cut_challenges now (record { challenges = left; next = next; hold = hold' }))
    (record { challenges = left; next = next; hold = hold' })
settled_is hold hold' now next rows left is same =
    let twice : filter (is_challenge_live hold' now) left ≡ left =
    ap (λ h. filter (is_challenge_live h now) left) same ∙ ap (filter (is_challenge_live hold now)) is
    ∙ filter_twice (is_challenge_live hold now) rows ∙ sym is in
    λ j. record { challenges = twice j; next = next; hold = hold' }

-- the same without the one that was answered
pub taken_is : (hold hold' hold'' now next : ℕ) (q : Challenge → Bool) (rows left new : List Challenge)
    → left ≡ filter (is_challenge_live hold now) rows → hold' ≡ hold → hold'' ≡ hold' → new ≡ filter (λ c. not (q c)) left
    → ◌≡◌ {A = Challenges} (cut_challenges now (record { challenges = new; next = next; hold = hold'' }))
    (record { challenges = new; next = next; hold = hold'' })
taken_is hold hold' hold'' now next q rows left new is one two without =
    let live = is_challenge_live hold now in
    let other : Challenge → Bool = λ c. not (q c) in
    let whole : new ≡ filter other (filter live rows) = without ∙ ap (filter other) is in
    let twice : filter (is_challenge_live hold'' now) new ≡ new =
    ap (λ h. filter (is_challenge_live h now) new) (two ∙ one) ∙ ap (filter live) whole ∙ filter_within live other rows
    ∙ sym whole in
    λ j. record { challenges = twice j; next = next; hold = hold'' }
