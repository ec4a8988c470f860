-- What tickets say of a log together: where they have as many entries as the log, they have all of it.
use Rattle.std.proofs.Common.{◌≡◌, ◌≢◌, ℕ, zero, suc, ◌+◌, ◌≤◌, List, [], ◌∷◌, ◌++◌, drop, length, Some, slice_get, arith, refl}
use Rattle.std.proofs.Common.{sym, ap, ◌∙◌, subst, length-append}
use Rattle.std.proofs.lemmas.List.{append_assoc, append-nil, nil_from_length}
use Rattle.std.proofs.lemmas.List.Sorted.{IsPermutation-append, IsPermutation-append_comm, IsPermutation-refl, IsPermutation-trans}
use Rattle.std.proofs.lemmas.Option.{none-some, same_Some}
use Rattle.std.specs.List.Sorted.{IsPermutation}
use Rattle.rad_log.specs.Logs.{Has, entries_of, newer, taking}
use Rattle.rad_log.specs.declared.rule.Taking.{Taking}

module _ {T : Type 0} where
  -- no two takings have one number
  abbrev pub AreApart : List (Taking T) → Type 0
  AreApart [] = Unit {0}
  AreApart (t ∷ rest) = ((place : ℕ) (u : Taking T) → slice_get rest place ≡ Some u → u.number ≢ t.number) × AreApart rest

  -- a log without the taking at a place
  without : List (Taking T) → ℕ → List (Taking T)
  without [] place = []
  without (t ∷ rest) zero = rest
  without (t ∷ rest) (suc place) = t ∷ without rest place

  out_first : (t : Taking T) (rest : List (Taking T)) → without (t ∷ rest) zero ≡ rest
  unfolding without
  out_first t rest = refl

  out_later : (t : Taking T) (rest : List (Taking T)) (place : ℕ) → without (t ∷ rest) (suc place) ≡ t ∷ without rest place
  unfolding without
  out_later t rest place = refl

  -- a taking and the others have the entries of all
  take_out : (log : List (Taking T)) (place : ℕ) (t : Taking T) → slice_get log place ≡ Some t
      → IsPermutation (t.entries ++ entries_of (without log place)) (entries_of log)
  take_out [] place t at = absurd (none-some t at)
  take_out (x ∷ rest) zero t at =
      subst (λ l. IsPermutation (t.entries ++ entries_of l) (x.entries ++ entries_of rest)) (sym (out_first x rest))
      (subst (λ (u : Taking T). IsPermutation (u.entries ++ entries_of rest) (x.entries ++ entries_of rest)) (same_Some x t at)
      (IsPermutation-refl (x.entries ++ entries_of rest)))
  take_out (x ∷ rest) (suc place) t at =
      let left = entries_of (without rest place) in
      let swapped : IsPermutation ((t.entries ++ x.entries) ++ left) ((x.entries ++ t.entries) ++ left) =
      IsPermutation-append (t.entries ++ x.entries) (x.entries ++ t.entries) left left
      (IsPermutation-append_comm t.entries x.entries) (IsPermutation-refl left) in
      let later : IsPermutation (x.entries ++ (t.entries ++ left)) (x.entries ++ entries_of rest) =
      IsPermutation-append x.entries x.entries (t.entries ++ left) (entries_of rest) (IsPermutation-refl x.entries)
      (take_out rest place t at) in
      subst (λ l. IsPermutation (t.entries ++ entries_of l) (x.entries ++ entries_of rest)) (sym (out_later x rest place))
      (IsPermutation-trans (t.entries ++ (x.entries ++ left)) (x.entries ++ (t.entries ++ left)) (x.entries ++ entries_of rest)
      (subst (λ l. IsPermutation l (x.entries ++ (t.entries ++ left))) (append_assoc t.entries x.entries left)
      (subst (λ l. IsPermutation ((t.entries ++ x.entries) ++ left) l) (append_assoc x.entries t.entries left) swapped)) later)

  -- and as many
  count_out : (log : List (Taking T)) (place : ℕ) (t : Taking T) → slice_get log place ≡ Some t
      → length (entries_of log) ≡ length t.entries + length (entries_of (without log place))
  count_out [] place t at = absurd (none-some t at)
  count_out (x ∷ rest) zero t at =
      length-append x.entries (entries_of rest)
      ∙ ap (λ (u : Taking T). length u.entries + length (entries_of rest)) (same_Some x t at)
      ∙ ap (λ l. length t.entries + length (entries_of l)) (sym (out_first x rest))
  count_out (x ∷ rest) (suc place) t at =
      let left : length (entries_of (without (x ∷ rest) (suc place)))
      ≡ length x.entries + length (entries_of (without rest place)) =
      ap (λ l. length (entries_of l)) (out_later x rest place) ∙ length-append x.entries (entries_of (without rest place)) in
      omega (arith, left, count_out rest place t at, length-append x.entries (entries_of rest))

  -- the taking that is out takes no other along
  still_has : (log : List (Taking T)) (place : ℕ) (t u : Taking T) → slice_get log place ≡ Some t → u.number ≢ t.number
      → (other : ℕ) → slice_get log other ≡ Some u → Has (without log place) u
  still_has [] place t u at apart other there = absurd (none-some u there)
  still_has (x ∷ rest) zero t u at apart zero there =
      absurd (apart (ap (λ (y : Taking T). y.number) (sym (same_Some x u there) ∙ same_Some x t at)))
  still_has (x ∷ rest) zero t u at apart (suc other) there = subst (λ l. Has l u) (sym (out_first x rest)) (other, there)
  still_has (x ∷ rest) (suc place) t u at apart zero there = subst (λ l. Has l u) (sym (out_later x rest place)) (0, there)
  still_has (x ∷ rest) (suc place) t u at apart (suc other) there =
      let has = still_has rest place t u at apart other there in
      subst (λ l. Has l u) (sym (out_later x rest place)) (suc has.0, has.1)

  -- takings of a log, with numbers of their own and as many entries as the log, have its entries
  pub are_all : (ts log : List (Taking T)) → AreApart ts → ((place : ℕ) (t : Taking T) → slice_get ts place ≡ Some t → Has log t)
      → length (entries_of log) ≤ length (entries_of ts) → IsPermutation (entries_of ts) (entries_of log)
  are_all [] log apart has few =
      subst (IsPermutation []) (sym (nil_from_length (entries_of log) (omega (arith, few)))) (IsPermutation-refl [])
  are_all (t ∷ ts) log apart has few =
      let own = has 0 t refl in
      let left = without log own.0 in
      let fewer : length (entries_of left) ≤ length (entries_of ts) =
      omega (arith, few, count_out log own.0 t own.1, length-append t.entries (entries_of ts)) in
      let rest : IsPermutation (entries_of ts) (entries_of left) = are_all ts left apart.1 others fewer in
      IsPermutation-trans (t.entries ++ entries_of ts) (t.entries ++ entries_of left) (entries_of log)
      (IsPermutation-append t.entries t.entries (entries_of ts) (entries_of left) (IsPermutation-refl t.entries) rest)
      (take_out log own.0 t own.1)
    where
      others : (place : ℕ) (u : Taking T) → slice_get ts place ≡ Some u → Has (without log (has 0 t refl).0) u
      others place u at =
          let own = has 0 t refl in
          let theirs = has (suc place) u at in
          still_has log own.0 t u own.1 (apart.0 place u at) theirs.0 theirs.1

  -- what a taking has, the log has
  pub entry_in : (log : List (Taking T)) (place : ℕ) (t : Taking T) → slice_get log place ≡ Some t → (k : ℕ) (e : T)
      → slice_get t.entries k ≡ Some e → (j : ℕ) × (slice_get (entries_of log) j ≡ Some e)
  entry_in [] place t at k e there = absurd (none-some t at)
  entry_in (x ∷ rest) zero t at k e there = (
    k,
    front x.entries (entries_of rest) k
        (subst (λ (u : Taking T). slice_get u.entries k ≡ Some e) (sym (same_Some x t at)) there),
  )
    where
      front : (xs ys : List T) (i : ℕ) → slice_get xs i ≡ Some e → slice_get (xs ++ ys) i ≡ Some e
      front [] ys i is = absurd (none-some e is)
      front (y ∷ xs) ys zero is = is
      front (y ∷ xs) ys (suc i) is = front xs ys i is
  entry_in (x ∷ rest) (suc place) t at k e there =
      let later = entry_in rest place t at k e there in
      (length x.entries + later.0, behind x.entries (entries_of rest) later.0 later.1)
    where
      behind : (xs ys : List T) (i : ℕ) → slice_get ys i ≡ Some e → slice_get (xs ++ ys) (length xs + i) ≡ Some e
      behind [] ys i is = let zero : 0 + i ≡ i = omega arith in subst (λ n. slice_get ys n ≡ Some e) (sym zero) is
      behind (y ∷ xs) ys i is =
          let next : suc (length xs) + i ≡ suc (length xs + i) = omega arith in
          subst (λ n. slice_get (y ∷ (xs ++ ys)) n ≡ Some e) (sym next) (behind xs ys i is)

  -- ---- one more taking

  entries_push : (log : List (Taking T)) (t : Taking T) → entries_of (log ++ t ∷ []) ≡ entries_of log ++ t.entries
  entries_push [] t = append-nil t.entries
  entries_push (x ∷ log) t = ap (λ l. x.entries ++ l) (entries_push log t) ∙ sym (append_assoc x.entries (entries_of log) t.entries)

  drop_own : (xs ys : List T) → drop (length xs) (xs ++ ys) ≡ ys
  drop_own [] ys = refl
  drop_own (x ∷ xs) ys = drop_own xs ys

  -- where a log has all of a history, what is published of a longer one is what was appended
  pub published_is : (log longer : List (Taking T)) (t : Taking T) (number : ℕ) (history now more : List T)
      → entries_of log ≡ history
      → now ≡ history ++ more → longer ≡ log ++ t ∷ [] → t ≡ taking number (newer log now)
      → (t ≡ taking number more) × (entries_of longer ≡ now)
  published_is log longer t number history now more all appended is published =
      let new : newer log now ≡ more = (λ i. drop (length (all i)) (appended i)) ∙ drop_own history more in
      let t_is : t ≡ taking number more = published ∙ ap (taking number) new in
      (t_is, ap entries_of is ∙ entries_push log t ∙ (λ i. all i ++ (t_is i).entries) ∙ sym appended)
