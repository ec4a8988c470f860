-- A sweep of rows in place: the live ones move down, the tally is told of the others, and the bound is that of those that stay.
use Rattle.std.proofs.Common.{◌≡◌, ◌∙◌, ℕ, ◌+◌, ◌≤◌, ◌<◌, List, [], ◌∷◌, ◌++◌, Bool, true, false, not, ltb, ap, arith, cond, drop}
use Rattle.std.proofs.Common.{filter, get_or, length, subst, sym, take}
use Rattle.std.specs.List.{All, FoldsTo, SwappedAt}
use Rattle.std.proofs.lemmas.Bool.{le-ltb, lt-ltb}
use Rattle.std.proofs.lemmas.Fn.{FoldsTo-push}
use Rattle.std.proofs.lemmas.List.{append-nil, drop_more, take_more}
use Rattle.std.proofs.lemmas.List.Elements.{filter-append}
use Rattle.std.proofs.lemmas.List.Filters.{FiltersInPlace, FiltersInPlace-more_no, FiltersInPlace-more_swap}
use Rattle.rad_rows.specs.Blocks.{LivesUntil}
use Rattle.rad_rows.specs.Rows.{Tells, is_dead, moment_max}
use Rattle.rad_rows.proofs.BlockLemmas.{lives_more, lives_to_end}

-- of one more row, what passes
filter_next : {X : Type 0} (p : X → Bool) (xs ys : List X) (i : ℕ) (x : X) (b : Bool) → i < length xs → i < length ys
    → drop i ys ≡ drop i xs → x ≡ get_or ys i x → p x ≡ b → filter p (take (i + 1) xs) ≡ filter p (take i xs) ++ cond b (x ∷ []) []
filter_next p xs ys i x b within within' rest is passes =
    let same : x ≡ get_or xs i x = is ∙ ap (λ l. get_or l 0 x) (sym (drop_more ys i x within') ∙ rest ∙ drop_more xs i x within) in
    ap (filter p) (take_more xs i x within) ∙ filter-append p (take i xs) (get_or xs i x ∷ [])
    ∙ ap (λ y. filter p (take i xs) ++ cond (p y) (y ∷ []) []) (sym same)
    ∙ ap (λ c. filter p (take i xs) ++ cond c (x ∷ []) []) passes

module _ {G T S : Type 0} (told : G → T → G → Type 0) (live : S → ℕ → T → Bool) (spans : S) (now : ℕ) (old : G) (xs : List T) where
  -- of the first i of xs, the first k of ys are those that are live, and live up to the bound; the tally was told of the others
  pub record IsSwept (ys : List T) (k i : ℕ) (tally : G) (bound : ℕ) : Type 0 where
    pub kept : FiltersInPlace (live spans now) xs ys k i
    pub tells : Tells told live spans now (take i xs) old tally
    pub lives : All (LivesUntil live spans bound) (filter (live spans now) (take i xs))

  -- one row more, which stays
  pub swept_stays : (ys zs : List T) (k i : ℕ) (tally : G) (bound ends early : ℕ) (x : T) → IsSwept ys k i tally bound
      → i < length ys
      → x ≡ get_or ys i x → now ≤ moment_max → ((moment : ℕ) → moment ≤ moment_max → live spans moment x ≡ ltb moment ends)
      → now < ends → early ≤ bound → early ≤ ends → SwappedAt ys zs k i → IsSwept zs (k + 1) (i + 1) tally early
  swept_stays ys zs k i tally bound ends early x h within is small law lt le le' swapped =
      let passes : live spans now x ≡ true = law now small ∙ lt-ltb now ends lt in
      let within' : i < length xs = omega (arith, within, h.kept.long) in
      record {
        kept = FiltersInPlace-more_swap h.kept within passes is swapped;
        tells = subst (λ l. FoldsTo told old l tally)
            (sym (filter_next (is_dead live spans now) xs ys i x false within' within h.kept.rest is (ap not passes)
            ∙ append-nil (filter (is_dead live spans now) (take i xs)))) h.tells;
        lives = subst (All (LivesUntil live spans early))
            (sym (filter_next (live spans now) xs ys i x true within' within h.kept.rest is passes))
            (lives_more live spans bound ends early (filter (live spans now) (take i xs)) x le le' h.lives
            (lives_to_end live spans ends x law));
      }

  -- one row more, of which the tally is told
  pub swept_goes : (ys : List T) (k i : ℕ) (tally next : G) (bound ends : ℕ) (x : T) → IsSwept ys k i tally bound → i < length ys
      → x ≡ get_or ys i x → now ≤ moment_max → ((moment : ℕ) → moment ≤ moment_max → live spans moment x ≡ ltb moment ends)
      → ends ≤ now → told tally x next → IsSwept ys k (i + 1) next bound
  swept_goes ys k i tally next bound ends x h within is small law le leaves =
      let fails : live spans now x ≡ false = law now small ∙ le-ltb now ends le in
      let within' : i < length xs = omega (arith, within, h.kept.long) in
      record {
        kept = FiltersInPlace-more_no h.kept within fails is;
        tells =
            subst (λ l. FoldsTo told old l next)
            (sym (filter_next (is_dead live spans now) xs ys i x true within' within h.kept.rest is (ap not fails)))
            (FoldsTo-push told old (filter (is_dead live spans now) (take i xs)) tally x next h.tells leaves);
        lives = subst (All (LivesUntil live spans bound))
            (sym (filter_next (live spans now) xs ys i x false within' within h.kept.rest is fails
            ∙ append-nil (filter (live spans now) (take i xs)))) h.lives;
      }
