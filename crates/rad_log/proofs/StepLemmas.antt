-- Each step keeps the rule.
use Rattle.std.proofs.Common.{◌≡◌, ◌≢◌, ℕ, zero, suc, List, [], ◌∷◌, ◌++◌, length, set, Some, true, false, true≢false, refl, sym}
use Rattle.std.proofs.Common.{ap, ◌∙◌, subst, ⊎_elim, slice_get, Vec}
use mathlib.Core.Option.{some, some-ne-none, some-injective}
use lib.ListN.{get_elem?}
use Rattle.std.specs.declared.alloc.Global.{Global}
use Rattle.atomic_table.specs.Table.{Act, Allows, Joins, Me, Splits, State}
use Rattle.atomic_table.proofs.Lists.{at_set, at_snoc}
use Rattle.rad_log.specs.Logs.{Fits, Has, IsFound, IsKept, IsPublished, claim_in, keeper_of, newer, published, spent, taking}
use Rattle.rad_log.specs.Logs.{with_claim_of, without_claim}
use Rattle.rad_log.specs.declared.rule.Taking.{Taking}
use Rattle.rad_log.specs.declared.rule.View.{View}

get_front : {A : Type 0} (xs ys : List A) (k : ℕ) (x : A) → slice_get xs k ≡ Some x → slice_get (xs ++ ys) k ≡ Some x
get_front [] ys k x is = absurd (cc)
get_front (y ∷ xs) ys zero x is = is
get_front (y ∷ xs) ys (suc k) x is = get_front xs ys k x is

get_last : {A : Type 0} (xs : List A) (x : A) → slice_get (xs ++ x ∷ []) (length xs) ≡ Some x
get_last [] x = refl
get_last (y ∷ xs) x = get_last xs x

off : false ≡ true → ⊥
off is = true≢false (sym is)

module _ {T : Type 0} where
  -- a view is replaced, and the others fit as they did
  fits_set : (keeper : ℕ) (log : List (Taking T)) (views : List (View T)) (seat : ℕ) (view : View T)
      → ((other : ℕ) (was : View T) → other ≢ seat → get_elem? views other ≡ some was → Fits keeper log other was)
      → Fits keeper log seat view
      → (other : ℕ) (is : View T) → get_elem? (set views seat view) other ≡ some is → Fits keeper log other is
  fits_set keeper log views seat view others own other is at =
      ⊎_elim
      (λ (x : (other ≡ seat) × (view ≡ is)). subst (λ (y : ℕ × View T). Fits keeper log y.0 y.1) (λ i. (sym x.0 i, x.1 i)) own)
      (λ (x : (other ≢ seat) × (get_elem? views other ≡ some is)). others other is x.0 x.1)
      (at_set views seat other view is at)

  abbrev Holds : {S : Type 0} → State S (View T) → Type 0
  Holds state = IsKept state.views

  -- ---- an empty log

  pub begins : IsKept (keeper_of {T = T} [] ∷ [])
  begins = (0, [], first)
    where
      first : (seat : ℕ) (view : View T) → get_elem? (keeper_of [] ∷ []) seat ≡ some view → Fits 0 [] seat view
      first zero view at = subst (Fits 0 [] 0) (some-injective _ _ at) ((λ _. (refl, refl)), (λ claims. absurd (off claims)))
      first (suc seat) view at = absurd (some-ne-none view (sym at))

  -- ---- one more taking

  publishes : (slots id number : ℕ) (word : ℕ → ℕ) (log : List (Taking T)) (history : Vec T Global)
      → Allows {S = Vec T Global} Holds slots id (keeper_of log, []) 0 word
      (λ _ after. IsPublished number (some history) (keeper_of log, []) after)
  publishes slots id number word log history state kept homes at below =
      let new = taking number (newer log history.items) in
      let own = (kept.2 id (keeper_of log) at).0 refl in
      let longer = kept.1 ++ new ∷ [] in (
        published number history.items (keeper_of log),
        Act.keeps,
        tt,
        (
          kept.0,
          longer,
          fits_set kept.0 longer state.views id (published number history.items (keeper_of log))
              (λ other view apart there. (
                (λ keeps. absurd (apart (((kept.2 other view there).0 keeps).0 ∙ sym own.0))),
                (λ claims. let has = (kept.2 other view there).1 claims in
                    (has.0, get_front kept.1 (new ∷ []) has.0 view.taking has.1)),
              ))
              ((λ _. (own.0, ap (λ l. l ++ new ∷ []) own.1)), (λ _. (length kept.1, get_last kept.1 new))),
        ),
        refl,
      )

  pub publishes_as : (slots id number : ℕ) (word : ℕ → ℕ) (history : Vec T Global) (me : Me (Vec T Global) (View T))
      → me ≡ (keeper_of me.0.log, [])
      → Allows Holds slots id me 0 word (λ _ after. IsPublished number (some history) me after)
  publishes_as slots id number word history me is =
      subst (λ (m : Me (Vec T Global) (View T)). Allows Holds slots id m 0 word
      (λ _ after. IsPublished number (some history) m after)) (sym is)
      (publishes slots id number word me.0.log history)

  -- ---- tickets

  pub splits : (id : ℕ) (view : View T) → Splits {S = Vec T Global} Holds id view (without_claim view) (claim_in view)
  splits id view state kept at =
      let own = kept.2 id view at in (
        kept.0,
        kept.1,
        λ other is there. ⊎_elim
            (λ was. fits_set kept.0 kept.1 state.views id (without_claim view) (λ j y _ e. kept.2 j y e)
            (own.0, λ claims. absurd (off claims)) other is was)
            (λ (same : claim_in view ≡ is). subst (Fits kept.0 kept.1 other) same ((λ keeps. absurd (off keeps)), own.1))
            (at_snoc (set state.views id (without_claim view)) (claim_in view) is other there),
      )

  pub joins : (id : ℕ) (view : View T) (other : ℕ) (claim : View T)
      → Joins {S = Vec T Global} Holds id view other claim (with_claim_of view claim) spent
  joins id view other claim state kept at apart there =
      let own = kept.2 id view at in
      let theirs = ⊎_elim
      (λ (t : (other ≡ id) × (with_claim_of view claim ≡ claim)). absurd (apart t.0))
      (λ (t : (other ≢ id) × (get_elem? state.views other ≡ some claim)). kept.2 other claim t.1)
      (at_set state.views id other (with_claim_of view claim) claim there) in (
        kept.0,
        kept.1,
        fits_set kept.0 kept.1 (set state.views id (with_claim_of view claim)) other spent
            (λ j u _ e. fits_set kept.0 kept.1 state.views id (with_claim_of view claim) (λ i y _ f. kept.2 i y f) (own.0, theirs.1)
            j u e)
            ((λ keeps. absurd (off keeps)), (λ claims. absurd (off claims))),
      )

  pub finds : (slots id : ℕ) (me : Me (Vec T Global) (View T)) → me.0.keeps ≡ true
      → Allows {S = Vec T Global} Holds slots id me 0 (λ n. n) (λ _ after. IsFound me after)
  finds slots id me keeps state kept homes at below =
      let own = kept.2 id me.0 at in
      let known = own.0 keeps in (
        without_claim me.0,
        Act.keeps,
        tt,
        (
          kept.0,
          kept.1,
          fits_set kept.0 kept.1 state.views id (without_claim me.0) (λ j y _ e. kept.2 j y e)
              (own.0, λ claims. absurd (off claims)),
        ),
        (refl, λ claims. subst (λ l. Has l me.0.taking) (sym known.1) (own.1 claims)),
      )
