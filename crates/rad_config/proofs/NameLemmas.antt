-- Each user is found by its name.
use Rattle.std.proofs.Common.{◌≡◌, ℕ, zero, suc, cond, Bool, true, false, List, [], ◌∷◌, ◌++◌, length, Option, None, Some, refl, ap}
use Rattle.std.proofs.Common.{sym, subst, ◌∙◌, arith, inl, inr}
use Rattle.std.specs.Prelude.{◌⊎◌, slice_get, option_map, unwrap_or}
use Rattle.std.specs.List.{position}
use Rattle.std.specs.Str.{bytes_eq}
use Rattle.std.proofs.lemmas.Slice.Eq.{bytes_eq-Decides}
use Rattle.rad_config.specs.Configurations.{user_place}
use Rattle.rad_config.specs.Ranges.{AreNamedApart}
use Rattle.rad_config.specs.declared.user.User.{User}

position-step : {A : Type 0} (p : A → Bool) (x : A) (xs : List A) (b : Bool) → p x ≡ b
    → position p (x ∷ xs) ≡ cond b (Some 0) (option_map suc (position p xs))
position-step p x xs true here = grind (arith, here)
position-step p x xs false other = grind (arith, other)

none-some : {A : Type 0} {x : A} → Some x ≡ None → ⊥
none-some e = absurd cc

-- what is found stays where it is
found-more : {A : Type 0} (p : A → Bool) (xs : List A) (x : A) (i : ℕ) → position p xs ≡ Some i → position p (xs ++ x ∷ []) ≡ Some i
found-more p [] x i found = absurd cc
found-more p (y ∷ ys) x i found = at (p y) (position p ys) (found-more p ys x) refl refl
  where
    at : (b : Bool) (rest : Option ℕ) → ((j : ℕ) → position p ys ≡ Some j → position p (ys ++ x ∷ []) ≡ Some j)
        → p y ≡ b → position p ys ≡ rest → position p (y ∷ ys ++ x ∷ []) ≡ Some i
    at true rest later here found_after = position-step p y (ys ++ x ∷ []) true here ∙ sym (position-step p y ys true here) ∙ found
    at false None later here found_after =
        absurd (none-some (sym found ∙ position-step p y ys false here ∙ ap (option_map suc) found_after))
    at false (Some j) later here found_after =
        position-step p y (ys ++ x ∷ []) false here ∙ ap (option_map suc) (later j found_after)
        ∙ sym (ap (option_map suc) found_after) ∙ sym (position-step p y ys false here) ∙ found

-- the last one is found where no other is
found-last : {A : Type 0} (p : A → Bool) (xs : List A) (x : A) → position p xs ≡ None → p x ≡ true
    → position p (xs ++ x ∷ []) ≡ Some (length xs)
found-last p [] x none here = position-step p x [] true here
found-last p (y ∷ ys) x none here = at (p y) (position p ys) (λ rest. found-last p ys x rest here) refl refl
  where
    at : (b : Bool) (rest : Option ℕ) → (position p ys ≡ None → position p (ys ++ x ∷ []) ≡ Some (length ys))
        → p y ≡ b → position p ys ≡ rest → position p (y ∷ ys ++ x ∷ []) ≡ Some (length (y ∷ ys))
    at true rest later first found_after = absurd (none-some (sym (position-step p y ys true first) ∙ none))
    at false None later first found_after = position-step p y (ys ++ x ∷ []) false first ∙ ap (option_map suc) (later found_after)
    at false (Some j) later first found_after =
        absurd (none-some (sym (ap (option_map suc) found_after) ∙ sym (position-step p y ys false first) ∙ none))

-- an element of a longer list is one of the shorter, or the last
get-push : {A : Type 0} (xs : List A) (x : A) (i : ℕ) (u : A) → slice_get (xs ++ x ∷ []) i ≡ Some u
    → (slice_get xs i ≡ Some u) ⊎ ((i ≡ length xs) × (x ≡ u))
get-push [] x zero u e = inr (refl, ap (λ o. unwrap_or o x) e)
get-push [] x (suc i) u e = absurd cc
get-push (y ∷ ys) x zero u e = inl e
get-push (y ∷ ys) x (suc i) u e = elim (get-push ys x i u e) [ inl old ↦ inl old | inr new ↦ inr (ap suc new.0, new.1) ]

-- one more user, whose name is new
pub named-push : (users : List User) (user : User) → AreNamedApart users → user_place users user.name ≡ None
    → AreNamedApart (users ++ user ∷ [])
named-push users user named new place other at =
    elim (get-push users user place other at) [
      | inl old ↦ found-more (λ u. bytes_eq other.name u.name) users user place (named place other old)
      | inr last ↦ subst (λ (u : User). user_place (users ++ user ∷ []) u.name ≡ Some place) last.1
          (found-last (λ u. bytes_eq user.name u.name) users user new ((bytes_eq-Decides user.name user.name).1 refl)
          ∙ ap Some (sym last.0))
    ]
