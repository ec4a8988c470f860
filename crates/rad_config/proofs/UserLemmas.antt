-- The names in the index, and the users.
use Rattle.std.proofs.Common.{◌≡◌, ℕ, not, ◌||◌, Bool, true, false, List, [], ◌∷◌, ◌++◌, map, refl, ap, sym, ◌∙◌, None, arith}
use Rattle.std.specs.List.{position, prefix_len, list_any}
use Rattle.std.specs.Str.{bytes_eq}
use Rattle.std.specs.Prelude.{Vec, is_some, if◌then◌else◌, nat_eq}
use Rattle.std.specs.Global.{Global}
use Rattle.std.proofs.Math.Bool.{or-false}
use Rattle.std.proofs.lemmas.Bool.{eqb-true}
use Rattle.std.proofs.lemmas.List.{length-map}
use Rattle.std.proofs.lemmas.List.Folds.{list_any-append}
use Rattle.indexmap.specs.IndexSet.{insert_key}
use Rattle.rad_config.specs.Configurations.{has_own, is_that, user_place}
use Rattle.rad_config.specs.declared.user.User.{User}

-- the front of a mapped list that passes
prefix_len-map : {A B : Type 0} (p : B → Bool) (f : A → B) (xs : List A) → prefix_len p (map f xs) ≡ prefix_len (λ x. p (f x)) xs
prefix_len-map p f [] = refl
prefix_len-map p f (x ∷ xs) = rw (prefix_len-map p f xs)

-- the place in a mapped list
pub position-map : {A B : Type 0} (p : B → Bool) (f : A → B) (xs : List A) → position p (map f xs) ≡ position (λ x. p (f x)) xs
position-map p f xs = rw (prefix_len-map (λ y. not (p y)) f xs, length-map xs f)

-- an element has a place exactly where one passes
is_some-step : {A : Type 0} (p : A → Bool) (x : A) (xs : List A) (b : Bool) → p x ≡ b → is_some (position p xs) ≡ list_any p xs
    → is_some (position p (x ∷ xs)) ≡ list_any p (x ∷ xs)
is_some-step p x xs true here rest = grind (arith, here)
is_some-step p x xs false other rest = grind (arith, other, rest)

is_some-position : {A : Type 0} (p : A → Bool) (xs : List A) → is_some (position p xs) ≡ list_any p xs
is_some-position p [] = refl
is_some-position p (x ∷ xs) = is_some-step p x xs (p x) refl (is_some-position p xs)

-- one more element of a mapped list
pub map-push : {A B : Type 0} (f : A → B) (xs : List A) (x : A) → map f (xs ++ x ∷ []) ≡ map f xs ++ f x ∷ []
map-push f [] x = refl
map-push f (y ∷ ys) x = ap (λ zs. f y ∷ zs) (map-push f ys x)

module _ (names : List (Vec ℕ Global)) (users : List User) (same : map (λ n. n.items) names ≡ map (λ u. u.name) users) where
  -- the place of a name in the index is the place of its user
  pub user_place-names : (name : List ℕ) → position (λ n. bytes_eq name n.items) names ≡ user_place users name
  user_place-names name =
      sym (position-map (bytes_eq name) (λ n. n.items) names) ∙ ap (position (bytes_eq name)) same
      ∙ position-map (bytes_eq name) (λ u. u.name) users

  -- the names after a user whose name is new
  pub names-add : (new_names : List (Vec ℕ Global)) (name : Vec ℕ Global) (user : User)
      → user_place users user.name ≡ None → name.items ≡ user.name
      → new_names ≡ (if list_any (λ n. bytes_eq name.items n.items) names then names else names ++ name ∷ [])
      → map (λ n. n.items) new_names ≡ map (λ u. u.name) (users ++ user ∷ [])
  names-add new_names name user new copied names_are =
      let absent : list_any (λ n. bytes_eq name.items n.items) names ≡ false =
      rw copied (sym (is_some-position (λ n. bytes_eq user.name n.items) names) ∙ ap is_some (user_place-names user.name ∙ new)) in
      let pushed : new_names ≡ names ++ name ∷ [] = names_are ∙ rw absent refl in
      ap (map (λ n. n.items)) pushed ∙ map-push (λ n. n.items) names name ∙ (λ j. same j ++ copied j ∷ [])
      ∙ sym (map-push (λ u. u.name) users user)

-- ---- addresses of users' own

-- an address that is inserted is in the index, beside those that were
pub inserted : (addresses : List ℕ) (address other : ℕ)
    → list_any (nat_eq other) (insert_key nat_eq addresses address) ≡ (list_any (nat_eq other) addresses || nat_eq other address)
inserted addresses address other = at (list_any (nat_eq address) addresses) (nat_eq other address) refl refl
  where
    at : (b d : Bool) → list_any (nat_eq address) addresses ≡ b → nat_eq other address ≡ d
        → list_any (nat_eq other) (insert_key nat_eq addresses address)
        ≡ (list_any (nat_eq other) addresses || nat_eq other address)
    at true true there same =
        let found : list_any (nat_eq other) addresses ≡ true = rw (eqb-true other address same) there in
        rw (there, found)
    at true false there apart = rw (there, apart, or-false) refl
    at false d absent same = rw (absent, list_any-append (nat_eq other) addresses (address ∷ []), or-false)

-- the addresses after one more user
pub own-add : (addresses new_addresses : List ℕ) (users : List User) (user : User)
    → ((address : ℕ) → list_any (nat_eq address) addresses ≡ list_any (has_own address) users)
    → ((address : ℕ) → list_any (nat_eq address) new_addresses
    ≡ (list_any (nat_eq address) addresses || is_that address user.address))
    → (address : ℕ) → list_any (nat_eq address) new_addresses ≡ list_any (has_own address) (users ++ user ∷ [])
own-add addresses new_addresses users user kept added address =
    added address ∙ ap (λ b. b || is_that address user.address) (kept address)
    ∙ sym (list_any-append (has_own address) users (user ∷ [])
    ∙ ap (λ b. list_any (has_own address) users || b) (or-false (has_own address user)))
