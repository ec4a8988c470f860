use Rattle.std.proofs.Common.{◌≡◌, ℕ, Bool, true, false, cond, ◌&&◌, List, [], ◌∷◌, Option, Some, refl, ap, ◌∙◌, sym, eqb}
use Rattle.std.specs.Map.{lookup}
use denote.Enum.Bare.{sameb}
use Rattle.rad_auth.specs.contracts.arrival.Door.{the_type}
use Rattle.rad_auth.specs.declared.arrival.Door.{Door}
use Rattle.rad_auth.specs.declared.arrival.Door.TheVariants.{Auth, Acct}
use Rattle.rad_recent.specs.contracts.key.KeyPartialEq.TheImpl.{eq-value}
use Rattle.rad_recent.specs.declared.key.Key.{Key}
use Rattle.rad_recent.specs.Numbers.{number_at}
use Rattle.rad_recent.specs.Recent.{same_door, same_key}

-- ---- keys are equal as `==` says

-- four conditions in a row, grouped otherwise
regroup : (a b c d : Bool) → (a && (b && (c && d))) ≡ (((a && b) && c) && d)
regroup false b c d = refl
regroup true false c d = refl
regroup true true c d = refl

-- `==` of keys is `same_key`
pub key_eq : (key other : Key) → eq-value.it key other ≡ same_key key other
key_eq key other =
    regroup (eqb key.source other.source) (eqb key.port other.port) (sameb the_type key.door other.door) (eqb key.id other.id)
    ∙ ap (λ d. (((eqb key.source other.source && eqb key.port other.port) && d) && eqb key.id other.id)) (doors key.door other.door)
  where
    doors : (x y : Door) → sameb the_type x y ≡ same_door x y
    doors Auth Auth = refl
    doors Auth Acct = refl
    doors Acct Auth = refl
    doors Acct Acct = refl

-- the same look-up by another test
pub lookup_agree : {K X : Type 0} (p q : K → Bool) → ((k : K) → p k ≡ q k) → (es : List (K × X)) → lookup p es ≡ lookup q es
lookup_agree p q same [] = refl
lookup_agree p q same (e ∷ es) = λ j. cond (same e.0 j) (Some e.1) (lookup_agree p q same es j)

-- a map's look-up, by `==`
pub number_is : (key : Key) (es : List (Key × ℕ)) → lookup (eq-value.it key) es ≡ number_at es key
number_is key es = lookup_agree (eq-value.it key) (same_key key) (key_eq key) es

-- what a map has for a key after a change of another
pub updated : (key : Key) (w : Option ℕ) (es fs : List (Key × ℕ))
    → ((q : Key) → lookup (eq-value.it q) fs ≡ cond (eq-value.it key q) w (lookup (eq-value.it q) es))
    → (q : Key) → number_at fs q ≡ cond (same_key key q) w (number_at es q)
updated key w es fs h q =
    sym (number_is q fs) ∙ h q ∙ (λ j. cond (key_eq key q j) w (number_is q es j))
