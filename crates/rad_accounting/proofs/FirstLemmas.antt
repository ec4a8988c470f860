-- The first attribute of each Type, in a list of which the front was walked over.
use Rattle.std.proofs.Common.{◌≡◌, ℕ, ◌<◌, Bool, true, false, cond, eqb, ◌&&◌, ⊎_elim, List, [], ◌∷◌, length, get_or, set, Option}
use Rattle.std.proofs.Common.{Some, None, refl, ap, sym, subst, ◌∙◌, Bor}
use Rattle.std.specs.Prelude.{find, option_copied, option_map, ◌==◌}
use Rattle.std.specs.Int.{w32, from_be_bytes}
use Rattle.std.specs.Option.{option_or}
use Rattle.std.proofs.lemmas.Bool.{cases_eq, eq-eqb, ne_eqb}
use Rattle.std.proofs.lemmas.List.{get_or-set_same, get_or-set_other}
use Rattle.rad_packet.specs.Attributes.{Attribute, first_value, integer_size, is_of, is_of_len, first_integer, integer_of}

-- the first Value of a Type is the one found so far, or else the first in the attributes that are left
abbrev pub IsFirst : ℕ → Option (Bor (List ℕ)) → List Attribute → List Attribute → Type 0
IsFirst kind found rest all = option_or (option_copied found) (first_value kind rest) ≡ first_value kind all

value-cons : (kind : ℕ) (a : Attribute) (list : List Attribute)
    → first_value kind (a ∷ list) ≡ cond (eqb a.kind kind) (Some a.value) (first_value kind list)
value-cons kind a list = at (eqb a.kind kind)
  where
    at : (b : Bool) → option_map (λ x. x.value) (cond b (Some a) (find (is_of kind) list))
        ≡ cond b (Some a.value) (first_value kind list)
    at true = refl
    at false = refl

or-same : (was : Option (Bor (List ℕ))) (value : Bor (List ℕ)) (first : Option (List ℕ))
    → option_or (option_copied (option_or was (Some value))) first ≡ option_or (option_copied was) (Some value.now)
or-same None value first = refl
or-same (Some x) value first = refl

-- one attribute further
pub next-first : (values : List (Option (Bor (List ℕ)))) (value : Bor (List ℕ)) (kind other : ℕ) (rest others all : List Attribute)
    → other < length values → rest ≡ (record { kind = other; value = value.now }) ∷ others
    → IsFirst kind (get_or values kind None) rest all
    → IsFirst kind (get_or (set values other (option_or (get_or values other None) (Some value))) kind None) others all
next-first values value kind other rest others all lt is known =
    ⊎_elim
    (λ same. subst (λ k. IsFirst k (get_or values k None) rest all → IsFirst k (get_or (set values other new) k None) others all)
    same at-it known)
    (λ differs. ap (λ found. option_or (option_copied found) (first_value kind others))
    (get_or-set_other values other kind new None (λ e. differs (sym e)))
    ∙ ap (option_or (option_copied (get_or values kind None)))
    (sym (ap (first_value kind) is ∙ value-cons kind a others
    ∙ ap (λ b. cond b (Some a.value) (first_value kind others)) (ne_eqb other kind differs)))
    ∙ known)
    (cases_eq other kind)
  where
    a : Attribute
    a = record { kind = other; value = value.now }

    new : Option (Bor (List ℕ))
    new = option_or (get_or values other None) (Some value)

    at-it : IsFirst other (get_or values other None) rest all → IsFirst other (get_or (set values other new) other None) others all
    at-it so = ap (λ found. option_or (option_copied found) (first_value other others)) (get_or-set_same values other new None lt)
        ∙ or-same (get_or values other None) value (first_value other others)
        ∙ ap (option_or (option_copied (get_or values other None)))
        (sym (ap (first_value other) is ∙ value-cons other a others
        ∙ ap (λ b. cond b (Some a.value) (first_value other others)) (eq-eqb other other refl)))
        ∙ so

-- at the end
pub all-first : (kind : ℕ) (found : Option (Bor (List ℕ))) (rest all : List Attribute) → rest ≡ [] → IsFirst kind found rest all
    → option_copied found ≡ first_value kind all
all-first kind (Some x) rest all none known = known
all-first kind None rest all none known = ap (first_value kind) (sym none) ∙ known

-- ---- integers

integer-cons : (kind : ℕ) (a : Attribute) (list : List Attribute)
    → first_integer kind (a ∷ list)
    ≡ cond (eqb a.kind kind) (option_or (integer_of a.value) (first_integer kind list)) (first_integer kind list)
integer-cons kind a list = at (eqb a.kind kind) (length a.value == integer_size)
  where
    at : (b long : Bool) → option_map (λ value. from_be_bytes w32 value)
        (option_map (λ x. x.value) (cond (b && long) (Some a) (find (is_of_len kind integer_size) list)))
        ≡ cond b (option_or (cond long (Some (from_be_bytes w32 a.value)) None) (first_integer kind list)) (first_integer kind list)
    at true true = refl
    at true false = refl
    at false long = refl

-- without a first Value there is no integer
pub no-integer : (kind : ℕ) (list : List Attribute) → first_value kind list ≡ None → first_integer kind list ≡ None
no-integer kind [] none = refl
no-integer kind (a ∷ list) none =
    integer-cons kind a list ∙ at (eqb a.kind kind) (sym (value-cons kind a list) ∙ none) (no-integer kind list)
  where
    at : (b : Bool) → cond b (Some a.value) (first_value kind list) ≡ None
        → (first_value kind list ≡ None → first_integer kind list ≡ None)
        → cond b (option_or (integer_of a.value) (first_integer kind list)) (first_integer kind list) ≡ None
    at true is rest = absurd cc
    at false is rest = rest is

-- where the first Value is an integer, it is the first
pub first-is-integer : (kind n : ℕ) (list : List Attribute) (value : List ℕ) → first_value kind list ≡ Some value
    → integer_of value ≡ Some n → first_integer kind list ≡ Some n
first-is-integer kind n [] value is so = absurd cc
first-is-integer kind n (a ∷ list) value is so =
    integer-cons kind a list ∙ at (eqb a.kind kind) (sym (value-cons kind a list) ∙ is)
    (λ there. first-is-integer kind n list value there so)
  where
    inside : {A : Type 0} (x y : A) → Some x ≡ Some y → x ≡ y
    inside x y e = cc

    at : (b : Bool) → cond b (Some a.value) (first_value kind list) ≡ Some value
        → (first_value kind list ≡ Some value → first_integer kind list ≡ Some n)
        → cond b (option_or (integer_of a.value) (first_integer kind list)) (first_integer kind list) ≡ Some n
    at true same rest = ap (λ o. option_or o (first_integer kind list)) (ap integer_of (inside a.value value same) ∙ so)
    at false same rest = rest same
