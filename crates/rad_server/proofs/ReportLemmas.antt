-- What the first attribute of a Type says, in a list of which the front was walked over.
use Rattle.std.proofs.Common.{◌≡◌, ℕ, Bool, true, false, cond, eqb, ◌&&◌, List, ◌∷◌, Option, Some, None, refl, ap, sym, ◌∙◌}
use Rattle.std.specs.Prelude.{drop, find, length, option_map, take, ◌==◌}
use Rattle.std.specs.Int.{w32, w64, from_be_bytes}
use Rattle.std.specs.Option.{option_or}
use lib.Pointwise.{pointwise}
use Rattle.rad_packet.specs.Attributes.{Attribute, first_value, integer_size, is_of, is_of_len, first_integer, integer_of}
use Rattle.rad_packet.specs.Types.{type_class}
use Rattle.rad_server.specs.Accounting.{class_number, class_size, is_class}
use Rattle.rad_server.specs.Reports.{class_number_of, or_of}
use Rattle.rad_server.specs.Replies.{class_prefix}

-- what an attribute says, if it is of a Type
abbrev pub said : {A : Type 0} → ℕ → Attribute → Option A → Option A
said kind a value = cond (eqb a.kind kind) value None

or-step : {A : Type 0} (b : Bool) (was value first : Option A)
    → option_or (cond b (option_or was value) was) first ≡ option_or was (option_or (cond b value None) first)
or-step true (Some x) value first = refl
or-step true None value first = refl
or-step false (Some x) value first = refl
or-step false None value first = refl

-- one attribute further
pub next-first : {A : Type 0} (kind : ℕ) (a : Attribute) (value was new first before all : Option A) → new ≡ or_of kind a was value
    → before ≡ option_or (said kind a value) first
    → option_or was before ≡ all → option_or new first ≡ all
next-first kind a value was new first before all is next known =
    ap (λ o. option_or o first) is ∙ or-step (eqb a.kind kind) was value first ∙ ap (option_or was) (sym next) ∙ known

-- at the end
pub all-first : {A : Type 0} (found first all : Option A) → first ≡ None → option_or found first ≡ all → found ≡ all
all-first (Some x) first all none known = known
all-first None first all none known = sym none ∙ known

pub integer-cons : (kind : ℕ) (a : Attribute) (list : List Attribute)
    → first_integer kind (a ∷ list) ≡ option_or (said kind a (integer_of a.value)) (first_integer kind list)
integer-cons kind a list = at (eqb a.kind kind) (length a.value == integer_size)
  where
    at : (b long : Bool) → option_map (λ value. from_be_bytes w32 value)
        (option_map (λ x. x.value) (cond (b && long) (Some a) (find (is_of_len kind integer_size) list)))
        ≡ option_or (cond b (cond long (Some (from_be_bytes w32 a.value)) None) None) (first_integer kind list)
    at true true = refl
    at true false = refl
    at false long = refl

pub class-cons : (a : Attribute) (list : List Attribute)
    → class_number (a ∷ list) ≡ option_or (said type_class a (class_number_of a.value)) (class_number list)
class-cons a list =
    at (eqb a.kind type_class) (length a.value == class_size) (pointwise ◌==◌ (take (length class_prefix) a.value) class_prefix)
  where
    at : (b long begins : Bool) → option_map (λ x. from_be_bytes w64 (drop (length class_prefix) x.value))
        (cond ((b && long) && begins) (Some a) (find is_class list))
        ≡ option_or (cond b (cond (long && begins) (Some (from_be_bytes w64 (drop (length class_prefix) a.value))) None) None)
        (class_number list)
    at true true true = refl
    at true true false = refl
    at true false begins = refl
    at false long begins = refl

pub value-cons : (kind : ℕ) (a : Attribute) (list : List Attribute)
    → first_value kind (a ∷ list) ≡ option_or (said kind a (Some a.value)) (first_value kind list)
value-cons kind a list = at (eqb a.kind kind)
  where
    at : (b : Bool) → option_map (λ x. x.value) (cond b (Some a) (find (is_of kind) list))
        ≡ option_or (cond b (Some a.value) None) (first_value kind list)
    at true = refl
    at false = refl
