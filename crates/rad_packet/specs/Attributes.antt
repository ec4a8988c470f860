-- Attributes (RFC 2865, section 5): Type, Length and Value. An octet is a number below 256, and octets in a row are a
-- list of them.
use Rattle.std.specs.Prelude.{◌≡◌, ℕ, zero, suc, ◌+◌, ◌-◌, ◌<◌, ◌≤◌, ◌==◌, ◌&&◌, ◌||◌, nat_lt, Bool, if◌then◌else◌, List, [], ◌∷◌}
use Rattle.std.specs.Prelude.{length, take, drop, Option, Some, None, option_map, unwrap_or, filter, find, count_by}
use Rattle.std.specs.Int.{w32, from_be_bytes}
use Rattle.std.specs.List.{flat_map, list_any, AllByRecursion}

-- An attribute has a Type, which the code calls kind, and a Value.
pub record Attribute : Type 0 where
  pub kind : ℕ
  pub value : List ℕ

-- the most octets that a Value has, since Length counts two more and is one octet
abbrev pub value_max : ℕ
value_max = 253

-- the octets of a Value that is an integer
abbrev pub integer_size : ℕ
integer_size = 4

-- a Type of one octet, and a Value that the Length octet can count
pub record IsAttribute (a : Attribute) : Type 0 where
  pub kind : a.kind < 256
  pub value : length a.value ≤ value_max

-- Type, Length, which counts Type and Length too, and Value
abbrev pub attribute_octets : Attribute → List ℕ
attribute_octets a = a.kind ∷ (length a.value + 2) ∷ a.value

-- attributes one after the other
abbrev pub attributes_octets : List Attribute → List ℕ
attributes_octets list = flat_map attribute_octets list

-- the size of attributes in octets
abbrev pub size : List Attribute → ℕ
size list = length (attributes_octets list)

-- The grammar: these octets are these attributes, one after the other, and nothing else.
pub record AreAttributes (octets : List ℕ) (list : List Attribute) : Type 0 where
  pub spelled : octets ≡ attributes_octets list
  pub each : AllByRecursion IsAttribute list

-- The attributes at the front of octets, of which there are at most this many, where they fill the octets.
unfoldable pub attributes_within : ℕ → List ℕ → Option (List Attribute)
attributes_within most [] = Some []
attributes_within zero (kind ∷ rest) = None
attributes_within (suc most) (kind ∷ []) = None
attributes_within (suc most) (kind ∷ len ∷ rest) =
    if nat_lt len 2 || nat_lt (length rest + 2) len then None
    else option_map (λ list. record { kind = kind; value = take (len - 2) rest } ∷ list)
    (attributes_within most (drop (len - 2) rest))

-- the attributes that octets are, by the grammar, where they are any
abbrev pub attributes_of : List ℕ → Option (List Attribute)
attributes_of octets = attributes_within (length octets) octets

-- The same for octets that are attributes; of other octets it says nothing of use.
abbrev pub attributes_in : List ℕ → List Attribute
attributes_in octets = unwrap_or (attributes_of octets) []

-- ---- the attributes of a Type

-- whether an attribute is of a Type
abbrev pub is_of : ℕ → Attribute → Bool
is_of kind a = a.kind == kind

-- whether an attribute is of a Type, with a Value of so many octets
abbrev pub is_of_len : ℕ → ℕ → Attribute → Bool
is_of_len kind len a = is_of kind a && (length a.value == len)

-- whether an attribute of a Type is there
abbrev pub has : ℕ → List Attribute → Bool
has kind list = list_any (is_of kind) list

-- whether an attribute of a Type is there with a Value of so many octets
abbrev pub has_len : ℕ → ℕ → List Attribute → Bool
has_len kind len list = list_any (is_of_len kind len) list

-- the Value of the first attribute of a Type
abbrev pub first_value : ℕ → List Attribute → Option (List ℕ)
first_value kind list = option_map (λ a. a.value) (find (is_of kind) list)

-- the Value of the first attribute of a Type that has so many octets
abbrev pub first_value_of_len : ℕ → ℕ → List Attribute → Option (List ℕ)
first_value_of_len kind len list = option_map (λ a. a.value) (find (is_of_len kind len) list)

-- the integer that a Value of four octets is, most significant octet first
abbrev pub integer_of : List ℕ → Option ℕ
integer_of value = if length value == integer_size then Some (from_be_bytes w32 value) else None

-- the integer in the first attribute of a Type that has four octets
abbrev pub first_integer : ℕ → List Attribute → Option ℕ
first_integer kind list = option_map (λ value. from_be_bytes w32 value) (first_value_of_len kind integer_size list)

-- the attributes of a Type, in their order
abbrev pub of_kind : ℕ → List Attribute → List Attribute
of_kind kind list = filter (is_of kind) list

-- how many attributes of a Type there are
abbrev pub count : ℕ → List Attribute → ℕ
count kind list = count_by (is_of kind) list

-- The octets are this attribute and then the attributes that the rest is.
pub record IsFirst (octets : List ℕ) (a : Attribute) (rest : List ℕ) : Type 0 where
  pub list : attributes_in octets ≡ a ∷ attributes_in rest
  pub others : AreAttributes rest (attributes_in rest)
