-- How often an attribute occurs (RFC 2865, section 5.44).
use Rattle.std.specs.Prelude.{ℕ, List, [], ◌∷◌, map}
use Rattle.rad_packet.specs.Attributes.{Attribute, of_kind}

-- not at all, once with this Value, or more often
pub data Occurrence : Type 0 where
  Absent : Occurrence
  Once : List ℕ → Occurrence
  Repeated : Occurrence

abbrev pub occurrence_of_values : List (List ℕ) → Occurrence
occurrence_of_values [] = Absent
occurrence_of_values (value ∷ []) = Once value
occurrence_of_values (value ∷ another ∷ more) = Repeated

-- how often an attribute of a Type occurs
abbrev pub occurrence : ℕ → List Attribute → Occurrence
occurrence kind list = occurrence_of_values (map (λ a. a.value) (of_kind kind list))
