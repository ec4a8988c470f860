-- Shown: octets that others chose, as texts show them.
--
-- A shown octet is printable ASCII and no quote, so a name between quotes ends where it is meant to, and a line at its own line
-- feed.
use Rattle.std.specs.Prelude.{◌≡◌, ◌≤◌, ℕ, ◌+◌, ◌/◌, ◌%◌, ◌==◌, ◌&&◌, not, nat_le, nat_lt, Bool, List, [], ◌∷◌, ◌++◌, if◌then◌else◌}
use Rattle.std.specs.List.{flat_map}

-- whether an octet is shown as itself: it is one from a space to a tilde, but no quote and no backslash
abbrev pub is_plain : ℕ → Bool
is_plain octet = nat_le 32 octet && nat_le octet 126 && not (octet == 34) && not (octet == 92)

-- a hexadecimal digit, in lower case
abbrev pub digit : ℕ → ℕ
digit n = if nat_lt n 10 then 48 + n else 87 + n

-- an octet as it is shown: another one is a backslash, an x and two hexadecimal digits
abbrev pub shown_octet : ℕ → List ℕ
shown_octet octet =
    if is_plain octet then octet ∷ [] else 92 ∷ 120 ∷ digit (octet / 16 % 16) ∷ digit (octet % 16) ∷ []

-- octets as they are shown
abbrev pub shown : List ℕ → List ℕ
shown octets = flat_map shown_octet octets

-- octets as they are shown, between quotes
abbrev pub quoted : List ℕ → List ℕ
quoted octets = 34 ∷ shown octets ++ 34 ∷ []

-- printable ASCII, and no quote
pub record IsPlain (octet : ℕ) : Type 0 where
  pub least : 32 ≤ octet
  pub most : octet ≤ 126
  pub unquoted : octet ≡ 34 → ⊥
