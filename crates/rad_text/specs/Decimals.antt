-- Decimal numbers and addresses as text spells them. A text is a list of octets, which are numbers below 256; an address has
-- its most significant octet first.
use Rattle.std.specs.Prelude.{ℕ, ◌+◌, ◌-◌, ◌*◌, ◌==◌, ◌&&◌, ◌||◌, nat_lt, nat_le, Bool, false, if◌then◌else◌, List, [], ◌∷◌, length}
use Rattle.std.specs.Prelude.{Option, Some, None, option_and_then}
use Rattle.rad_text.specs.Splits.{split_once}

infixl 10 ◌>>=◌
abbrev pub ◌>>=◌ : {A B : Type 0} → Option A → (A → Option B) → Option B
o >>= f = option_and_then f o

-- the value of a decimal digit
abbrev pub digit_of : ℕ → Option ℕ
digit_of octet = if nat_le 48 octet && nat_le octet 57 then Some (octet - 48) else None

-- the number whose first digits gave this number, and whose others are these
abbrev pub digits_from : ℕ → List ℕ → Option ℕ
digits_from number [] = Some number
digits_from number (octet ∷ text) = digit_of octet >>= λ digit. digits_from (10 * number + digit) text

-- one to so many decimal digits, of a number up to a greatest
unfoldable pub number_of : ℕ → ℕ → List ℕ → Option ℕ
number_of most_digits greatest text =
    if length text == 0 || nat_lt most_digits (length text) then None
    else (digits_from 0 text >>= λ number. if nat_le number greatest then Some number else None)

-- whether a zero precedes another digit
abbrev pub has_leading_zero : List ℕ → Bool
has_leading_zero [] = false
has_leading_zero (octet ∷ []) = false
has_leading_zero (octet ∷ next ∷ text) = octet == 48

-- one of the four numbers of an address
unfoldable pub address_part_of : List ℕ → Option ℕ
address_part_of text = if has_leading_zero text then None else number_of 3 255 text

-- four numbers joined by points
unfoldable pub address_of : List ℕ → Option ℕ
address_of text = do
  first ← split_once 46 text
  second ← split_once 46 first.1
  third ← split_once 46 second.1
  a ← address_part_of first.0
  b ← address_part_of second.0
  c ← address_part_of third.0
  d ← address_part_of third.1
  Some (((a * 256 + b) * 256 + c) * 256 + d)
