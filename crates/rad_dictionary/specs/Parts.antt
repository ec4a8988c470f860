-- What a configuration says of an attribute. A text is a list of octets, which are numbers below 256.
use Rattle.std.specs.Prelude.{ℕ, List}

-- what names it: its name in an RFC, its Type, or a vendor's number and that of the vendor's attribute (RFC 2865, section 5.26)
pub data Naming : Type 0 where
  name : List ℕ → Naming
  kind : ℕ → Naming
  of_vendor : ℕ → ℕ → Naming

-- what is given as its Value: a number, a text, or hex digits, which spell octets
pub data Giving : Type 0 where
  number : ℕ → Giving
  text : List ℕ → Giving
  hex : List ℕ → Giving
