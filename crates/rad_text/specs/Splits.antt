-- Texts in parts. A text is a list of octets, which are numbers below 256.
use Rattle.std.specs.Prelude.{ℕ, ◌==◌, if◌then◌else◌, List, [], ◌∷◌, Option, Some, None, option_map}

-- the text before the first separator, and the text after it
abbrev pub split_once : ℕ → List ℕ → Option (List ℕ × List ℕ)
split_once separator [] = None
split_once separator (octet ∷ text) =
    if octet == separator then Some ([], text) else option_map (λ parts. (octet ∷ parts.0, parts.1)) (split_once separator text)
