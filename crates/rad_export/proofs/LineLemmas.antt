-- Fields and tokens of lines, and texts of addresses.
use Rattle.std.proofs.Common.{◌≡◌, ◌∙◌, ℕ, ℤ, pos, negsuc, cond, ap, List, [], ◌∷◌, ◌++◌}
use Rattle.std.specs.Prelude.{◌^◌, unsigned_abs}
use Rattle.std.specs.Int.{w32, to_be_bytes, FitsUnsignedBits}
use Rattle.std.specs.Net.Addr.{ipv4_octets, IsIpv4OfBits}
use Rattle.std.specs.Net.Text.{ipv4_text}
use Rattle.std.specs.declared.net.ipv4_addr.Ipv4Addr.{Ipv4Addr}
use Rattle.json.specs.Token.{Token}
use Rattle.std.proofs.lemmas.Bool.{lt-ltb}
use Rattle.sqlite_value.specs.declared.value.Value.TheVariants.{Null, Text}
use Rattle.rad_export.specs.Columns.{shown_address}

-- a field, and others after it
pub first-field : (none some all others : List (List ℕ)) (part text field : List ℕ) → none ≡ [] → part ≡ [] → text ≡ field
    → some ≡ none ++ ((part ++ text) ∷ []) → all ≡ some ++ others → all ≡ field ∷ others
first-field none some all others part text field is-none is-whole is-field is-some is-all =
    is-all ∙ ap (λ fs. fs ++ others) (is-some
    ∙ ap (λ fs. fs ++ ((part ++ text) ∷ [])) is-none ∙ ap (λ p. (p ++ text) ∷ []) is-whole ∙ ap (λ t. t ∷ []) is-field)

-- an object of one member and others after it
pub object-tokens : (t0 t1 t2 t3 t4 t5 : List Token) (opened named said count : Token) (members : List Token) (closed : Token)
    → t0 ≡ [] → t1 ≡ t0 ++ (opened ∷ []) → t2 ≡ t1 ++ (named ∷ []) → said ≡ count → t3 ≡ t2 ++ (said ∷ [])
    → t4 ≡ t3 ++ members → t5 ≡ t4 ++ (closed ∷ [])
    → t5 ≡ opened ∷ named ∷ count ∷ members ++ closed ∷ []
object-tokens t0 t1 t2 t3 t4 t5 opened named said count members closed e0 e1 e2 same e3 e4 e5 =
    e5 ∙ ap (λ t. t ++ (closed ∷ [])) (e4 ∙ ap (λ t. t ++ members) (e3
    ∙ ap (λ t. t ++ (said ∷ [])) (e2 ∙ ap (λ t. t ++ (named ∷ [])) (e1 ∙ ap (λ t. t ++ (opened ∷ [])) e0))
    ∙ ap (λ n. opened ∷ named ∷ n ∷ []) same))

-- the octets of an address
pub octets-of : (a : Ipv4Addr) (bits : ℕ) → IsIpv4OfBits a bits → ipv4_octets a ≡ to_be_bytes w32 bits
unfolding IsIpv4OfBits
octets-of a bits is = is

-- an integer that is an address
pub address-shown : (z : ℤ) → FitsUnsignedBits 32 z → shown_address z ≡ Text (ipv4_text (to_be_bytes w32 (unsigned_abs z)))
address-shown (pos n) fits = ap (λ b. cond b (Text (ipv4_text (to_be_bytes w32 n))) Null) (lt-ltb n (2 ^ 32) fits)
address-shown (negsuc n) fits = absurd fits
