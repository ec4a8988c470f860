-- IPv6 addresses: what a text is read as, and how many octets an address has.
use Rattle.std.proofs.Common.{◌≡◌, ◌∙◌, ℕ, List, [], ◌++◌, length, None, Some, refl, ◌==◌, ap, sym, subst, ⊎_elim, append-nil}
use Rattle.std.proofs.Common.{arith}
use Rattle.std.specs.Net.Grammar.{IsColonHex}
use Rattle.std.specs.Net.Reader.{Read, whole_value, read_ipv6}
use Rattle.std.proofs.NetLemmas.Ipv6.{read_ipv6_complete, read_ipv6_sound, EndsGroups-nil}
use Rattle.std.proofs.lemmas.List.{nil_from_length}
use Rattle.std.proofs.lemmas.Bool.{cases_Bool}
use Rattle.std.proofs.lemmas.Bool.Decides.{nat_tests}

-- a text that spells an address is read as it
pub whole-spelled : (text segments : List ℕ) → IsColonHex text segments → whole_value (read_ipv6 text) ≡ Some segments
whole-spelled text segments spelled =
    ap whole_value (ap read_ipv6 (sym (append-nil text)) ∙ read_ipv6_complete text segments [] spelled EndsGroups-nil)

-- one that spells none is read as none
unread : (text : List ℕ) → ((segments : List ℕ) → ¬ (IsColonHex text segments)) → (read : Read (List ℕ)) → read_ipv6 text ≡ read
    → whole_value read ≡ None
unread text never None is = refl
unread text never (Some found) is =
    let sound = read_ipv6_sound text found.0 found.1 is in
    ⊎_elim
    (λ ended. absurd (never found.0
    (subst (λ t. IsColonHex t found.0)
    (sym (sound.1 ∙ ap (λ r. sound.0 ++ r) (nil_from_length found.1 (grind (arith, nat_tests))) ∙ append-nil sound.0))
    sound.2)))
    (λ more. rw more)
    (cases_Bool (length found.1 == 0))

pub whole-unspelled : (text : List ℕ) → ((segments : List ℕ) → ¬ (IsColonHex text segments)) → whole_value (read_ipv6 text) ≡ None
whole-unspelled text never = unread text never (read_ipv6 text) refl
