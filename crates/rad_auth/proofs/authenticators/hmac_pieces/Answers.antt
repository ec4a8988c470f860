use Rattle.std.proofs.Common.{◌≡◌, ◌-◌, ◌+◌, ◌++◌, List, [], ◌∷◌, ℕ, length, take, drop, ap, sym, ◌∙◌, arith}
use Rattle.std.proofs.lemmas.List.{append_assoc, append-nil, length-drop, take_all}
use Rattle.rad_md5.specs.Pieces.{message}
use Rattle.rad_auth.specs.Authenticators.{sixteen_zeros}
use Rattle.rad_auth.proofs.authenticators.hmac_pieces.Goals as goal

pub returns-clause-message : goal.returns-clause-message
returns-clause-message c =
    let octets : List ℕ = c.args.octets.now in
    let n = c.args.after in
    let front : List ℕ = take (length octets - n - 16) octets in
    let end : ℕ = length octets - n in
    let back : List ℕ = drop end octets in
    let place : length octets - n - 16 ≡ length octets - (n + 16) = omega arith in
    let given : c.of.result ≡ front ∷ sixteen_zeros ∷ take (length octets - end) back ∷ [] ∷ [] ∷ [] = c.of.ensures in
    let all : take (length octets - end) back ≡ back =
    take_all (length octets - end) back (omega (arith, length-drop end octets)) in
    ap message (given ∙ ap (λ (o : List ℕ). front ∷ sixteen_zeros ∷ o ∷ [] ∷ [] ∷ []) all)
    ∙ ap (λ (o : List ℕ). front ++ (sixteen_zeros ++ o)) (append-nil back) ∙ sym (append_assoc front sixteen_zeros back)
    ∙ ap (λ n. take n octets ++ sixteen_zeros ++ back) place
