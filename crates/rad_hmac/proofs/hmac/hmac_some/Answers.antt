use Rattle.std.proofs.Common.{◌≡◌, ℕ, List, [], ◌∷◌, false, slice_index_or, subst, true}
use Rattle.std.specs.Prelude.{map}
use Rattle.rad_md5.specs.Lanes.{EachLane}
use Rattle.rad_md5.proofs.LaneLemmas.{below_eight}
use Rattle.rad_hmac.specs.Hmac.{Keyed, mac_of}
use Rattle.rad_hmac.proofs.LaneLemmas.{lanes_read}
use Rattle.rad_hmac.proofs.hmac.hmac_some.Goals as goal

pub returns : goal.returns
returns c =
    let made : List (List ℕ) =
    c.hmac_if.result ∷ c.hmac_if-2.result ∷ c.hmac_if-3.result ∷ c.hmac_if-4.result
    ∷ c.hmac_if-5.result ∷ c.hmac_if-6.result ∷ c.hmac_if-7.result ∷ c.hmac_if-8.result ∷ [] in
    subst (λ (read : List Keyed). EachLane (λ j. slice_index_or c.args.wanted.now j false ≡ true
    → slice_index_or made j [] ≡ slice_index_or (map mac_of read) j []))
    (lanes_read c.args.messages.now _ _ _ _ _ _ _ _ c.type_inv.messages)
    (below_eight _ c.hmac_if.ensures c.hmac_if-2.ensures c.hmac_if-3.ensures c.hmac_if-4.ensures
    c.hmac_if-5.ensures c.hmac_if-6.ensures c.hmac_if-7.ensures c.hmac_if-8.ensures)
