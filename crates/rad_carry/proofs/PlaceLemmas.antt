-- In the same configuration each place is its own new place.
use Rattle.std.proofs.Common.{◌≡◌, ◌<◌, ℕ, ◌+◌, suc, zero, [], ◌∷◌, List, map, length, true, ◌&&◌, ◌==◌, cond, Option, Some, arith}
use Rattle.std.proofs.Common.{refl, ap, sym, subst, ◌∙◌}
use Rattle.std.specs.Prelude.{option_and_then, option_map, position, slice_get}
use Rattle.std.proofs.lemmas.Bool.{eq-eqb}
use Rattle.std.proofs.lemmas.List.{length-map}
use Rattle.std.proofs.lemmas.Option.{slice_get-map}
use Rattle.rad_auth.specs.Clients.{Client, network_of}
use Rattle.rad_config.specs.Configurations.{user_place}
use Rattle.rad_config.specs.Ranges.{AreNamedApart}
use Rattle.rad_config.specs.declared.user.User.{User}
use Rattle.rad_carry.specs.Places.{client_places, is_network, moved_place, network_place, network_places_from, same_network}
use Rattle.rad_carry.specs.Places.{user_places}
use Rattle.rad_auth.specs.declared.network.Network.{Network}

-- what is at a place that is there
got : {X : Type 0} (xs : List X) (k : ℕ) → k < length xs → (x : X) × (slice_get xs k ≡ Some x)
got [] k within = absurd (omega (arith, within))
got (x ∷ xs) zero within = (x, refl)
got (x ∷ xs) (suc k) within = got xs k (omega (arith, within))

-- ---- users

pub user_stays : (users : List User) → AreNamedApart users → (place : ℕ) → place < length users
    → moved_place (user_places users users) place ≡ Some place
user_stays users apart place within =
    let at = got users place within in
    ap (option_and_then (λ new. new))
    (slice_get-map (λ (user : User). user_place users user.name) users place
    ∙ ap (option_map (λ (user : User). user_place users user.name)) at.1)
    ∙ apart place at.0 at.1

-- ---- clients

-- the new place of the network at a place
placed : (new xs : List Network) (from k : ℕ)
    → slice_get (network_places_from from xs new) k ≡ option_map (network_place new (from + k)) (slice_get xs k)
placed new [] from k = refl
placed new (x ∷ xs) from zero = ap (λ (n : ℕ). Some (network_place new n x)) (omega arith)
placed new (x ∷ xs) from (suc k) =
    placed new xs (from + 1) k ∙ ap (λ (n : ℕ). option_map (network_place new n) (slice_get xs k)) (omega arith)

itself : (network : Network) → same_network network network ≡ true
itself network =
    ap (λ b. b && (network.prefix == network.prefix)) (eq-eqb network.address network.address refl)
    ∙ eq-eqb network.prefix network.prefix refl

-- a network that is still at its place stays there
still : (new : List Network) (place : ℕ) (network : Network) → slice_get new place ≡ Some network
    → network_place new place network ≡ Some place
still new place network at =
    ap (λ (o : Option Network). cond (is_network network o) (Some place) (position (same_network network) new)) at
    ∙ ap (λ b. cond b (Some place) (position (same_network network) new)) (itself network)

pub client_stays : (clients : List Client) (place : ℕ) → place < length clients
    → moved_place (client_places clients clients) place ≡ Some place
client_stays clients place within =
    let networks = map network_of clients in
    let at = got networks place (subst (λ n. place < n) (sym (length-map clients network_of)) within) in
    ap (option_and_then (λ new. new)) (placed networks networks 0 place ∙ ap (option_map (network_place networks (0 + place))) at.1)
    ∙ ap (λ (n : ℕ). network_place networks n at.0) (omega arith) ∙ still networks place at.0 at.1
