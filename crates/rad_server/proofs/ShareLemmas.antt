-- What one client or one user takes of a table stays within its limit.
use Rattle.std.proofs.Common.{◌≡◌, ℕ, ◌+◌, Bool, true, false, not, cond, ◌==◌, List, [], ◌∷◌, ◌++◌, filter, Option, Some, None}
use Rattle.std.proofs.Common.{arith, refl, ap, subst, ◌∙◌}
use Rattle.std.specs.Prelude.{count_by}
use Rattle.std.proofs.lemmas.Bool.{eqb-true, leb-false, lt-leb}
use Rattle.std.proofs.lemmas.List.Filters.{sum_by-filter_both}
use Rattle.std.proofs.lemmas.List.Sums.{sum_by_push}
use Rattle.std.proofs.lemmas.Option.{IfSome_then}
use Rattle.rad_config.specs.Configurations.{Configuration, is_reached}
use Rattle.rad_recent.specs.Challenges.{Challenges, is_with, waiting_with, with_challenge}
use Rattle.rad_recent.specs.Recent.{Replies, is_client, is_of, replies_for, with_reply}
use Rattle.rad_recent.specs.Restored.{with_challenge_row}
use Rattle.rad_recent.specs.declared.challenge.Challenge.{Challenge}
use Rattle.rad_recent.specs.declared.challenge.Party.TheVariants.{Client, User}
use Rattle.rad_recent.specs.declared.kept.Kept.{Kept}
use Rattle.rad_server.specs.Shares.{AreSharedChallenges, AreSharedReplies, IsWithin, challenges_limit, challenges_share}
use Rattle.rad_server.specs.Shares.{replies_share}

-- nothing is within each limit
pub none_within : (limit : Option ℕ) → IsWithin limit 0
none_within None = tt
none_within (Some most) = omega arith

-- ---- rows that go

filter_within : {X : Type 0} (test left : X → Bool) (xs : List X) (limit : Option ℕ) → IsWithin limit (count_by test xs)
    → IsWithin limit (count_by test (filter left xs))
filter_within {X} test left xs limit within =
    let one : X → ℕ = λ x. cond (test x) 1 0 in
    IfSome_then limit within (λ most few. omega (arith, few, sum_by-filter_both left (λ x. not (left x)) (λ x. refl) one xs))

pub replies_within : (configuration : Configuration) (left : Kept → Bool) (table : Replies) → AreSharedReplies configuration table
    → AreSharedReplies configuration (record table { kept = filter left table.kept })
replies_within configuration left table shares =
    λ client. filter_within (is_of client) left table.kept (replies_share configuration client) (shares client)

pub challenges_within : (configuration : Configuration) (left : Challenge → Bool) (table : Challenges)
    → AreSharedChallenges configuration table
    → AreSharedChallenges configuration (record table { challenges = filter left table.challenges })
challenges_within configuration left table waiting = record {
  clients = λ client. filter_within (is_with (Client client)) left table.challenges (challenges_share configuration client)
      (waiting.clients client);
  users = λ user. filter_within (is_with (User user)) left table.challenges (challenges_limit configuration user)
      (waiting.users user);
}

-- ---- a row that comes

-- one more of a party that may have one more; `limit` and `test` are those of each party
push_within : {X : Type 0} (limit : ℕ → Option ℕ) (test : ℕ → X → Bool) (own : ℕ) (xs : List X) (x : X)
    → ((n : ℕ) → test n x ≡ (own == n))
    → is_reached (limit own) (count_by (test own) xs) ≡ false → ((n : ℕ) → IsWithin (limit n) (count_by (test n) xs)) → (n : ℕ)
    → IsWithin (limit n) (count_by (test n) (xs ++ x ∷ []))
push_within {X} limit test own xs x is spare within n =
    by_test (own == n) refl (sum_by_push (λ (y : X). cond {A = ℕ} (test n y) 1 0) xs x)
  where
    not_reached : (limit : Option ℕ) (count more : ℕ) → is_reached limit count ≡ false → more ≡ count + 1 → IsWithin limit more
    not_reached None count more free one = tt
    not_reached (Some most) count more free one = omega (arith, leb-false most count free, one)

    by_test : (b : Bool) → (own == n) ≡ b → count_by (test n) (xs ++ x ∷ []) ≡ count_by (test n) xs + cond (test n x) 1 0
        → IsWithin (limit n) (count_by (test n) (xs ++ x ∷ []))
    by_test true same sum =
        not_reached (limit n) (count_by (test n) xs) _
        (subst (λ m. is_reached (limit m) (count_by (test m) xs) ≡ false) (eqb-true own n same) spare)
        (sum ∙ ap (λ b. count_by (test n) xs + cond {A = ℕ} b 1 0) (is n ∙ same))
    by_test false other sum =
        let none : ◌≡◌ {A = ℕ} (cond (test n x) 1 0) 0 = ap (λ b. cond {A = ℕ} b 1 0) (is n ∙ other) in
        IfSome_then (limit n) (within n) (λ most few. omega (arith, few, sum, none))

-- a reply that takes the share of a client that has some left
pub shares_with_one : (configuration : Configuration) (client : ℕ) (reply : Kept) (table : Replies) → reply.client ≡ Some client
    → is_reached (replies_share configuration client) (replies_for client table) ≡ false → AreSharedReplies configuration table
    → AreSharedReplies configuration (with_reply reply table)
shares_with_one configuration client reply table own spare shares =
    push_within (replies_share configuration) is_of client table.kept reply (λ n. ap (λ o. taken n o) own) spare shares
  where
    taken : ℕ → Option ℕ → Bool
    taken n None = false
    taken n (Some c) = c == n

-- one more challenge may wait for this user and this client
pub record MayWait (configuration : Configuration) (client user : ℕ) (table : Challenges) : Type 0 where
  pub own : is_reached (challenges_limit configuration user) (waiting_with (User user) table) ≡ false
  pub shared : is_reached (challenges_share configuration client) (waiting_with (Client client) table) ≡ false

-- a challenge of theirs, whatever its number
pub waiting_with_row : (configuration : Configuration) (row : Challenge) (table : Challenges)
    → MayWait configuration row.client row.user table
    → AreSharedChallenges configuration table → AreSharedChallenges configuration (with_challenge_row row table)
waiting_with_row configuration row table may waiting = record {
  clients = push_within (challenges_share configuration) (λ n. is_with (Client n)) row.client table.challenges row (λ n. refl)
      may.shared waiting.clients;
  users = push_within (challenges_limit configuration) (λ n. is_with (User n)) row.user table.challenges row (λ n. refl) may.own
      waiting.users;
}

pub waiting_with_one : (configuration : Configuration) (client user : ℕ) (draw : List ℕ) (now : ℕ) (table : Challenges)
    → MayWait configuration client user table
    → AreSharedChallenges configuration table → AreSharedChallenges configuration (with_challenge client user draw now table)
waiting_with_one configuration client user draw now table may waiting =
    waiting_with_row configuration (record { number = table.next; draw = draw; client = client; user = user; made = now }) table may
    waiting

-- a reply that takes nobody's share
pub shares_with_nobodys : (configuration : Configuration) (reply : Kept) (table : Replies) → reply.client ≡ None
    → AreSharedReplies configuration table
    → AreSharedReplies configuration (with_reply reply table)
shares_with_nobodys configuration reply table own shares client =
    let sum = sum_by_push (λ (y : Kept). cond {A = ℕ} (is_of client y) 1 0) table.kept reply in
    let none : ◌≡◌ {A = ℕ} (cond (is_of client reply) 1 0) 0 = ap (λ o. cond {A = ℕ} (is_client client o) 1 0) own in
    IfSome_then (replies_share configuration client) (shares client) (λ most few. omega (arith, few, sum, none))

-- ---- a row that was there last

-- where the rows with one of a party are within its limit, the others haven't reached it
pub spare_before : {X : Type 0} (limit : Option ℕ) (test : X → Bool) (xs : List X) (x : X) → test x ≡ true
    → IsWithin limit (count_by test (xs ++ x ∷ []))
    → is_reached limit (count_by test xs) ≡ false
spare_before None test xs x own within = refl
spare_before (Some most) test xs x own within =
    let one : ◌≡◌ {A = ℕ} (cond (test x) 1 0) 1 = ap (λ b. cond {A = ℕ} b 1 0) own in
    lt-leb most (count_by test xs) (omega (arith, within, sum_by_push (λ y. cond {A = ℕ} (test y) 1 0) xs x, one))
