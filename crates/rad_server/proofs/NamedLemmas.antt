-- The session that a reply's Class names is the only one that may have the address that the reply gives.
use Rattle.std.proofs.Common.{◌≡◌, ℕ, suc, ◌≤◌, ◌<◌, Bool, true, false, cond, ◌&&◌, ◌||◌, ◌==◌, List, [], ◌∷◌, find, All, AllPairs}
use Rattle.std.proofs.Common.{Option, Some, None, arith, refl, ap, sym, subst, ◌∙◌}
use Rattle.std.specs.Cmp.Lexicographic.{same_text}
use Rattle.std.specs.List.{list_any}
use Rattle.std.specs.Prelude.{option_and_then, unwrap_or}
use Rattle.std.proofs.lemmas.Bool.{and_parts, both_ways, eq-eqb, eqb-true, false_from_ne_true}
use Rattle.std.proofs.lemmas.List.Elements.{All-head, All-tail, All-weaker}
use Rattle.std.proofs.lemmas.List.Folds.{list_any_none}
use Rattle.std.proofs.lemmas.Nat.{from_be_bytes-to_be_bytes_8}
use Rattle.rad_packet.specs.Attributes.{first_value}
use Rattle.rad_pool.specs.Grants.{last_number}
use Rattle.rad_pool.specs.Sessions.{Sessions}
use Rattle.rad_pool.specs.declared.session.Session.{Session}
use Rattle.rad_recent.specs.declared.kept.Kept.{Kept}
use Rattle.rad_server.specs.Replies.{class_value}
use Rattle.rad_server.specs.Reports.{class_number_of}
use Rattle.rad_server.specs.Restored.{HaveNumbers, is_address_in, is_its_session, is_value}

-- the number of a Class
class_back : (n : ℕ) → n ≤ last_number → class_number_of (class_value n) ≡ Some n
class_back n fits = ap Some (from_be_bytes-to_be_bytes_8 n (omega (arith, fits)))

class_says : (value : List ℕ) (n : ℕ) → n ≤ last_number → is_value (class_value n) (Some value) ≡ true
    → class_number_of value ≡ Some n
class_says value n fits is = subst (λ v. class_number_of v ≡ Some n) (same_text (class_value n) value (sym is)) (class_back n fits)

-- ---- rows with rising numbers

-- whether a session that was perhaps found passes a test
abbrev passes : (Session → Bool) → Option Session → Bool
passes p None = false
passes p (Some session) = p session

or_false : (b : Bool) → (b || false) ≡ b
or_false true = refl
or_false false = refl

-- if only a session of this number can pass, one passes just where that does
by_number : (p : Session → Bool) (n : ℕ) (xs : List Session)
    → AllPairs (λ (earlier later : Session). earlier.number < later.number) xs
    → All (λ (session : Session). p session ≡ true → session.number ≡ n) xs
    → list_any p xs ≡ passes p (find (λ (session : Session). session.number == n) xs)
by_number p n [] rising only = refl
by_number p n (x ∷ xs) rising only =
    at (x.number == n) refl (by_number p n xs rest
    (All-tail (λ (session : Session). p session ≡ true → session.number ≡ n) x xs only))
  where
    rest : AllPairs (λ (earlier later : Session). earlier.number < later.number) xs
    rest = λ i j d less within. rising (suc i) (suc j) d (omega (arith, less)) (omega (arith, within))

    none_later : x.number ≡ n → list_any p xs ≡ false
    none_later is = list_any_none p xs (λ k d within. false_from_ne_true (p _) (λ passed.
        let same = All-tail (λ (session : Session). p session ≡ true → session.number ≡ n) x xs only k d within passed in
        absurd (omega (arith, rising 0 (suc k) d (omega arith) (omega (arith, within)), same, is))))

    at : (b : Bool) → (x.number == n) ≡ b → list_any p xs ≡ passes p (find (λ (session : Session). session.number == n) xs)
        → (p x || list_any p xs) ≡ passes p (cond b (Some x) (find (λ (session : Session). session.number == n) xs))
    at true is more = ap (λ b. p x || b) (none_later (eqb-true x.number n is)) ∙ or_false (p x)
    at false is more =
        let not_it : p x ≡ false = false_from_ne_true (p x) (λ passed.
        let same = All-head (λ (session : Session). p session ≡ true → session.number ≡ n) x xs only passed in
        both_ways (x.number == n) is (eq-eqb x.number n same)) in
        ap (λ b. b || list_any p xs) not_it ∙ more

-- ---- the session of a reply

-- a session passes only with the Class of its number
class_of : (reply : Kept) (session : Session) → is_its_session reply session ≡ true
    → is_value (class_value session.number) (first_value 25 reply.body.attributes) ≡ true
class_of reply session passed =
    let class = is_value (class_value session.number) (first_value 25 reply.body.attributes) in
    let address = is_address_in (first_value 8 reply.body.attributes) session.address in
    (and_parts class address (and_parts (class && address) (session.made == reply.made) passed).0).0

-- so its number is the one in the Class, if there is one
class_names : (reply : Kept) (session : Session) (number : Option ℕ) → session.number ≤ last_number
    → option_and_then class_number_of (first_value 25 reply.body.attributes) ≡ number → is_its_session reply session ≡ true
    → number ≡ Some session.number
class_names reply session number fits named passed = at (first_value 25 reply.body.attributes) (class_of reply session passed) named
  where
    at : (value : Option (List ℕ)) → is_value (class_value session.number) value ≡ true
        → option_and_then class_number_of value ≡ number → number ≡ Some session.number
    at None is named = absurd (both_ways false refl is)
    at (Some value) is named = sym named ∙ class_says value session.number fits is

some_same : (a b : ℕ) → ◌≡◌ {A = Option ℕ} (Some a) (Some b) → a ≡ b
some_same a b is = ap (λ (o : Option ℕ). unwrap_or o a) is

-- without a Class of a session there is none
pub unnamed : (reply : Kept) (table : Sessions) → HaveNumbers table
    → option_and_then class_number_of (first_value 25 reply.body.attributes) ≡ None
    → list_any (is_its_session reply) table.sessions ≡ false
unnamed reply table numbers named =
    list_any_none (is_its_session reply) table.sessions
    (All-weaker (λ (session : Session). session.number ≤ last_number)
    (λ (session : Session). is_its_session reply session ≡ false)
    (λ session fits. false_from_ne_true (is_its_session reply session)
    (λ passed. absurd (cc (class_names reply session None fits named passed)))) table.sessions numbers.within)

only_named : (reply : Kept) (n : ℕ) (table : Sessions) → HaveNumbers table
    → option_and_then class_number_of (first_value 25 reply.body.attributes) ≡ Some n
    → list_any (is_its_session reply) table.sessions
    ≡ passes (is_its_session reply) (find (λ (session : Session). session.number == n) table.sessions)
only_named reply n table numbers named =
    by_number (is_its_session reply) n table.sessions numbers.rising
    (All-weaker (λ (session : Session). session.number ≤ last_number)
    (λ (session : Session). is_its_session reply session ≡ true → session.number ≡ n)
    (λ session fits passed. some_same session.number n (sym (class_names reply session (Some n) fits named passed))) table.sessions
    numbers.within)

pub named_found : (reply : Kept) (n : ℕ) (session : Session) (table : Sessions) → HaveNumbers table
    → option_and_then class_number_of (first_value 25 reply.body.attributes) ≡ Some n
    → find (λ (s : Session). s.number == n) table.sessions ≡ Some session
    → is_its_session reply session ≡ list_any (is_its_session reply) table.sessions
named_found reply n session table numbers named found =
    ap (passes (is_its_session reply)) (sym found) ∙ sym (only_named reply n table numbers named)

pub named_gone : (reply : Kept) (n : ℕ) (table : Sessions) → HaveNumbers table
    → option_and_then class_number_of (first_value 25 reply.body.attributes) ≡ Some n
    → find (λ (s : Session). s.number == n) table.sessions ≡ None → list_any (is_its_session reply) table.sessions ≡ false
named_gone reply n table numbers named gone = only_named reply n table numbers named ∙ ap (passes (is_its_session reply)) gone
