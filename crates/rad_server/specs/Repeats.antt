-- What a repeated request gets (RFC 5080, section 2.2.2), said of a whole history and of the states that it led through. What is
-- claimed uses only the comparison of keys and octets (`same_key`, `is_reply_to`) and the removal of what is no longer live (`cut`,
-- `cut_challenges`); the step only says which histories are meant (`AreExchanges`). Moments and spans are in milliseconds.
--
-- A source is what may answer a repeat: a reply that was kept before the history began, or an entry of it that got a reply and
-- no earlier source covers. A source covers an entry that has its key and its octets, as long as the source lives, and if no
-- entry between them has its key and other octets. Status-Servers are not counted.
use Rattle.std.specs.Prelude.{◌≡◌, ℕ, ◌==◌, ◌&&◌, ◌||◌, max, not, Bool, if◌then◌else◌, IsTrue, List, [], ◌∷◌, ◌++◌, Contains}
use Rattle.std.specs.Prelude.{filter, map, slice_index_or}
use Rattle.std.specs.List.{list_all, list_any}
use lib.Pointwise.{pointwise}
use Rattle.rad_packet.specs.Codes.{code_status_server}
use Rattle.rad_auth.specs.Clients.{Client, client_place}
use Rattle.rad_config.specs.Configurations.{Configuration}
use Rattle.rad_config.specs.Ranges.{IsConfiguration}
use Rattle.rad_config.specs.Spans.{lasts}
use Rattle.rad_pool.specs.Sessions.{cut}
use Rattle.rad_recent.specs.Challenges.{cut_challenges}
use Rattle.rad_recent.specs.Recent.{is_reply_to, same_key}
use Rattle.rad_recent.specs.declared.kept.Kept.{Kept}
use Rattle.rad_recent.specs.declared.key.Key.{Key}
use Rattle.rad_server.specs.Lawful.{IsLawful}
use Rattle.rad_server.specs.Runs.{IsExchange}
use Rattle.rad_server.specs.States.{State}
use Rattle.rad_server.specs.declared.answer.Answer.{Answer}
use Rattle.rad_server.specs.declared.answer.Answer.TheVariants.{Send, Busy}
use Rattle.rad_server.specs.declared.entry.Entry.{Entry}

-- ---- sources

-- a source, and the entries that came after it
pub record Source : Type 0 where
  pub reply : Kept
  pub later : List Entry

-- the first octet of a request is its Code, and the second its Identifier (RFC 2865, section 3)
abbrev pub is_status_server : Entry → Bool
is_status_server entry = slice_index_or entry.octets 0 0 == code_status_server

abbrev pub entry_key : Entry → Key
entry_key entry = record { source = entry.source; port = entry.port; door = entry.door; id = slice_index_or entry.octets 1 0 }

-- whether an entry leaves a reply in force: it has another key, or the same octets
abbrev pub spares : Kept → Entry → Bool
spares reply entry = not (same_key (entry_key entry) reply.key) || pointwise ◌==◌ entry.octets reply.octets

-- whether a source would cover an entry with its key and its octets that came next, at this moment
abbrev pub is_in_force : ℕ → ℕ → Source → Bool
is_in_force window now source = lasts now source.reply.made window && list_all (spares source.reply) source.later

-- whether a source covers the entry that comes next, at this moment
abbrev pub covers : ℕ → ℕ → Entry → Source → Bool
covers window now entry source =
    not (is_status_server entry) && (is_reply_to (entry_key entry) entry.octets source.reply && is_in_force window now source)

-- the replies that were kept before a history are its first sources
abbrev pub first_sources : List Kept → List Source
first_sources kept = map (λ reply. record { reply = reply; later = [] }) kept

-- an entry that gets a reply is a source, which takes the share of its client
abbrev pub source_of : List Client → ℕ → Entry → Answer → List Source
source_of clients now entry Busy = []
source_of clients now entry (Send body) = record {
  reply = record {
    client = client_place clients entry.source;
    key = entry_key entry;
    octets = entry.octets;
    body = body;
    made = now;
  };
  later = [];
} ∷ []

-- a source that one more entry follows
abbrev pub followed_by : Entry → Source → Source
followed_by entry source = record source { later = source.later ++ entry ∷ [] }

-- the sources after the next entry, at this moment
abbrev pub next_sources : List Client → ℕ → ℕ → Entry → List Source → List Source
next_sources clients window now entry sources =
    if is_status_server entry then sources
    else map (followed_by entry) sources
    ++ (if list_any (covers window now entry) sources then [] else source_of clients now entry entry.answer)

-- ---- repeats

-- an entry, and the state after it
pub record Exchange : Type 0 where
  pub entry : Entry
  pub after : State

-- a repeat gets the reply of its source, and changes no session and no challenge; those that no longer live go
pub record IsAnsweredAgain (now : ℕ) (before : State) (exchange : Exchange) (source : Source) : Type 0 where
  pub answer : exchange.entry.answer ≡ Send source.reply.body
  pub sessions : exchange.after.sessions ≡ cut now before.sessions
  pub challenges : exchange.after.challenges ≡ cut_challenges now before.challenges

-- What holds of the exchanges that follow a state, whose sources are given, when the latest moment so far was `clock`: what a
-- source covers is answered again, and just the replies of the sources that are in force are kept.
abbrev pub RepeatsFollow : List Client → ℕ → ℕ → State → List Source → List Exchange → Type 0
RepeatsFollow clients window clock before sources [] = Unit {0}
RepeatsFollow clients window clock before sources (exchange ∷ rest) =
    let now = max clock exchange.entry.moment in
    let next = next_sources clients window now exchange.entry sources in
    ((source : Source) → Contains sources source → IsTrue (covers window now exchange.entry source)
    → IsAnsweredAgain now before exchange source)
    × ((exchange.after.replies.kept ≡ map (λ source. source.reply) (filter (is_in_force window now) next))
    × RepeatsFollow clients window now exchange.after next rest)

-- the exchanges are made by the step, one after another
abbrev pub AreExchanges : Configuration → State → List Exchange → Type 0
AreExchanges configuration before [] = Unit {0}
AreExchanges configuration before (exchange ∷ rest) =
    IsExchange configuration before exchange.entry exchange.after × AreExchanges configuration exchange.after rest

-- a repeat is answered again, all through the exchanges that a history makes from a state
abbrev pub Repeat : Configuration → State → List Entry → Type 0
Repeat configuration before history =
    (exchanges : List Exchange) → map (λ exchange. exchange.entry) exchanges ≡ history → AreExchanges configuration before exchanges
    → RepeatsFollow configuration.clients before.replies.window before.clock before (first_sources before.replies.kept) exchanges

-- ---- the law

-- in every history that a server runs from a lawful state, each repeat gets its reply again
abbrev pub RunsRepeat : Type 0
RunsRepeat = (configuration : Configuration) (before : State) (history : List Entry)
    → IsConfiguration configuration → IsLawful configuration before → Repeat configuration before history
