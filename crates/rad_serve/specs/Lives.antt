-- Lives: a server that crashes, however often, and each time goes on from what its newest generation keeps.
--
-- Whatever a crash leaves is reached by runs of the one-thread server, each of which goes on where the one before it ended, the
-- first from a fresh server; and each reply that ever went is the reply to an entry of one of these runs (`IsOneRun`). Order isn't
-- claimed: the replies of a round go in order of arrival, and its entries have the order of the steps.
use Rattle.std.specs.Prelude.{◌≡◌, ◌⊎◌, ℕ, if◌then◌else◌, Bool, List, [], ◌∷◌, ◌++◌, drop, length, All, Contains, Option, None}
use Rattle.std.specs.Prelude.{Some}
use Rattle.rad_auth.specs.Admission.{IsAdmitted, own_datagram}
use Rattle.rad_auth.specs.Clients.{Client}
use Rattle.rad_auth.specs.declared.arrival.Request.{Request}
use Rattle.rad_config.specs.Configurations.{Configuration}
use Rattle.rad_config.specs.Ranges.{IsConfiguration}
use Rattle.rad_server.specs.Lawful.{IsLawful}
use Rattle.rad_server.specs.Runs.{IsLikeFromNow, IsMarked, datagram_of_entry}
use Rattle.rad_server.specs.Servers.{Server}
use Rattle.rad_server.specs.States.{State, at_moment}
use Rattle.rad_server.specs.declared.entry.Entry.{Entry}
use Rattle.rad_carry.specs.Carried.{carried}
use Rattle.rad_round.specs.Rounds.{HasEntry, IsSentAs}
use Rattle.rad_round.specs.declared.outcome.Outcome.TheVariants.{Reply}
use Rattle.rad_journal.specs.Restores.{AreKept, IsRestored}
use Rattle.rad_journal.specs.declared.kept.Kept.{Kept}
use Rattle.rad_state.specs.Generations.{Generation, fresh_server, just_begun}
use Rattle.rad_shell.specs.Passages.{Empty, Fault, In, Now, Out, Passage, Went}
use Rattle.rad_shell.specs.Serving.{Tally}

-- ---- replies

-- A datagram that went is the reply to an entry: it went from the port that the entry's request came to, to the address and port
-- that this came from, and its octets are those of the entry's answer, under the client's secret.
pub record IsReplyOf (clients : List Client) (entry : Entry) (went : Went) : Type 0 where
  pub request : Request
  pub own : own_datagram request ≡ datagram_of_entry entry
  pub admitted : IsAdmitted clients request
  pub sent : IsSentAs clients request entry.answer (Reply went.octets)
  pub door : went.door ≡ entry.door
  pub address : went.address ≡ entry.source
  pub port : went.port ≡ entry.port

-- a datagram that went is the reply to an entry of a history
abbrev pub IsReplyIn : List Client → List Entry → Went → Type 0
IsReplyIn clients history went = (entry : Entry) × HasEntry history entry × IsReplyOf clients entry went

-- the datagrams that went, among what passed
abbrev pub went_among : List Passage → List Went
went_among [] = []
went_among (In came ∷ rest) = went_among rest
went_among (Out went ∷ rest) = went ∷ went_among rest
went_among (Empty ∷ rest) = went_among rest
went_among (Now moment ∷ rest) = went_among rest
went_among (Fault ∷ rest) = went_among rest

-- the datagrams that went between two moments, as ports tell; none where they can't tell
abbrev pub went_since : Option (List Passage) → Option (List Passage) → List Went
went_since None after = []
went_since (Some before) None = []
went_since (Some before) (Some after) = went_among (drop (length before) after)

-- ---- one run

-- A history with a mark for each entry leads from one state to another. A marked entry was fresh, and leads on. Any other wasn't:
-- it is answered as the state between the marked ones answers it, and that stays.
abbrev pub Serves : Configuration → State → List Entry → List Bool → State → Type 0
Serves configuration before [] [] after = before ≡ after
Serves configuration before [] (mark ∷ marks) after = ⊥
Serves configuration before (entry ∷ rest) [] after = ⊥
Serves configuration before (entry ∷ rest) (mark ∷ marks) after =
    (next : State) × IsMarked configuration before entry mark next
    × Serves configuration (if mark then next else before) rest marks after

-- the marked entries of a history
abbrev pub marked_of : List Entry → List Bool → List Entry
marked_of [] marks = []
marked_of (entry ∷ rest) [] = []
marked_of (entry ∷ rest) (mark ∷ marks) = if mark then entry ∷ marked_of rest marks else marked_of rest marks

-- The entries that were kept since a base are one run of the server from there: they are what is kept of the marked entries of a
-- history. Each of the datagrams that were sent since is the reply to an entry of that history.
pub record IsRunFrom (base : Server) (entries : List Kept) (sent : List Went) : Type 0 where
  pub history : List Entry
  pub marks : List Bool
  pub state : State
  pub serves : Serves base.configuration base.state history marks state
  pub kept : AreKept (marked_of history marks) entries
  pub replied : All (IsReplyIn base.configuration.clients history) sent

-- the server of a configuration that takes over what another one remembers
abbrev pub carried_server : Configuration → Server → Server
carried_server configuration server =
    record { configuration = configuration; state = carried server.configuration configuration server.state }

-- A server that can be reached, with all that was kept and sent on the way: a fresh one; one that a run from a reached one leads
-- to, but that its state may be another which no later step can tell from that of the run; or one of another configuration that
-- takes over what a reached one remembers.
pub data IsReached : Server → List Kept → List Went → Type 0 where
  fresh : (configuration : Configuration) → IsConfiguration configuration → IsReached (fresh_server configuration) [] []
  by_run : {base : Server} {ended : List Kept} {earlier : List Went} (kept : List Kept) (sent : List Went) (state : State)
      → IsReached base ended earlier → (run : IsRunFrom base kept sent) → IsLikeFromNow state run.state
      → IsLawful base.configuration state
      → IsReached (record { configuration = base.configuration; state = state }) (ended ++ kept) (earlier ++ sent)
  by_carrying : {server : Server} {ended : List Kept} {earlier : List Went} (configuration : Configuration)
      → IsConfiguration configuration
      → IsReached server ended earlier → IsReached (carried_server configuration server) ended earlier

-- A generation that a crash left is one run, where this was kept in generations that have ended: its base was reached, and its
-- entries are a run from there. Each of the datagrams that were sent went on the way, or is of that run.
pub record IsOneRun (ended : List Kept) (left : Generation) (sent : List Went) : Type 0 where
  pub earlier : List Went
  pub later : List Went
  pub reached : IsReached left.base ended earlier
  pub run : IsRunFrom left.base left.entries later
  pub among : All (Contains (earlier ++ later)) sent

-- each generation that a crash may leave is
abbrev pub AreOneRun : List Kept → (Generation → Type 0) → List Went → Type 0
AreOneRun ended may_leave sent = (left : Generation) → may_leave left → IsOneRun ended left sent

-- ---- a life

-- A generation is left after turns. All that was kept, in it and in those that have ended, is what was kept before and what the
-- turns kept, or perhaps also what they didn't keep, since the journal failed. Where no other begins, no more have ended.
pub record IsLeft (ended kept : List Kept) (tally : Tally) (alone : Type 0) (left : Generation) (sent : List Went) : Type 0 where
  pub ended_now : List Kept
  pub one : IsOneRun ended_now left sent
  pub all : (ended_now ++ left.entries ≡ kept ++ tally.kept) ⊎ (ended_now ++ left.entries ≡ kept ++ (tally.kept ++ tally.unkept))
  pub same : alone → ended_now ≡ ended

-- A server was restored from a base and the entries since, which are one run with all that was sent earlier. Then so is each
-- generation that a crash may leave after turns, with all that was sent earlier or has gone since.
abbrev pub StaysOneRun : Server → List Kept → Server → Tally → Type 0 → Option (List Passage) → Option (List Passage)
    → (Generation → Type 0)
    → Type 0
StaysOneRun base entries server tally alone passed passed_now may_leave =
    (ended : List Kept) (earlier : List Went) → IsRestored base entries server
    → IsOneRun ended (record { base = base; entries = entries }) earlier → (left : Generation) → may_leave left
    → IsLeft ended (ended ++ entries) tally alone left (earlier ++ went_since passed passed_now)

-- ---- the next life

-- a server is what a generation leads to, at a moment up to which time has passed since
pub record IsLedTo (left : Generation) (server : Server) : Type 0 where
  pub state : State
  pub restored : IsRestored left.base left.entries (record { configuration = server.configuration; state = state })
  pub moment : ℕ
  pub passed : server.state ≡ at_moment moment state
  pub configured : server.configuration ≡ left.base.configuration
  pub lawful : IsLawful server.configuration server.state

-- a server of a configuration takes over what a generation leads to
pub record GoesOn (left : Generation) (configuration : Configuration) (server : Server) : Type 0 where
  pub before : Server
  pub led : IsLedTo left before
  pub carried : server ≡ carried_server configuration before

-- Where a generation is one run, so is the one that begins at a server which goes on from it: nothing is forgotten that was kept or
-- sent.
abbrev pub LivesAreOneRun : Type 0
LivesAreOneRun = (ended : List Kept) (left : Generation) (sent : List Went) (configuration : Configuration) (server : Server)
    → IsOneRun ended left sent → IsConfiguration configuration → GoesOn left configuration server
    → IsOneRun (ended ++ left.entries) (just_begun server) sent
