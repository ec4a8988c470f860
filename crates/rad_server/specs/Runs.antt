-- Histories: what a server of one thread answers to requests that come one after another.
use Rattle.std.specs.Prelude.{◌≡◌, ℕ, ◌≤◌, max, if◌then◌else◌, Bool, List, [], ◌∷◌, ◌++◌, length, All, IfSome, Option, Some, None}
use Rattle.rad_auth.specs.Admission.{IsAdmitted, own_datagram}
use Rattle.rad_auth.specs.Authenticators.{sixteen_zeros}
use Rattle.rad_auth.specs.Clients.{Client}
use Rattle.rad_auth.specs.Datagrams.{Datagram}
use Rattle.rad_auth.specs.declared.arrival.Request.{Request}
use Rattle.rad_packet.specs.Bodies.{Body}
use Rattle.rad_packet.specs.Packets.{packet_octets}
use Rattle.rad_config.specs.Configurations.{Configuration}
use Rattle.rad_config.specs.Ranges.{IsConfiguration}
use Rattle.rad_config.specs.Spans.{moment_max}
use Rattle.rad_server.specs.Lawful.{IsLawful}
use Rattle.rad_server.specs.Servers.{Server}
use Rattle.rad_server.specs.States.{State, at_moment, when_passed}
use Rattle.rad_server.specs.Steps.{is_fresh, session_at, step}
use Rattle.rad_server.specs.declared.answer.Answer.{Answer}
use Rattle.rad_server.specs.declared.answer.Answer.TheVariants.{Send}
use Rattle.rad_server.specs.declared.entry.Entry.{Entry}

-- the datagram that an entry's request was, without padding
abbrev pub datagram_of_entry : Entry → Datagram
datagram_of_entry entry = record { source = entry.source; port = entry.port; door = entry.door; octets = entry.octets }

-- ---- exchanges

-- the entry of a request with a tag, at a moment and with a draw, from what the server did with it
abbrev pub entry_of : ℕ → Request → ℕ → List ℕ → Answer → Option ℕ → Entry
entry_of tag request moment draw answer session = record {
  tag = tag;
  client = request.client;
  source = request.source;
  port = request.port;
  door = request.door;
  octets = packet_octets request.packet;
  moment = moment;
  draw = draw;
  answer = answer;
  session = session;
}

-- the request of an entry: the one that the admission of its datagram gives, with its client, at a moment up to the last and with a
-- draw of 16 octets
pub record IsRequestOf (clients : List Client) (entry : Entry) (request : Request) : Type 0 where
  pub own : own_datagram request ≡ datagram_of_entry entry
  pub admitted : IsAdmitted clients request
  pub client : entry.client ≡ request.client
  pub moment : entry.moment ≤ moment_max
  pub draw : length entry.draw ≡ length sixteen_zeros

-- the step at an entry's request gives the entry's answer and leads from one state to another, and the request names the entry's
-- session
pub record IsExchange (configuration : Configuration) (before : State) (entry : Entry) (after : State) : Type 0 where
  pub request : Request
  pub asked : IsRequestOf configuration.clients entry request
  pub answered : step configuration before request entry.moment entry.draw ≡ (entry.answer, after)
  pub session : entry.session ≡ session_at configuration (at_moment entry.moment before) request

-- an entry holds what was asked: a tag, a request, its moment and its draw
pub record IsAsked (tag : ℕ) (request : Request) (moment : ℕ) (draw : List ℕ) (entry : Entry) : Type 0 where
  pub has_tag : entry.tag ≡ tag
  pub has_request : datagram_of_entry entry ≡ own_datagram request
  pub has_moment : entry.moment ≡ moment
  pub has_draw : entry.draw ≡ draw

-- ---- runs

-- a history leads from one state to another, each entry by the step from the state that those before it led to
abbrev pub Run : Configuration → State → List Entry → State → Type 0
Run configuration before [] after = before ≡ after
Run configuration before (entry ∷ rest) after =
    (next : State) × IsExchange configuration before entry next × Run configuration next rest after

-- a history leads from one server to another: the configuration stays, and the history is a run between their states
pub record IsHistory (opening : Server) (history : List Entry) (server : Server) : Type 0 where
  pub configuration : server.configuration ≡ opening.configuration
  pub run : Run opening.configuration opening.state history server.state

-- The same where time may have passed since the last entry. What is no longer live is gone then, and no later step can tell.
pub record LeadsTo (opening : Server) (history : List Entry) (server : Server) : Type 0 where
  pub state : State
  pub passed : Option ℕ
  pub configuration : server.configuration ≡ opening.configuration
  pub run : Run opening.configuration opening.state history state
  pub within : IfSome passed (λ moment. moment ≤ moment_max)
  pub now : server.state ≡ when_passed passed state

-- a history whose first entry doesn't come before a moment: it counts from then
abbrev pub not_before : Option ℕ → List Entry → List Entry
not_before None history = history
not_before (Some moment) [] = []
not_before (Some moment) (entry ∷ rest) = record entry { moment = max moment entry.moment } ∷ rest

-- a history that leads to one server, made longer, leads from the same opening to another
abbrev pub GoesOn : List Entry → Server → List Entry → Server → Type 0
GoesOn history before longer after = (opening : Server) → IsHistory opening history before → IsHistory opening longer after

-- Every state on the way of a history is lawful: the one that it began from, and the one that each beginning of it leads to. Of a
-- history that is no run this says nothing.
abbrev pub IsLawfulThroughout : Configuration → State → List Entry → Type 0
IsLawfulThroughout configuration before history =
    (beginning rest : List Entry) (state : State) → beginning ++ rest ≡ history → Run configuration before beginning state
    → IsLawful configuration state

-- ---- fresh entries

-- A mark says of an entry that follows a state whether its request was fresh then.
pub record IsMarked (configuration : Configuration) (before : State) (entry : Entry) (mark : Bool) (after : State) : Type 0 where
  pub request : Request
  pub asked : IsRequestOf configuration.clients entry request
  pub answered : step configuration before request entry.moment entry.draw ≡ (entry.answer, after)
  pub session : entry.session ≡ session_at configuration (at_moment entry.moment before) request
  pub fresh : mark ≡ is_fresh configuration (at_moment entry.moment before) request

-- a history leads from one state to another, and there is a mark for each of its entries
abbrev pub MarkedRun : Configuration → State → List Entry → List Bool → State → Type 0
MarkedRun configuration before [] [] after = before ≡ after
MarkedRun configuration before [] (mark ∷ marks) after = ⊥
MarkedRun configuration before (entry ∷ rest) [] after = ⊥
MarkedRun configuration before (entry ∷ rest) (mark ∷ marks) after =
    (next : State) × IsMarked configuration before entry mark next × MarkedRun configuration next rest marks after

-- the same from one server to another
pub record IsMarkedHistory (opening : Server) (history : List Entry) (marks : List Bool) (server : Server) : Type 0 where
  pub configuration : server.configuration ≡ opening.configuration
  pub run : MarkedRun opening.configuration opening.state history marks server.state

-- a marked history that leads to one server leads with this entry and its mark from the same opening to another
abbrev pub MarksGoOn : List Entry → Server → Entry → Bool → Server → Type 0
MarksGoOn history before entry mark after = (opening : Server) (marks : List Bool) → IsMarkedHistory opening history marks before
    → IsMarkedHistory opening (history ++ entry ∷ []) (marks ++ mark ∷ []) after

-- an entry at the moment at which it counted when the clock showed this
abbrev pub counted : ℕ → Entry → Entry
counted clock entry = record entry { moment = max clock entry.moment }

-- the fresh entries of a history that began when the clock showed this, each at the moment at which it counted
abbrev pub fresh_of : ℕ → List Entry → List Bool → List Entry
fresh_of clock [] marks = []
fresh_of clock (entry ∷ rest) [] = []
fresh_of clock (entry ∷ rest) (mark ∷ marks) =
    let others = fresh_of (max clock entry.moment) rest marks in
    if mark then counted clock entry ∷ others else others

-- two states are the same at each moment from the clock of the first one on, and so to each later step
abbrev pub IsLikeFromNow : State → State → Type 0
IsLikeFromNow state other = (moment : ℕ) → state.clock ≤ moment → at_moment moment other ≡ at_moment moment state

-- ---- the law

-- every history that a server runs from a lawful state leads through lawful states alone
abbrev pub RunsAreLawful : Type 0
RunsAreLawful = (configuration : Configuration) (before : State) (history : List Entry)
    → IsConfiguration configuration → IsLawful configuration before → IsLawfulThroughout configuration before history

-- entries lead from a state to one that is like another from now on, and each of them got a reply
pub record LeadsAlike (configuration : Configuration) (other : State) (entries : List Entry) (after : State) : Type 0 where
  pub state : State
  pub run : Run configuration other entries state
  pub like : IsLikeFromNow after state
  pub replied : All (λ entry. (body : Body) × (entry.answer ≡ Send body)) entries

-- the fresh entries of a history are enough: from a state that is like the first one from now on, they alone lead to one that is
-- like the last one
abbrev pub FreshAreEnough : Type 0
FreshAreEnough = (configuration : Configuration) (before after other : State) (history : List Entry) (marks : List Bool)
    → IsConfiguration configuration → IsLawful configuration before → MarkedRun configuration before history marks after
    → IsLikeFromNow before other → LeadsAlike configuration other (fresh_of before.clock history marks) after

-- ---- time that passes

-- no step can tell whether time passed before it: it is the step at the later of both moments
abbrev pub StepsAfterTime : Type 0
StepsAfterTime = (configuration : Configuration) (state : State) (request : Request) (passed moment : ℕ) (draw : List ℕ)
    → step configuration (at_moment passed state) request moment draw ≡ step configuration state request (max passed moment) draw

-- nor does time that passes tell a state from those that it was like
abbrev pub LikeAfterTime : Type 0
LikeAfterTime =
    (state other : State) (passed : Option ℕ) → IsLikeFromNow state other → IsLikeFromNow (when_passed passed state) other

-- after a history, and perhaps some time, a second one and perhaps some more: together one history leads to where they lead
abbrev pub HistoriesAfterTime : Type 0
HistoriesAfterTime = (opening middle after : Server) (first rest : List Entry) (leads : LeadsTo opening first middle)
    → LeadsTo middle rest after → LeadsTo opening (first ++ not_before leads.passed rest) after
