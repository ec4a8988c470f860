-- What was kept leads from one server to one other, or to none.
use Rattle.std.proofs.Common.{◌≡◌, ◌<◌, ◌∙◌, Result, Ok, ℕ, zero, suc, List, [], ◌∷◌, take, Option, Some, None, slice_get, refl}
use Rattle.std.proofs.Common.{sym, ap, subst, arith}
use Rattle.std.specs.Prelude.{option_map}
use Rattle.std.proofs.lemmas.Option.{none-some}
use Rattle.rad_packet.specs.Packets.{packet_octets}
use Rattle.rad_auth.specs.Admission.{IsAdmitted, admission, own_datagram}
use Rattle.rad_auth.specs.Clients.{Client}
use Rattle.rad_auth.specs.Datagrams.{Datagram}
use Rattle.rad_auth.specs.declared.arrival.Request.{Request}
use Rattle.rad_auth.specs.declared.discard.Discard.{Discard}
use Rattle.rad_config.specs.Configurations.{Configuration}
use Rattle.rad_config.specs.Spans.{moment_max}
use Rattle.rad_server.specs.Runs.{IsExchange, Run, datagram_of_entry}
use Rattle.rad_server.specs.Servers.{Server}
use Rattle.rad_server.specs.States.{State, at_moment}
use Rattle.rad_server.specs.Steps.{session_at, step}
use Rattle.rad_server.specs.declared.answer.Answer.{Answer}
use Rattle.rad_server.specs.declared.entry.Entry.{Entry}
use Rattle.rad_journal.specs.Kept.{answer_octets, kept_by}
use Rattle.rad_journal.specs.Restores.{AreKept, CannotRestore, CannotStep, HasReason, IsKeptSo, IsNoRequest, IsRestored}
use Rattle.rad_journal.specs.Restores.{datagram_of_kept}
use Rattle.rad_journal.specs.declared.kept.Kept.{Kept}
use Rattle.rad_journal.specs.declared.restore_fault.RestoreFault.{RestoreFault}
use Rattle.rad_journal.specs.declared.restore_fault.RestoreFault.TheVariants.{NoMemory, Journal, TooLate, NotAdmitted, OtherAnswer}

-- what was kept of an entry is in it
pub record IsKeptAs (entry : Entry) (kept : Kept) : Type 0 where
  pub client : entry.client ≡ kept.client
  pub session : entry.session ≡ kept.session
  pub datagram : datagram_of_entry entry ≡ datagram_of_kept kept
  pub moment : entry.moment ≡ kept.moment
  pub draw : entry.draw ≡ kept.draw
  pub answer : answer_octets entry.answer ≡ Some kept.answer

abbrev pub as_kept : ℕ → Entry → List ℕ → Kept
as_kept wall entry answer = record {
  wall = wall;
  moment = entry.moment;
  client = entry.client;
  source = entry.source;
  port = entry.port;
  door = entry.door;
  session = entry.session;
  draw = entry.draw;
  octets = entry.octets;
  answer = answer;
}

pub kept_as : (wall : ℕ) (entry : Entry) (kept : Kept) → kept_by wall entry ≡ Some kept → IsKeptAs entry kept
kept_as wall entry kept e = at (answer_octets entry.answer) refl e
  where
    at : (o : Option (List ℕ)) → answer_octets entry.answer ≡ o → option_map (as_kept wall entry) o ≡ Some kept
        → IsKeptAs entry kept
    at None is e = absurd (none-some _ e)
    at (Some octets) is e =
        let same : as_kept wall entry octets ≡ kept = cc e in
        record {
          client = ap (λ (k : Kept). k.client) same;
          session = ap (λ (k : Kept). k.session) same;
          datagram = ap (λ (k : Kept). datagram_of_kept k) same;
          moment = ap (λ (k : Kept). k.moment) same;
          draw = ap (λ (k : Kept). k.draw) same;
          answer = is ∙ ap (λ (k : Kept). Some k.answer) same;
        }

-- one request is admitted of a datagram
one_request : (clients : List Client) (a b : Request) → IsAdmitted clients a → IsAdmitted clients b
    → own_datagram a ≡ own_datagram b → a ≡ b
one_request clients a b here there same =
    let both = sym here ∙ ap (λ (d : Datagram). admission clients d) same ∙ there in
    cc both

-- the step of the request that was kept is that of each entry that is kept so
same_exchange : (configuration : Configuration) (state : State) (request : Request) (kept : Kept) (entry : Entry) (after : State)
    → IsAdmitted configuration.clients request → own_datagram request ≡ datagram_of_kept kept
    → IsExchange configuration state entry after → kept_by kept.wall entry ≡ Some kept
    → step configuration state request kept.moment kept.draw ≡ (entry.answer, after)
same_exchange configuration state request kept entry after admitted own exchange is =
    let parts = kept_as kept.wall entry kept is in
    let same : exchange.request ≡ request =
    one_request configuration.clients exchange.request request exchange.asked.admitted admitted
    (exchange.asked.own ∙ parts.datagram ∙ sym own) in
    subst (λ r. step configuration state r kept.moment kept.draw ≡ (entry.answer, after)) same
    (subst (λ m. step configuration state exchange.request m kept.draw ≡ (entry.answer, after)) parts.moment
    (subst (λ d. step configuration state exchange.request entry.moment d ≡ (entry.answer, after)) parts.draw exchange.answered))

-- and so is the session that it names
same_session : (configuration : Configuration) (state : State) (request : Request) (kept : Kept) (entry : Entry) (after : State)
    → IsAdmitted configuration.clients request → own_datagram request ≡ datagram_of_kept kept
    → IsExchange configuration state entry after → kept_by kept.wall entry ≡ Some kept
    → session_at configuration (at_moment kept.moment state) request ≡ kept.session
same_session configuration state request kept entry after admitted own exchange is =
    let parts = kept_as kept.wall entry kept is in
    let same : exchange.request ≡ request =
    one_request configuration.clients exchange.request request exchange.asked.admitted admitted
    (exchange.asked.own ∙ parts.datagram ∙ sym own) in
    subst (λ r. session_at configuration (at_moment kept.moment state) r ≡ kept.session) same
    (subst (λ m. session_at configuration (at_moment m state) exchange.request ≡ kept.session) parts.moment
    (sym exchange.session ∙ parts.session))

-- ---- no step

too_late : (before : Server) (kept : Kept) → moment_max < kept.moment → CannotStep before kept
too_late before kept late after s =
    let parts = kept_as kept.wall s.entry kept s.is_kept in
    absurd (omega (arith, late, parts.moment, s.exchange.asked.moment))

not_admitted : (before : Server) (kept : Kept) → IsNoRequest before.configuration.clients kept → CannotStep before kept
not_admitted before kept none after s =
    let parts = kept_as kept.wall s.entry kept s.is_kept in
    none s.exchange.request s.exchange.asked.admitted (s.exchange.asked.own ∙ parts.datagram)
    (sym s.exchange.asked.client ∙ parts.client)

other_answer : (before : Server) (kept : Kept) (request : Request) (answer : Answer) (next : State)
    → IsAdmitted before.configuration.clients request → own_datagram request ≡ datagram_of_kept kept
    → step before.configuration before.state request kept.moment kept.draw ≡ (answer, next)
    → (IsKeptSo kept answer (session_at before.configuration (at_moment kept.moment before.state) request) → ⊥)
    → CannotStep before kept
other_answer before kept request answer next admitted own stepped other after s =
    let parts = kept_as kept.wall s.entry kept s.is_kept in
    let there = same_exchange before.configuration before.state request kept s.entry after.state admitted own s.exchange
    s.is_kept in
    let same : answer ≡ s.entry.answer = ap (λ (x : Answer × State). x.0) (sym stepped ∙ there) in
    other (record {
      answers = ap (λ (a : Answer). answer_octets a) same ∙ parts.answer;
      names = same_session before.configuration before.state request kept s.entry after.state admitted own s.exchange s.is_kept;
    })

-- an entry that fails for a reason is no step
pub cannot_step : (fault : RestoreFault) (before : Server) (kept : Kept) (after : Server) → HasReason fault before kept after
    → CannotStep before kept
cannot_step NoMemory before kept after is = absurd is
cannot_step (Journal reported) before kept after is = absurd is
cannot_step (TooLate entry) before kept after is = too_late before kept is.0
cannot_step (NotAdmitted entry) before kept after is = not_admitted before kept is.1
cannot_step (OtherAnswer entry) before kept after is =
    other_answer before kept is.request is.answer after.state is.admitted is.own is.answered is.differs

-- ---- no history

-- what is kept of one entry leads to one state
pub one_next : (configuration : Configuration) (state : State) (kept : Kept) (a b : Entry) (one two : State)
    → IsExchange configuration state a one → kept_by kept.wall a ≡ Some kept
    → IsExchange configuration state b two → kept_by kept.wall b ≡ Some kept → one ≡ two
one_next configuration state kept a b one two here a_is there b_is =
    let parts = kept_as kept.wall a kept a_is in
    let own = here.asked.own ∙ parts.datagram in
    let first = same_exchange configuration state here.request kept a one here.asked.admitted own here a_is in
    let second = same_exchange configuration state here.request kept b two here.asked.admitted own there b_is in
    ap (λ (x : Answer × State). x.1) (sym first ∙ second)

-- where the next entry is no step, no history is kept as all of them
stops : (n : ℕ) (kept : List Kept) (next : Kept) (configuration : Configuration) (before between after : State)
    (history other : List Entry)
    → Run configuration before history between → AreKept history (take n kept) → slice_get kept n ≡ Some next
    → CannotStep (record { configuration = configuration; state = between }) next
    → Run configuration before other after → AreKept other kept → ⊥
stops n [] next configuration before between after history other run are is cannot run' are' = none-some _ is
stops n (first ∷ kept) next configuration before between after history [] run are is cannot run' are' = are'
stops zero (first ∷ kept) next configuration before between after (earlier ∷ history) (entry ∷ rest) run are is cannot run'
    are' = are
stops zero (first ∷ kept) next configuration before between after [] (entry ∷ rest) run are is cannot run' are' =
    let same : first ≡ next = cc is in
    subst (λ (k : Kept). CannotStep (record { configuration = configuration; state = between }) k) (sym same) cannot
    (record { configuration = configuration; state = run'.0 })
    (record { entry = entry; exchange = subst (λ s. IsExchange configuration s entry run'.0) run run'.1; is_kept = are'.0 })
stops (suc n) (first ∷ kept) next configuration before between after [] (entry ∷ rest) run are is cannot run' are' = are
stops (suc n) (first ∷ kept) next configuration before between after (earlier ∷ history) (entry ∷ rest) run are is cannot run'
    are' =
    let same : run'.0 ≡ run.0 = one_next configuration before first entry earlier run'.0 run.0 run'.1 are'.0 run.1 are.0 in
    stops n kept next configuration run.0 between after history rest run.2 are.1 is cannot
    (subst (λ s. Run configuration s rest after) same run'.2) are'.1

pub refused : (n : ℕ) (kept : List Kept) (next : Kept) (before between : Server) → IsRestored before (take n kept) between
    → slice_get kept n ≡ Some next → between.configuration ≡ before.configuration → CannotStep between next
    → CannotRestore before kept
refused n kept next before between restored is same cannot after whole =
    stops n kept next before.configuration before.state between.state after.state restored.history whole.history restored.run
    restored.are_kept is
    (subst (λ configuration. CannotStep (record { configuration = configuration; state = between.state }) next) same cannot)
    whole.run whole.are_kept

-- ---- no request

-- the verdict on what was kept gives no request that is all of it
pub no_request : (clients : List Client) (kept : Kept) (verdict : Result Request Discard)
    → verdict ≡ admission clients (datagram_of_kept kept)
    → ((request : Request) → verdict ≡ Ok request → request.client ≡ kept.client → packet_octets request.packet ≡ kept.octets → ⊥)
    → IsNoRequest clients kept
no_request clients kept verdict is differs request admitted own client =
    differs request (is ∙ ap (λ (d : Datagram). admission clients d) (sym own) ∙ admitted) client
    (ap (λ (d : Datagram). d.octets) own)
