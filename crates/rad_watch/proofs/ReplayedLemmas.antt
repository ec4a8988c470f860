-- A replay of what is recorded of a round answers as the round did.
use Rattle.std.proofs.Common.{◌≡◌, ℕ, suc, ◌+◌, Bool, true, false, cond, ◌==◌, List, [], ◌∷◌, ◌++◌, length, filter, All, Option}
use Rattle.std.proofs.Common.{Some, None, Result, Ok, Err, refl, sym, ap, subst, ◌∙◌, arith}
use Rattle.std.specs.Prelude.{option_to_list, slice_get, unwrap_or}
use Rattle.std.specs.List.{flat_map}
use Rattle.std.specs.Result.{result_unwrap_or}
use Rattle.std.proofs.lemmas.List.Elements.{All-head, All-tail}
use Rattle.rad_packet.specs.Bodies.{Body}
use Rattle.rad_packet.specs.Codes.{code_access_challenge, code_status_server}
use Rattle.rad_auth.specs.Admission.{admission, own_datagram}
use Rattle.rad_auth.specs.Clients.{Client}
use Rattle.rad_auth.specs.Datagrams.{datagram_of}
use Rattle.rad_auth.specs.declared.arrival.Door.{Door}
use Rattle.rad_auth.specs.declared.arrival.Door.TheVariants.{Auth, Acct}
use Rattle.rad_auth.specs.declared.arrival.Request.{Request}
use Rattle.rad_auth.specs.declared.discard.Discard.{Discard}
use Rattle.rad_config.specs.Configurations.{Configuration}
use Rattle.rad_recent.specs.declared.kept.Kept.{Kept}
use Rattle.rad_server.specs.Access.{Challenged, Decision, Granted, access_with, decided, decision, user_challenged}
use Rattle.rad_server.specs.Access.{without_challenge}
use Rattle.rad_server.specs.Credentials.{Credentials, credentials_in}
use Rattle.rad_server.specs.Replies.{status_reply}
use Rattle.rad_server.specs.Runs.{IsExchange, Run}
use Rattle.rad_server.specs.Shares.{lacks_room}
use Rattle.rad_server.specs.States.{State, at_moment}
use Rattle.rad_server.specs.Steps.{answer, answer_with, reply_by_port, reply_kept, sent_and_kept, step, without_reply}
use Rattle.rad_server.specs.declared.answer.Answer.{Answer}
use Rattle.rad_server.specs.declared.answer.Answer.TheVariants as answers
use Rattle.rad_server.specs.declared.denial.Denial.{Denial}
use Rattle.rad_server.specs.declared.entry.Entry.{Entry}
use Rattle.rad_round.specs.Rounds.{AreOutcomes, HasArrival, HasEntry, IsEntryOf, IsOutcome, IsSentAs}
use Rattle.rad_round.specs.declared.outcome.Outcome.{Outcome}
use Rattle.rad_round.specs.declared.outcome.Outcome.TheVariants.{Busy, Dropped, NoMemory, Reply}
use Rattle.rad_round.specs.declared.timed.Timed.{Timed}
use Rattle.rad_replay.specs.DatagramLines.{TimedDatagram}
use Rattle.rad_replay.specs.Transcripts.{answer_line, answered, draw_of, drop_line, line_of, line_of_verdict, replay, reply_line}
use Rattle.rad_watch.specs.Recordings.{RecordingsAreReplayed, datagram_with, datagrams_of_entry, discarded, draw_of_answer}
use Rattle.rad_watch.specs.Recordings.{draw_recorded, if_discarded, if_found, is_discard, line_of_outcome, lines_from}

-- ---- the draw matters to an Access-Challenge alone

abbrev is_challenge : Answer → Bool
is_challenge (answers.Send body) = body.code == code_access_challenge
is_challenge answers.Busy = false

decided_same : (configuration : Configuration) (state : State) (request : Request) (draw other : List ℕ)
    (found : Result Decision Denial)
    → ((decided configuration state request draw found).0.code == code_access_challenge) ≡ false
    → decided configuration state request other found ≡ decided configuration state request draw found
decided_same configuration state request draw other (Err denial) isnt = refl
decided_same configuration state request draw other (Ok (Challenged user)) isnt = let no : true ≡ false = isnt in cc no
decided_same configuration state request draw other (Ok (Granted user grant)) isnt = refl

access_same : (configuration : Configuration) (state : State) (request : Request) (draw other : List ℕ)
    (found : Result Credentials Denial)
    → ((access_with configuration state request draw found).0.code == code_access_challenge) ≡ false
    → access_with configuration state request other found ≡ access_with configuration state request draw found
access_same configuration state request draw other (Err denial) isnt = refl
access_same configuration state request draw other (Ok credentials) isnt =
    let left = without_challenge request.client credentials.state state in
    decided_same configuration left request draw other
    (decision configuration left request (user_challenged request credentials.state state) credentials) isnt

reply_same : (door : Door) (configuration : Configuration) (state : State) (request : Request) (draw other : List ℕ)
    → ((reply_by_port door configuration state request draw).0.code == code_access_challenge) ≡ false
    → reply_by_port door configuration state request other ≡ reply_by_port door configuration state request draw
reply_same Auth configuration state request draw other isnt =
    access_same configuration state request draw other (credentials_in request.packet.attributes) isnt
reply_same Acct configuration state request draw other isnt = refl

answer_same : (configuration : Configuration) (current : State) (request : Request) (draw other : List ℕ)
    → is_challenge (answer configuration current request draw).0 ≡ false
    → answer configuration current request other ≡ answer configuration current request draw
answer_same configuration current request draw other = by_code (request.packet.code == code_status_server)
  where
    Same : Answer × State → Answer × State → Type 0
    Same result again = is_challenge result.0 ≡ false → again ≡ result

    left : State
    left = without_reply request current

    sent : (result again : Body × State) → ((result.0.code == code_access_challenge) ≡ false → again ≡ result)
        → Same (sent_and_kept request result) (sent_and_kept request again)
    sent (body, state) (more, next) same = λ isnt. ap (sent_and_kept request) (same isnt)

    by_room : (full : Bool) → Same
        (cond full (answers.Busy, left) (sent_and_kept request (reply_by_port request.door configuration left request draw)))
        (cond full (answers.Busy, left) (sent_and_kept request (reply_by_port request.door configuration left request other)))
    by_room true = λ isnt. refl
    by_room false =
        sent (reply_by_port request.door configuration left request draw)
        (reply_by_port request.door configuration left request other)
        (reply_same request.door configuration left request draw other)

    by_lookup : (found : Option Kept)
        → Same (answer_with configuration current request draw found) (answer_with configuration current request other found)
    by_lookup (Some reply) = λ isnt. refl
    by_lookup None = by_room (lacks_room configuration request.client left.replies)

    by_code : (status : Bool)
        → Same (cond status (answers.Send (status_reply request.door request.packet), current)
        (answer_with configuration current request draw (reply_kept request current)))
        (cond status (answers.Send (status_reply request.door request.packet), current)
        (answer_with configuration current request other (reply_kept request current)))
    by_code true = λ isnt. refl
    by_code false = by_lookup (reply_kept request current)

step_same : (configuration : Configuration) (state : State) (request : Request) (moment : ℕ) (draw other : List ℕ) (given : Answer)
    (after : State)
    → step configuration state request moment draw ≡ (given, after) → is_challenge given ≡ false
    → step configuration state request moment other ≡ (given, after)
step_same configuration state request moment draw other given after stepped isnt =
    answer_same configuration (at_moment moment state) request draw other
    (ap (λ (r : Answer × State). is_challenge r.0) stepped ∙ isnt) ∙ stepped

-- the step under the draw that a replay takes: the recorded one, or the number's
step_replayed : (configuration : Configuration) (state : State) (request : Request) (moment number : ℕ) (draw : List ℕ)
    (given : Answer) (after : State)
    → step configuration state request moment draw ≡ (given, after)
    → step configuration state request moment (draw_of number (draw_of_answer given draw)) ≡ (given, after)
step_replayed configuration state request moment number draw answers.Busy after stepped =
    step_same configuration state request moment draw (draw_of number None) answers.Busy after stepped refl
step_replayed configuration state request moment number draw (answers.Send body) after stepped =
    by_code (body.code == code_access_challenge) refl
  where
    by_code : (is : Bool) → (body.code == code_access_challenge) ≡ is
        → step configuration state request moment (draw_of number (cond is (Some draw) None)) ≡ (answers.Send body, after)
    by_code true is = stepped
    by_code false isnt =
        step_same configuration state request moment draw (draw_of number None) (answers.Send body) after stepped isnt

-- ---- an entry

line_of_answer : (configuration : Configuration) (number : ℕ) (request : Request) (given : Answer) (outcome : Outcome)
    → IsSentAs configuration.clients request given outcome
    → answer_line configuration number request given ≡ line_of_outcome number outcome
line_of_answer configuration number request given (Dropped discard) sent = absurd sent
line_of_answer configuration number request given Busy sent = ap (answer_line configuration number request) sent
line_of_answer configuration number request given NoMemory sent = absurd sent
line_of_answer configuration number request given (Reply frame) (body, is, sealed) =
    ap (answer_line configuration number request) is ∙ ap (reply_line number) (sym sealed)

entry_replayed : (configuration : Configuration) (number : ℕ) (before after : State) (timed : Timed) (outcome : Outcome)
    (entry : Entry)
    → IsExchange configuration before entry after → IsEntryOf configuration.clients entry.tag timed outcome entry
    → line_of configuration true number before (datagram_with (draw_recorded entry) timed) ≡ (line_of_outcome number outcome, after)
entry_replayed configuration number before after timed outcome entry exchange own =
    ap (line_of_verdict configuration true number before timed.moment (draw_recorded entry)) own.admitted
    ∙ ap (answered configuration number own.request)
    (step_replayed configuration before own.request timed.moment number entry.draw entry.answer after stepped)
    ∙ ap (λ (line : List ℕ). (line, after)) (line_of_answer configuration number own.request entry.answer outcome own.sent)
  where
    same_datagram : own_datagram own.request ≡ own_datagram exchange.request
    same_datagram = sym own.asked.has_request ∙ sym exchange.asked.own

    same : own.request ≡ exchange.request
    same =
        ap (λ (verdict : Result Request Discard). result_unwrap_or verdict own.request)
        (sym own.own ∙ ap (admission configuration.clients) same_datagram ∙ exchange.asked.admitted)

    stepped : step configuration before own.request timed.moment entry.draw ≡ (entry.answer, after)
    stepped =
        ap (λ (moment : ℕ). step configuration before own.request moment entry.draw) (sym own.asked.has_moment)
        ∙ ap (λ (request : Request). step configuration before request entry.moment entry.draw) same ∙ exchange.answered

-- ---- discards

-- what was discarded is discarded again
abbrev AreDropped : List Client → List Timed → List Outcome → Type 0
AreDropped clients arrivals outcomes = (number : ℕ) (timed : Timed) (discard : Discard)
    → slice_get arrivals number ≡ Some timed → slice_get outcomes number ≡ Some (Dropped discard)
    → admission clients (datagram_of timed.arrival) ≡ Err discard

are_dropped : (clients : List Client) (arrivals : List Timed) (outcomes : List Outcome) (history : List Entry)
    → AreOutcomes clients arrivals outcomes history
    → AreDropped clients arrivals outcomes
are_dropped clients arrivals outcomes history are = λ number timed discard arrival dropped.
    let found = are number timed arrival in
    let same : found.0 ≡ Dropped discard = ap (λ (outcome : Option Outcome). unwrap_or outcome found.0) (sym found.1 ∙ dropped) in
    subst (IsOutcome clients (HasEntry history) number timed) same found.2

discards_replayed : (configuration : Configuration) (number : ℕ) (state : State) (arrivals : List Timed) (outcomes : List Outcome)
    → length outcomes ≡ length arrivals
    → AreDropped configuration.clients arrivals outcomes
    → replay configuration [] number state (discarded arrivals outcomes) ≡ (lines_from number (filter is_discard outcomes), state)
unfolding replay
discards_replayed configuration number state [] [] count dropped = refl
discards_replayed configuration number state [] (outcome ∷ outcomes) count dropped = absurd (omega arith)
discards_replayed configuration number state (timed ∷ arrivals) [] count dropped = absurd (omega arith)
discards_replayed configuration number state (timed ∷ arrivals) (outcome ∷ outcomes) count dropped =
    at outcome (λ discard is. dropped 0 timed discard refl (ap Some is))
    (λ later. discards_replayed configuration later state arrivals outcomes (omega arith) (λ place. dropped (suc place)))
  where
    at : (own : Outcome) → ((discard : Discard) → own ≡ Dropped discard
        → admission configuration.clients (datagram_of timed.arrival) ≡ Err discard)
        → ((later : ℕ) → replay configuration [] later state (discarded arrivals outcomes)
        ≡ (lines_from later (filter is_discard outcomes), state))
        → replay configuration [] number state (if_discarded timed own ++ discarded arrivals outcomes)
        ≡ (lines_from number (cond (is_discard own) (own ∷ filter is_discard outcomes) (filter is_discard outcomes)), state)
    at (Dropped discard) verdict rest =
        let first : line_of configuration true number state (datagram_with None timed) ≡ (drop_line number discard, state) =
        ap (line_of_verdict configuration true number state timed.moment None) (verdict discard refl) in
        ap (λ (line : List ℕ × State). let others = replay configuration [] (number + 1) line.1 (discarded arrivals outcomes) in
        (line.0 ++ others.0, others.1)) first
        ∙ ap (λ (others : List ℕ × State). (drop_line number discard ++ others.0, others.1)) (rest (number + 1))
    at Busy verdict rest = rest number
    at NoMemory verdict rest = rest number
    at (Reply frame) verdict rest = rest number

-- ---- a round

-- the outcome of an entry
abbrev outcome_of : List Outcome → Entry → List Outcome
outcome_of outcomes entry = option_to_list (slice_get outcomes entry.tag)

history_replayed : (configuration : Configuration) (number : ℕ) (before after : State) (arrivals : List Timed)
    (outcomes : List Outcome) (history : List Entry)
    (others : List TimedDatagram) (last : List Outcome) → Run configuration before history after
    → All (HasArrival configuration.clients arrivals outcomes) history
    → ((later : ℕ) → replay configuration [] later after others ≡ (lines_from later last, after))
    → replay configuration [] number before (flat_map (datagrams_of_entry arrivals) history ++ others)
    ≡ (lines_from number (flat_map (outcome_of outcomes) history ++ last), after)
unfolding replay
history_replayed configuration number before after arrivals outcomes [] others last run each ends =
    subst (λ (state : State). replay configuration [] number state others ≡ (lines_from number last, after)) (sym run) (ends number)
history_replayed configuration number before after arrivals outcomes (entry ∷ history) others last run each ends =
    let own : HasArrival configuration.clients arrivals outcomes entry =
    All-head (HasArrival configuration.clients arrivals outcomes) entry history each in
    let datagrams = flat_map (datagrams_of_entry arrivals) history in
    let more = flat_map (outcome_of outcomes) history in
    let first = entry_replayed configuration number before run.0 own.timed own.outcome entry run.1 own.entry_of in
    let rest =
    history_replayed configuration (number + 1) run.0 after arrivals outcomes history others last run.2
    (All-tail (HasArrival configuration.clients arrivals outcomes) entry history each) ends in
    ap (λ (found : Option Timed). replay configuration [] number before ((if_found entry found ++ datagrams) ++ others)) own.arrival
    ∙ ap (λ (line : List ℕ × State). let rest = replay configuration [] (number + 1) line.1 (datagrams ++ others) in
    (line.0 ++ rest.0, rest.1)) first
    ∙ ap (λ (rest : List ℕ × State). (line_of_outcome number own.outcome ++ rest.0, rest.1)) rest
    ∙ ap (λ (found : Option Outcome). (lines_from number ((option_to_list found ++ more) ++ last), after)) (sym own.outcome_is)

pub recordings_are_replayed : RecordingsAreReplayed
recordings_are_replayed before arrivals outcomes history after number round =
    history_replayed before.configuration number before.state after.state arrivals outcomes history (discarded arrivals outcomes)
    (filter is_discard outcomes)
    round.run.run round.entries
    (λ later.
    discards_replayed before.configuration later after.state arrivals outcomes round.count
    (are_dropped before.configuration.clients arrivals outcomes history round.answered))
