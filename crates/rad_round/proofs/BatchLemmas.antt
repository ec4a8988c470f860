-- What a batch knows of its lanes.
use Rattle.std.proofs.Common.{◌≡◌, ◌<◌, ℕ, zero, suc, ◌+◌, ◌*◌, List, [], ◌∷◌, length, map, replicate, get_or, All, Option, Some}
use Rattle.std.proofs.Common.{None, IfSome, option_map, slice_get, arith, refl, sym, ap, subst, ◌∙◌}
use Rattle.std.proofs.lemmas.Option.{get_or_from_slice_get, none-some, slice_get-get_or, slice_get-map, slice_get_read}
use Rattle.std.proofs.lemmas.Option.{slice_get_within}
use Rattle.std.proofs.lemmas.List.{length-map}
use Rattle.rad_packet.specs.Packets.{packet_octets}
use Rattle.rad_config.specs.Configurations.{Configuration}
use Rattle.rad_server.specs.Prepared.{Prepared, prepared_in}
use Rattle.rad_auth.specs.Admission.{HoldsAdmitted, admission, lane_admission}
use Rattle.rad_auth.specs.Clients.{Client}
use Rattle.rad_auth.specs.Datagrams.{datagram_of}
use Rattle.rad_auth.specs.Sealing.{lane_octets, sealed}
use Rattle.rad_auth.specs.declared.arrival.Arrival.{Arrival}
use Rattle.rad_auth.specs.declared.job.Job.{Job}
use Rattle.rad_desk.specs.declared.receipt.Receipt.{Receipt}
use Rattle.rad_server.specs.declared.entry.Entry.{Entry}
use Rattle.rad_round.specs.Works.{AreAskedOf, AreLanes, AreSealed, AreVerdicts, CheckedBatch, HasOctets, IsAskedOf, IsChecked}
use Rattle.rad_round.specs.Works.{IsJobIn, IsLane, IsLaneOf, IsReady, IsVerdict, Verdict, entry_of, unasked}
use Rattle.rad_round.specs.Rounds.{IsSentAs}
use Rattle.rad_server.specs.Steps.{IsSealable}
use Rattle.rad_auth.specs.declared.arrival.Request.{Request}
use Rattle.rad_auth.specs.declared.discard.Discard.{Discard}
use Rattle.std.proofs.Common.{Result, Ok, Err}
use Rattle.rad_round.specs.declared.outcome.Outcome.{Outcome}
use Rattle.rad_round.specs.declared.timed.Timed.{Timed}
use Rattle.rad_round.proofs.ListLemmas.{some_is, zip2_get}

-- ---- verdicts

-- the admission of the arrivals at eight places is what the lanes of a batch say
pub verdicts_of : (clients : List Client) (arrivals : List Timed) (first : ℕ) (lanes : List (Option Arrival))
    (verdicts : List Verdict)
    → verdicts ≡ map (lane_admission clients) lanes
    → ((lane : ℕ) (arrival : Option Arrival) → slice_get lanes lane ≡ Some arrival
    → arrival ≡ option_map (λ timed. timed.arrival) (slice_get arrivals (first + lane)))
    → All (HoldsAdmitted clients) verdicts → AreVerdicts clients arrivals first verdicts
verdicts_of clients arrivals first lanes verdicts are from admitted lane verdict at =
    record {
      value = in_lane (slice_get lanes lane) refl;
      admitted = subst (HoldsAdmitted clients) (get_or_from_slice_get verdicts lane verdict verdict at)
          (admitted lane verdict (slice_get_within verdicts lane verdict at));
    }
  where
    mapped : option_map (lane_admission clients) (slice_get lanes lane) ≡ Some verdict
    mapped = sym (slice_get-map (lane_admission clients) lanes lane) ∙ ap (λ list. slice_get list lane) (sym are) ∙ at

    of_arrival : (some : Option Timed) → lane_admission clients (option_map (λ timed. timed.arrival) some)
        ≡ option_map (λ timed. admission clients (datagram_of timed.arrival)) some
    of_arrival None = refl
    of_arrival (Some timed) = refl

    in_lane : (some : Option (Option Arrival)) → slice_get lanes lane ≡ some
        → verdict ≡ option_map (λ timed. admission clients (datagram_of timed.arrival)) (slice_get arrivals (first + lane))
    in_lane None is = absurd (none-some verdict (ap (option_map (lane_admission clients)) (sym is) ∙ mapped))
    in_lane (Some arrival) is =
        sym (some_is (lane_admission clients arrival) verdict (ap (option_map (lane_admission clients)) (sym is) ∙ mapped))
        ∙ ap (lane_admission clients) (from lane arrival is) ∙ of_arrival (slice_get arrivals (first + lane))

-- the requests among the verdicts of a batch are admitted
pub all_admitted : (clients : List Client) (arrivals : List Timed) (first : ℕ) (verdicts : List Verdict)
    → AreVerdicts clients arrivals first verdicts → All (HoldsAdmitted clients) verdicts
all_admitted clients arrivals first verdicts are lane d within =
    (are lane (get_or verdicts lane d) (slice_get-get_or verdicts lane d within)).admitted

-- ---- sealing

-- the frames into which the jobs of all lanes are sealed have the replies
pub sealed_of : (clients : List Client) (verdicts : List Verdict) (asked : List (Option Receipt))
    (jobs : List (Option Job)) (before after : List (List ℕ)) → after ≡ sealed jobs before
    → ((lane : ℕ) (job : Option Job) → slice_get jobs lane ≡ Some job → IsJobIn clients verdicts asked lane job)
    → AreSealed clients verdicts asked after
sealed_of clients verdicts asked jobs before after are jobs_are lane frame at_frame verdict receipt at_verdict at_asked request body
    sends =
    let there = zip2_get lane_octets jobs before lane frame (ap (λ list. slice_get list lane) (sym are) ∙ at_frame) in
    let job = jobs_are lane there.0 there.2 verdict receipt at_verdict at_asked request body sends in
    sym there.3 ∙ ap (λ some. lane_octets some there.1) job.1 ∙ job.2

-- ---- outcomes

-- a batch that contracts see is checked
abbrev pub IsCheckedBatch : CheckedBatch → Type 0
IsCheckedBatch batch = IsChecked batch.configuration.clients batch.arrivals batch.number batch.verdicts

-- the entry in a lane of receipts
pub entry_at : (asked : List (Option Receipt)) (lane : ℕ) (entry : Option Entry) → slice_get (map entry_of asked) lane ≡ Some entry
    → (receipt : Option Receipt) × (slice_get asked lane ≡ Some receipt) × (entry_of receipt ≡ entry)
entry_at [] lane entry at = absurd (none-some entry at)
entry_at (receipt ∷ asked) zero entry at = (receipt, refl, some_is (entry_of receipt) entry at)
entry_at (receipt ∷ asked) (suc lane) entry at = entry_at asked lane entry at

-- no lane has an entry
pub none_at : (count lane : ℕ) (entry : Option Entry) → slice_get (replicate count None) lane ≡ Some entry → None ≡ entry
none_at zero lane entry at = absurd (none-some entry at)
none_at (suc count) zero entry at = some_is None entry at
none_at (suc count) (suc lane) entry at = none_at count lane entry at

-- what the lanes of a batch have, by their receipts
pub lanes_of : (batch : CheckedBatch) (asked : List (Option Receipt)) (outcomes : List (Option Outcome)) → length asked ≡ 8
    → length outcomes ≡ 8
    → ((lane : ℕ) (outcome : Option Outcome) → slice_get outcomes lane ≡ Some outcome
    → IsLaneOf batch.configuration.clients batch.arrivals (batch.number * 8 + lane) outcome (slice_get asked lane))
    → AreLanes batch.configuration.clients batch.arrivals batch.number outcomes (map entry_of asked)
lanes_of batch asked outcomes asked_each outcome_each lanes = record {
  outcome_each = outcome_each;
  entry_each = length-map asked entry_of ∙ asked_each;
  each = λ lane outcome entry at there.
      let receipt = entry_at asked lane entry there in
      subst (IsLane batch.configuration.clients batch.arrivals (batch.number * 8 + lane) outcome) receipt.2
      (lanes lane outcome at receipt.0 receipt.1);
}

-- ---- lanes

-- the element of a list that was read
pub the_read : {A : Type 0} (xs : List A) (k : ℕ) (read x : A) → read ≡ get_or xs k read → slice_get xs k ≡ Some x → x ≡ read
the_read xs k read x is at = sym (get_or_from_slice_get xs k x read at) ∙ sym is

-- where there is no arrival there is no verdict, else it is that of its admission
verdict_at : (clients : List Client) (arrivals : List Timed) (number : ℕ) (verdict : Verdict) (some : Option Timed)
    → slice_get arrivals number ≡ some → IsVerdict clients arrivals number verdict
    → verdict ≡ option_map (λ timed. admission clients (datagram_of timed.arrival)) some
verdict_at clients arrivals number verdict some at is =
    is.value ∙ ap (option_map (λ timed. admission clients (datagram_of timed.arrival))) at

-- a lane of which no exchange was made
pub unasked_lane : (clients : List Client) (arrivals : List Timed) (number : ℕ) (verdict : Verdict)
    → IsVerdict clients arrivals number verdict → IsLane clients arrivals number (unasked verdict) None
unasked_lane clients arrivals number verdict is = by (slice_get arrivals number) refl
  where
    of : (timed : Timed) (said : Result Request Discard) → slice_get arrivals number ≡ Some timed
        → admission clients (datagram_of timed.arrival) ≡ said → IsLane clients arrivals number (unasked (Some said)) None
    of timed (Err discard) at says = (timed, at, says)
    of timed (Ok request) at says = (timed, at, (request, says))

    by : (some : Option Timed) → slice_get arrivals number ≡ some → IsLane clients arrivals number (unasked verdict) None
    by None at =
        subst (λ v. IsLane clients arrivals number (unasked v) None) (sym (verdict_at clients arrivals number verdict None at is))
        (at, refl)
    by (Some timed) at =
        subst (λ v. IsLane clients arrivals number (unasked v) None)
        (sym (verdict_at clients arrivals number verdict (Some timed) at is))
        (of timed (admission clients (datagram_of timed.arrival)) at refl)

-- a lane that was asked, where the answer is sent as this outcome
pub asked_lane : (clients : List Client) (arrivals : List Timed) (number : ℕ) (verdict : Verdict) (receipt : Receipt)
    (outcome : Outcome)
    → IsVerdict clients arrivals number verdict → (asked : IsAskedOf arrivals number verdict receipt)
    → IsSentAs clients asked.request receipt.entry.answer outcome
    → IsLane clients arrivals number (Some outcome) (Some receipt.entry)
asked_lane clients arrivals number verdict receipt outcome is asked sent =
    let said : Some (admission clients (datagram_of asked.timed.arrival)) ≡ Some (Ok asked.request) =
    sym (verdict_at clients arrivals number verdict (Some asked.timed) asked.arrival is) ∙ asked.verdict_is in (
      asked.timed,
      asked.arrival,
      record {
        request = asked.request;
        admitted = some_is (admission clients (datagram_of asked.timed.arrival)) (Ok asked.request) said;
        own = subst (HoldsAdmitted clients) asked.verdict_is is.admitted;
        asked = asked.asked;
        sent = sent;
      },
    )

-- the verdict in each lane
pub verdict_in : (batch_clients : List Client) (arrivals : List Timed) (number : ℕ) (verdicts : List Verdict) (lane : ℕ)
    (verdict : Verdict)
    → IsChecked batch_clients arrivals number verdicts → lane < 8 → verdict ≡ get_or verdicts lane verdict
    → (slice_get verdicts lane ≡ Some verdict) × IsVerdict batch_clients arrivals (number * 8 + lane) verdict
verdict_in clients arrivals number verdicts lane verdict checked within is =
    let at : slice_get verdicts lane ≡ Some verdict =
    slice_get-get_or verdicts lane verdict (omega (arith, within, checked.lanes)) ∙ ap Some (sym is) in
    (at, checked.checked lane verdict at)

-- the verdict in a lane of which nothing was read
some_verdict : (batch : CheckedBatch) (lane : ℕ) → IsCheckedBatch batch → lane < 8
    → (verdict : Verdict) × (slice_get batch.verdicts lane ≡ Some verdict)
    × IsVerdict batch.configuration.clients batch.arrivals (batch.number * 8 + lane) verdict
some_verdict batch lane checked within =
    let verdict = get_or batch.verdicts lane None in
    let at : slice_get batch.verdicts lane ≡ Some verdict =
    slice_get-get_or batch.verdicts lane None (omega (arith, within, checked.lanes)) in
    (verdict, at, checked.checked lane verdict at)

-- what the lanes of a batch have of which nothing was asked
pub lanes_unasked : (batch : CheckedBatch) (outcomes : List (Option Outcome)) → IsCheckedBatch batch
    → outcomes ≡ map unasked batch.verdicts
    → AreLanes batch.configuration.clients batch.arrivals batch.number outcomes (replicate 8 None)
lanes_unasked batch outcomes checked are = record { outcome_each = outcome_each; entry_each = refl; each = each }
  where
    outcome_each : length outcomes ≡ 8
    outcome_each = ap length are ∙ length-map batch.verdicts unasked ∙ checked.lanes

    each : (lane : ℕ) (outcome : Option Outcome) (entry : Option Entry) → slice_get outcomes lane ≡ Some outcome
        → slice_get (replicate 8 None) lane ≡ Some entry
        → IsLane batch.configuration.clients batch.arrivals (batch.number * 8 + lane) outcome entry
    each lane outcome entry at there =
        let verdict = some_verdict batch lane checked (omega (arith, slice_get_within outcomes lane outcome at, outcome_each)) in
        let is : unasked verdict.0 ≡ outcome = some_is (unasked verdict.0) outcome
        (ap (option_map unasked) (sym verdict.1) ∙ sym (slice_get-map unasked batch.verdicts lane)
        ∙ ap (λ list. slice_get list lane) (sym are) ∙ at) in
        subst (IsLane batch.configuration.clients batch.arrivals (batch.number * 8 + lane) outcome) (none_at 8 lane entry there)
        (subst (λ o. IsLane batch.configuration.clients batch.arrivals (batch.number * 8 + lane) o None) is
        (unasked_lane batch.configuration.clients batch.arrivals (batch.number * 8 + lane) verdict.0 verdict.2))

-- what the lane of a receipt has, where its answer is sent as this outcome
pub lane_of : (batch : CheckedBatch) (asked : List (Option Receipt)) (lane : ℕ) (receipt : Receipt) (outcome : Outcome)
    → IsCheckedBatch batch → lane < 8
    → AreAskedOf batch asked → slice_get asked lane ≡ Some (Some receipt)
    → ((verdict : Verdict) (is : IsAskedOf batch.arrivals (batch.number * 8 + lane) verdict receipt)
    → slice_get batch.verdicts lane ≡ Some verdict
    → IsSentAs batch.configuration.clients is.request receipt.entry.answer outcome)
    → IsLane batch.configuration.clients batch.arrivals (batch.number * 8 + lane) (Some outcome) (Some receipt.entry)
lane_of batch asked lane receipt outcome checked within are at sent =
    let said = some_verdict batch lane checked within in
    let is = are.1 lane said.0 (Some receipt) said.1 at in
    asked_lane batch.configuration.clients batch.arrivals (batch.number * 8 + lane) said.0 receipt outcome said.2 is
    (sent said.0 is said.1)

-- an answer that was read in a lane can be sealed
pub sealable_in : (batch : CheckedBatch) (asked : List (Option Receipt)) (lane : ℕ) (read : Option Receipt) → IsCheckedBatch batch
    → lane < 8
    → AreAskedOf batch asked → read ≡ get_or asked lane read → IfSome read (λ receipt. IsSealable receipt.entry.answer)
sealable_in batch asked lane read checked within are is = by read (are.1 lane said.0 read said.1 at)
  where
    said : (verdict : Verdict) × (slice_get batch.verdicts lane ≡ Some verdict)
        × IsVerdict batch.configuration.clients batch.arrivals (batch.number * 8 + lane) verdict
    said = some_verdict batch lane checked within

    at : slice_get asked lane ≡ Some read
    at = slice_get-get_or asked lane read (omega (arith, within, are.0)) ∙ ap Some (sym is)

    by : (receipt : Option Receipt) → IfSome receipt (IsAskedOf batch.arrivals (batch.number * 8 + lane) said.0)
        → IfSome receipt (λ r. IsSealable r.entry.answer)
    by None asked_of = tt
    by (Some r) asked_of = asked_of.sealable

-- ---- what is asked

-- the request of a verdict
the_request : (asked request : Request) → (admitted : Verdict) → admitted ≡ Some (Ok asked) → admitted ≡ Some (Ok request)
    → request ≡ asked
the_request asked request admitted is same = cc

-- what a lane with a prepared request and with octets says
pub record IsLaneReady (configuration : Configuration) (verdicts : List Verdict) (lane : ℕ) (prepared : Prepared)
    (octets : List ℕ) : Type 0 where
  pub configuration_is : prepared.configuration ≡ configuration
  pub octets_are : octets ≡ packet_octets prepared.request.packet
  pub verdict_is : (verdict : Verdict) → slice_get verdicts lane ≡ Some verdict → verdict ≡ Some (Ok prepared.request)

pub lane_ready : (configuration : Configuration) (arrivals : List Timed) (number : ℕ) (verdicts : List Verdict)
    (prepared : List (Option Prepared))
    (octets : List (Option (List ℕ))) (lane : ℕ) (read : Option Prepared) (own : Option (List ℕ)) (request : Prepared)
    (some : List ℕ)
    → IsReady configuration arrivals number verdicts prepared octets → lane < 8 → read ≡ get_or prepared lane read
    → own ≡ get_or octets lane own
    → read ≡ Some request → own ≡ Some some → IsLaneReady configuration verdicts lane request some
lane_ready configuration arrivals number verdicts prepared octets lane read own request some ready within read_is own_is is has =
    by verdict at (sym mapped) (ready.octets_are lane verdict (Some some) at there)
  where
    verdict : Verdict
    verdict = get_or verdicts lane None

    at : slice_get verdicts lane ≡ Some verdict
    at = slice_get-get_or verdicts lane None (omega (arith, within, ready.checked.lanes))

    long : 8 ≡ length prepared
    long = sym (ap length ready.prepared_are ∙ length-map verdicts (prepared_in configuration) ∙ ready.checked.lanes)

    there : slice_get octets lane ≡ Some (Some some)
    there = slice_get_read octets 8 lane own (sym ready.octet_lanes) within own_is ∙ ap Some has

    mapped : Some request ≡ prepared_in configuration verdict
    mapped =
        some_is (Some request) (prepared_in configuration verdict)
        (sym (slice_get_read prepared 8 lane read long within read_is ∙ ap Some is)
        ∙ ap (λ list. slice_get list lane) ready.prepared_are ∙ slice_get-map (prepared_in configuration) verdicts lane
        ∙ ap (option_map (prepared_in configuration)) at)

    of : (asked : Request) → slice_get verdicts lane ≡ Some (Some (Ok asked))
        → request ≡ record { configuration = configuration; request = asked }
        → HasOctets (Some (Ok asked)) some → IsLaneReady configuration verdicts lane request some
    of asked at_lane same octets_of = record {
      configuration_is = ap (λ p. p.configuration) same;
      octets_are = octets_of.octets_are
          ∙ ap (λ r. packet_octets r.packet)
          (the_request asked octets_of.request (Some (Ok asked)) refl octets_of.verdict_is ∙ sym (ap (λ p. p.request) same));
      verdict_is = λ v there_is. some_is v (Some (Ok asked)) (sym there_is ∙ at_lane)
          ∙ ap (λ r. Some (Ok r)) (sym (ap (λ p. p.request) same));
    }

    by : (v : Verdict) → slice_get verdicts lane ≡ Some v → prepared_in configuration v ≡ Some request
        → IfSome (Some some) (HasOctets v)
        → IsLaneReady configuration verdicts lane request some
    by None at_lane none octets_of = absurd cc
    by (Some (Err discard)) at_lane none octets_of = absurd cc
    by (Some (Ok asked)) at_lane same octets_of =
        of asked at_lane (some_is request (record { configuration = configuration; request = asked }) (sym same)) octets_of
