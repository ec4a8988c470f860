use Rattle.std.proofs.Common.{◌≡◌, ◌+◌, ◌*◌, Ok, Some, length, refl, rules, slice_get, subst, sym, ap, ◌∙◌}
use Rattle.std.proofs.lemmas.Option.{slice_get_read}
use Rattle.std.proofs.lemmas.Bool.{ltb-true}
use Rattle.rad_round.specs.Works.{CheckedBatch, IsAskIn}
use Rattle.rad_round.proofs.BatchLemmas.{lane_ready}
use Rattle.rad_round.proofs.batch.Batch.ask.Goals as goal

pub new-requires-clause-octets : goal.new-requires-clause-octets
new-requires-clause-octets c =
    let own = c.self.inside in
    let read : c.index-requests-lane.result ≡ Some c.in_ok-prepared.prepared.now = search rules in
    let octets : c.index-octets-lane.result ≡ Some c.in_ok-octets.octets.now = search rules in
    (lane_ready own.config.now own.arrivals.now own.number own.verdicts.now own.prepared.now own.octets.now c.args.lane
    c.index-requests-lane.result
    c.index-octets-lane.result c.in_ok-prepared.prepared.now c.in_ok-octets.octets.now c.self.invariant c.requires
    c.index-requests-lane.is c.index-octets-lane.is
    read octets).octets_are

pub returns : goal.returns
returns c =
    let own = c.self.inside in
    let read : c.index-requests-lane.result ≡ Some c.in_ok-prepared.prepared.now = search rules in
    let octets : c.index-octets-lane.result ≡ Some c.in_ok-octets.octets.now = search rules in
    let lane = lane_ready own.config.now own.arrivals.now own.number own.verdicts.now own.prepared.now own.octets.now c.args.lane
    c.index-requests-lane.result
    c.index-octets-lane.result c.in_ok-prepared.prepared.now c.in_ok-octets.octets.now c.self.invariant c.requires
    c.index-requests-lane.is c.index-octets-lane.is
    read octets in
    let arrival : slice_get own.arrivals.now (own.number * 8 + c.args.lane) ≡ Some c.in_ok-timed.timed.now =
    slice_get_read own.arrivals.now (length own.arrivals.now) (own.number * 8 + c.args.lane) c.in_ok-timed.timed.now refl
    (ltb-true (own.number * 8 + c.args.lane) (length own.arrivals.now) (sym c.in_ok-timed.ensures.lookup.0))
    c.in_ok-timed.ensures.lookup.1 in
    let batch : CheckedBatch =
    record { configuration = own.config.now; arrivals = own.arrivals.now; number = own.number; verdicts = own.verdicts.now } in
    subst (λ b. IsAskIn b c.args.lane c.new.result) c.self.view_is (record {
      configuration_is = ap (λ p. p.configuration) c.new.ensures.prepared ∙ lane.configuration_is;
      of = λ verdict at. record {
        verdict_is = lane.verdict_is verdict at ∙ ap (λ p. Some (Ok p.request)) (sym c.new.ensures.prepared);
        timed = c.in_ok-timed.timed.now;
        arrival = arrival;
        tag = c.new.ensures.tag;
        moment = c.new.ensures.moment;
        draw = c.new.ensures.draw;
      };
    })
