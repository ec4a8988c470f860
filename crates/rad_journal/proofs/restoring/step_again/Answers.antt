use Rattle.std.proofs.Common.{◌≡◌, ◌≤◌, ◌∙◌, length, refl, rules, sym}
use Rattle.rad_auth.specs.Admission.{IsAdmitted}
use Rattle.rad_auth.specs.Authenticators.{sixteen_zeros}
use Rattle.rad_config.specs.Spans.{moment_max}
use Rattle.rad_server.specs.declared.entry.Entry.{Entry}
use Rattle.rad_journal.specs.Restores.{IsKeptSo}
use Rattle.rad_journal.proofs.restoring.step_again.Goals as goal

pub returns-clause-step : goal.returns-clause-step
returns-clause-step c =
    let kept = c.args.kept.now in
    let entry : Entry = record {
      tag = 0;
      client = kept.client;
      source = kept.source;
      port = kept.port;
      door = kept.door;
      octets = kept.octets;
      moment = kept.moment;
      draw = kept.draw;
      answer = c.in_ok-answer.answer;
      session = kept.session;
    } in
    let admitted : IsAdmitted c.args.server.now.configuration.clients c.in-Some.request = search rules in
    let moment : kept.moment ≤ moment_max = search rules in
    let draw : length kept.draw ≡ length sixteen_zeros = search rules in
    let so : IsKeptSo kept c.in_ok-answer.answer c.in_ok-answer.session = search rules in
    record {
      entry = entry;
      exchange = record {
        request = c.in-Some.request;
        asked = record {
          own = c.in-Some.ensures.own;
          admitted = admitted;
          client = sym c.in-Some.ensures.client;
          moment = moment;
          draw = draw;
        };
        answered = c.in_ok-answer.ensures.answered;
        session = sym so.names ∙ c.in_ok-answer.ensures.session;
      };
      is_kept = rw (so.answers) refl;
    }
