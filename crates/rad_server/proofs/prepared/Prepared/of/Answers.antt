use Rattle.rad_server.proofs.prepared.Prepared.of.Goals as goal

pub invariant_of-result : goal.invariant_of-result
invariant_of-result c = record {
  admitted = c.requires;
  rule_is = c.rule.ensures c.args.config.now c.args.request.now c.clients.ensures.configuration c.inquire-inquiry.ensures;
  body_is = tt;
}
