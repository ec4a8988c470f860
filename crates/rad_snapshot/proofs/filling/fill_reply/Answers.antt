use Rattle.std.proofs.Common.{rules}
use Rattle.rad_snapshot.proofs.filling.fill_reply.Goals as goal

pub returns-clause-within : goal.returns-clause-within
returns-clause-within c =
    record {
      client = c.value_or_null.ensures.within;
      source = search rules;
      port = search rules;
      id = search rules;
      code = search rules;
    }
