use Rattle.std.proofs.Common.{rules}
use Rattle.rad_snapshot.proofs.filling.fill_session.Goals as goal

pub returns-clause-within : goal.returns-clause-within
returns-clause-within c =
    record { client = search rules; source = search rules; user = search rules; address = c.value_or_null.ensures.within }
