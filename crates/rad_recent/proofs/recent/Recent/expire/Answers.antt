use Rattle.rad_recent.proofs.ClientLemmas.{clients_left}
use Rattle.rad_recent.proofs.HoldLemmas.{cut_is, holds_expired, ready_left, settled_is}
use Rattle.rad_recent.proofs.recent.Recent.expire.Goals as goal

pub invariant_of-self : goal.invariant_of-self
invariant_of-self c = record {
  index = holds_expired c.args.now c.self.inside.rows c.expire.new.self c.self.inside.notes c.expire.new.tally
      c.numbers_rise.ensures.rising.rising c.expire.ensures.rows c.expire.ensures.last c.expire.ensures.room c.expire.ensures.told
      c.self.invariant.index;
  clients = clients_left c.self.inside.rows.spans c.args.now c.self.inside.rows.rows c.expire.new.self.rows
      c.self.inside.notes c.expire.new.tally c.self.invariant.clients c.expire.ensures.rows c.expire.ensures.told;
}

pub returns-clause-cut : goal.returns-clause-cut
returns-clause-cut c =
    rw (← c.self.view_is) (cut_is c.args.now c.self.inside.rows c.expire.new.self c.expire.ensures.rows c.expire.ensures.spans)

pub returns-clause-settled : goal.returns-clause-settled
returns-clause-settled c = settled_is c.args.now c.self.inside.rows c.expire.new.self c.expire.ensures.rows c.expire.ensures.spans

pub returns-clause-ready : goal.returns-clause-ready
returns-clause-ready c = rw (← c.self.view_is) (ready_left _ c.self.inside.notes c.expire.new.tally c.expire.ensures.told)
