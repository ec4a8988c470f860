use Rattle.rad_recent.proofs.LawfulLemmas.{kept_replies, live_replies, no_replies, other_replies}
use Rattle.rad_recent.proofs.RestoreLemmas.{restore_rebuilds_replies, restored_reply_is_the_law}
use Rattle.rad_recent.proofs.lawful.lawful_replies.Goals as goal

pub returns-clause-opening : goal.returns-clause-opening
returns-clause-opening c = no_replies

pub returns-clause-expiry : goal.returns-clause-expiry
returns-clause-expiry c = live_replies

pub returns-clause-removal : goal.returns-clause-removal
returns-clause-removal c = other_replies

pub returns-clause-keeping : goal.returns-clause-keeping
returns-clause-keeping c = kept_replies

pub returns-clause-restore : goal.returns-clause-restore
returns-clause-restore c = restored_reply_is_the_law

pub returns-clause-rebuilt : goal.returns-clause-rebuilt
returns-clause-rebuilt c = restore_rebuilds_replies
