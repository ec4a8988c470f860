use Rattle.rad_recent.proofs.LawfulLemmas.{live_challenges, more_challenges, no_challenges, other_challenges}
use Rattle.rad_recent.proofs.RestoreLemmas.{restore_rebuilds_challenges, restored_challenge_is_the_law, restored_last_is_the_law}
use Rattle.rad_recent.proofs.lawful.lawful_challenges.Goals as goal

pub returns-clause-opening : goal.returns-clause-opening
returns-clause-opening c = no_challenges

pub returns-clause-expiry : goal.returns-clause-expiry
returns-clause-expiry c = live_challenges

pub returns-clause-answer : goal.returns-clause-answer
returns-clause-answer c = other_challenges

pub returns-clause-issue : goal.returns-clause-issue
returns-clause-issue c = more_challenges

pub returns-clause-restore : goal.returns-clause-restore
returns-clause-restore c = restored_challenge_is_the_law

pub returns-clause-restore_last : goal.returns-clause-restore_last
returns-clause-restore_last c = restored_last_is_the_law

pub returns-clause-rebuilt : goal.returns-clause-rebuilt
returns-clause-rebuilt c = restore_rebuilds_challenges
