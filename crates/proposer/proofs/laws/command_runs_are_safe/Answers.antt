use Rattle.proposer.proofs.SafeRuns.{safe_run, leader_proposes_run, one_is_a_proposal}
use Rattle.proposer.proofs.laws.command_runs_are_safe.Goals as goal

pub returns-clause-safe : goal.returns-clause-safe
returns-clause-safe c = safe_run

pub returns-clause-proposes : goal.returns-clause-proposes
returns-clause-proposes c = leader_proposes_run

pub returns-clause-one : goal.returns-clause-one
returns-clause-one c = one_is_a_proposal
