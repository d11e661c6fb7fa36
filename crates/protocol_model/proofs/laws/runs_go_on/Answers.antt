-- One node after another stops, if it is up, and starts.
use Rattle.protocol_model.proofs.Opening.{opens, run_grows}
use Rattle.protocol_model.proofs.Runs.{run_joins}
use Rattle.protocol_model.proofs.laws.runs_go_on.Goals as goal

pub returns-clause-opens : goal.returns-clause-opens
returns-clause-opens c = opens

pub returns-clause-joins : goal.returns-clause-joins
returns-clause-joins c = run_joins

pub returns-clause-grows : goal.returns-clause-grows
returns-clause-grows c = run_grows
