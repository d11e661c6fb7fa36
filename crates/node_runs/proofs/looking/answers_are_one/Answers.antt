use Rattle.node_runs.proofs.StoreAnswers.{are_one}
use Rattle.node_runs.proofs.looking.answers_are_one.Goals as goal

pub returns : goal.returns
returns c = record { same = are_one }
