use Rattle.promise_store.proofs.Runs.{run_is_moves, is_fresh}
use Rattle.std.proofs.Common.{length}
use Rattle.promise_store.proofs.laws.records_are_moves.Goals as goal

pub returns-clause-votes : goal.returns-clause-votes
returns-clause-votes c store ballot slot commands some within most none =
    run_is_moves store ballot slot commands some most (is_fresh store ballot slot (length commands) within most none)
