use Rattle.std.proofs.Common.{rules}
use Rattle.arrayvec.proofs.ArrayVecLemmas.{filter-from_retain}
use Rattle.node_runs.proofs.note_limits.NoteLimits.pass.Goals as goal

pub returns-clause-recent : goal.returns-clause-recent
returns-clause-recent c = filter-from_retain _ _ _ (λ x b f' y k. search rules) _ _ c.retain.ensures.filtered
