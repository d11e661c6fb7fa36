use Rattle.std.proofs.Common.{[], ◌∷◌, ◌++◌, refl}
use Rattle.node_runs.specs.KeptLogs.{no_line}
use Rattle.node_runs.proofs.CountedLines.{one_behind, moved}
use Rattle.node_runs.proofs.kept_log.KeptLog.new.Goals as goal

pub loop-more-init : goal.loop-more-init
loop-more-init c = ([], no_line [] refl, refl)

pub loop-more-preserved : goal.loop-more-preserved
loop-more-preserved c =
    let found = c.in-Some.ensures.found in
    let front = c.loop-more.invariant in
    (front.0 ++ (found.0 ++ 10 ∷ []), one_behind front.0 found.0 front.1 found.1, moved _ front.0 found.0 _ _ front.2 found.2)
