use Rattle.std.proofs.Common.{sym, ◌∙◌, arith}
use Rattle.node_service.proofs.Acting.{finished_running, finished_resting}
use Rattle.node_service.proofs.newest_hand.NewestHand.finished.Goals as goal

pub returns-then-runs : goal.returns-then-runs
returns-then-runs c =
    λ hands are is.
    let here = is.dealt in
    let finished = finished_running c.args.self.now.game c.args.self.now.count hands are (sym (c.runs.ensures hands is) ∙ c.if-runs.true) in
    omega (arith, here, finished, c.saturating_sub.ensures)

pub returns-else-runs : goal.returns-else-runs
returns-else-runs c =
    λ hands are is. is.dealt ∙ sym (finished_resting c.args.self.now.game c.args.self.now.count hands are (sym (c.runs.ensures hands is) ∙ c.if-runs.false))
