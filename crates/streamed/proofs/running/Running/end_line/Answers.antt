use Rattle.std.proofs.Common.{[], ◌∷◌}
use Rattle.std.proofs.lemmas.Result.{on_ok_weaker, on_err_weaker}
use Rattle.slot_log.proofs.Results.{on_err}
use Rattle.streamed.proofs.Progress.{begins_so_far, line_taken, line_answered, line_begun}
use Rattle.streamed.proofs.running.Running.end_line.Goals as goal

pub returns-in_err-take_line-clause-err : goal.returns-in_err-take_line-clause-err
returns-in_err-take_line-clause-err g c = on_err c.from_residual.result (λ game count log start seen shows. begins_so_far game count log start _ seen (10 ∷ []) c.args.self.now shows)

pub returns-clause-ok : goal.returns-clause-ok
returns-clause-ok g c =
    let ends = line_taken c.args.self.now c.read-said.result c.take_line.new.self c.deref-2.result.now c.deref.ensures.0 c.clear-2.ensures.items c.deref-2.ensures.value
    c.read-said.ensures.says c.in_ok-take_line.ensures.stands c.in_ok-take_line.ensures.answered in
    on_ok_weaker c.send.result
    (λ sent game count log start seen shows. line_answered game count log start _ _ seen c.deref-2.result.now c.args.self.now c.read-said.result _ ends c.clear.ensures sent shows)
    c.send.ensures.ok

pub returns-clause-err : goal.returns-clause-err
returns-clause-err g c =
    let ends = line_taken c.args.self.now c.read-said.result c.take_line.new.self c.deref-2.result.now c.deref.ensures.0 c.clear-2.ensures.items c.deref-2.ensures.value
    c.read-said.ensures.says c.in_ok-take_line.ensures.stands c.in_ok-take_line.ensures.answered in
    on_err_weaker c.send.result
    (λ sent game count log start seen shows. line_begun game count log start _ _ seen c.deref-2.result.now sent.0 sent.1 c.args.self.now c.read-said.result c.take_line.new.self ends sent.2 sent.3 shows)
    c.send.ensures.err
