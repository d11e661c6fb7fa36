use Rattle.std.proofs.Common.{[], ◌∷◌, ◌++◌, ◌∙◌, ap}
use Rattle.std.proofs.lemmas.Result.{on_ok_weaker, on_err_weaker}
use Rattle.slot_log.proofs.Results.{on_err}
use Rattle.match_runs.proofs.Scripting.{answers_as, plays_so_far, play_line_answered, play_line_begun}
use Rattle.match_runs.proofs.scripted.Scripted.end_line.Goals as goal

pub returns-in_err-answer-clause-err : goal.returns-in_err-answer-clause-err
returns-in_err-answer-clause-err g c = on_err c.from_residual.result (λ plan start seen reaches. plays_so_far plan start _ seen (10 ∷ []) c.args.self.now reaches)

pub returns-clause-ok : goal.returns-clause-ok
returns-clause-ok g c =
    let done = c.in_ok-answer.ensures.answered in
    let text_is = c.deref-2.ensures.value ∙ done.1 ∙ ap (λ z. z ++ done.0) c.clear.ensures.items in
    let answers = answers_as _ _ _ _ _ _ c.deref.ensures.value text_is done.2 in
    on_ok_weaker c.send.result
    (λ sent plan start seen reaches. play_line_answered plan start _ _ seen c.deref-2.result.now c.args.self.now _ answers c.answer.ensures.shows c.clear-2.ensures.items sent reaches)
    c.send.ensures.ok

pub returns-clause-err : goal.returns-clause-err
returns-clause-err g c =
    let done = c.in_ok-answer.ensures.answered in
    let text_is = c.deref-2.ensures.value ∙ done.1 ∙ ap (λ z. z ++ done.0) c.clear.ensures.items in
    let answers = answers_as _ _ _ _ _ _ c.deref.ensures.value text_is done.2 in
    on_err_weaker c.send.result
    (λ sent plan start seen reaches. play_line_begun plan start _ _ seen c.deref-2.result.now sent.0 sent.1 c.args.self.now _ answers c.answer.ensures.shows sent.2 sent.3 reaches)
    c.send.ensures.err
