use Rattle.std.proofs.Common.{inr, refl, ap, subst, ◌∙◌}
use Rattle.dealer_kind.specs.Plans.{Plan}
use Rattle.game_def.specs.Game.{Game}
use Rattle.match_runs.specs.Refusals.{Answers, AnswersNothing, answer, alone}
use Rattle.match_runs.proofs.refusals.about_answer.Goals as goal

pub returns-in-Some : goal.returns-in-Some
returns-in-Some g c =
    let found = c.in-Some.answer in
    let game = c.game.ensures.value ∙ ap (λ (plan : Plan). plan.setting.game) c.config.ensures in
    let answers = subst (λ (of : Game). Answers of c.args.piece.now found.hand found.line.now found.action.now) game c.in-Some.ensures.found in
    answer found.hand found.line.now found.action.now c.is_told_late-is_late.result c.requires answers c.is_told_late-is_late.ensures refl

pub returns-in-None : goal.returns-in-None
returns-in-None g c =
    let game = c.game.ensures.value ∙ ap (λ (plan : Plan). plan.setting.game) c.config.ensures in
    alone (inr (subst (λ (of : Game). AnswersNothing of c.args.piece.now) game (c.in-None.ensures.missing refl))) refl
