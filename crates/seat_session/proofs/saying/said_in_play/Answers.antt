use Rattle.std.proofs.Common.{◌≡◌, ◌≤◌, Some, None, length, rules, arith, refl, sym, ap, ◌∙◌}
use Rattle.std.proofs.lemmas.List.{length-reverse}
use Rattle.betting.specs.Betting.{Betting, history}
use Rattle.betting.specs.Rounds.{to_act, turns}
use Rattle.betting.specs.Legal.{fault_of}
use Rattle.seat_session.proofs.AtTable.{act_fits, says_act}
use Rattle.seat_session.proofs.saying.said_in_play.Goals as goal

pub why_not_current-requires : goal.why_not_current-requires
why_not_current-requires c = c.in_default.ensures.missing refl

pub returns-in-None-clause-fits : goal.returns-in-None-clause-fits
returns-in-None-clause-fits c =
    let table = c.args.table.now in
    let answer = c.in-Some.answer in
    let now = c.in-Some.ensures.found in
    let view = now.view in
    let action = answer.action in
    let index = length c.actions.result.now in
    let most : length table.hands ≤ table.count = omega arith in
    let here : c.to_act.result ≡ Some answer.position = search rules in
    let told : c.fault.result ≡ None = search rules in
    let turn : to_act table.game (turns table.game view.past) ≡ Some view.position = sym (ap (λ (b : Betting). to_act b.game (history b)) now.same_play) ∙ sym c.to_act.ensures.value ∙ here ∙ ap Some now.same_position in
    let faultless : fault_of table.game (turns table.game view.past) action ≡ None = sym (ap (λ (b : Betting). fault_of b.game (history b) action) now.same_play) ∙ sym c.fault.ensures ∙ told in
    let counted : index ≡ length view.past = ap length c.actions.ensures.value ∙ length-reverse answer.play.now.past ∙ ap (λ (b : Betting). length b.past) now.same_play in
    act_fits table.game table.count table.hands c.args.seat c.args.text.now answer.hand index action most
    (says_act table.game table.hands c.args.seat c.args.text.now view action answer.hand index now.is_answer now.current turn c.allowed_without_fault.ensures faultless now.same_hand counted)
