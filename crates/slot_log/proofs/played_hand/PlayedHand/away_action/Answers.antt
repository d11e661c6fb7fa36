use Rattle.std.proofs.Common.{sym, ap, ◌∙◌}
use Rattle.betting.specs.Betting.{history}
use Rattle.slot_log.proofs.Away.{by_fault, unless_wrong}
use Rattle.slot_log.proofs.played_hand.PlayedHand.away_action.Goals as goal

pub returns-in-None : goal.returns-in-None
returns-in-None c =
    let play = c.args.self.now.play in
    sym (by_fault play.game (history play) ∙ ap unless_wrong (sym c.fault.ensures ∙ c.in-None.is))

pub returns-in-Some : goal.returns-in-Some
returns-in-Some c =
    let play = c.args.self.now.play in
    sym (by_fault play.game (history play) ∙ ap unless_wrong (sym c.fault.ensures ∙ c.in-Some.is))
