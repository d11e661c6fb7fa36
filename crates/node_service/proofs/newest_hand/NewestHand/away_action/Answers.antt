use Rattle.std.proofs.Common.{sym, ap, ◌∙◌}
use Rattle.slot_log.proofs.Away.{unless_wrong}
use Rattle.node_service.proofs.Acting.{away_there}
use Rattle.node_service.proofs.newest_hand.NewestHand.away_action.Goals as goal

pub returns-in-None-fault : goal.returns-in-None-fault
returns-in-None-fault c =
    λ hands is. sym (away_there c.args.self.now.game hands c.args.self.now.play c.in-Some.play is.play c.in-Some.is ∙ ap unless_wrong (sym c.fault.ensures ∙ c.in-None-fault.is))

pub returns-in-Some-fault : goal.returns-in-Some-fault
returns-in-Some-fault c =
    λ hands is. sym (away_there c.args.self.now.game hands c.args.self.now.play c.in-Some.play is.play c.in-Some.is ∙ ap unless_wrong (sym c.fault.ensures ∙ c.in-Some-fault.is))
