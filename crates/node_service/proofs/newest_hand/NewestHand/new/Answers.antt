use Rattle.std.proofs.Common.{List, length, None, refl, sym, ap, subst}
use Rattle.slot_log.specs.Hand.{Hand}
use Rattle.node_service.specs.Acts.{IsBettingOf}
use Rattle.node_service.proofs.Acting.{none_dealt}
use Rattle.node_service.proofs.newest_hand.NewestHand.new.Goals as goal

pub returns-clause-by : goal.returns-clause-by
returns-clause-by c =
    let none = none_dealt c.args.game c.args.count in
    record { dealt = sym (ap length none); play = subst (λ (hands : List Hand). IsBettingOf c.args.game hands None) (sym none) refl }
