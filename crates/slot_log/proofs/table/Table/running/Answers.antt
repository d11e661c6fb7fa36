use Rattle.std.proofs.Common.{◌∙◌, refl, rules}
use Rattle.slot_log.proofs.Inside.{none_dealt, hands_are}
use Rattle.slot_log.proofs.table.Table.running.Goals as goal

pub returns-in-None : goal.returns-in-None
returns-in-None c =
    let none = hands_are c.self.inside c.args.self.now c.self.view_is ∙ none_dealt c.self.inside c.self.invariant c.in-None.is in
    rw none refl

pub returns-in-Some : goal.returns-in-Some
returns-in-Some c = search rules
