use Rattle.std.proofs.Common.{sym, ap, ◌∙◌, rules}
use Rattle.slot_log.specs.Dealer.{reason_of}
use Rattle.slot_log.proofs.Begin.{newest_allows}
use Rattle.slot_log.proofs.table.Table.apply.Goals as goal

pub act-requires : goal.act-requires
act-requires c =
    let table = c.args.self.now in
    let act = c.in-Act in
    newest_allows c.allowed_without_fault.ensures table.game table.count table.hands act.hand act.index act.action
    (ap (reason_of table.game table.count table.hands) (sym act.is) ∙ sym c.reason.ensures ∙ c.in_default.is)

pub returns-in-Deal-clause-hands : goal.returns-in-Deal-clause-hands
returns-in-Deal-clause-hands c = search rules
