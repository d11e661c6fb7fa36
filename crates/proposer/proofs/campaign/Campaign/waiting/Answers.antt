use Rattle.std.proofs.Common.{sym, arith}
use Rattle.proposer.proofs.ToldCommands.{none_waiting, nowhere_waiting, all_counted}
use Rattle.proposer.proofs.campaign.Campaign.waiting.Goals as goal

pub returns-then-self-ge-SLOTS-clause-value : goal.returns-then-self-ge-SLOTS-clause-value
returns-then-self-ge-SLOTS-clause-value c = sym (none_waiting c.args.nodes c.args.self.now (omega arith))

pub returns-clause-value : goal.returns-clause-value
returns-clause-value c =
    all_counted c.args.nodes c.args.self.now c.loop-place.waiting c.loop-place.place c.loop-place.invariant.value (omega arith) (omega arith)

pub returns-then-tells_nothing-clause-value : goal.returns-then-tells_nothing-clause-value
returns-then-tells_nothing-clause-value c = sym (nowhere_waiting c.args.nodes c.args.self.now (c.tells_nothing.ensures c.if-tells_nothing.true))
