use Rattle.std.proofs.Common.{◌+◌, [], ◌∷◌, length, length-append, ap, ◌∙◌, arith}
use Rattle.proposer.specs.CommandRuns.{told_commands}
use Rattle.proposer.proofs.ToldCommands.{stays_covered}
use Rattle.proposer.proofs.campaign.Campaign.fill.Goals as goal

pub returns-in-Some-clause-covered : goal.returns-in-Some-clause-covered
returns-in-Some-clause-covered c low =
    let behind = stays_covered c.args.nodes c.args.self.now 63 (c.args.slot + 1) (omega (arith, low)) in
    let filled = ap length c.push_told.ensures.run ∙ length-append c.push.new.self (told_commands c.args.nodes c.args.self.now 63 (c.args.slot + 1)) in
    let one = ap length c.push.ensures ∙ length-append c.clear.new.self (c.in-Some.entry.command ∷ []) in
    let none = ap length c.clear.ensures in
    omega (arith, behind, filled, one, none, low)
