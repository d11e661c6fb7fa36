use Rattle.std.proofs.Common.{◌-◌}
use Rattle.proposer.proofs.ToldCommands.{marks_go_on}
use Rattle.proposer.proofs.campaign.Campaign.mark.Goals as goal

pub loop-step-preserved : goal.loop-step-preserved
loop-step-preserved c = record {
  ballot = c.loop-step.invariant.ballot;
  first = c.loop-step.invariant.first;
  promises = c.loop-step.invariant.promises;
  so_far = marks_go_on c.loop-step.self.proposed (c.args.slot - c.args.self.now.first) c.loop-step.step c.args.count _ c.loop-step-test.true c.loop-step.invariant.so_far;
}
