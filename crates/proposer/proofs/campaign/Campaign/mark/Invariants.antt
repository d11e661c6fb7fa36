use Rattle.std.proofs.Common.{◌≡◌, ◌+◌, ◌-◌}
use Rattle.proposer.specs.CommandRuns.{marked_places}
use Rattle.proposer.proofs.campaign.Campaign.mark.Given as goal

abbrev pub invariant-loop-step : goal.invariant-loop-step
invariant-loop-step l = record {
  ballot : l.self.ballot ≡ l.initial.self.ballot;
  first : l.self.first ≡ l.initial.self.first;
  promises : l.self.promises ≡ l.initial.self.promises;
  so_far : marked_places l.self.proposed (l.first_place + l.step) (l.count - l.step) ≡ marked_places l.initial.self.proposed l.first_place l.count;
}
