use Rattle.std.proofs.Common.{◌≡◌, ◌≤◌, ◌+◌}
use Rattle.protocol_model.specs.Quorums.{count}
use Rattle.proposer.specs.CommandRuns.{is_waiting}
use Rattle.proposer.proofs.campaign.Campaign.waiting.Given as goal

abbrev pub invariant-loop-place : goal.invariant-loop-place
invariant-loop-place l = record { value : l.waiting ≡ count (λ place. is_waiting l.nodes l.self (l.self.first + place)) l.place; most : l.waiting ≤ l.place }
