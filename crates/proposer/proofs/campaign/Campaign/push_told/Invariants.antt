use Rattle.std.proofs.Common.{◌≡◌, ◌+◌, ◌-◌, ◌++◌, length}
use Rattle.paxos_wire.specs.declared.limits.TheConstants.{WINDOW}
use Rattle.proposer.specs.CommandRuns.{told_commands}
use Rattle.proposer.proofs.campaign.Campaign.push_told.Given as goal

abbrev pub invariant-loop-step : goal.invariant-loop-step
invariant-loop-step l = record {
  filled : length l.run ≡ l.step;
  so_far : l.run ++ told_commands l.nodes l.self (WINDOW - l.step) (l.slot + l.step) ≡ l.fn.run ++ told_commands l.nodes l.self (WINDOW - 1) (l.slot + 1);
}
