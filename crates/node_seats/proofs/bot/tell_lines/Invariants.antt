use Rattle.std.proofs.Common.{◌+◌, ◌-◌, ◌≤◌, max, length}
use Rattle.node_seats.specs.declared.limits.TheConstants.{BACKLOG}
use Rattle.node_seats.specs.Telling.{TellsOn}
use Rattle.node_seats.proofs.bot.tell_lines.Given as goal

abbrev pub invariant-loop-waiting : goal.invariant-loop-waiting
invariant-loop-waiting l = record {
  tells : TellsOn l.table l.number l.initial.telling l.telling l.initial.waiting.waiting l.waiting.waiting;
  bound : length l.waiting.waiting ≤ max (length l.initial.waiting.waiting) (BACKLOG + 4098);
}

abbrev pub decreases-loop-waiting : goal.decreases-loop-waiting
decreases-loop-waiting l = BACKLOG - length l.waiting.waiting
