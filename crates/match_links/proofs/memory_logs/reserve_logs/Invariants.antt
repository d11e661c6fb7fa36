use Rattle.std.proofs.Common.{◌≡◌, ◌≤◌, ◌<◌, ℕ, map, length}
use Rattle.match_links.specs.Room.{log_room}
use Rattle.match_links.proofs.memory_logs.reserve_logs.Given as goal

-- nothing in the logs changed, those before this one have their room, and none has less than it had
abbrev pub invariant-loop-node : goal.invariant-loop-node
invariant-loop-node l = record {
  same : map (λ log. log.items) l.logs.items ≡ map (λ log. log.items) l.initial.logs.items;
  long : length l.logs.items ≡ length l.initial.logs.items;
  kept : (i : ℕ) → log_room l.initial.logs.items i ≤ log_room l.logs.items i;
  ready : (i : ℕ) → i < l.node → l.text ≤ log_room l.logs.items i;
}
