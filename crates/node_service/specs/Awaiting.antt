-- How long a bot waits for the line that it named.
use Rattle.std.specs.Prelude.{ℕ, ◌+◌, ◌-◌, min, nat_lt, nat_le, ◌&&◌, ◌||◌, Bool, if◌then◌else◌, List, slice_index_or, Option, Some, None}
use Rattle.node_service.specs.declared.limits.TheConstants.{LINE_WAIT, LINE_AHEAD, SETTLED}
use Rattle.node_service.specs.declared.awaited_lines.Applied.{Applied}
use Rattle.node_service.specs.declared.awaited_lines.AwaitedLine.{AwaitedLine}

-- each line that was shown by now is one of the first so many commands
abbrev pub limit_now : Applied → ℕ
limit_now applied = min 4294967295 (applied.most + LINE_AHEAD)

-- a bot waits since it was first seen to; in its first two seconds, and until the node has had a quorum for half a minute, the commands are counted anew
abbrev pub waits_since : Option AwaitedLine → Applied → ℕ → AwaitedLine
waits_since None applied now = record { since = now; limit = limit_now applied }
waits_since (Some old) applied now = record { since = old.since; limit = if applied.is_steady && nat_le SETTLED (now - old.since) then old.limit else limit_now applied }

-- it has waited for 256 s, or a node that has had a quorum for half a minute has applied more commands than that
abbrev pub is_long : AwaitedLine → Applied → ℕ → Bool
is_long line applied now = nat_le LINE_WAIT (now - line.since) || applied.is_steady && nat_lt line.limit applied.front

abbrev pub waits_now : List (Option AwaitedLine) → ℕ → Applied → ℕ → AwaitedLine
waits_now all seat applied now = waits_since (slice_index_or all seat None) applied now
