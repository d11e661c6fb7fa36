-- A node that is behind doesn't wait while its process sleeps.
use Rattle.std.proofs.Common.{ℕ, ◌≡◌, ◌+◌, ◌-◌, Bool, true, false, Option, Some, None, arith}
use Rattle.std.specs.Prelude.{min, max, if◌then◌else◌, nat_lt}
use Rattle.clockwork.specs.declared.watch.Watch.{Watch}
use Rattle.clockwork.specs.declared.limits.TheConstants.{LEAP}
use Rattle.clockwork.specs.Watches.{begun, put_off, slept_of, WaitsAwake}

by_length : (is_long : Bool) (moment moved lost now : ℕ)
    → now - max (if is_long then min now (max moment moved + lost) else moment) moved ≡ (now - max moment moved) - (if is_long then lost else 0)
by_length true moment moved lost now = omega arith
by_length false moment moved lost now = omega arith

since_then : (behind : Option ℕ) (moved lost now : ℕ)
    → now - max (begun (put_off behind moved lost now) now) moved ≡ (now - max (begun behind now) moved) - slept_of lost
since_then None moved lost now = omega arith
since_then (Some moment) moved lost now = by_length (nat_lt LEAP lost) moment moved lost now

pub waits_awake : (w : Watch) (lost now : ℕ) → WaitsAwake w lost now
waits_awake w lost now = since_then w.behind_since w.moved lost now
