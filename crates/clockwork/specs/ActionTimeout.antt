-- What is known of the seat to act, and when an order to play for it may be given again. Times are in microseconds.
use Rattle.std.specs.Prelude.{ℕ, ◌-◌, ◌≤◌, min, Bool, not, ◌&&◌, if◌then◌else◌, nat_lt, Option, Some, None, IfSome}
use Rattle.clockwork.specs.declared.action_timeout.Awaited.{Awaited}
use Rattle.clockwork.specs.declared.limits.TheConstants.{ORDERED_AGAIN}
use Rattle.clockwork.specs.Waits.{left}

-- the match is on, a hand runs, the node is quorate and doesn't replay
unfoldable pub is_able : Awaited → Bool
is_able awaited = not awaited.over && (awaited.hand_runs && (awaited.quorate && not awaited.replays))

-- it isn't ordered again before the patience has passed once more, or eight seconds
abbrev pub order_left : ℕ → Option ℕ → ℕ → ℕ
order_left time None patience = 0
order_left time (Some moment) patience = left time moment (min patience ORDERED_AGAIN)

-- since when a seat is waited for where the wait begins anew now: since now, but only once while the front stands
abbrev pub seated_after : Option ℕ → (moved now : ℕ) → ℕ
seated_after None moved now = now
seated_after (Some earlier) moved now = if nat_lt earlier moved then now else earlier

-- ---- what holds of every order

-- the last order, if any, was as long ago, or eight seconds
abbrev pub IsOrderedLongAgo : Awaited → Type 0
IsOrderedLongAgo awaited = IfSome awaited.ordered (λ moment. min awaited.patience ORDERED_AGAIN ≤ awaited.time - moment)
