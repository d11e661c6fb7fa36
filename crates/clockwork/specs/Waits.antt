-- Waits, and how they are doubled. Times are in microseconds.
use Rattle.std.specs.Prelude.{ℕ, ◌-◌, ◌*◌, ◌==◌, min, max, if◌then◌else◌, Option, Some, None}
use Rattle.clockwork.specs.declared.known.Ticks.{Ticks}
use Rattle.clockwork.specs.declared.limits.TheConstants.{SPACE}

-- what is left of a wait that began at a moment
abbrev pub left : ℕ → ℕ → ℕ → ℕ
left time since wait = wait - (time - since)

-- how many times as long a wait is after so many ticks in vain
unfoldable pub times : ℕ → ℕ
times ticks = if ticks == 0 then 1 else if ticks == 1 then 2 else if ticks == 2 then 4 else if ticks == 3 then 8 else 16

-- doubled for each tick in vain, up to a bound, and no shorter than at first
abbrev pub doubled : ℕ → ℕ → ℕ → ℕ
doubled wait ticks most = max wait (min most (wait * times ticks))

-- how many ticks the front hasn't moved since
abbrev pub in_vain : Option Ticks → ℕ
in_vain None = 0
in_vain (Some ticks) = ticks.in_vain

-- what is left of the doubled wait since the last tick, where that was in vain
abbrev pub again : ℕ → Option Ticks → ℕ → ℕ → ℕ
again time None wait most = 0
again time (Some ticks) wait most = if ticks.in_vain == 0 then 0 else left time ticks.last (doubled wait ticks.in_vain most)

-- what is left of the space between two ticks
abbrev pub spaced : ℕ → Option Ticks → ℕ
spaced time None = 0
spaced time (Some ticks) = left time ticks.last SPACE
