-- Whether a node is to tick.
use Rattle.std.specs.Prelude.{ℕ, ◌+◌, ◌==◌, min, max, if◌then◌else◌}
use Rattle.clockwork.specs.declared.known.Known.{Known}
use Rattle.clockwork.specs.declared.answer.Due.{Due}
use Rattle.clockwork.specs.declared.answer.Due.TheVariants.{Now, Nothing}
use Rattle.clockwork.specs.declared.limits.TheConstants.{LOOK}
use Rattle.clockwork.specs.Waits.{left, again, spaced}
use Rattle.clockwork.specs.Presence.{slowest, most_of, is_quorate, is_behind, behind_wait}
use Rattle.clockwork.specs.Work.{has_work, steps_by_number, work_left}
use Rattle.clockwork.specs.Standings.{standing}
use Rattle.clockwork.specs.Helping.{help_left}
use Rattle.clockwork.specs.Teaching.{taught_left}

-- a tick where nothing is left, else the next look
unfoldable pub due_in : ℕ → ℕ → Due
due_in time left = if left == 0 then Now else Nothing (time + min left LOOK)

abbrev pub behind_left_by : Known → ℕ → ℕ → ℕ
behind_left_by known slow wait =
    max (max (left known.time (max known.behind_since known.moved) (wait + steps_by_number known slow)) (again known.time known.ticks wait (most_of slow)))
    (taught_left known slow)

-- what is left for a node that is behind: nothing comes of it while the node whose ballot it has promised tells it what it lacks
unfoldable pub behind_left : Known → ℕ → ℕ
behind_left known slow = behind_left_by known slow (behind_wait known.time slow known.front known.peers.now)

-- what is left for a quorate node: where it is behind, by that alone; else for the first of a peer that lags and its work
unfoldable pub awaited : Known → ℕ → ℕ
awaited known slow =
    if is_behind known.time slow known.front known.peers.now then behind_left known slow
    else if has_work known then min (help_left known slow) (work_left known slow (standing known slow known.promised))
    else help_left known slow

-- how long the slowest took, by all that is known
abbrev pub slow_in : Known → ℕ
slow_in known = slowest known.longest_call known.peers.now

abbrev pub due_by : Known → ℕ → Due
due_by known slow =
    if is_quorate known.time slow known.peers.now then due_in known.time (max (awaited known slow) (spaced known.time known.ticks))
    else due_in known.time LOOK

unfoldable pub due_of : Known → Due
due_of known = due_by known (slow_in known)
