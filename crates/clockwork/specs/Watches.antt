-- What is seen of the node of a process, and since when.
use Rattle.std.specs.Prelude.{◌≡◌, ℕ, ◌+◌, ◌-◌, ◌==◌, ◌&&◌, ◌||◌, not, min, max, Bool, true, false, if◌then◌else◌, nat_lt, List, Option, Some, None}
use Rattle.std.specs.Borrow.{Bor}
use Rattle.clockwork.specs.declared.known.Ticks.{Ticks}
use Rattle.clockwork.specs.declared.known.Peer.{Peer}
use Rattle.clockwork.specs.declared.known.Known.{Known}
use Rattle.clockwork.specs.declared.watch.Seen.{Seen}
use Rattle.clockwork.specs.declared.watch.Watch.{Watch}
use Rattle.clockwork.specs.declared.limits.TheConstants.{LEAP}
use Rattle.clockwork.specs.Measuring.{fresh, noted, lately}
use Rattle.clockwork.specs.LateTurns.{punctual, late_after, counted_of}

abbrev pub watch_of : Seen → ℕ → Watch
watch_of seen now = record { seen = seen; moved = now; promised_since = now; was_led = seen.campaigns; work_since = None; behind_since = None; ticks = None; calls = fresh; lateness = punctual }

abbrev pub is_same : Option ℕ → Option ℕ → Bool
is_same (Some one) (Some other) = one == other
is_same None None = true
is_same (Some one) None = false
is_same None (Some other) = false

-- ticks of which none was in vain
abbrev pub quiet : Option Ticks → Option Ticks
quiet None = None
quiet (Some ticks) = Some (record { last = ticks.last; in_vain = 0 })

-- since when something is so: the earlier moment, or the present one
abbrev pub begun : Option ℕ → ℕ → ℕ
begun None now = now
begun (Some moment) now = moment

abbrev pub since : Option ℕ → Bool → ℕ → Option ℕ
since earlier so now = if so then Some (begun earlier now) else None

-- behind a call that took so long
abbrev pub seen_at : Watch → Seen → ℕ → ℕ → Watch
seen_at w seen took now = record {
  seen = seen;
  moved = if seen.front == w.seen.front then w.moved else now;
  promised_since = if is_same seen.promised w.seen.promised then w.promised_since else now;
  was_led = w.was_led || seen.campaigns;
  work_since = w.work_since;
  behind_since = w.behind_since;
  ticks = if seen.front == w.seen.front then w.ticks else quiet w.ticks;
  calls = noted w.calls took now;
  lateness = w.lateness;
}

-- since when a node that is behind waits: it read nothing in a sleep, so its wait goes on where it was, from where its front moved if that was later
abbrev pub put_off : Option ℕ → (moved lost now : ℕ) → Option ℕ
put_off None moved lost now = None
put_off (Some moment) moved lost now = Some (if nat_lt LEAP lost then min now (max moment moved + lost) else moment)

-- a turn came so much later than it was to: what counts of that counts as a call, and a node that is behind doesn't wait while it sleeps
abbrev pub passed_in : Watch → (lost now : ℕ) → Watch
passed_in w lost now = record w {
  lateness = late_after w.lateness lost now;
  calls = noted w.calls (counted_of (late_after w.lateness lost now)) now;
  behind_since = put_off w.behind_since w.moved lost now;
}

-- work counts while the node isn't behind
abbrev pub stood : Watch → Bool → Bool → ℕ → Watch
stood w work behind now = record w { work_since = since w.work_since (work && not behind) now; behind_since = since w.behind_since behind now }

-- how many ticks were in vain, with the one that comes now
abbrev pub next_in_vain : Option Ticks → ℕ
next_in_vain None = 1
next_in_vain (Some ticks) = min 255 (ticks.in_vain + 1)

abbrev pub ticked_at : Watch → ℕ → Watch
ticked_at w now = record w { ticks = Some (record { last = now; in_vain = next_in_vain w.ticks }) }

-- what is known at this moment, with these peers
abbrev pub known_of : Watch → ℕ → Bor (List Peer) → ℕ → Known
known_of w number peers now = record {
  time = now;
  number = number;
  peers = peers;
  front = w.seen.front;
  moved = w.moved;
  promised = w.seen.promised;
  promised_since = w.promised_since;
  campaigns = w.seen.campaigns;
  was_led = w.was_led;
  over = w.seen.over;
  hand_runs = w.seen.hand_runs;
  act_waits = w.seen.act_waits;
  vote_waits = w.seen.vote_waits;
  work_since = begun w.work_since now;
  behind_since = begun w.behind_since now;
  ticks = w.ticks;
  longest_call = lately w.calls now;
}

-- ---- what holds of it

-- for how long a node that is behind has waited: since it became that, or its front moved
abbrev pub waited : Watch → ℕ → ℕ
waited w now = now - max (begun w.behind_since now) w.moved

-- what is lost in a sleep
abbrev pub slept_of : ℕ → ℕ
slept_of lost = if nat_lt LEAP lost then lost else 0

-- of what went by it has waited for all but its sleeps
abbrev pub WaitsAwake : Watch → (lost now : ℕ) → Type 0
WaitsAwake w lost now = waited (passed_in w lost now) now ≡ waited w now - slept_of lost
