-- When a peer is dialled, and when a connection that isn't open is given up.
use Rattle.std.specs.Prelude.{◌≡◌, ℕ, ◌+◌, ◌-◌, ◌%◌, ◌==◌, ◌<◌, ◌≤◌, nat_le, Bool, true, false, if◌then◌else◌, Option, Some, None}
use Rattle.node_links.specs.declared.limits.TheConstants.{CONNECT, DIALS, GREET, LONG_CONNECT, LOOK, REDIAL}
use Rattle.node_links.specs.declared.dial.Dial.{Dial}
use Rattle.node_links.specs.declared.dial.Dial.TheVariants as dials
use Rattle.node_links.specs.declared.dial.DialDue.{DialDue}
use Rattle.node_links.specs.declared.dial.DialDue.TheVariants as dues

-- this, once so long has passed since then
abbrev pub after_pause : ℕ → ℕ → ℕ → DialDue → DialDue
after_pause since pause now what = if nat_le pause (now - since) then what else dues.Nothing (pause - (now - since))

-- how long a dial waits for an answer: of four that aren't answered one for long
abbrev pub connect_wait : ℕ → ℕ
connect_wait unanswered = if unanswered % DIALS == DIALS - 1 then LONG_CONNECT else CONNECT

abbrev pub due_of : Dial → ℕ → DialDue
due_of (dials.Waits since pause) now = after_pause since pause now dues.Dial
due_of (dials.Dialled since most) now = after_pause since most now dues.GiveUp
due_of (dials.Answered since at) now = after_pause at GREET now dues.GiveUp
due_of (dials.Open since) now = dues.Nothing LOOK

-- the dial is answered, and the Hello is awaited from now on
abbrev pub answered_dial : Dial → ℕ → Dial
answered_dial (dials.Dialled since most) now = dials.Answered since now
answered_dial (dials.Waits since pause) now = dials.Waits since pause
answered_dial (dials.Answered since at) now = dials.Answered since at
answered_dial (dials.Open since) now = dials.Open since

-- what was dialled is open
abbrev pub opened_dial : Dial → Dial
opened_dial (dials.Dialled since most) = dials.Open since
opened_dial (dials.Answered since at) = dials.Open since
opened_dial (dials.Waits since pause) = dials.Waits since pause
opened_dial (dials.Open since) = dials.Open since

-- the next dial is so long after the last one
abbrev pub redialled : Dial → Dial
redialled (dials.Waits since pause) = dials.Waits since pause
redialled (dials.Dialled since most) = dials.Waits since REDIAL
redialled (dials.Answered since at) = dials.Waits since REDIAL
redialled (dials.Open since) = dials.Waits since REDIAL

-- and where a pause is given so long after the end
abbrev pub ended_dial : Dial → ℕ → Option ℕ → Dial
ended_dial d now None = redialled d
ended_dial d now (Some pause) = dials.Waits now pause

-- since when it is so: since it was dialled, that was answered, or it ended
abbrev pub since_of : Dial → ℕ
since_of (dials.Answered since at) = at
since_of (dials.Waits since pause) = since
since_of (dials.Dialled since most) = since
since_of (dials.Open since) = since

abbrev pub is_open : Dial → Bool
is_open (dials.Open since) = true
is_open (dials.Waits since pause) = false
is_open (dials.Dialled since most) = false
is_open (dials.Answered since at) = false

-- something is due
abbrev pub IsDue : DialDue → Type 0
IsDue dues.Dial = Unit {0}
IsDue dues.GiveUp = Unit {0}
IsDue (dues.Nothing wait) = ⊥

-- what is to be waited for is due when the wait is over, and not before
abbrev pub WaitsEnd : Type 0
WaitsEnd = (d : Dial) (now wait : ℕ) → is_open d ≡ false → since_of d ≤ now → due_of d now ≡ dues.Nothing wait
    → IsDue (due_of d (now + wait)) × ((early : ℕ) → early < now + wait → IsDue (due_of d early) → ⊥)

-- when what is there was dialled
abbrev pub dialled_in : Dial → Option ℕ
dialled_in (dials.Dialled since most) = Some since
dialled_in (dials.Answered since at) = Some since
dialled_in (dials.Open since) = Some since
dialled_in (dials.Waits since pause) = None

-- a peer is dialled again so long after it was dialled last
abbrev pub DialsAreApart : Type 0
DialsAreApart = (d : Dial) (since ended later : ℕ) → dialled_in d ≡ Some since → due_of (ended_dial d ended None) later ≡ dues.Dial → REDIAL ≤ later - since

-- and where there is a pause so long after the end
abbrev pub PausesAreKept : Type 0
PausesAreKept = (d : Dial) (ended pause later : ℕ) → due_of (ended_dial d ended (Some pause)) later ≡ dues.Dial → pause ≤ later - ended
