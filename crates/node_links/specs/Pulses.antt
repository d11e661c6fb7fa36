-- When a beat is due, what it says, and what is measured by the peer's.
use Rattle.std.specs.Prelude.{ℕ, ◌+◌, ◌-◌, nat_le, min, if◌then◌else◌, Option, Some, None}
use Rattle.peer_codes.specs.declared.beat.Beat.{Beat}
use Rattle.node_links.specs.declared.limits.TheConstants.{BEAT}
use Rattle.node_links.specs.declared.pulse.OwnReport.{OwnReport}
use Rattle.node_links.specs.declared.pulse.Probe.{Probe}
use Rattle.node_links.specs.declared.pulse.Pulse.{Pulse}

abbrev pub wait_since : Option ℕ → ℕ → ℕ
wait_since None now = 0
wait_since (Some at) now = BEAT - (now - at)

-- at once where none was told, and else so long after the last one
abbrev pub wait_of : Pulse → ℕ → ℕ
wait_of p now = wait_since p.told now

-- numbers go up by one as far as four bytes hold
abbrev pub next_number : Pulse → ℕ
next_number p = min 4294967295 (p.number + 1)

-- a beat has the next number, and the number of the last that came
abbrev pub beat_of : Pulse → OwnReport → Beat
beat_of p told = record { number = next_number p; got = p.got; front = told.front; campaigns = told.campaigns; over = told.over; seats = told.seats }

-- the one whose answer is awaited already, or else the one that is told now
abbrev pub probe_at : Option Probe → ℕ → ℕ → Option Probe
probe_at None number now = Some (record { number = number; at = now })
probe_at (Some probe) number now = Some probe

abbrev pub told_at : Pulse → ℕ → Pulse
told_at p now = record { number = next_number p; got = p.got; told = Some now; probe = probe_at p.probe (next_number p) now; round_trip = p.round_trip }

-- how long the way took, where a beat answers the one that is awaited
abbrev pub passed_in : Option Probe → Beat → ℕ → Option ℕ
passed_in None beat now = None
passed_in (Some probe) beat now = if nat_le probe.number beat.got then Some (now - probe.at) else None

abbrev pub measured : Pulse → ℕ → Option ℕ → Pulse
measured p got None = record p { got = got }
measured p got (Some passed) = record p { got = got; probe = None; round_trip = Some passed }

abbrev pub heard_at : Pulse → Beat → ℕ → Pulse
heard_at p beat now = measured p beat.number (passed_in p.probe beat now)
