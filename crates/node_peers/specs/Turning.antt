-- How a peer is dialled next.
use Rattle.std.specs.Prelude.{ℕ, Bool, true, false, not, List, Option, Some, None, slice_get}
use Rattle.peer_codes.specs.declared.version.Version.{Version}
use Rattle.peer_codes.specs.declared.version.Version.TheVariants.{First, Second}
use Rattle.node_links.specs.declared.dial.Dial.{Dial}
use Rattle.node_links.specs.declared.dial.Dial.TheVariants as dials
use Rattle.node_links.specs.declared.dial.DialDue.{DialDue}
use Rattle.node_links.specs.declared.dial.DialDue.TheVariants as dues
use Rattle.node_links.specs.declared.turning.DialEnd.TheVariants as ends
use Rattle.node_links.specs.declared.turning.Turn.{Turn}
use Rattle.node_links.specs.Dialling.{due_of}
use Rattle.node_links.specs.Versions.{version_of, is_probe, closed_end, next_turn}
use Rattle.node_peers.specs.declared.peer.Peer.{Peer}
use Rattle.node_peers.specs.Lines.{line_at, dialled_over}

-- the dial that is there ends: the other closed it without a byte or didn't, and a Hello of this version came first, if one did
abbrev pub turn_after : Dial → Turn → Bool → Option Version → Turn
turn_after (dials.Waits since pause) turn silent said = turn
turn_after (dials.Dialled since most) turn silent said = next_turn turn ends.Failed
turn_after (dials.Answered since at) turn silent said = next_turn turn (closed_end silent said)
turn_after (dials.Open since) turn silent said = next_turn turn ends.Failed

-- what isn't given up ended by itself
abbrev pub ends_silent : DialDue → Bool → Bool
ends_silent dues.GiveUp come = false
ends_silent dues.Dial come = not come
ends_silent (dues.Nothing wait) come = not come

-- a dial that was answered is closed by the other before anything came
abbrev pub is_silent : Dial → ℕ → Bool → Bool
is_silent (dials.Answered since at) now come = ends_silent (due_of (dials.Answered since at) now) come
is_silent (dials.Waits since pause) now come = false
is_silent (dials.Dialled since most) now come = false
is_silent (dials.Open since) now come = false

abbrev pub is_first : Option Version → Bool
is_first None = false
is_first (Some First) = true
is_first (Some Second) = false

abbrev pub older_by : Version → Option Version → Bool
older_by First said = false
older_by Second said = is_first said

-- a dial in the second version was answered by a Hello of the first
abbrev pub shows_older : Turn → Option Version → Bool
shows_older turn said = older_by (version_of turn) said

-- in which version a peer is dialled
abbrev pub version_in : Option Peer → Version
version_in None = Second
version_in (Some peer) = version_of peer.turn

-- ---- probes

abbrev pub probe_in : Option Peer → Bool
probe_in None = false
probe_in (Some peer) = is_probe peer.turn

abbrev pub probed_over : Option ℕ → List Peer → Bool
probed_over None peers = false
probed_over (Some number) peers = probe_in (slice_get peers number)

-- at this place a peer is dialled to learn only whether a node is there
abbrev pub is_probed : ℕ → List Peer → Bool
is_probed place peers = probed_over (dialled_over (line_at place)) peers
