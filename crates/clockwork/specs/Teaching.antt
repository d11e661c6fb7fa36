-- A node that is behind, and is told what it lacks by the node whose ballot it has promised.
use Rattle.std.specs.Prelude.{ℕ, ◌-◌, ◌==◌, Bool, false, not, ◌&&◌, if◌then◌else◌, nat_lt, Option, Some, None, find}
use Rattle.clockwork.specs.declared.known.PeerReport.{PeerReport}
use Rattle.clockwork.specs.declared.known.Peer.{Peer}
use Rattle.clockwork.specs.declared.known.Known.{Known}
use Rattle.clockwork.specs.Waits.{left}
use Rattle.clockwork.specs.Presence.{told, pace_of}

abbrev pub told_over : ℕ → ℕ → Option Peer → Option PeerReport
told_over time slow None = None
told_over time slow (Some peer) = told time slow peer.link

-- what the node whose ballot is promised told, where it is a peer and present
unfoldable pub told_by_leader : Known → ℕ → Option ℕ → Option PeerReport
told_by_leader known slow None = None
told_by_leader known slow (Some leader) = told_over known.time slow (find (λ peer. peer.number == leader) known.peers.now)

-- its front is above this one, its match goes on, and its front has risen within the wait for answers: each of its frames has the node ask for what it lacks
unfoldable pub teaches : (time slow front : ℕ) → Option PeerReport → Bool
teaches time slow front None = false
teaches time slow front (Some report) = nat_lt front report.front && (not report.over && nat_lt (time - report.risen) (pace_of slow))

-- what is left of that
unfoldable pub teaching_left : (time slow front : ℕ) → Option PeerReport → ℕ
teaching_left time slow front None = 0
teaching_left time slow front (Some report) = if nat_lt front report.front && not report.over then left time report.risen (pace_of slow) else 0

unfoldable pub is_taught : Known → ℕ → Bool
is_taught known slow = teaches known.time slow known.front (told_by_leader known slow known.promised)

unfoldable pub taught_left : Known → ℕ → ℕ
taught_left known slow = teaching_left known.time slow known.front (told_by_leader known slow known.promised)
