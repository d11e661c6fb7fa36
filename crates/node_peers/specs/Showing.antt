-- What a peer is known to have promised, and what it shows of that.
use Rattle.std.specs.Prelude.{ℕ, ◌-◌, ◌==◌, ◌&&◌, nat_lt, Bool, if◌then◌else◌, Option, Some, None, is_none}
use Rattle.paxos_wire.specs.declared.ballot.Ballot.{Ballot}
use Rattle.node_links.specs.Promising.{promise_in, promises_less, higher}
use Rattle.node_links.specs.Waits.{Waits}
use Rattle.node_peers.specs.declared.notice.Notice.{Notice}
use Rattle.node_peers.specs.declared.notice.Notice.TheVariants as notices
use Rattle.node_peers.specs.declared.peer.Peer.{Peer}

-- more is known than a Hello promises
abbrev pub older_than : Option Ballot → Option Ballot → Option Ballot
older_than known promised = if promises_less promised known then known else None

abbrev pub told_ballot : Option Ballot → Waits → Waits
told_ballot None w = w
told_ballot (Some ballot) w = record w { promised = Some ballot }

-- then it waits for the peer
abbrev pub tells_older : Option Ballot → Option Ballot → Waits → Waits
tells_older known promised w = told_ballot (older_than known promised) w

-- it was gone before this moment, and all that is known was shown more than so long before
abbrev pub had_shown : Peer → ℕ → ℕ → Bool
had_shown peer age began = is_none peer.open && nat_lt peer.since began && nat_lt age (began - peer.rose)

abbrev pub promised_in : Option Peer → Option Ballot
promised_in None = None
promised_in (Some peer) = peer.promised

-- and where this is shown besides
abbrev pub raised_in : Option Peer → Option Ballot → Option Ballot
raised_in None shown = None
raised_in (Some peer) shown = higher peer.promised shown

-- the same where one of them shows this
abbrev pub shown_in : ℕ → Option Ballot → ℕ → Option Peer → Option Ballot
shown_in from shown number peer = if number == from then raised_in peer shown else promised_in peer

-- a frame that is told may show something of its node, and nothing else does
abbrev pub shown_of : Notice → ℕ → Option Peer → Option Ballot
shown_of (notices.Frame from frame) number peer = shown_in from (promise_in frame.bytes.items) number peer
shown_of (notices.Joined from life) number peer = promised_in peer
shown_of (notices.Gone from) number peer = promised_in peer
shown_of (notices.Refused from fault source) number peer = promised_in peer
shown_of (notices.Unreached from refuses) number peer = promised_in peer
shown_of (notices.Strangers from count fault) number peer = promised_in peer
shown_of (notices.Settings from settings) number peer = promised_in peer

abbrev pub shown_by : Option Notice → ℕ → Option Peer → Option Ballot
shown_by None number peer = promised_in peer
shown_by (Some notice) number peer = shown_of notice number peer
