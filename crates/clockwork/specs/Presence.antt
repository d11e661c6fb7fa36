-- Who is present, and how long the slowest took.
use Rattle.std.specs.Prelude.{ℕ, ◌+◌, ◌*◌, min, max, Bool, false, not, ◌&&◌, if◌then◌else◌, nat_lt, List, length, Option, Some, None, is_some, fold, count_by}
use Rattle.std.specs.List.{list_any}
use Rattle.clockwork.specs.declared.known.PeerReport.{PeerReport}
use Rattle.clockwork.specs.declared.known.Link.{Link}
use Rattle.clockwork.specs.declared.known.Link.TheVariants.{Closed, Open}
use Rattle.clockwork.specs.declared.known.Peer.{Peer}
use Rattle.clockwork.specs.declared.limits.TheConstants.{SHORTEST, LONGEST, SLACK, DOUBLED, SILENT, MOST_SILENT, LAG, STEP, ALONE, BEHIND}
use Rattle.clockwork.specs.Silence.{is_heard}

-- the longest of the last minute: of the node's own calls, and of what each peer took
unfoldable pub slowest : ℕ → List Peer → ℕ
slowest longest_call peers = fold (λ most peer. max most peer.longest) longest_call peers

-- eight times as long, from one second to 256: how long a node waits for answers and for the lead of another at first
unfoldable pub pace_of : ℕ → ℕ
pace_of slow = min LONGEST (max SHORTEST (SLACK * slow))

-- up to eight times that, and 256 seconds, waits are doubled
unfoldable pub most_of : ℕ → ℕ
most_of slow = min LONGEST (DOUBLED * pace_of slow)

-- twice as long, from one second to 64: how long a present peer is silent at most
unfoldable pub silence_of : ℕ → ℕ
silence_of slow = min MOST_SILENT (max SHORTEST (SILENT * slow))

-- twice as long, from 200 milliseconds to 64 seconds: how long the front of a peer that no repeat reaches has been below when it lags
unfoldable pub lag_of : ℕ → ℕ
lag_of slow = min MOST_SILENT (max LAG (2 * slow))

-- as long, from a step to 64 seconds: how long a node leaves a matter to another that knows of it and ticks at once
unfoldable pub soon_of : ℕ → ℕ
soon_of slow = min MOST_SILENT (max STEP slow)

-- what a peer told, where it is present: its connection is open, it wasn't silent for too long, and it told its front over it
unfoldable pub told : ℕ → ℕ → Link → Option PeerReport
told time slow (Closed since) = None
told time slow (Open connection) = if is_heard connection.heard time (silence_of slow) then connection.beat else None

-- how many peers are present
unfoldable pub present : ℕ → ℕ → List Peer → ℕ
present time slow peers = count_by (λ peer. is_some (told time slow peer.link)) peers

-- the node and these are more than half of all
unfoldable pub is_quorate : ℕ → ℕ → List Peer → Bool
is_quorate time slow peers = nat_lt (1 + length peers) (2 * (1 + present time slow peers))

-- a present peer's front is above this one
unfoldable pub is_above : ℕ → Option PeerReport → Bool
is_above front None = false
is_above front (Some beat) = nat_lt front beat.front

-- some present peer's front is above the node's
unfoldable pub is_behind : ℕ → ℕ → ℕ → List Peer → Bool
is_behind time slow front peers = list_any (λ peer. is_above front (told time slow peer.link)) peers

-- a present peer is ahead of this front, and its match goes on: a tick at a node whose match is over does nothing
unfoldable pub can_help : ℕ → Option PeerReport → Bool
can_help front None = false
can_help front (Some beat) = nat_lt front beat.front && not beat.over

-- some peer can help
unfoldable pub one_can_help : ℕ → ℕ → ℕ → List Peer → Bool
one_can_help time slow front peers = list_any (λ peer. can_help front (told time slow peer.link)) peers

-- how long a node that is behind waits at first: no less than until a peer lags
abbrev pub behind_wait : ℕ → ℕ → ℕ → List Peer → ℕ
behind_wait time slow front peers = max (lag_of slow) (if one_can_help time slow front peers then BEHIND else ALONE)
