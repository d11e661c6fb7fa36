-- Peers that lag, and the tick that is for them: by a Prepare at this node's front they ask, and are told all.
use Rattle.std.specs.Prelude.{ℕ, ◌+◌, ◌-◌, ◌*◌, ◌==◌, min, max, Bool, false, not, if◌then◌else◌, nat_lt, List, Option, Some, None, fold}
use Rattle.std.specs.List.{list_any}
use Rattle.clockwork.specs.declared.known.PeerReport.{PeerReport}
use Rattle.clockwork.specs.declared.known.Peer.{Peer}
use Rattle.clockwork.specs.declared.known.Known.{Known}
use Rattle.clockwork.specs.declared.helping.Wait.{Wait}
use Rattle.clockwork.specs.declared.limits.TheConstants.{STEP, MOST_HELP, LOOK}
use Rattle.clockwork.specs.Waits.{left, again}
use Rattle.clockwork.specs.Presence.{told, pace_of, lag_of}
use Rattle.clockwork.specs.Ranks.{rank_as_far}

-- how long a peer's front has been below the node's without having moved when it lags: by the slot of the Accepted that is sent to it again, which makes it ask where it is
-- above its front
unfoldable pub lag_within : ℕ → Option ℕ → ℕ → Option ℕ
lag_within slow None front = Some (lag_of slow)
lag_within slow (Some slot) front = if nat_lt slot front then Some (lag_of slow) else if slot == front then Some (pace_of slow) else None

abbrev pub waits_since : ℕ → Option ℕ → Option Wait
waits_since since None = None
waits_since since (Some length) = Some (record { since = since; length = length })

-- the wait after which a peer lags, where one runs: it is present, its front is below the node's, and no repeat makes it ask
unfoldable pub lagging : ℕ → ℕ → Option ℕ → Option PeerReport → Option Wait
lagging slow front accepted None = None
lagging slow front accepted (Some beat) = if nat_lt beat.front front then waits_since beat.below (lag_within slow accepted beat.front) else None

-- it has passed
unfoldable pub has_passed : ℕ → Option Wait → Bool
has_passed time None = false
has_passed time (Some wait) = not (nat_lt (time - wait.since) wait.length)

-- some peer lags
unfoldable pub one_lags : Known → ℕ → Bool
one_lags known slow = list_any (λ peer. has_passed known.time (lagging slow known.front peer.accepted (told known.time slow peer.link))) known.peers.now

-- what is left of a wait that is so much longer; where none runs, the time until the next look
unfoldable pub lagging_left : ℕ → ℕ → Option Wait → ℕ
lagging_left time more None = LOOK
lagging_left time more (Some wait) = left time wait.since (wait.length + more)

-- the least of what is left
unfoldable pub least_left : ℕ → ℕ → ℕ → ℕ → List Peer → ℕ
least_left time slow front more peers = fold (λ least peer. min least (lagging_left time more (lagging slow front peer.accepted (told time slow peer.link)))) LOOK peers

-- one node after another among those whose front is greatest, and again after the doubled wait
unfoldable pub help_left : Known → ℕ → ℕ
help_left known slow =
    max (least_left known.time slow known.front (STEP * rank_as_far known.time slow known.front known.number known.peers.now) known.peers.now)
    (again known.time known.ticks (lag_of slow) MOST_HELP)
