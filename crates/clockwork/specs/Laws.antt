-- What holds of every tick, and that each tick that is needed comes.
use Rattle.std.specs.Prelude.{◌≡◌, ◌⊎◌, ℕ, ◌+◌, ◌-◌, ◌*◌, ◌<◌, ◌≤◌, max, Bool, true, false, not, ◌&&◌, ◌||◌, if◌then◌else◌, map, Option, Some, None, IfSome, All}
use Rattle.clockwork.specs.declared.known.Ticks.{Ticks}
use Rattle.clockwork.specs.declared.known.PeerReport.{PeerReport}
use Rattle.clockwork.specs.declared.known.Link.{Link}
use Rattle.clockwork.specs.declared.known.Link.TheVariants.{Closed, Open}
use Rattle.clockwork.specs.declared.known.Peer.{Peer}
use Rattle.clockwork.specs.declared.known.Known.{Known}
use Rattle.clockwork.specs.declared.answer.Due.TheVariants.{Now}
use Rattle.clockwork.specs.declared.limits.TheConstants.{MOST_HELP, STEP, BEHIND}
use Rattle.clockwork.specs.Silence.{is_heard}
use Rattle.clockwork.specs.Waits.{doubled, in_vain}
use Rattle.clockwork.specs.Presence.{pace_of, most_of, silence_of, lag_of, soon_of, present, is_quorate, is_behind, behind_wait}
use Rattle.clockwork.specs.Work.{has_work, one_reopened, is_untold}
use Rattle.clockwork.specs.Helping.{one_lags}
use Rattle.clockwork.specs.Teaching.{told_by_leader, is_taught}
use Rattle.clockwork.specs.Dues.{slow_in, due_of}

-- by all that is known
abbrev pub quorate : Known → Bool
quorate known = is_quorate known.time (slow_in known) known.peers.now

abbrev pub behind : Known → Bool
behind known = is_behind known.time (slow_in known) known.front known.peers.now

-- the node learns what was chosen before: its match isn't over, and a vote of its own stands at its front, or it is behind
abbrev pub replays : Known → Bool
replays known = not known.over && (known.vote_waits || behind known)

-- the node whose ballot it has promised is present, its match goes on, and its front is above this node's and has risen within the wait for answers
abbrev pub taught : Known → Bool
taught known = is_taught known (slow_in known)

abbrev pub lags : Known → Bool
lags known = one_lags known (slow_in known)

-- ---- every tick

-- the last tick, if any, was so long ago at least
abbrev pub LongAgo : ℕ → Option Ticks → ℕ → Type 0
LongAgo time None wait = Unit {0}
LongAgo time (Some ticks) wait = wait ≤ time - ticks.last

-- where the front hasn't moved since the last tick, that was as long ago as this wait when doubled
abbrev pub HasWaited : Known → Option Ticks → ℕ → ℕ → Type 0
HasWaited known None wait most = Unit {0}
HasWaited known (Some ticks) wait most = 0 < ticks.in_vain → doubled wait ticks.in_vain most ≤ known.time - ticks.last

abbrev pub behind_wait_in : Known → ℕ
behind_wait_in known = behind_wait known.time (slow_in known) known.front known.peers.now

-- why a node ticks, and after which doubled wait; where it has work, also because a connection opened since its last tick, unless two were in
-- vain; where its act never went on to the node whose ballot is promised, after a shorter one
pub data IsReason (known : Known) : Type 0 where
  to_catch_up : behind known ≡ true → taught known ≡ false → HasWaited known known.ticks (behind_wait_in known) (most_of (slow_in known)) → IsReason known
  for_a_peer : behind known ≡ false → lags known ≡ true → HasWaited known known.ticks (lag_of (slow_in known)) MOST_HELP → IsReason known
  to_work : behind known ≡ false → has_work known ≡ true → (HasWaited known known.ticks (pace_of (slow_in known)) (most_of (slow_in known)) ⊎ ((one_reopened known ≡ true) × (in_vain known.ticks ≤ 1))) → IsReason known
  to_be_heard : behind known ≡ false → is_untold known ≡ true → HasWaited known known.ticks (soon_of (slow_in known)) (most_of (slow_in known)) → IsReason known

-- ---- each tick that is needed

-- what is known of a peer lies behind
abbrev pub IsBeatPast : ℕ → Option PeerReport → Type 0
IsBeatPast time None = Unit {0}
IsBeatPast time (Some beat) = (beat.below ≤ time) × ((beat.told ≤ time) × (beat.risen ≤ time))

abbrev pub IsLinkPast : ℕ → Link → Type 0
IsLinkPast time (Closed since) = since ≤ time
IsLinkPast time (Open connection) = (connection.heard ≤ time) × IsBeatPast time connection.beat

-- no moment that is known lies ahead
pub record IsPast (known : Known) : Type 0 where
  pub moved : known.moved ≤ known.time
  pub promised_since : known.promised_since ≤ known.time
  pub work_since : known.work_since ≤ known.time
  pub behind_since : known.behind_since ≤ known.time
  pub ticks : IfSome known.ticks (λ ticks. ticks.last ≤ known.time)
  pub peers : All (λ peer. IsLinkPast known.time peer.link) known.peers.now

-- the longest that a tick which is needed waits: the doubled wait for answers or of a node that is behind, and a step for each present peer
abbrev pub longest_wait : Known → ℕ
longest_wait known = doubled (max BEHIND (pace_of (slow_in known))) (in_vain known.ticks) (most_of (slow_in known)) + STEP * present known.time (slow_in known) known.peers.now

-- a peer that wasn't silent for too long is heard again at a later moment
abbrev pub heard_again : (time slow later : ℕ) → Link → Link
heard_again time slow later (Closed since) = Closed since
heard_again time slow later (Open connection) =
    if is_heard connection.heard time (silence_of slow) then Open (record connection { heard = later }) else Open connection

abbrev pub peer_at : (time slow later : ℕ) → Peer → Peer
peer_at time slow later peer = record peer { link = heard_again time slow later peer.link }

abbrev pub known_at : Known → ℕ → Known
known_at known later = record known { time = later; peers = record known.peers { now = map (peer_at known.time (slow_in known) later) known.peers.now } }

-- after that wait, when nothing else has come to be known but that the present peers are heard
abbrev pub after_the_wait : Known → Known
after_the_wait known = known_at known (known.time + longest_wait known)

-- a tick is needed where there is work, a peer lags, or the node is behind
abbrev pub IsNeeded : Known → Type 0
IsNeeded known = (behind known ≡ true) ⊎ ((has_work known ≡ true) ⊎ (lags known ≡ true))

-- where a quorate node needs a tick, one is due after that wait
abbrev pub ComesInTime : Known → Type 0
ComesInTime known = IsPast known → quorate known ≡ true → IsNeeded known → due_of (after_the_wait known) ≡ Now

-- when the front last rose that the node told whose ballot is promised
abbrev pub rise_of : Option PeerReport → ℕ
rise_of None = 0
rise_of (Some report) = report.risen

abbrev pub risen : Known → ℕ
risen known = rise_of (told_by_leader known (slow_in known) known.promised)

abbrev pub last_tick : Option Ticks → ℕ
last_tick None = 0
last_tick (Some ticks) = ticks.last

-- the latest of the moments since which a node that is behind waits: it became that, its front moved, its leader's rose, and it ticked
abbrev pub waits_from : Known → ℕ
waits_from known = max (max known.behind_since known.moved) (max (risen known) (last_tick known.ticks))

-- where a quorate node is behind, and that lies as far back as no tick waits longer, one is due: a leader whose front stands holds up nobody
abbrev pub ComesOnceFrontsStand : Known → Type 0
ComesOnceFrontsStand known = quorate known ≡ true → behind known ≡ true → longest_wait known ≤ known.time - waits_from known → due_of known ≡ Now
