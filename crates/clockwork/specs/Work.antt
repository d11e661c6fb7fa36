-- What is left until a node with work is to tick.
use Rattle.std.specs.Prelude.{ℕ, ◌+◌, ◌*◌, max, Bool, true, false, not, ◌&&◌, ◌||◌, if◌then◌else◌, nat_lt, List, Option, Some, None}
use Rattle.std.specs.List.{list_any}
use Rattle.clockwork.specs.declared.known.Ticks.{Ticks}
use Rattle.clockwork.specs.declared.known.Link.{Link}
use Rattle.clockwork.specs.declared.known.Link.TheVariants.{Closed, Open}
use Rattle.clockwork.specs.declared.known.PeerReport.{PeerReport}
use Rattle.clockwork.specs.declared.known.Peer.{Peer}
use Rattle.clockwork.specs.declared.known.Known.{Known}
use Rattle.clockwork.specs.declared.standing.Standing.{Standing}
use Rattle.clockwork.specs.declared.standing.Standing.TheVariants.{Campaigns, Fresh, Led, Lost, Idle, Follows}
use Rattle.clockwork.specs.declared.limits.TheConstants.{STEP}
use Rattle.clockwork.specs.Waits.{left, doubled, in_vain, again}
use Rattle.clockwork.specs.Ranks.{rank_by_number, rank_behind}
use Rattle.clockwork.specs.Presence.{told, pace_of, most_of, soon_of}
use Rattle.clockwork.specs.Standings.{is_campaign, is_follower}

-- the match isn't over, and an act waits, a vote of the node's own stands at its front, or no hand runs
unfoldable pub has_work : Known → Bool
has_work known = not known.over && (known.act_waits || (known.vote_waits || not known.hand_runs))

-- after the last tick
abbrev pub opened_since : Option Ticks → ℕ → Bool
opened_since None opened = true
opened_since (Some ticks) opened = nat_lt ticks.last opened

-- since the last tick a connection opened to a peer that owes an answer from before
unfoldable pub is_reopened : Option Ticks → Link → Bool
is_reopened ticks (Closed since) = false
is_reopened ticks (Open connection) = connection.unanswered && opened_since ticks connection.opened

unfoldable pub one_reopened : Known → Bool
one_reopened known = list_any (λ peer. is_reopened known.ticks peer.link) known.peers.now

-- a present peer told that it campaigns
unfoldable pub campaigns_by : Option PeerReport → Bool
campaigns_by None = false
campaigns_by (Some beat) = beat.campaigns

-- one step for each present peer that comes before the node: by number, or counted cyclically from behind a leader on
unfoldable pub steps_by_number : Known → ℕ → ℕ
steps_by_number known slow = STEP * rank_by_number known.time slow known.number known.peers.now

unfoldable pub steps_behind : Known → ℕ → ℕ → ℕ
steps_behind known slow leader = STEP * rank_behind known.time slow leader known.number known.peers.now

-- an act waits that went on to another node than the one whose ballot is promised now, or to none, and no vote stands where it would be
unfoldable pub is_untold : Known → Bool
is_untold known = known.act_waits && (not known.vote_waits && nat_lt known.work_since known.promised_since)

-- where the leader is there and campaigns no longer: that one has the act that went on to it, or sees that no hand runs, and ticks itself
unfoldable pub idle_wait : Known → ℕ → ℕ → ℕ
idle_wait known slow leader = if known.act_waits then soon_of slow else soon_of slow + steps_behind known slow leader

-- by how it stands to the node whose ballot it has promised
unfoldable pub row_left : Known → ℕ → Standing → ℕ
row_left known slow Campaigns = left known.time (max known.work_since known.moved) (doubled (pace_of slow) (in_vain known.ticks) (most_of slow))
row_left known slow Fresh = left known.time known.work_since (steps_by_number known slow)
row_left known slow Led = 0
row_left known slow (Lost leader since) =
    if known.act_waits then 0 else left known.time (max known.work_since since) (steps_behind known slow leader)
row_left known slow (Idle leader since) = left known.time (max known.work_since since) (idle_wait known slow leader)
row_left known slow (Follows leader) =
    left known.time (max known.work_since (max known.moved known.promised_since)) (doubled (pace_of slow) (in_vain known.ticks) (most_of slow) + steps_behind known slow leader)

-- some present peer told that it campaigns
unfoldable pub one_campaigns : ℕ → ℕ → List Peer → Bool
one_campaigns time slow peers = list_any (λ peer. campaigns_by (told time slow peer.link)) peers

-- a node whose only work is a vote leaves that to a peer that campaigns, or may do so where none was heard of yet, for as long as it leaves an
-- act to its leader
abbrev pub votes_alone : Known → Bool
votes_alone known = not known.act_waits && known.hand_runs

unfoldable pub yield_left : Known → ℕ → ℕ
yield_left known slow =
    if votes_alone known && (not known.was_led || one_campaigns known.time slow known.peers.now) then left known.time (max known.work_since known.moved) (doubled (pace_of slow) (in_vain known.ticks) (most_of slow) + steps_by_number known slow)
    else 0

-- where it campaigns and one who owes an answer from before is back: at once, but from the second tick in vain on after the doubled wait
unfoldable pub back_left : Known → ℕ → ℕ
back_left known slow = if nat_lt 1 (in_vain known.ticks) then again known.time known.ticks (pace_of slow) (most_of slow) else 0

-- where its act never went on to the one that leads at once too, and then soon again; else not before the doubled wait
unfoldable pub work_left : Known → ℕ → Standing → ℕ
work_left known slow standing =
    if is_campaign standing && one_reopened known then back_left known slow
    else if is_follower standing && is_untold known then again known.time known.ticks (soon_of slow) (most_of slow)
    else max (max (row_left known slow standing) (yield_left known slow)) (again known.time known.ticks (pace_of slow) (most_of slow))
