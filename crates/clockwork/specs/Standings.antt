-- How a node stands to the node whose ballot it has promised.
use Rattle.std.specs.Prelude.{ℕ, ◌+◌, ◌==◌, Bool, true, false, not, ◌&&◌, if◌then◌else◌, Option, Some, None, find}
use Rattle.clockwork.specs.declared.known.PeerReport.{PeerReport}
use Rattle.clockwork.specs.declared.known.Link.{Link}
use Rattle.clockwork.specs.declared.known.Link.TheVariants.{Closed, Open}
use Rattle.clockwork.specs.declared.known.Peer.{Peer}
use Rattle.clockwork.specs.declared.known.Known.{Known}
use Rattle.clockwork.specs.declared.standing.Standing.{Standing}
use Rattle.clockwork.specs.declared.standing.Standing.TheVariants.{Campaigns, Fresh, Led, Lost, Idle, Follows}
use Rattle.clockwork.specs.Silence.{is_heard}
use Rattle.clockwork.specs.Presence.{silence_of, told}

-- since when a peer has told that it doesn't campaign, where that is what it last told
unfoldable pub idle_since : Option PeerReport → Option ℕ
idle_since None = None
idle_since (Some beat) = if beat.campaigns then None else Some beat.told

-- since when a peer is known to be gone: its connection ended, or it has been silent for too long
unfoldable pub gone_since : ℕ → ℕ → Link → Option ℕ
gone_since time slow (Closed since) = Some since
gone_since time slow (Open connection) = if is_heard connection.heard time (silence_of slow) then None else Some (connection.heard + silence_of slow)

abbrev pub standing_by : ℕ → Option ℕ → Option ℕ → Standing
standing_by leader (Some gone) idle = Lost leader gone
standing_by leader None (Some idle) = Idle leader idle
standing_by leader None None = Follows leader

-- to a leader over this link: it is gone, or is there and told that it doesn't campaign, or is followed
unfoldable pub standing_over : ℕ → ℕ → ℕ → Link → Standing
standing_over time slow leader link = standing_by leader (gone_since time slow link) (idle_since (told time slow link))

-- to a leader among the peers; one that is no peer is lost since ever
unfoldable pub standing_behind : ℕ → ℕ → ℕ → Option Peer → Standing
standing_behind time slow leader None = Lost leader 0
standing_behind time slow leader (Some peer) = standing_over time slow leader peer.link

unfoldable pub standing_to : Known → ℕ → ℕ → Standing
standing_to known slow leader =
    if (leader == known.number) && known.campaigns then Campaigns
    else if not known.was_led then Fresh
    else if leader == known.number then Led
    else standing_behind known.time slow leader (find (λ peer. peer.number == leader) known.peers.now)

abbrev pub standing : Known → ℕ → Option ℕ → Standing
standing known slow None = Fresh
standing known slow (Some leader) = standing_to known slow leader

abbrev pub is_campaign : Standing → Bool
is_campaign Campaigns = true
is_campaign Fresh = false
is_campaign Led = false
is_campaign (Lost leader since) = false
is_campaign (Idle leader since) = false
is_campaign (Follows leader) = false

abbrev pub is_follower : Standing → Bool
is_follower Campaigns = false
is_follower Fresh = false
is_follower Led = false
is_follower (Lost leader since) = false
is_follower (Idle leader since) = false
is_follower (Follows leader) = true
