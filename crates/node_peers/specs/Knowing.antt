-- Which lives of nodes' stores are known, and which of them is told.
use Rattle.std.specs.Prelude.{◌≢◌, ℕ, zero, suc, ◌==◌, nat_lt, if◌then◌else◌, List, [], ◌∷◌, get_or, set, replicate, slice_get, Option, Some, None}
use Rattle.peer_codes.specs.declared.hello.Life.{Life}
use Rattle.node_links.specs.declared.limits.TheConstants.{NODES}
use Rattle.node_links.specs.declared.lives.Lives.{Lives}
use Rattle.node_links.specs.declared.own.Known.{Known}
use Rattle.node_links.specs.declared.own.Known.TheVariants.{Nothing, Two}
use Rattle.node_links.specs.declared.own.Own.{Own}
use Rattle.node_links.specs.Knowing.{and_life}
use Rattle.node_peers.specs.declared.notice.Notice.{Notice}
use Rattle.node_peers.specs.declared.notice.Notice.TheVariants as notices
use Rattle.node_peers.specs.declared.peer.Peer.{Peer}

-- that of this node's own store, where this is its number
abbrev pub own_life : Own → ℕ → Option Life
own_life own number = if number == own.number then Some own.life else None

abbrev pub kept_in : Option Peer → Option Life
kept_in None = None
kept_in (Some peer) = peer.kept

-- that which is kept of a node
abbrev pub kept_life : ℕ → List Peer → Option Life
kept_life number peers = kept_in (slice_get peers number)

-- and those besides that these peers told of it over the connections that are open
abbrev pub told_by : ℕ → List Peer → Known → Known
told_by number [] known = known
told_by number (peer ∷ more) known = told_by number more (and_life known (get_or peer.told number None))

abbrev pub known_of : Own → ℕ → List Peer → Known
known_of own number peers = told_by number peers (and_life (and_life Nothing (own_life own number)) (kept_life number peers))

-- a frame that is told is of a node of which no two lives are known
abbrev pub IsOfOne : Own → List Peer → Notice → Type 0
IsOfOne own peers (notices.Frame from frame) = known_of own from peers ≢ Two
IsOfOne own peers (notices.Joined peer life) = Unit {0}
IsOfOne own peers (notices.Gone peer) = Unit {0}
IsOfOne own peers (notices.Refused peer fault source) = Unit {0}
IsOfOne own peers (notices.Unreached peer refuses) = Unit {0}
IsOfOne own peers (notices.Strangers peer count fault) = Unit {0}
IsOfOne own peers (notices.Settings peer settings) = Unit {0}

-- ---- what is told

abbrev pub or_life : Option Life → Option Life → Option Life
or_life None second = second
or_life (Some life) second = Some life

-- the first of these that is there
abbrev pub first_told : ℕ → List Peer → Option Life → Option Life
first_told number [] life = life
first_told number (peer ∷ more) life = first_told number more (or_life life (get_or peer.told number None))

abbrev pub life_told : Own → ℕ → List Peer → Option Life
life_told own number peers = first_told number peers (or_life (own_life own number) (kept_life number peers))

-- of each of the first so many nodes, as far as the match has them
abbrev pub lives_below : ℕ → Own → List Peer → List (Option Life)
lives_below zero own peers = replicate NODES None
lives_below (suc count) own peers = if nat_lt count own.nodes then set (lives_below count own peers) count (life_told own count peers) else lives_below count own peers

abbrev pub lives_told : Own → List Peer → Lives
lives_told own peers = record { nodes = own.nodes; lives = lives_below NODES own peers }
