-- Every match can be ended: by starts of a quorum's members, and by ticks, orders and frames of one of them.
use Rattle.std.specs.Prelude.{◌≡◌, ℕ, zero, suc, ◌+◌, ◌*◌, ◌-◌, ◌^◌, ◌≤◌, ◌⊎◌, Bool, true, if◌then◌else◌, List, [], ◌++◌, length, Option, Result, Ok}
use Rattle.slot_log.specs.declared.command.Command.{Command}
use Rattle.protocol_model.specs.Sets.{In, put}
use Rattle.protocol_model.specs.Stores.{Store}
use Rattle.protocol_model.specs.Worlds.{World}
use Rattle.dealer_kind.specs.Kind.{Setting}
use Rattle.node_rules.specs.Standings.{Place, Standing, front_of}
use Rattle.node_rules.specs.Turns.{Turn, Refusal}
use Rattle.node_rules.specs.Proposing.{is_over}
use Rattle.node_rules.specs.Calls.{Call, Start, Away}
use Rattle.node_rules.specs.Rules.{IsTurn}
use Rattle.node_rules.specs.Calm.{IsLeastQuorum, Event, Ticks, Delivers}
use Rattle.node_rules.specs.CalmRound.{place_in, node_of, call_of, Sent, sent_by, IsOnItsWay, AreReadBack, AreOf}
use Rattle.node_rules.specs.Cases.{HasEachDeal}

-- ---- what may come

-- a member that is down is started, over what its disk has; the default action is ordered at node i; node i ticks; or a frame is delivered
pub data Help : Type 0 where
  Starts : (node : ℕ) → Help
  Orders : (node : ℕ) → Help
  Gives : (event : Event) → Help

abbrev pub node_helped : Help → ℕ
node_helped (Starts node) = node
node_helped (Orders node) = node
node_helped (Gives event) = node_of event

-- the call that it is; what a start finds is the disk's to say
abbrev pub IsCall : Help → Call → Type 0
IsCall (Starts node) called = (found : Store) × (called ≡ Start found)
IsCall (Orders node) called = called ≡ Away
IsCall (Gives event) called = called ≡ call_of event

-- only members are started, only node i ticks and gets orders, and only frames are delivered that were sent in this list
abbrev pub MayCome : ℕ → List ℕ → List Sent → Help → Type 0
MayCome i members sent (Starts node) = In node members
MayCome i members sent (Orders node) = node ≡ i
MayCome i members sent (Gives (Ticks node)) = node ≡ i
MayCome i members sent (Gives (Delivers from to bytes)) = IsOnItsWay sent (Delivers from to bytes)

-- ---- the end

-- the node runs, and the match is over at it
abbrev pub HasEnded : Place → Standing → Type 0
HasEnded place s = (s.up ≡ true) × (is_over place s ≡ true)

-- the match can be ended at node i by so many events: it has ended, or there is an event, each turn that it may come to is a turn, and behind each the match can
-- be ended by one event less
unfoldable pub CanEnd : (ℕ → Place) → ℕ → List ℕ → ℕ → (ℕ → Standing) → List Sent → Type 0
CanEnd places i members zero standings sent = HasEnded (places i) (standings i)
CanEnd places i members (suc more) standings sent =
    HasEnded (places i) (standings i)
    ⊎ ((help : Help) × MayCome i members sent help
    × ((called : Call) (outcome : Result Turn Refusal) → IsCall help called → IsTurn (places (node_helped help)) (standings (node_helped help)) called outcome
    → (turn : Turn) × (outcome ≡ Ok turn)
    × (AreReadBack turn.frames → CanEnd places i members more (put standings (node_helped help) turn.after) (sent_by (node_helped help) turn.frames ++ sent))))

-- ---- how many events

-- as many commands as the hands of a match have: each a deal and at most 256 actions
abbrev pub most_commands : Setting → ℕ
most_commands setting = 257 * setting.title.hands

-- the front of a node; one that is down has none of what it knew
abbrev pub front_now : Standing → ℕ
front_now s = if s.up then front_of s else 0

-- q starts, 3 for a ballot that is refused, and for each command that is left an order and a round
abbrev pub most_events : Setting → ℕ → ℕ → ℕ
most_events setting q front = q + (3 + (most_commands setting - front) * (4 * q - 2))

-- no round that the node has seen or promised is above this one, nor one that it may find promised
pub record MetAtMost (round : ℕ) (s : Standing) : Type 0 where
  pub seen : s.seen.round ≤ round
  pub promised : s.store.promise.round ≤ round
  pub found : s.begun.promise.round ≤ round

-- every match can be ended at each node that has its deals, with each least quorum to which it belongs, as long as rounds are left above all that the members
-- have met
abbrev pub MatchesCanEnd : Type 0
MatchesCanEnd =
    (own : ℕ → Command → Bool) (setting : Setting) (n : ℕ) (deals : ℕ → ℕ → Option (List ℕ)) (world : World) (standings : ℕ → Standing) (i : ℕ) (members : List ℕ) (round : ℕ)
    → AreOf own setting n deals world standings members → IsLeastQuorum n members → In i members → HasEachDeal (place_in setting n deals i)
    → ((node : ℕ) → In node members → MetAtMost round (standings node)) → round + most_commands setting + 2 ≤ 2 ^ 32
    → CanEnd (place_in setting n deals) i members (most_events setting (length members) (front_now (standings i))) standings []
