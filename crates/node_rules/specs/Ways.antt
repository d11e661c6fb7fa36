-- No dead end: whatever a quorum's members have promised, one of them that has something to propose moves on by its next ballot, or by the one after it.
use Rattle.std.specs.Prelude.{◌≡◌, ℕ, Bool, true, false, ◌+◌, ◌*◌, ◌^◌, ◌<◌, ◌≤◌, ◌⊎◌, List, [], ◌∷◌, length, Option}
use Rattle.paxos_wire.specs.declared.limits.TheConstants.{SLOTS}
use Rattle.paxos_wire.specs.declared.message.Message.TheVariants.{Prepare, Refuse}
use Rattle.slot_log.specs.declared.command.Command.{Command}
use Rattle.protocol_model.specs.Sets.{In}
use Rattle.protocol_model.specs.Ballots.{Below, AtMost}
use Rattle.protocol_model.specs.Worlds.{World}
use Rattle.proposer.specs.Campaigns.{next_ballot}
use Rattle.dealer_kind.specs.Kind.{Setting}
use Rattle.node_rules.specs.Standings.{Place, Standing, front_of}
use Rattle.node_rules.specs.Proposing.{greatest_seen, is_over}
use Rattle.node_rules.specs.Calm.{IsLeastQuorum, without, ballot_after, WouldPropose, Calm, Event, Ticks, delivers, round_by, round}
use Rattle.node_rules.specs.CalmRound.{place_in, GoOn, HasMovedOn, AreOf}

-- node i has these commands to propose at its front and behind it, whatever the members have promised, and rounds are left: above what it has seen, and above
-- each promise that isn't below its next ballot
pub record Movable (place : Place) (standings : ℕ → Standing) (i : ℕ) (members : List ℕ) (commands : List Command) : Type 0 where
  pub of_node : place.node ≡ i
  pub quorum : IsLeastQuorum place.nodes members
  pub member : In i members
  pub up : (node : ℕ) → In node members → (standings node).up ≡ true
  pub seen_left : (greatest_seen (standings i)).round + 1 < 2 ^ 32
  pub promises_left : (node : ℕ) → In node members
      → Below (standings node).store.promise (ballot_after i (standings i)) ⊎ ((standings node).store.promise.round + 1 < 2 ^ 32)
  pub slot_left : front_of (standings i) < SLOTS
  pub goes_on : is_over place (standings i) ≡ false
  pub value : WouldPropose place standings i members commands

-- ---- the way

-- all members have promised only ballots below node i's next one
abbrev pub AreUnpromised : (ℕ → Standing) → ℕ → List ℕ → Type 0
AreUnpromised standings i members = (node : ℕ) → In node members → Below (standings node).store.promise (ballot_after i (standings i))

-- no member promised more than node j
abbrev pub PromisedMost : (ℕ → Standing) → List ℕ → ℕ → Type 0
PromisedMost standings members j = (node : ℕ) → In node members → AtMost (standings node).store.promise (standings j).store.promise

-- another member, j, promised most, and that isn't below node i's next ballot
pub record Outbids (standings : ℕ → Standing) (i : ℕ) (members : List ℕ) (j : ℕ) : Type 0 where
  pub member : In j (without i members)
  pub most : PromisedMost standings members j
  pub above : Below (standings j).store.promise (ballot_after i (standings i)) → ⊥

-- node i's next ballot, which j refuses and so tells what it promised, and the round of the ballot above that
abbrev pub two_ballots : (ℕ → Standing) → ℕ → List ℕ → List Command → ℕ → List Event
two_ballots standings i members commands j =
    let ballot = ballot_after i (standings i) in
    let slot = front_of (standings i) in
    let promise = (standings j).store.promise in
    Ticks i ∷ (delivers i j (Prepare ballot slot) ∷ (delivers j i (Refuse ballot slot promise) ∷ round_by (next_ballot i promise) standings i members commands))

-- the events by which node i moves on: the round of its next ballot where nobody refuses that, else those two ballots
pub data IsWay (standings : ℕ → Standing) (i : ℕ) (members : List ℕ) (commands : List Command) (events : List Event) : Type 0 where
  at_once : AreUnpromised standings i members → events ≡ round standings i members commands → IsWay standings i members commands events
  outbid : (j : ℕ) → Outbids standings i members j → events ≡ two_ballots standings i members commands j → IsWay standings i members commands events

-- ---- the laws

-- there is a way, of at most four events for each member
abbrev pub HasShortWay : (ℕ → Standing) → ℕ → List ℕ → List Command → Type 0
HasShortWay standings i members commands = (events : List Event) × IsWay standings i members commands events × (length events ≤ 4 * length members)

-- no reached state is a dead end: a node that has something to propose has a short way, and each way goes on to its end, where its front has passed the
-- commands, each of which it knows
abbrev pub NoDeadEnd : Type 0
NoDeadEnd =
    (own : ℕ → Command → Bool) (setting : Setting) (n : ℕ) (deals : ℕ → ℕ → Option (List ℕ)) (world : World) (standings : ℕ → Standing) (i : ℕ) (members : List ℕ) (commands : List Command)
    → AreOf own setting n deals world standings members → Movable (place_in setting n deals i) standings i members commands
    → HasShortWay standings i members commands
    × ((events : List Event) → IsWay standings i members commands events
    → GoOn (place_in setting n deals) (HasMovedOn i (front_of (standings i)) commands) standings [] events)

-- who promised most is outbid by nobody: all members have promised only ballots below its next one
abbrev pub MostIsUnpromised : Type 0
MostIsUnpromised = (standings : ℕ → Standing) (members : List ℕ) (j : ℕ) → PromisedMost standings members j → AreUnpromised standings j members

-- whoever is calm is movable, and its round is a way
abbrev pub CalmIsMovable : Type 0
CalmIsMovable =
    (place : Place) (standings : ℕ → Standing) (i : ℕ) (members : List ℕ) (commands : List Command)
    → Calm place standings i members commands
    → Movable place standings i members commands × IsWay standings i members commands (round standings i members commands)
