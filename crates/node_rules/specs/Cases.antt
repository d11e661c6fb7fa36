-- The three cases of a member of a quorum: it has something to propose, it awaits a bot, or the match is over at it.
use Rattle.std.specs.Prelude.{◌≡◌, ℕ, Bool, true, ◌+◌, ◌*◌, ◌<◌, List, length, Option, Some, None, Result, Ok}
use Rattle.paxos_wire.specs.declared.limits.TheConstants.{SLOTS}
use Rattle.slot_log.specs.declared.command.Command.{Command}
use Rattle.protocol_model.specs.Sets.{In, put}
use Rattle.protocol_model.specs.Worlds.{World}
use Rattle.dealer_kind.specs.Kind.{Setting}
use Rattle.node_rules.specs.Standings.{Place, Standing, front_of}
use Rattle.node_rules.specs.Turns.{Turn, Refusal}
use Rattle.node_rules.specs.Proposing.{is_over}
use Rattle.node_rules.specs.Seats.{away_at}
use Rattle.node_rules.specs.Calls.{Away}
use Rattle.node_rules.specs.Rules.{IsTurn}
use Rattle.node_rules.specs.Calm.{IsUnheld, WouldPropose}
use Rattle.node_rules.specs.CalmRound.{place_in, AreOf}

-- the node has a deal of its own for each hand of the match
abbrev pub HasEachDeal : Place → Type 0
HasEachDeal place = (hand : ℕ) → hand < place.setting.title.hands
    → (deal : List ℕ) × (place.deals hand ≡ Some deal) × (length deal ≡ 2 * place.setting.game.players + 5)

-- there are commands that node i has to propose
abbrev pub HasProposal : Place → (ℕ → Standing) → ℕ → List ℕ → Type 0
HasProposal place standings i members = (commands : List Command) × WouldPropose place standings i members commands

-- a hand runs at node i, no act waits there, and no member has a vote at its front: it waits for a bot's answer
pub record AwaitsBot (place : Place) (standings : ℕ → Standing) (i : ℕ) (members : List ℕ) : Type 0 where
  pub next : (act : Command) × (away_at place (standings i) ≡ Some act)
  pub nothing_waits : (standings i).pending ≡ None
  pub unheld : IsUnheld standings members (front_of (standings i))

-- which of the three it is
pub data Case (place : Place) (standings : ℕ → Standing) (i : ℕ) (members : List ℕ) : Type 0 where
  proposes : HasProposal place standings i members → Case place standings i members
  awaits : AwaitsBot place standings i members → Case place standings i members
  over : is_over place (standings i) ≡ true → Case place standings i members

-- each node that has its deals, and a slot at its front, is in one of the cases
abbrev pub EachHasACase : Type 0
EachHasACase = (place : Place) (standings : ℕ → Standing) (i : ℕ) (members : List ℕ)
    → HasEachDeal place → front_of (standings i) < SLOTS → Case place standings i members

-- where a member awaits a bot, an order that the player to act is played for isn't refused, and then it has something to propose, at the front where it was
abbrev pub OrdersHelp : Type 0
OrdersHelp =
    (own : ℕ → Command → Bool) (setting : Setting) (n : ℕ) (deals : ℕ → ℕ → Option (List ℕ)) (world : World) (standings : ℕ → Standing) (i : ℕ) (members : List ℕ) (outcome : Result Turn Refusal)
    → AreOf own setting n deals world standings members → In i members → (standings i).up ≡ true → front_of (standings i) < SLOTS
    → AwaitsBot (place_in setting n deals i) standings i members → IsTurn (place_in setting n deals i) (standings i) Away outcome
    → (turn : Turn) × (outcome ≡ Ok turn) × (front_of turn.after ≡ front_of (standings i)) × (is_over (place_in setting n deals i) turn.after ≡ is_over (place_in setting n deals i) (standings i))
    × HasProposal (place_in setting n deals i) (put standings i turn.after) i members
