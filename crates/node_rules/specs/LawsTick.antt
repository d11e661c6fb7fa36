-- What a tick comes to, told by what the node of the world has got and stored, and by what its readers show: its front, and whether the
-- match is over.
use Rattle.std.specs.Prelude.{◌≡◌, ℕ, ◌+◌, ◌-◌, ◌^◌, ◌≤◌, ◌⊎◌, Bool, true, false, [], Result, Ok, Err}
use Rattle.paxos_wire.specs.declared.limits.TheConstants.{SLOTS}
use Rattle.paxos_wire.specs.declared.ballot.Ballot.{Ballot}
use Rattle.paxos_wire.specs.declared.message.Message.TheVariants.{Prepare}
use Rattle.slot_log.specs.declared.command.Command.{Command}
use Rattle.protocol_model.specs.Nodes.{Node}
use Rattle.protocol_model.specs.Stores.{promised}
use Rattle.protocol_model.specs.Worlds.{World}
use Rattle.node_rules.specs.Standings.{Place, Standing, front_of}
use Rattle.node_rules.specs.Sending.{to_others}
use Rattle.node_rules.specs.Turns.{Turn, Refusal, Spent, still}
use Rattle.node_rules.specs.Proposing.{is_over}
use Rattle.node_rules.specs.Seen.{IsTold}
use Rattle.node_rules.specs.Calls.{Tick}
use Rattle.node_rules.specs.Rules.{IsTurn}
use Rattle.node_rules.specs.Being.{IsOf}
use Rattle.node_rules.specs.Sound.{Stands}

-- ---- the round

-- the node has met the ballot: a message that it has since its start tells it, or its store has promised it
abbrev pub HasMet : Node → Ballot → Type 0
HasMet node ballot = IsTold node.has ballot ⊎ (ballot ≡ node.store.promise)

-- the greatest round of all ballots that the node has met
pub record IsGreatestRound (node : Node) (round : ℕ) : Type 0 where
  pub ballot : Ballot
  pub met : HasMet node ballot
  pub same : ballot.round ≡ round
  pub above : (other : Ballot) → HasMet node other → other.round ≤ round

-- no round is left above it, or there is no slot at the front
abbrev pub IsSpent : ℕ → ℕ → Type 0
IsSpent round front = (round ≡ 2 ^ 32 - 1) ⊎ (front ≡ SLOTS)

-- ---- the tick

-- the ballot is begun at the front: Prepare goes to each other node, nothing else is sent, shown or told, and the ballot is stored as promised
pub record Begins (own : ℕ → Command → Bool) (place : Place) (node : Node) (ballot : Ballot) (front : ℕ) (turn : Turn) : Type 0 where
  pub frames : turn.frames ≡ to_others place (Prepare ballot front)
  pub unshown : turn.shown ≡ []
  pub untold : turn.faults ≡ []
  pub stored : (after : Node) → IsOf own place turn.after after → after.store ≡ promised node.store ballot

-- what a running node's tick comes to, where this is the greatest round that it has met
pub record Ticks (own : ℕ → Command → Bool) (place : Place) (node : Node) (round : ℕ) (s : Standing) (outcome : Result Turn Refusal) : Type 0 where
  -- after the match's end nothing changes
  pub over : is_over place s ≡ true → outcome ≡ Ok (still s)
  -- 93 comes exactly where the match goes on and no round or no slot is left
  pub spent : is_over place s ≡ false → IsSpent round (front_of s) → outcome ≡ Err Spent
  pub only_spent : outcome ≡ Err Spent → (is_over place s ≡ false) × IsSpent round (front_of s)
  -- else the node's ballot of the next round is begun
  pub begins : is_over place s ≡ false → (IsSpent round (front_of s) → ⊥)
      → (turn : Turn) × (outcome ≡ Ok turn) × Begins own place node (record { round = round + 1; node = place.node }) (front_of s) turn

abbrev pub TicksPrepare : Type 0
TicksPrepare =
    (own : ℕ → Command → Bool) (place : Place) (world : World) (s : Standing) (outcome : Result Turn Refusal) (round : ℕ)
    → Stands own place world s → s.up ≡ true → IsTurn place s Tick outcome → IsGreatestRound (world.nodes place.node) round
    → Ticks own place (world.nodes place.node) round s outcome
