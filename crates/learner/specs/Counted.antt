-- What a learner's counts say of the answers that came.
use Rattle.std.specs.Prelude.{◌≡◌, ℕ, ◌+◌, ◌<◌, ◌≤◌, true, List, length, Some}
use Rattle.paxos_wire.specs.declared.limits.TheConstants.{NODES, WINDOW}
use Rattle.paxos_wire.specs.declared.ballot.Ballot.{Ballot}
use Rattle.slot_log.specs.declared.limits.TheConstants.{SLOTS}
use Rattle.slot_log.specs.declared.command.Command.{Command}
use Rattle.slot_log.specs.Slots.{Log, front, known_at}
use Rattle.protocol_model.specs.Sets.{In}
use Rattle.protocol_model.specs.Messages.{Message, Accepted}
use Rattle.protocol_model.specs.Quorums.{IsChosenIn}
use Rattle.learner.specs.declared.tally.Tally.{Tally}
use Rattle.learner.specs.Tallies.{has}
use Rattle.learner.specs.Learning.{Learned, tallies_at, answers_at}

-- the slot is one of the 64 from the front on
pub record IsOpen (log : Log) (slot : ℕ) : Type 0 where
  pub reached : front log ≤ slot
  pub within : slot < front log + WINDOW
  pub is_slot : slot < SLOTS

-- nothing is counted but what came: each answer that was counted of an open slot is among the messages
abbrev pub CountsFrom : List Message → Learned → Type 0
CountsFrom messages l =
    (slot : ℕ) (tally : Tally) → IsOpen l.log slot → In tally (tallies_at l.cells slot)
    → (node : ℕ) → has tally.nodes node ≡ true → In (Accepted node tally.ballot slot tally.command) messages

-- nothing that came is left out: each of these answers, which came while their slots were open, is counted while its slot is
pub record CountsAll (came : List Message) (l : Learned) : Type 0 where
  pub cells : length l.cells ≡ WINDOW
  pub few : l.nodes ≤ NODES
  pub places : (slot : ℕ) (tally : Tally) → In tally (tallies_at l.cells slot) → length tally.nodes ≡ NODES
  pub within : (node : ℕ) (ballot : Ballot) (slot : ℕ) (command : Command) → In (Accepted node ballot slot command) came → slot < front l.log + WINDOW
  pub counted : (node : ℕ) (ballot : Ballot) (slot : ℕ) (command : Command) → node < l.nodes → IsOpen l.log slot
      → In (Accepted node ballot slot command) came → has (answers_at l ballot slot command) node ≡ true

-- what a quorum of these answers chose is known
abbrev pub KnowsChosen : List Message → Learned → Type 0
KnowsChosen came l =
    (ballot : Ballot) (slot : ℕ) (command : Command) → IsChosenIn l.nodes came ballot slot command → known_at l.log slot ≡ Some command
