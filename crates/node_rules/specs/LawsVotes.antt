-- What a node that sends a proposal has of it: its own vote, and no refusal of its ballot.
use Rattle.std.specs.Prelude.{◌≡◌, ℕ, Bool, true}
use Rattle.paxos_wire.specs.declared.ballot.Ballot.{Ballot}
use Rattle.slot_log.specs.declared.command.Command.{Command}
use Rattle.protocol_model.specs.Sets.{In}
use Rattle.protocol_model.specs.Ballots.{Below}
use Rattle.protocol_model.specs.Messages.{Refuse, Accept, Accepted}
use Rattle.protocol_model.specs.Worlds.{World}
use Rattle.node_rules.specs.Standings.{Place, Standing}
use Rattle.node_rules.specs.Turns.{Turn}
use Rattle.node_rules.specs.Calls.{Call}
use Rattle.node_rules.specs.Called.{IsSaid}
use Rattle.node_rules.specs.Outcomes.{IsTaken, IsAnswered, in_time}

-- of each proposal that a call sends the node has its own vote in time, so that it counts with those that come later
abbrev pub OwnVotesAreInTime : Type 0
OwnVotesAreInTime =
    (own : ℕ → Command → Bool) (place : Place) (world : World) (s : Standing) (called : Call) (turn : Turn) (ballot : Ballot) (slot : ℕ) (command : Command)
    → (answered : IsAnswered own place world s called turn) → s.up ≡ true → (taken : IsTaken own place world s called turn)
    → IsSaid place.node turn.frames (Accept ballot slot command)
    → In (Accepted place.node ballot slot command) (in_time own place turn.after taken.called.last taken.called.of answered.runs)

-- no call sends a proposal of a ballot where a Refuse that the node has got since its start, with this call too, tells a greater one
abbrev pub RefusedBallotsEnd : Type 0
RefusedBallotsEnd =
    (own : ℕ → Command → Bool) (place : Place) (world : World) (s : Standing) (called : Call) (turn : Turn) (ballot : Ballot) (slot : ℕ) (command : Command)
    (sender : ℕ) (refused : Ballot) (at : ℕ) (greater : Ballot)
    → IsAnswered own place world s called turn → s.up ≡ true → (taken : IsTaken own place world s called turn)
    → In (Refuse sender refused at greater) taken.called.last.has → Below ballot greater
    → IsSaid place.node turn.frames (Accept ballot slot command) → ⊥
