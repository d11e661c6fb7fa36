-- What a node tells of commands, and of its own votes.
use Rattle.std.specs.Prelude.{ℕ, List, Result, Ok}
use Rattle.paxos_wire.specs.declared.ballot.Ballot.{Ballot}
use Rattle.paxos_wire.specs.declared.message.Message.{Message}
use Rattle.paxos_wire.specs.declared.message.Message.TheVariants.{Accept, Accepted}
use Rattle.slot_log.specs.declared.command.Command.{Command}
use Rattle.node_rules.specs.Standings.{Place, Standing}
use Rattle.node_rules.specs.Sending.{to_others}
use Rattle.node_rules.specs.Turns.{Turn, Refusal, sending, and_then}
use Rattle.node_rules.specs.Learning.{counting_votes}
use Rattle.dealer_node.specs.declared.voting.Kind.{Kind}
use Rattle.dealer_node.specs.declared.voting.Kind.TheVariants as kind

-- the message of this kind that has these commands
abbrev pub message_with : Kind → Ballot → ℕ → List Command → Message
message_with kind.Proposed ballot slot commands = Accept ballot slot commands
message_with kind.Voted ballot slot commands = Accepted ballot slot commands

-- votes that are stored are told to the others, and counted as those of any other node
abbrev pub telling_votes : Place → Ballot → ℕ → List Command → Standing → Result Turn Refusal
telling_votes place ballot slot commands s = and_then (Ok (sending (to_others place (Accepted ballot slot commands)) s)) (counting_votes place place.node ballot slot commands)
