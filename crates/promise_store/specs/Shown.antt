-- What a store shows of its votes.
use Rattle.std.specs.Prelude.{Option, Some, None}
use Rattle.paxos_wire.specs.declared.ballot.Ballot.{Ballot}
use Rattle.slot_log.specs.declared.command.Command.{Command}
use Rattle.protocol_model.specs.Messages.{Vote}
use Rattle.promise_store.specs.declared.placed.Placed.{Placed}

-- a vote's ballot and command
abbrev pub vote_pair : Option Vote → Option (Ballot × Command)
vote_pair None = None
vote_pair (Some vote) = Some (vote.ballot, vote.command)

-- a vote's ballot, and that of where it stands
abbrev pub vote_ballot : Option Vote → Option Ballot
vote_ballot None = None
vote_ballot (Some vote) = Some vote.ballot

abbrev pub placed_ballot : Option Placed → Option Ballot
placed_ballot None = None
placed_ballot (Some placed) = Some placed.ballot

-- that of what was read of an entry
abbrev pub pair_ballot : Option (Ballot × Command) → Option Ballot
pair_ballot None = None
pair_ballot (Some found) = Some found.0
