-- What a node does as an acceptor: it promises ballots, and votes.
use Rattle.std.specs.Prelude.{ℕ, if◌then◌else◌, List, Result, Ok}
use Rattle.paxos_wire.specs.declared.ballot.Ballot.{Ballot}
use Rattle.paxos_wire.specs.declared.message.Message.TheVariants.{Promise, Refuse, Accepted}
use Rattle.slot_log.specs.declared.command.Command.{Command}
use Rattle.protocol_model.specs.Stores.{promised}
use Rattle.protocol_model.specs.Votes.{told_by, command_run_at, taking_command_run}
use Rattle.paxos_wire.specs.Order.{is_below}
use Rattle.node_rules.specs.Standings.{Place, Standing, with_stored, idle}
use Rattle.node_rules.specs.Sending.{one, to_others}
use Rattle.node_rules.specs.Turns.{Turn, Refusal, sending, and_then}
use Rattle.node_rules.specs.Learning.{counting_votes}

-- ---- promises

-- a refusal tells the ballot that was promised
abbrev pub refusing : ℕ → Ballot → ℕ → Standing → Turn
refusing from ballot slot s = sending (one from (Refuse ballot slot s.store.promise)) s

-- a promise tells the votes of its 64 slots, and the node leads no longer
abbrev pub promising : ℕ → Ballot → ℕ → Standing → Turn
promising from ballot slot s = sending (one from (Promise ballot slot (told_by s.store slot))) (idle (with_stored s (promised s.store ballot)))

-- a ballot above the promise is promised, any other is refused
abbrev pub preparing : ℕ → Ballot → ℕ → Standing → Turn
preparing from ballot slot s = if is_below s.store.promise ballot then promising from ballot slot s else refusing from ballot slot s

-- ---- votes

-- of the commands for the slot and those behind it the beginning is taken that may be: its votes are stored, told to the others, and counted as
-- those of any other node
abbrev pub voting : Place → Ballot → ℕ → List Command → Standing → Result Turn Refusal
voting place ballot slot commands s =
    let told = command_run_at s.store ballot slot commands in
    and_then (Ok (sending (to_others place (Accepted ballot slot told)) (with_stored s (taking_command_run s.store ballot slot commands))))
    (counting_votes place place.node ballot slot told)

-- a ballot that isn't below the promise is voted for, and the node leads no longer; any other is refused at the first slot
abbrev pub accepting : Place → ℕ → Ballot → ℕ → List Command → Standing → Result Turn Refusal
accepting place from ballot slot commands s =
    if is_below ballot s.store.promise then Ok (refusing from ballot slot s) else voting place ballot slot commands (idle s)
