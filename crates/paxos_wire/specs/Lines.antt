-- What ballots, commands and messages print as, each on one line, and what faults print as.
use Rattle.std.specs.Prelude.{ℕ, ◌+◌, ◌-◌, nat_lt, if◌then◌else◌, List, [], ◌∷◌, ◌++◌, length, codes}
use Rattle.std.specs.List.{flat_map}
use Rattle.std.specs.Fmt.{decimal}
use Rattle.betting.specs.declared.action.Action.{Action}
use Rattle.betting.specs.declared.action.Action.TheVariants.{Fold, Call, Raise}
use Rattle.slot_log.specs.declared.command.Command.{Command}
use Rattle.slot_log.specs.declared.command.Command.TheVariants.{Deal, Act, Away}
use Rattle.paxos_wire.specs.declared.ballot.Ballot.{Ballot}
use Rattle.paxos_wire.specs.declared.fault.FrameFault.{FrameFault}
use Rattle.paxos_wire.specs.declared.fault.FrameFault.TheVariants.{TooShort, TooLong, BadVersion, BadKind, BadBody}
use Rattle.paxos_wire.specs.declared.message.Message.{Message}
use Rattle.paxos_wire.specs.declared.message.Message.TheVariants.{Prepare, Promise, Refuse, Accept, Accepted, Chosen, Ask, Forward}

-- the number that a fault is known by
abbrev pub fault_code : FrameFault → ℕ
fault_code TooShort = 50
fault_code TooLong = 51
fault_code BadVersion = 52
fault_code BadKind = 53
fault_code BadBody = 54

-- a fault prints as its number and its name
abbrev pub fault_line : FrameFault → List ℕ
fault_line TooShort = codes "50 TooShort"
fault_line TooLong = codes "51 TooLong"
fault_line BadVersion = codes "52 BadVersion"
fault_line BadKind = codes "53 BadKind"
fault_line BadBody = codes "54 BadBody"

-- the round and the node, as in (3, 1)
abbrev pub ballot_line : Ballot → List ℕ
ballot_line b = codes "(" ++ decimal b.round ++ codes ", " ++ decimal b.node ++ codes ")"

-- as in raise to 300
abbrev pub action_line : Action → List ℕ
action_line Fold = codes "fold"
action_line Call = codes "call"
action_line (Raise amount) = codes "raise to " ++ decimal amount

-- as in deal of hand 0, act 2 of hand 0: call, or away at act 2 of hand 0
abbrev pub command_line : Command → List ℕ
command_line (Deal hand cards) = codes "deal of hand " ++ decimal hand
command_line (Act hand index action) = codes "act " ++ decimal index ++ codes " of hand " ++ decimal hand ++ codes ": " ++ action_line action
command_line (Away hand index) = codes "away at act " ++ decimal index ++ codes " of hand " ++ decimal hand

-- a command behind another one
abbrev pub further_line : Command → List ℕ
further_line command = codes ", " ++ command_line command

-- commands for slots that follow one another, with a comma behind each but the last
abbrev pub commands_line : List Command → List ℕ
commands_line [] = []
commands_line (first ∷ others) = command_line first ++ flat_map further_line others

-- the slots from one on, as many as this: as in 7, or 7 to 9
abbrev pub slots_line : ℕ → ℕ → List ℕ
slots_line slot count = if nat_lt count 2 then decimal slot else decimal slot ++ codes " to " ++ decimal (slot + count - 1)

-- a command run at its slots, as in 7: deal of hand 0
abbrev pub run_line : ℕ → List Command → List ℕ
run_line slot commands = slots_line slot (length commands) ++ codes ": " ++ commands_line commands

-- as in Accept (3, 1) at 7: deal of hand 0, or Accept (3, 1) at 7 to 8: deal of hand 0, act 0 of hand 0: call
abbrev pub message_line : Message → List ℕ
message_line (Prepare ballot slot) = codes "Prepare " ++ ballot_line ballot ++ codes " from " ++ decimal slot
message_line (Promise ballot slot entries) = codes "Promise " ++ ballot_line ballot ++ codes " from " ++ decimal slot ++ codes ": " ++ decimal (length entries) ++ codes " accepted"
message_line (Refuse ballot slot promised) = codes "Refuse " ++ ballot_line ballot ++ codes " at " ++ decimal slot ++ codes ": promised " ++ ballot_line promised
message_line (Accept ballot slot commands) = codes "Accept " ++ ballot_line ballot ++ codes " at " ++ run_line slot commands
message_line (Accepted ballot slot commands) = codes "Accepted " ++ ballot_line ballot ++ codes " at " ++ run_line slot commands
message_line (Chosen slot command) = codes "Chosen at " ++ decimal slot ++ codes ": " ++ command_line command
message_line (Ask slot) = codes "Ask from " ++ decimal slot
message_line (Forward command) = codes "Forward " ++ command_line command
