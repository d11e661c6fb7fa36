-- What becomes of a learner when a node's answer for a command run comes: for commands at this slot and at those behind it.
use Rattle.std.specs.Prelude.{ℕ, ◌+◌, ◌-◌, Bool, true, false, is_err, if◌then◌else◌, List, [], ◌∷◌, ◌++◌, length, replicate, Option, Some, None, Result, Ok, Err}
use Rattle.paxos_wire.specs.declared.limits.TheConstants.{WINDOW}
use Rattle.paxos_wire.specs.declared.ballot.Ballot.{Ballot}
use Rattle.slot_log.specs.declared.command.Command.{Command}
use Rattle.slot_log.specs.declared.slot_fault.SlotFault.{SlotFault}
use Rattle.slot_log.specs.declared.slot_fault.SlotFault.TheVariants.{Conflict}
use Rattle.learner.specs.declared.chosen.Chosen.{Chosen}
use Rattle.learner.specs.Learning.{Learned, answer_to, hearing}

-- each slot by itself, the lowest first, with the front as it stands then
unfoldable pub hearing_each : Learned → ℕ → Ballot → ℕ → List Command → Learned
hearing_each l from ballot slot [] = l
hearing_each l from ballot slot (command ∷ more) = hearing_each (hearing l from ballot slot command) from ballot (slot + 1) more

abbrev pub tells : Result (Option Chosen) SlotFault → Bool
tells (Ok (Some chosen)) = true
tells (Ok None) = false
tells (Err fault) = false

-- of each slot, whether its command is told to be chosen
unfoldable pub chosen_each : Learned → ℕ → Ballot → ℕ → List Command → List Bool
chosen_each l from ballot slot [] = []
chosen_each l from ballot slot (command ∷ more) =
    tells (answer_to l from ballot slot command) ∷ chosen_each (hearing l from ballot slot command) from ballot (slot + 1) more

-- the answer for one of the slots would be refused
unfoldable pub is_refused : Learned → ℕ → Ballot → ℕ → List Command → Bool
is_refused l from ballot slot [] = false
is_refused l from ballot slot (command ∷ more) =
    if is_err (answer_to l from ballot slot command) then true else is_refused l from ballot (slot + 1) more

-- where one would be refused, the whole is, and nothing changes
abbrev pub hearing_run : Learned → ℕ → Ballot → ℕ → List Command → Learned
hearing_run l from ballot slot commands = if is_refused l from ballot slot commands then l else hearing_each l from ballot slot commands

-- by place, of 64: whether the slot's command was chosen by it
abbrev pub answer_to_run : Learned → ℕ → Ballot → ℕ → List Command → Result (List Bool) SlotFault
answer_to_run l from ballot slot commands =
    if is_refused l from ballot slot commands then Err Conflict
    else Ok (chosen_each l from ballot slot commands ++ replicate (WINDOW - length commands) false)
