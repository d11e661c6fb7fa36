-- What a learner counted and knows, and what becomes of it when an answer or a Chosen comes.
use Rattle.std.specs.Prelude.{ℕ, zero, suc, ◌+◌, ◌-◌, ◌%◌, Bool, false, not, nat_lt, if◌then◌else◌, List, [], Option, Some, None, is_none, replicate, slice_index_or, slice_set, Result, Ok, Err}
use Rattle.paxos_wire.specs.declared.limits.TheConstants.{WINDOW}
use Rattle.paxos_wire.specs.declared.ballot.Ballot.{Ballot}
use Rattle.slot_log.specs.declared.limits.TheConstants.{SLOTS}
use Rattle.slot_log.specs.declared.command.Command.{Command}
use Rattle.slot_log.specs.declared.slot_fault.SlotFault.{SlotFault}
use Rattle.slot_log.specs.declared.slot_fault.SlotFault.TheVariants.{Conflict}
use Rattle.slot_log.specs.Slots.{Log, front, known_at, with_command}
use Rattle.learner.specs.declared.tally.Tally.{Tally}
use Rattle.learner.specs.declared.chosen.Chosen.{Chosen}
use Rattle.learner.specs.Same.{is_same}
use Rattle.learner.specs.Tallies.{nodes_for, with_node, is_completed}

-- what a learner counted and knows
pub record Learned : Type 0 where
  -- the count of nodes
  pub nodes : ℕ
  -- what was counted: 64 lists, of each slot that is open that of its number modulo 64
  pub cells : List (List Tally)
  -- what is known as chosen
  pub log : Log

-- and for how much more there is room
pub record Learning : Type 0 where
  pub learned : Learned
  -- for so many further answers, each with at most one command at a slot
  pub answers : ℕ
  -- for so many further commands that become known
  pub commands : ℕ

-- nothing is counted or known
abbrev pub new_learned : ℕ → Learned
new_learned nodes = record { nodes = nodes; cells = replicate WINDOW []; log = record { below = []; beyond = [] } }

-- the slot is one of the 64 from the front on
abbrev pub is_open : Log → ℕ → Bool
is_open log slot = if nat_lt slot (front log) then false else if nat_lt slot (front log + WINDOW) then nat_lt slot SLOTS else false

-- what was counted of an open slot
abbrev pub tallies_at : List (List Tally) → ℕ → List Tally
tallies_at cells slot = slice_index_or cells (slot % WINDOW) []

-- the nodes whose answers were counted of an open slot
abbrev pub answers_at : Learned → Ballot → ℕ → Command → List Bool
answers_at l ballot slot command = nodes_for ballot command (tallies_at l.cells slot)

-- another command is known
abbrev pub is_other : Option Command → Command → Bool
is_other None command = false
is_other (Some known) command = not (is_same known command)

-- ---- what becomes of the log and the cells

-- what is known once the command is known at the slot too
abbrev pub known_with : Log → ℕ → Command → Log
known_with log slot command = if is_none (known_at log slot) then with_command log slot command else log

-- the cells of so many slots from this one on are emptied
abbrev pub emptied : ℕ → ℕ → List (List Tally) → List (List Tally)
emptied slot zero cells = cells
emptied slot (suc more) cells = slice_set (emptied slot more cells) ((slot + more) % WINDOW) []

-- where the front moves on, what was counted of the slots that it passes is forgotten
abbrev pub moved : Learned → Log → Learned
moved l log = record l { cells = emptied (front l.log) (front log - front l.log) l.cells; log = log }

-- and with the command that is known at the slot
abbrev pub knowing : Learned → ℕ → Command → Learned
knowing l slot command = moved l (known_with l.log slot command)

-- with the node's answer counted at the slot
abbrev pub counting : Learned → ℕ → Ballot → ℕ → Command → Learned
counting l from ballot slot command =
    record l { cells = slice_set l.cells (slot % WINDOW) (with_node ballot command from (tallies_at l.cells slot)) }

-- ---- a node's answer that it accepted the command comes

-- it makes a quorum of what was none
abbrev pub completes : Learned → ℕ → Ballot → ℕ → Command → Bool
completes l from ballot slot command = is_completed l.nodes (answers_at l ballot slot command) from

-- what the learner tells of a chosen command, unless another is known at its slot
abbrev pub chosen_in : Log → ℕ → Command → Result (Option Chosen) SlotFault
chosen_in log slot command = if is_other (known_at log slot) command then Err Conflict else Ok (Some (record { slot = slot; command = command }))

-- an answer that completes a quorum at an open slot tells what was chosen there
abbrev pub answer_to : Learned → ℕ → Ballot → ℕ → Command → Result (Option Chosen) SlotFault
answer_to l from ballot slot command =
    if not (is_open l.log slot) then Ok None
    else if not (completes l from ballot slot command) then Ok None
    else chosen_in l.log slot command

-- an answer for an open slot is counted, and what it completes becomes known; where another command is known, nothing changes
abbrev pub hearing : Learned → ℕ → Ballot → ℕ → Command → Learned
hearing l from ballot slot command =
    if not (is_open l.log slot) then l
    else if not (completes l from ballot slot command) then counting l from ballot slot command
    else if is_other (known_at l.log slot) command then l
    else knowing (counting l from ballot slot command) slot command

-- ---- a node's word comes that the command was chosen

-- 30 where another command is known at an open slot
abbrev pub answer_to_chosen : Log → ℕ → Command → Result (Unit {0}) SlotFault
answer_to_chosen log slot command =
    if not (is_open log slot) then Ok tt
    else if is_other (known_at log slot) command then Err Conflict
    else Ok tt

-- at an open slot it becomes known; where another command is known, nothing changes
abbrev pub believing : Learned → ℕ → Command → Learned
believing l slot command =
    if not (is_open l.log slot) then l
    else if is_other (known_at l.log slot) command then l
    else knowing l slot command
