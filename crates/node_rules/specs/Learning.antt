-- What a node does with votes that it hears of, with what it is told as chosen, and with questions for it.
use Rattle.std.specs.Prelude.{ℕ, zero, suc, ◌+◌, ◌-◌, ◌*◌, ◌/◌, ◌%◌, ◌==◌, ◌&&◌, Bool, nat_lt, min, if◌then◌else◌, List, [], ◌++◌, Option, Some, None, Result, Ok, Err}
use Rattle.paxos_wire.specs.declared.limits.TheConstants.{SLOTS, WINDOW}
use Rattle.paxos_wire.specs.declared.ballot.Ballot.{Ballot}
use Rattle.paxos_wire.specs.declared.message.Message.TheVariants.{Chosen, Ask}
use Rattle.slot_log.specs.Slots.{Log, known_at}
use Rattle.slot_log.specs.declared.command.Command.{Command}
use Rattle.slot_log.specs.declared.slot_fault.SlotFault.{SlotFault}
use Rattle.learner.specs.Learning.{Learned, answer_to_chosen, believing as with_chosen}
use Rattle.learner.specs.CommandRuns.{answer_to_run, hearing_run}
use Rattle.node_rules.specs.Standings.{Place, Standing, front_of}
use Rattle.node_rules.specs.Sending.{Frame, one}
use Rattle.node_rules.specs.Turns.{Turn, Refusal, Conflict, still, sending, and_then}
use Rattle.node_rules.specs.Applying.{applying}

-- where another command is known at the slot there is no turn
abbrev pub learning : {A : Type 0} → Place → Result A SlotFault → Learned → Standing → Result Turn Refusal
learning place (Ok answer) learned s = Ok (applying place learned s)
learning place (Err fault) learned s = Err (Conflict s.store)

-- that a node accepted commands at a slot and those behind it is counted, slot by slot, and what a quorum accepted is known
abbrev pub counting_votes : Place → ℕ → Ballot → ℕ → List Command → Standing → Result Turn Refusal
counting_votes place from ballot slot commands s =
    learning place (answer_to_run s.learned from ballot slot commands) (hearing_run s.learned from ballot slot commands) s

-- ---- Chosen

-- the front went on to a multiple of 64 at which there is a slot: there it asks for more
abbrev pub comes_to_window : ℕ → ℕ → Bool
comes_to_window old new = nat_lt old new && (new % WINDOW == 0 && nat_lt new SLOTS)

-- so it asks who told it
abbrev pub asking_on : ℕ → ℕ → Standing → Turn
asking_on from old s = if comes_to_window old (front_of s) then sending (one from (Ask (front_of s))) s else still s

-- what is told as chosen is known
abbrev pub believing : Place → ℕ → ℕ → Command → Standing → Result Turn Refusal
believing place from slot command s =
    and_then (learning place (answer_to_chosen s.learned.log slot command) (with_chosen s.learned slot command) s)
    (λ told. Ok (asking_on from (front_of s) told))

-- ---- Ask

abbrev pub told_of : ℕ → ℕ → Option Command → List Frame
told_of to slot None = []
told_of to slot (Some command) = one to (Chosen slot command)

-- so many slots from one on, each with the command that is known there
unfoldable pub telling_from : Log → ℕ → ℕ → ℕ → List Frame
telling_from log to slot zero = []
telling_from log to slot (suc more) = told_of to slot (known_at log slot) ++ telling_from log to (slot + 1) more

-- the next multiple of 64 above a slot
abbrev pub next_window : ℕ → ℕ
next_window slot = (slot / WINDOW + 1) * WINDOW

-- what is known from the slot on is told, below the front and below the next multiple of 64
abbrev pub telling : ℕ → ℕ → Standing → Turn
telling from slot s = sending (telling_from s.learned.log from slot (min (front_of s) (next_window slot) - slot)) s

-- ---- a slot above the front

-- who speaks of a slot above the front is asked for what was chosen from the front on
abbrev pub asking_above : ℕ → ℕ → Standing → Turn
asking_above from slot s = if nat_lt (front_of s) slot then sending (one from (Ask (front_of s))) s else still s
