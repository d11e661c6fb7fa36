-- The log of slots: which command is known at which slot.
use Rattle.std.specs.Prelude.{ℕ, ◌+◌, ◌<◌, ◌≤◌, ◌==◌, nat_lt, if◌then◌else◌, List, [], ◌∷◌, length, reverse, slice_get, Option, Some, None}
use Rattle.slot_log.specs.declared.command.Command.{Command}
use Rattle.slot_log.specs.declared.known.Known.{Known}
use Rattle.slot_log.specs.declared.limits.TheConstants.{SLOTS}

-- what is known: the commands below the front, newest first, which are those of slot 0 and all that follow without
-- a gap, and those that are known beyond the front, by rising slots
pub record Log : Type 0 where
  pub below : List Command
  pub beyond : List Known

-- the first slot whose command isn't known
abbrev pub front : Log → ℕ
front log = length log.below

-- the command at a slot
abbrev pub known_by : ℕ → Command → Known
known_by slot command = record { slot = slot; command = command }

-- the command of a slot among these
abbrev pub find : List Known → ℕ → Option Command
find [] slot = None
find (known ∷ others) slot = if known.slot == slot then Some known.command else find others slot

-- the command that is known at a slot
abbrev pub known_at : Log → ℕ → Option Command
known_at log slot = if nat_lt slot (front log) then slice_get (reverse log.below) slot else find log.beyond slot

-- the slots rise, from one on, and are slots that there are
abbrev pub Rise : ℕ → List Known → Type 0
Rise from [] = Unit {0}
Rise from (known ∷ others) = (from ≤ known.slot) × (known.slot < SLOTS) × Rise (known.slot + 1) others

-- what holds of every log: nothing is known at the front
pub record IsLog (log : Log) : Type 0 where
  pub below : front log ≤ SLOTS
  pub beyond : Rise (front log + 1) log.beyond

-- with one more, where its slot puts it
abbrev pub with_known : Known → List Known → List Known
with_known new [] = new ∷ []
with_known new (known ∷ others) = if nat_lt new.slot known.slot then new ∷ known ∷ others else known ∷ with_known new others

-- the front goes on over the commands that are known at it
abbrev pub settled : List Command → List Known → Log
settled below [] = record { below = below; beyond = [] }
settled below (known ∷ others) =
    if known.slot == length below then settled (known.command ∷ below) others
    else record { below = below; beyond = known ∷ others }

-- what is known once this command is known at this slot, where none was
abbrev pub with_command : Log → ℕ → Command → Log
with_command log slot command = settled log.below (with_known (known_by slot command) log.beyond)

-- the log and for how many further commands there is room
pub record Slots : Type 0 where
  pub log : Log
  pub room : ℕ
