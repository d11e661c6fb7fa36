-- What holds of every log of slots.
use Rattle.std.specs.Prelude.{◌≡◌, ◌==◌, ℕ, ◌+◌, ◌<◌, if◌then◌else◌, List, ◌++◌, length, Some, None, IsSome}
use Rattle.slot_log.specs.declared.command.Command.{Command}
use Rattle.slot_log.specs.declared.limits.TheConstants.{SLOTS}
use Rattle.slot_log.specs.Slots.{Log, IsLog, front, known_at, with_command}

-- the front is the first slot whose command isn't known
abbrev pub FrontIsFirstHole : Type 0
FrontIsFirstHole = (log : Log) → IsLog log
    → ((slot : ℕ) → slot < front log → IsSome (known_at log slot)) × (known_at log (front log) ≡ None)

-- no command is known at a slot that there isn't
abbrev pub SlotsEnd : Type 0
SlotsEnd = (log : Log) (slot : ℕ) (command : Command) → IsLog log → known_at log slot ≡ Some command → slot < SLOTS

-- a command that becomes known is known at its slot, and at all other slots is known what was
abbrev pub OneMoreIsKnown : Type 0
OneMoreIsKnown = (log : Log) (slot : ℕ) (command : Command) → IsLog log → slot < SLOTS → known_at log slot ≡ None
    → IsLog (with_command log slot command)
    × ((other : ℕ) → known_at (with_command log slot command) other ≡ (if other == slot then Some command else known_at log other))

-- the commands below the front stay there
abbrev pub FrontsGoOn : Type 0
FrontsGoOn = (log : Log) (slot : ℕ) (command : Command) → (later : List Command) × ((with_command log slot command).below ≡ later ++ log.below)

-- how many commands are known, below the front and beyond it
abbrev pub known_count : Log → ℕ
known_count log = length log.below + length log.beyond

-- a command that becomes known is one more, and none is lost
abbrev pub CommandsAreKept : Type 0
CommandsAreKept = (log : Log) (slot : ℕ) (command : Command) → known_count (with_command log slot command) ≡ known_count log + 1
