-- What a failed store needs, and how many seats were greeted, as turns go on.
use Rattle.std.specs.Prelude.{ℕ, ◌+◌, ◌==◌, if◌then◌else◌, Option, Some, None}
use Rattle.serving.specs.declared.known.Repair.{Repair}
use Rattle.serving.specs.declared.known.Repair.TheVariants.{Stop, Start}
use Rattle.serving.specs.declared.turn.Turn.{Turn}
use Rattle.serving.specs.declared.turn.Turn.TheVariants as turn

-- the node that was to be stopped is to be started once it was stopped
abbrev pub stopped : ℕ → Option Repair → Option Repair
stopped node None = None
stopped node (Some (Start found)) = Some (Start found)
stopped node (Some (Stop found)) = if found == node then Some (Start node) else Some (Stop found)

-- and needs nothing once it was started
abbrev pub started : ℕ → Option Repair → Option Repair
started node None = None
started node (Some (Stop found)) = Some (Stop found)
started node (Some (Start found)) = if found == node then None else Some (Start found)

abbrev pub repair_after : Turn → Option Repair → Option Repair
repair_after (turn.Stopped node) before = stopped node before
repair_after (turn.Started node) before = started node before
repair_after other before = before

-- the seat that was to be greeted is
abbrev pub greeted_after : ℕ → ℕ → ℕ
greeted_after seat greeted = if greeted == seat then seat + 1 else greeted
