-- The ranges of a command's numbers.
use Rattle.std.specs.Prelude.{◌<◌, ◌≤◌}
use Rattle.game_def.specs.Game.{most_chips}
use Rattle.slot_log.specs.declared.limits.TheConstants.{HANDS, ACTIONS}
use Rattle.betting.specs.declared.action.Action.{Action}
use Rattle.betting.specs.declared.action.Action.TheVariants.{Fold, Call, Raise}
use Rattle.slot_log.specs.declared.command.Command.{Command}
use Rattle.slot_log.specs.declared.command.Command.TheVariants.{Deal, Act, Away}

-- a raise goes to no more than the greatest stack; no other action has an amount
abbrev pub IsAmount : Action → Type 0
IsAmount Fold = Unit {0}
IsAmount Call = Unit {0}
IsAmount (Raise amount) = amount ≤ most_chips

-- a command's numbers are within the ranges of every match: its hand below 10000, its index below 256, the amount of a raise at most 2147483647
abbrev pub IsInRange : Command → Type 0
IsInRange (Deal hand deal) = hand < HANDS
IsInRange (Act hand index action) = (hand < HANDS) × (index < ACTIONS) × IsAmount action
IsInRange (Away hand index) = (hand < HANDS) × (index < ACTIONS)
