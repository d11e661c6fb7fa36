use Rattle.std.proofs.Common.{◌≡◌, ◌++◌, take, drop}
use Rattle.slot_log.specs.declared.command.Command.{Command}
use Rattle.slot_log.specs.Slots.{known_by, with_known}
use Rattle.slot_log.proofs.known.place_of.Given as goal

abbrev pub invariant-loop-place : goal.invariant-loop-place
invariant-loop-place l =
    (command : Command) → take l.place l.known ++ with_known (known_by l.slot command) (drop l.place l.known) ≡ with_known (known_by l.slot command) l.known
