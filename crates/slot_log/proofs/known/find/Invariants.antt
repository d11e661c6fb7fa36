use Rattle.std.proofs.Common.{◌≡◌, drop}
use Rattle.slot_log.specs.Slots.{find}
use Rattle.slot_log.proofs.known.find.Given as goal

abbrev pub invariant-loop-one : goal.invariant-loop-one
invariant-loop-one l = find (drop l.one-index l.known) l.slot ≡ find l.known l.slot
