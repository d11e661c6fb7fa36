use Rattle.std.proofs.Common.{◌≡◌, ◌+◌, drop}
use Rattle.slot_log.specs.SlotsInside.{run_of}
use Rattle.slot_log.proofs.known.run_at.Given as goal

abbrev pub invariant-loop-place : goal.invariant-loop-place
invariant-loop-place l = l.place + run_of (l.front + l.place) (drop l.place l.known) ≡ run_of l.front l.known
