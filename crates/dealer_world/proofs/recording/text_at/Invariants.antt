use Rattle.std.proofs.Common.{◌≡◌, ◌+◌, length}
use Rattle.std.specs.Prelude.{slice_get}
use Rattle.dealer_world.proofs.recording.text_at.Given as goal

abbrev pub invariant-loop-mark : goal.invariant-loop-mark
invariant-loop-mark g l = ((goal.iterator-loop-mark g).can_next l.mark-iterator) × ((goal.iterator-loop-mark g).is_finite l.mark-iterator)
    × (slice_get l.mark-iterator l.left ≡ slice_get l.fn.texts l.number) × (l.left + length l.fn.texts ≡ l.number + length l.mark-iterator)
