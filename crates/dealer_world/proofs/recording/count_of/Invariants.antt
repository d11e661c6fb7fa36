use Rattle.std.proofs.Common.{◌≡◌, ◌+◌, ◌-◌, ◌^◌, ◌≤◌, min, length}
use Rattle.dealer_world.proofs.recording.count_of.Given as goal

abbrev pub invariant-loop-text : goal.invariant-loop-text
invariant-loop-text g l = ((goal.iterator-loop-text g).can_next l._text-iterator) × ((goal.iterator-loop-text g).is_finite l._text-iterator)
    × (l.count ≤ 2 ^ 64 - 1) × (min (l.count + length l._text-iterator) (2 ^ 64 - 1) ≡ min (l.before + length l.fn.texts) (2 ^ 64 - 1))
