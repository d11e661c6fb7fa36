use Rattle.std.proofs.Common.{◌≡◌, ◌+◌, length}
use Rattle.dealer_node.specs.Texts.{byte_total}
use Rattle.dealer_world.proofs.recording.size_of.Given as goal

abbrev pub invariant-loop-text : goal.invariant-loop-text
invariant-loop-text g l = ((goal.iterator-loop-text g).can_next l.text-iterator) × ((goal.iterator-loop-text g).is_finite l.text-iterator)
    × (l.count + length l.text-iterator ≡ length l.fn.texts) × (l.bytes + byte_total l.text-iterator ≡ byte_total l.fn.texts)
