use Rattle.std.proofs.Common.{◌≡◌, ◌≤◌, ◌++◌, length, map}
use Rattle.dealer_node.specs.Texts.{byte_total}
use Rattle.dealer_world.specs.Recordings.{frame_by}
use Rattle.dealer_world.proofs.recording.put_frames.Given as goal

abbrev pub invariant-loop-to : goal.invariant-loop-to
invariant-loop-to l = ((goal.iterator-loop-to).can_next l.to-iterator) × ((goal.iterator-loop-to).is_finite l.to-iterator)
    × (length l.to-iterator ≤ l.frames.frame_room) × (byte_total l.to-iterator ≤ l.frames.byte_room)
    × (l.frames.frames ++ map (frame_by l.node) l.to-iterator ≡ l.fn.frames.frames ++ map (frame_by l.node) l.fn.outgoing)
