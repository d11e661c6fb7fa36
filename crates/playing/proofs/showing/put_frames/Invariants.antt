use Rattle.std.proofs.Common.{◌≡◌, ◌+◌, ◌^◌, ◌<◌, ◌++◌, length}
use Rattle.playing.specs.Showing.{frames_text}
use Rattle.playing.proofs.showing.put_frames.Given as goal

abbrev pub invariant-loop-to : goal.invariant-loop-to
invariant-loop-to l = (goal.iterator-loop-to).can_next l.to-iterator × (goal.iterator-loop-to).is_finite l.to-iterator
    × (l.number + length l.to-iterator < 2 ^ 64)
    × (l.out.items ++ frames_text l.node l.number l.to-iterator ≡ l.fn.out.items ++ frames_text l.node l.first l.fn.frames)
