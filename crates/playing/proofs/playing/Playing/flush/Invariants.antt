use Rattle.std.proofs.Common.{◌≡◌, ◌++◌, ℕ, List}
use Rattle.playing.specs.Playing.{Flushes}
use Rattle.playing.specs.PlayingInside.{scene_of}
use Rattle.playing.proofs.playing.Playing.flush.Given as goal

abbrev pub invariant-loop-count : goal.invariant-loop-count
invariant-loop-count l = (text : List ℕ) × (l.out.items ≡ l.fn.out.items ++ text) × Flushes (scene_of l.fn.self) l._count text (scene_of l.self)
