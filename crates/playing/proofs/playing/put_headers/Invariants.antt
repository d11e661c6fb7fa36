use Rattle.std.proofs.Common.{◌≡◌, ◌≤◌, ◌++◌, length, take}
use Rattle.std.specs.List.{flat_map}
use Rattle.dealer_world.specs.Viewing.{view_of}
use Rattle.playing.specs.Playing.{header_text}
use Rattle.playing.proofs.playing.put_headers.Given as goal

abbrev pub invariant-loop-number : goal.invariant-loop-number
invariant-loop-number l = (l.number ≤ length (view_of l.cluster).all.shown)
    × (l.out.items ≡ l.fn.out.items ++ flat_map header_text (take l.number (view_of l.cluster).all.shown))
