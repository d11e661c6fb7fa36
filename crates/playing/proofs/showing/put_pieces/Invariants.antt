use Rattle.std.proofs.Common.{◌≡◌, ◌++◌}
use Rattle.std.specs.List.{flat_map}
use Rattle.playing.specs.Showing.{piece_text}
use Rattle.playing.proofs.showing.put_pieces.Given as goal

abbrev pub invariant-loop-reader : goal.invariant-loop-reader
invariant-loop-reader l = (goal.iterator-loop-reader).can_next l.reader-iterator × (goal.iterator-loop-reader).is_finite l.reader-iterator
    × (l.out.items ++ flat_map (piece_text l.node) l.reader-iterator ≡ l.fn.out.items ++ flat_map (piece_text l.node) l.fn.shown)
