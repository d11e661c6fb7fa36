use Rattle.std.proofs.Common.{◌≡◌, ◌≤◌, ◌++◌, length, map}
use Rattle.dealer_node.specs.Texts.{byte_total}
use Rattle.dealer_world.specs.Views.{piece_of}
use Rattle.dealer_world.specs.Recordings.{text_by}
use Rattle.dealer_world.proofs.recording.put_pieces.Given as goal

abbrev pub invariant-loop-reader : goal.invariant-loop-reader
invariant-loop-reader l = ((goal.iterator-loop-reader).can_next l.reader-iterator) × ((goal.iterator-loop-reader).is_finite l.reader-iterator)
    × (length l.reader-iterator ≤ l.pieces.piece_room) × (byte_total l.reader-iterator ≤ l.pieces.byte_room)
    × (l.pieces.pieces ++ map (piece_of l.at.node l.at.start) (map text_by l.reader-iterator) ≡ l.fn.pieces.pieces ++ map (piece_of l.at.node l.at.start) (map text_by l.fn.shown))
