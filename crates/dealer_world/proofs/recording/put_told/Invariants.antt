use Rattle.std.proofs.Common.{◌≡◌, ◌++◌, map}
use Rattle.dealer_world.specs.Records.{log_of}
use Rattle.dealer_world.specs.Views.{piece_of}
use Rattle.dealer_world.specs.Recordings.{text_by}
use Rattle.dealer_world.proofs.recording.put_told.Given as goal

abbrev pub invariant-loop-reader : goal.invariant-loop-reader
invariant-loop-reader l = ((goal.iterator-loop-reader).can_next l.reader-iterator) × ((goal.iterator-loop-reader).is_finite l.reader-iterator)
    × (l.log.items ++ log_of (map (piece_of l.at.node l.at.start) (map text_by l.reader-iterator)) l.of.node l.of.start
    ≡ l.fn.log.items ++ log_of (map (piece_of l.at.node l.at.start) (map text_by l.fn.shown)) l.of.node l.of.start)
