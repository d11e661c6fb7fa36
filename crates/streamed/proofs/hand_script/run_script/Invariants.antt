use Rattle.std.proofs.Common.{ℕ, List}
use Rattle.std.specs.Io.KnownBytes.{Consumes}
use Rattle.streamed.specs.Running.{Shows}
use Rattle.streamed.proofs.hand_script.run_script.Given as goal

abbrev pub invariant-loop-running : goal.invariant-loop-running
invariant-loop-running g l = (bytes : List ℕ) × Consumes (g.R.Read.remaining l.fn.reader) (g.R.Read.remaining l.reader) bytes
    × Shows l.fn.game l.fn.hands l.fn.log (g.W.Write.contents l.fn.writer) bytes l.running (g.W.Write.contents l.writer)

abbrev pub decreases-loop-running : goal.decreases-loop-running
decreases-loop-running g l = l.pieces.left
