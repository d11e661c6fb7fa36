use Rattle.std.proofs.Common.{◌≤◌}
use Rattle.std.specs.Io.KnownBytes.{Keeps}
use Rattle.streamed.proofs.pieces.Pieces.read.Given as goal

abbrev pub invariant-loop-self : goal.invariant-loop-self
invariant-loop-self g l = Keeps (g.R.Read.remaining l.initial.reader) (g.R.Read.remaining l.reader) × (l.self.left ≤ l.initial.self.left)

abbrev pub decreases-loop-self : goal.decreases-loop-self
decreases-loop-self g l = l.self.left
