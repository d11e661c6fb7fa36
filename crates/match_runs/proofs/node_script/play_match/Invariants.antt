use Rattle.std.proofs.Common.{ℕ, List}
use Rattle.std.specs.Io.KnownBytes.{Consumes}
use Rattle.match_runs.specs.Scripted.{Reaches}
use Rattle.match_runs.proofs.node_script.play_match.Given as goal

abbrev pub invariant-loop-scripted : goal.invariant-loop-scripted
invariant-loop-scripted g l = (bytes : List ℕ) × Consumes (g.R.Read.remaining l.fn.reader) (g.R.Read.remaining l.reader) bytes
    × Reaches l.fn.config (g.W.Write.contents l.fn.writer) bytes l.scripted (g.W.Write.contents l.writer)

abbrev pub decreases-loop-scripted : goal.decreases-loop-scripted
decreases-loop-scripted g l = l.pieces.left
