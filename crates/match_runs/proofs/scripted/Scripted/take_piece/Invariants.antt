use Rattle.std.proofs.Common.{ℕ, List, ◌++◌, take}
use Rattle.std.specs.Prelude.{Option}
use Rattle.dealer_kind.specs.Plans.{Plan}
use Rattle.match_runs.specs.Scripted.{Reaches}
use Rattle.match_runs.proofs.scripted.Scripted.take_piece.Given as goal

abbrev pub invariant-loop-byte : goal.invariant-loop-byte
invariant-loop-byte g l = (plan : Plan) (start : Option (List ℕ)) (seen : List ℕ) →
    Reaches plan start seen l.fn.self (g.W.Write.contents l.fn.writer) → Reaches plan start (seen ++ take l.byte-index l.piece) l.self (g.W.Write.contents l.writer)
