use Rattle.std.proofs.Common.{ℕ, List, ◌++◌, take}
use Rattle.std.specs.Prelude.{Option}
use Rattle.game_def.specs.Game.{Game}
use Rattle.streamed.specs.Running.{Shows}
use Rattle.streamed.proofs.running.Running.take_piece.Given as goal

abbrev pub invariant-loop-byte : goal.invariant-loop-byte
invariant-loop-byte g l = (game : Game) (count : ℕ) (log start : Option (List ℕ)) (seen : List ℕ) →
    Shows game count log start seen l.fn.self (g.W.Write.contents l.fn.writer) → Shows game count log start (seen ++ take l.byte-index l.piece) l.self (g.W.Write.contents l.writer)
