use Rattle.std.proofs.Common.{◌+◌, ◌++◌, take, drop, subst, List, ℕ, arith}
use Rattle.streamed.specs.Running.{Begins}
use Rattle.slot_log.proofs.Results.{on_err}
use Rattle.streamed.proofs.Progress.{begins_still, piece_split}
use Rattle.streamed.proofs.running.Running.take_piece.Goals as goal

pub returns-in_err-take_byte-clause-err : goal.returns-in_err-take_byte-clause-err
returns-in_err-take_byte-clause-err g c = on_err c.from_residual.result (λ game count log start seen shows.
    let i = c.loop-byte.byte-index in
    let piece = c.args.piece.now in
    let begun = c.in_err-take_byte.ensures.err game count log start (seen ++ take i piece) (c.loop-byte.invariant game count log start seen shows) in
    let read : List ℕ → Type 0 = λ bytes. Begins game count log start bytes (g.W.Write.contents c.take_byte.new.writer) in
    subst read (piece_split seen piece i (omega arith)) (begins_still game count log start _ _ (drop (i + 1) piece) begun))
