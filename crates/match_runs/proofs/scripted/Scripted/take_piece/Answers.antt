use Rattle.std.proofs.Common.{◌+◌, ◌++◌, ◌∙◌, take, drop, ap, sym, subst, append_assoc, List, ℕ, arith}
use Rattle.std.proofs.lemmas.List.{take_more}
use Rattle.match_runs.specs.Scripted.{Reaches, BeginsPlay}
use Rattle.slot_log.proofs.Results.{on_err}
use Rattle.streamed.proofs.Progress.{piece_split}
use Rattle.match_runs.proofs.Scripting.{plays_still}
use Rattle.match_runs.proofs.scripted.Scripted.take_piece.Goals as goal

pub returns-in_err-take_byte-clause-err : goal.returns-in_err-take_byte-clause-err
returns-in_err-take_byte-clause-err g c = on_err c.from_residual.result (λ plan start seen reaches.
    let i = c.loop-byte.byte-index in
    let piece = c.args.piece.now in
    let begun = c.in_err-take_byte.ensures.err plan start (seen ++ take i piece) (c.loop-byte.invariant plan start seen reaches) in
    let read : List ℕ → Type 0 = λ bytes. BeginsPlay plan start bytes (g.W.Write.contents c.take_byte.new.writer) in
    subst read (piece_split seen piece i (omega arith)) (plays_still plan start _ _ (drop (i + 1) piece) begun))

pub loop-byte-preserved : goal.loop-byte-preserved
loop-byte-preserved g c = λ plan start seen reaches.
    let i = c.loop-byte.byte-index in
    let piece = c.args.piece.now in
    let reached = c.in_ok-take_byte.ensures.ok plan start (seen ++ take i piece) (c.loop-byte.invariant plan start seen reaches) in
    subst (λ (bytes : List ℕ). Reaches plan start bytes c.take_byte.new.self (g.W.Write.contents c.take_byte.new.writer))
    (append_assoc seen (take i piece) _ ∙ ap (λ (bytes : List ℕ). seen ++ bytes) (sym (take_more piece i 0 (omega arith)))) reached
