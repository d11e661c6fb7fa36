use Rattle.std.proofs.Common.{refl, ◌∷◌, []}
use Rattle.slot_log.proofs.Results.{on_err}
use Rattle.match_runs.proofs.Scripting.{play_byte_kept, plays_so_far}
use Rattle.match_runs.proofs.scripted.Scripted.take_byte.Goals as goal

pub returns-in_ok-keep-clause-ok : goal.returns-in_ok-keep-clause-ok
returns-in_ok-keep-clause-ok g c = λ plan start seen reaches.
    play_byte_kept plan start _ seen c.args.byte c.args.self.now _ c.if-byte-eq10.false refl c.in_ok-keep.ensures reaches

pub returns-in_err-keep-clause-err : goal.returns-in_err-keep-clause-err
returns-in_err-keep-clause-err g c = on_err c.from_residual.result (λ plan start seen reaches. plays_so_far plan start _ seen (c.args.byte ∷ []) c.args.self.now reaches)
