use Rattle.std.proofs.lemmas.Grind.{common_steps}
use Rattle.std.proofs.Common.{◌++◌, arith}
use Rattle.std.proofs.KnownBytes.{Consumes-trans}
use Rattle.streamed.specs.Pieces.{bytes_of}
use Rattle.slot_log.proofs.Results.{on_err}
use Rattle.streamed.proofs.log_check.read_all.Goals as goal

pub returns-in_err-extend_from_slice-clause-err : goal.returns-in_err-extend_from_slice-clause-err
returns-in_err-extend_from_slice-clause-err g c =
    on_err c.from_residual-in_err-extend_from_slice.result
    (c.loop-bytes.bytes.items ++ bytes_of c.read.new.self, Consumes-trans _ _ _ c.loop-bytes.bytes.items _ c.loop-bytes.invariant c.in_ok-read.ensures.read)

pub loop-bytes-preserved : goal.loop-bytes-preserved
loop-bytes-preserved g c = grind (arith, common_steps)
