use Rattle.std.proofs.Common.{[], ◌++◌}
use Rattle.std.proofs.KnownBytes.{Consumes-kept, Consumes-nil, Consumes-trans}
use Rattle.streamed.specs.Pieces.{bytes_of}
use Rattle.slot_log.proofs.Results.{on_err}
use Rattle.streamed.proofs.Progress.{begins_here}
use Rattle.streamed.proofs.hand_script.run_script.Goals as goal

pub loop-running-init : goal.loop-running-init
loop-running-init g c = ([], Consumes-nil _, c.new-running.ensures _)

pub returns-in_err-read-clause-err : goal.returns-in_err-read-clause-err
returns-in_err-read-clause-err g c = on_err c.from_residual.result (record {
  bytes = c.loop-running.invariant.0;
  read = Consumes-kept _ _ _ c.loop-running.invariant.0 c.loop-running.invariant.1 c.in_err-read.ensures.err;
  begun = begins_here _ _ _ _ _ c.loop-running.invariant.0 c.loop-running.running c.loop-running.invariant.2;
})

pub loop-running-preserved : goal.loop-running-preserved
loop-running-preserved g c = (
  c.loop-running.invariant.0 ++ bytes_of c.read.new.self,
  Consumes-trans _ _ _ c.loop-running.invariant.0 _ c.loop-running.invariant.1 c.in_ok-read.ensures.read,
  rw c.bytes.ensures at (c.in_ok-take_piece.ensures.ok _ _ _ _ c.loop-running.invariant.0 c.loop-running.invariant.2),
)

pub returns-in_err-take_piece-clause-err : goal.returns-in_err-take_piece-clause-err
returns-in_err-take_piece-clause-err g c = on_err c.from_residual-in_err-take_piece.result (record {
  bytes = c.loop-running.invariant.0 ++ bytes_of c.read.new.self;
  read = Consumes-trans _ _ _ c.loop-running.invariant.0 _ c.loop-running.invariant.1 c.in_ok-read.ensures.read;
  begun = rw c.bytes.ensures at (c.in_err-take_piece.ensures.err _ _ _ _ c.loop-running.invariant.0 c.loop-running.invariant.2);
})
