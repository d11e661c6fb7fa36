use Rattle.std.proofs.Common.{[], ◌++◌, inr}
use Rattle.std.proofs.KnownBytes.{Consumes-kept, Consumes-nil, Consumes-trans}
use Rattle.streamed.specs.Pieces.{bytes_of}
use Rattle.slot_log.proofs.Results.{on_err}
use Rattle.match_runs.proofs.Scripting.{plays_all, plays_here}
use Rattle.match_runs.proofs.node_script.play_match.Goals as goal

pub loop-scripted-init : goal.loop-scripted-init
loop-scripted-init g c = ([], Consumes-nil _, c.in_ok-scripted.ensures.ok)

pub returns-in_err-scripted-clause-err : goal.returns-in_err-scripted-clause-err
returns-in_err-scripted-clause-err g c = on_err c.from_residual.result (record { bytes = []; read = Consumes-nil _; begun = c.in_err-scripted.ensures.err })

pub returns-in_err-read-clause-err : goal.returns-in_err-read-clause-err
returns-in_err-read-clause-err g c = on_err c.from_residual-in_err-read.result (record {
  bytes = c.loop-scripted.invariant.0;
  read = Consumes-kept _ _ _ c.loop-scripted.invariant.0 c.loop-scripted.invariant.1 c.in_err-read.ensures.err;
  begun = inr (plays_here _ _ _ c.loop-scripted.invariant.0 c.loop-scripted.scripted c.loop-scripted.invariant.2);
})

pub loop-scripted-preserved : goal.loop-scripted-preserved
loop-scripted-preserved g c = (
  c.loop-scripted.invariant.0 ++ bytes_of c.read.new.self,
  Consumes-trans _ _ _ c.loop-scripted.invariant.0 _ c.loop-scripted.invariant.1 c.in_ok-read.ensures.read,
  rw c.bytes.ensures at (c.in_ok-take_piece.ensures.ok _ _ c.loop-scripted.invariant.0 c.loop-scripted.invariant.2),
)

pub returns-in_err-take_piece-clause-err : goal.returns-in_err-take_piece-clause-err
returns-in_err-take_piece-clause-err g c = on_err c.from_residual-in_err-take_piece.result (record {
  bytes = c.loop-scripted.invariant.0 ++ bytes_of c.read.new.self;
  read = Consumes-trans _ _ _ c.loop-scripted.invariant.0 _ c.loop-scripted.invariant.1 c.in_ok-read.ensures.read;
  begun = inr (rw c.bytes.ensures at (c.in_err-take_piece.ensures.err _ _ c.loop-scripted.invariant.0 c.loop-scripted.invariant.2));
})

pub returns-clause-ok : goal.returns-clause-ok
returns-clause-ok g c =
    plays_all _ _ _ _ _ _ c.loop-scripted.invariant.0 _ c.loop-scripted.scripted c.loop-scripted.invariant.1 c.in_ok-read.ensures.read (c.in_ok-read.ensures.end c.if-branch.false) c.loop-scripted.invariant.2
