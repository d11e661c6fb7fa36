use Rattle.std.proofs.Common.{refl}
use Rattle.streamed.proofs.Progress.{byte_kept}
use Rattle.streamed.proofs.running.Running.take_byte.Goals as goal

pub returns-else-byte-eq10-clause-ok : goal.returns-else-byte-eq10-clause-ok
returns-else-byte-eq10-clause-ok g c = λ game count log start seen shows.
    byte_kept game count log start _ seen c.args.byte c.args.self.now _ c.if-byte-eq10.false refl c.keep.ensures shows
