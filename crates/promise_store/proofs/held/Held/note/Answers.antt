use Rattle.std.proofs.Common.{arith}
use Rattle.promise_store.proofs.Gated.{payload_most}
use Rattle.promise_store.proofs.held.Held.note.Goals as goal

pub note_run-requires-in-Voted-clause-size : goal.note_run-requires-in-Voted-clause-size
note_run-requires-in-Voted-clause-size c = omega (arith, c.requires.size, payload_most c.args.addition.now c.requires.record)
