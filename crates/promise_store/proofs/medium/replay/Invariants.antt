use Rattle.std.proofs.Common.{◌≡◌, drop}
use Rattle.promise_store.specs.Calls.{replayed}
use Rattle.promise_store.proofs.medium.replay.Given as goal

abbrev pub invariant-loop-call : goal.invariant-loop-call
invariant-loop-call l = replayed l.file.items (drop l.call-index l.calls) ≡ replayed l.initial.file.items l.calls
