use Rattle.std.proofs.Common.{◌≡◌, map, drop}
use Rattle.promise_store.specs.Calls.{picked, write_of}
use Rattle.promise_store.proofs.medium.pick_image.Given as goal

abbrev pub invariant-loop-call : goal.invariant-loop-call
invariant-loop-call l = picked l.file.items (map write_of (drop l.call-index l.calls)) l.digits ≡ picked l.initial.file.items (map write_of l.calls) l.pick
