use Rattle.std.proofs.Common.{◌≡◌, ◌+◌, drop, not, eqb}
use Rattle.std.specs.List.{prefix_len}
use Rattle.matchstate.proofs.cutting.front_len.Given as goal

abbrev pub invariant-loop-place : goal.invariant-loop-place
invariant-loop-place l = prefix_len (λ other. not (eqb other l.byte)) l.bytes ≡ l.place + prefix_len (λ other. not (eqb other l.byte)) (drop l.place l.bytes)
