use Rattle.std.proofs.Common.{◌≡◌, ◌++◌, map, take, drop}
use Rattle.serving.specs.Placing.{moved}
use Rattle.serving.proofs.places.move_all.Given as goal

-- those before this one have moved
abbrev pub invariant-loop-at : goal.invariant-loop-at
invariant-loop-at l = l.places ≡ map (moved l.node l.next) (take l.at l.initial.places) ++ drop l.at l.initial.places
