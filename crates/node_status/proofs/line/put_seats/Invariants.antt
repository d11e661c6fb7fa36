use Rattle.std.proofs.Common.{◌≡◌, ◌++◌, take}
use Rattle.std.specs.Prelude.{codes}
use Rattle.std.specs.List.{join_by}
use Rattle.node_status.specs.Texts.{seat_text}
use Rattle.node_status.proofs.line.put_seats.Given as goal

abbrev pub invariant-loop-place : goal.invariant-loop-place
invariant-loop-place l = l.line.items ≡ l.initial.line.items ++ join_by seat_text (codes ",") (take l.place l.seats)
