use Rattle.std.proofs.Common.{◌≡◌, ◌-◌, ◌≤◌, map, take, drop, length, replicate, Some, None}
use Rattle.matchstate.proofs.view.View.board.Given as goal

abbrev pub invariant-loop-place : goal.invariant-loop-place
invariant-loop-place l =
    (l.place ≤ l.count)
    × (length l.board ≡ 5)
    × (take l.place l.board ≡ map Some (take l.place l.cards))
    × (drop l.place l.board ≡ replicate (5 - l.place) None)
