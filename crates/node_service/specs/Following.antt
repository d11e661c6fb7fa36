-- The list of a node's commands, as it was followed for the acts of seats.
use Rattle.std.specs.Prelude.{◌≤◌, length, take, reverse}
use Rattle.node_rules.specs.Standings.{Standing, applied}
use Rattle.node_service.specs.Acts.{AreActsBy}
use Rattle.node_service.specs.declared.seat_acts.SeatActs.{SeatActs}

-- if what was followed is a beginning of the commands that a node which stands so has applied, what is kept is now what all of them say
abbrev pub FollowsAll : Standing → SeatActs → SeatActs → Type 0
FollowsAll s old new = old.followed ≤ length (applied s) → AreActsBy old (reverse (take old.followed (reverse (applied s)))) → AreActsBy new (applied s)
