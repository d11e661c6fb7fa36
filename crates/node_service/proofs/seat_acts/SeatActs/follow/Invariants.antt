use Rattle.std.specs.Prelude.{◌≡◌, take, reverse}
use Rattle.node_service.specs.Acts.{AreActsBy}
use Rattle.node_service.proofs.seat_acts.SeatActs.follow.Given as goal

abbrev pub invariant-loop-place : goal.invariant-loop-place
invariant-loop-place l = record {
  at : l.self.followed ≡ l.place;
  by : AreActsBy l.initial.self (reverse (take l.initial.self.followed l.commands)) → AreActsBy l.self (reverse (take l.place l.commands));
  game : l.self.newest.game ≡ l.initial.self.newest.game;
  count : l.self.newest.count ≡ l.initial.self.newest.count;
}
