use Rattle.std.proofs.Common.{◌≡◌, ◌≤◌}
use Rattle.dealer_world.specs.Viewing.{view_of}
use Rattle.serving.specs.Desks.{CallsNone, GivesOn}
use Rattle.serving.specs.Giving.{counted}
use Rattle.serving.proofs.desk.Desk.show.Given as goal

-- the pieces before this one were given, seats may have left, and nothing else changed
abbrev pub invariant-loop-number : goal.invariant-loop-number
invariant-loop-number g l = record {
  uncalled : CallsNone l.initial.self l.self;
  reached : l.self.shown ≡ l.number;
  low : l.number ≤ counted (view_of l.cluster).all.shown;
  given : GivesOn g.L.Links (view_of l.cluster).all.shown l.initial.self l.self;
}
