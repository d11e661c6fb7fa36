use Rattle.std.proofs.Common.{take}
use Rattle.std.specs.List.{All}
use Rattle.dealer_world.specs.Promise.{IsForMatch}
use Rattle.dealer_world.specs.Viewing.{view_of}
use Rattle.match_tests.proofs.run_tests.assert_all_for.Given as goal

abbrev pub invariant-loop-event : goal.invariant-loop-event
invariant-loop-event g l = All (IsForMatch (view_of l.cluster).config) (take l.event-index l.events)
