use Rattle.std.proofs.Common.{◌≡◌, ◌≤◌, List, map}
use Rattle.dealer_world.specs.Viewing.{view_of}
use Rattle.dealer_node.specs.Seeing.{begun_of}
use Rattle.dealer_world.specs.Headline.{Era}
use Rattle.dealer_world.specs.Promise.{GoesOnFrom, HasNoForged}
use Rattle.serving.specs.Serving.{served_of}
use Rattle.serving.specs.Turned.{HasGivenAll}
use Rattle.match_runs.specs.Passing.{IsWithin, HandsOn}
use Rattle.match_runs.specs.Serving.{Turns}
use Rattle.match_runs.proofs.served_match.serve_run.Given as goal

abbrev pub invariant-loop-turns : goal.invariant-loop-turns
invariant-loop-turns g l = record {
  told : Turns g.D.Disk l.fn.ports (served_of l.fn.server) (g.W.Write.contents l.fn.notes) l.turns l.waits (served_of l.server) (g.W.Write.contents l.notes);
  few : l.waits ≤ l.turns;
  unforged : HasNoForged (view_of l.fn.server.cluster) → HasNoForged (view_of l.server.cluster);
  goes_on : (before : List Era) → GoesOnFrom g.D.Disk (view_of l.fn.server.cluster) before → GoesOnFrom g.D.Disk (view_of l.server.cluster) before;
  begun : map (begun_of g.D.Disk) (view_of l.server.cluster).nodes ≡ map (begun_of g.D.Disk) (view_of l.fn.server.cluster).nodes;
  handed : IsWithin (served_of l.fn.server) → HandsOn (served_of l.fn.server) (served_of l.server);
  all : HasGivenAll (served_of l.fn.server) → HasGivenAll (served_of l.server);
}
