use Rattle.std.proofs.Common.{List, ℕ, drop}
use Rattle.std.specs.Prelude.{Option}
use Rattle.dealer_world.specs.Viewing.{view_of}
use Rattle.match_runs.specs.Refusals.{TellsFaults}
use Rattle.match_runs.proofs.telling.tell_faults.Given as goal

abbrev pub invariant-loop-found : goal.invariant-loop-found
invariant-loop-found g l = (after : Option (List ℕ)) → TellsFaults (view_of l.cluster) l.piece l.node (drop l.found-index l.faults) (g.W.Write.contents l.notes) after
    → TellsFaults (view_of l.cluster) l.piece l.node l.faults (g.W.Write.contents l.fn.notes) after
