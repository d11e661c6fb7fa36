-- Each bundle that contracts cite says what it bundles, and no more.
use Rattle.std.proofs.Common.{ℕ, List, ◌++◌}
use Rattle.std.specs.Prelude.{Option}
use Rattle.dealer_kind.specs.Plans.{Plan}
use Rattle.match_runs.specs.Scripted.{BeginsPlay, BreaksPlay, Reaches, ReachesOn}
use Rattle.match_runs.specs.declared.scripted.Scripted.{Scripted}

module _ (bytes : List ℕ) (old new : Scripted) (held after : Option (List ℕ)) where
  abbrev ReachesSo : Type 0
  ReachesSo = (plan : Plan) (start : Option (List ℕ)) (seen : List ℕ) → Reaches plan start seen old held → Reaches plan start (seen ++ bytes) new after

  reaches_is : ReachesOn bytes old new held after → ReachesSo
  reaches_is is = is

  reaches_of : ReachesSo → ReachesOn bytes old new held after
  reaches_of is = is

  abbrev BeginsSo : Type 0
  BeginsSo = (plan : Plan) (start : Option (List ℕ)) (seen : List ℕ) → Reaches plan start seen old held → BeginsPlay plan start (seen ++ bytes) after

  breaks_is : BreaksPlay bytes old held after → BeginsSo
  breaks_is is = is

  breaks_of : BeginsSo → BreaksPlay bytes old held after
  breaks_of is = is
