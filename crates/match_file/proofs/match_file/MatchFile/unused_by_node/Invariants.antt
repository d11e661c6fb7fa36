use Rattle.std.proofs.Common.{◌≡◌, ◌++◌, [], ◌∷◌, drop}
use Rattle.std.specs.Prelude.{filter}
use Rattle.match_file.specs.declared.key.Key.TheVariants.{Port, Outage}
use Rattle.match_file.specs.MatchFile.{members}
use Rattle.match_file.specs.Unused.{is_there, unused_by_node}
use Rattle.match_file.proofs.match_file.MatchFile.unused_by_node.Given as goal

abbrev pub invariant-loop-key : goal.invariant-loop-key
invariant-loop-key l =
    l.unused.items ++ filter (λ key. is_there key (members l.self)) (drop l.key-index (Port ∷ Outage ∷ [])) ≡ unused_by_node (members l.self)
