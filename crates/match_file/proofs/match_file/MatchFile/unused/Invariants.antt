use Rattle.std.proofs.Common.{◌≡◌, ◌++◌, map}
use Rattle.std.specs.BTreeMap.{keys}
use Rattle.match_file.proofs.UnusedKeys.{unused_in}
use Rattle.match_file.proofs.match_file.MatchFile.unused.Given as goal

abbrev pub invariant-loop-key : goal.invariant-loop-key
invariant-loop-key l = map (λ key. key.now) l.unused.items ++ unused_in l.key-iterator ≡ unused_in (keys l.self.table)
