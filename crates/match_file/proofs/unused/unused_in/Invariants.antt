use Rattle.std.proofs.Common.{◌≡◌, ◌++◌, map}
use Rattle.std.specs.BTreeMap.{keys}
use Rattle.match_file.proofs.UnusedKeys.{node_unused_in}
use Rattle.match_file.proofs.unused.unused_in.Given as goal

abbrev pub invariant-loop-key : goal.invariant-loop-key
invariant-loop-key l = map (λ key. key.now) l.unused.items ++ node_unused_in l.key-iterator ≡ node_unused_in (keys l.table)
