use Rattle.std.proofs.Common.{◌≡◌, ◌++◌, take, codes}
use Rattle.std.specs.List.{flat_map}
use Rattle.node_runs.specs.Tokens.{quoted}
use Rattle.node_runs.proofs.tokens.put_others.Given as goal

abbrev pub invariant-loop-digest : goal.invariant-loop-digest
invariant-loop-digest l = l.line.items ≡ l.fn.line.items ++ flat_map (λ digest. codes ", " ++ quoted digest) (take l.digest-index l.digests)
