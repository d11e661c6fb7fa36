use Rattle.std.proofs.Common.{◌≡◌}
use Rattle.node_links.specs.Lives.{lives_in}
use Rattle.node_links.proofs.lives.lives_of.Given as goal

abbrev pub invariant-loop-number : goal.invariant-loop-number
invariant-loop-number l = l.lives ≡ lives_in l.number l.bytes
