use Rattle.std.proofs.Common.{sym, ◌∙◌}
use Rattle.node_peers.specs.Leaving.{outdated}
use Rattle.node_peers.proofs.peers.Peers.fate.Goals as goal

pub returns-then-is_outdated : goal.returns-then-is_outdated
returns-then-is_outdated c = outdated c.in-Some.question (cc) (sym c.is_outdated.ensures ∙ c.if-is_outdated.true)
