use Rattle.node_runs.specs.KeptPeers.{IsSpaced}
use Rattle.node_runs.proofs.kept_peer.put_spaces.Given as goal

abbrev pub invariant-loop-missing : goal.invariant-loop-missing
invariant-loop-missing l = IsSpaced l.text.items l.fn.text.items
