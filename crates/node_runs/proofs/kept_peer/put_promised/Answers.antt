use Rattle.node_runs.proofs.KeptPeers.{lined}
use Rattle.node_runs.proofs.kept_peer.put_promised.Goals as goal

pub returns : goal.returns
returns c =
    lined c.args.text.now.items c.put_ballot.new.text.items c.put_spaces.new.text.items c.extend_from_slice.new.self.items c.args.ballot c.in_ok-put_ballot.ensures c.in_ok-put_spaces.ensures
    c.in_ok-extend_from_slice.ensures.items
