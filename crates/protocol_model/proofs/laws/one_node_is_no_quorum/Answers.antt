use Rattle.protocol_model.proofs.Quorums.{one_is_no_quorum}
use Rattle.protocol_model.proofs.laws.one_node_is_no_quorum.Goals as goal

pub returns : goal.returns
returns c = one_is_no_quorum
