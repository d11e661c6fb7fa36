use Rattle.dealer_node.proofs.frame_call.read.Goals as goal

pub returns-clause-value : goal.returns-clause-value
returns-clause-value c = c.decode.ensures.exact
