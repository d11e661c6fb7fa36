use Rattle.node_rules.proofs.Outcomes.{front_is_unknown, told_is_known, votes_stay_in_time, quorum_is_known}
use Rattle.node_rules.proofs.laws.quorums_are_known.Goals as goal

pub returns-clause-front : goal.returns-clause-front
returns-clause-front c = front_is_unknown c.layers_below.ensures

pub returns-clause-told : goal.returns-clause-told
returns-clause-told c = told_is_known c.layers_below.ensures

pub returns-clause-votes : goal.returns-clause-votes
returns-clause-votes c = votes_stay_in_time c.layers_below.ensures

pub returns-clause-quorum : goal.returns-clause-quorum
returns-clause-quorum c = quorum_is_known c.layers_below.ensures
