use Rattle.peer_codes.proofs.StepParts.{met_is}
use Rattle.peer_codes.proofs.connection.Connection.meet.Goals as goal

pub returns : goal.returns
returns c = met_is c.args.self.now c.args.caller c.args.own _ _ _ c.proof-theirs.ensures c.ways_of-ways.ensures c.proof-proof.ensures
