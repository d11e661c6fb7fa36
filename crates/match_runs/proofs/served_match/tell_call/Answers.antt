use Rattle.std.proofs.Common.{ap}
use Rattle.dealer_world.specs.declared.cluster.Cluster.{Cluster}
use Rattle.dealer_world.specs.Viewing.{view_of}
use Rattle.serving.specs.Serving.{served_of}
use Rattle.match_runs.proofs.Waiting.{call_told}
use Rattle.match_runs.proofs.served_match.tell_call.Goals as goal

pub returns : goal.returns
returns g c =
    call_told c.args.dealt.hands c.args.turn (served_of c.args.server.now) _ _ _ _ _ _ _ (ap (λ (cluster : Cluster g.row.D.Denot g.D.Disk). view_of cluster) c.cluster.ensures.same)
    c.last_node-node.ensures c.last_piece.ensures c.last_fault.ensures c.tell_turn.ensures c.tell_failure.ensures
