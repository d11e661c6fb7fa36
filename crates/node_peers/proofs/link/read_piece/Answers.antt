use Rattle.node_peers.proofs.Fitting.{moves_taken}
use Rattle.node_peers.proofs.link.read_piece.Goals as goal

pub returns-in-Ok-clause-moves : goal.returns-in-Ok-clause-moves
returns-in-Ok-clause-moves g c = moves_taken c.args.place c.line_at-in-Ok.result _ c.args.link.now c.take_in.new.link _ _ c.take_in.ensures c.line_at-in-Ok.ensures c.came.ensures
