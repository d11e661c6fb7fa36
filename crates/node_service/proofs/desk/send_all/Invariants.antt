use Rattle.std.proofs.Common.{◌≡◌, ◌++◌, map}
use Rattle.node_peers.specs.Peering.{frames_of, heard_of, Keeps}
use Rattle.node_service.specs.Company.{HearsOn}
use Rattle.node_service.specs.Handed.{mark_handed}
use Rattle.node_service.proofs.desk.send_all.Given as goal

abbrev pub invariant-loop-to : goal.invariant-loop-to
invariant-loop-to l = ((goal.iterator-loop-to).can_next l.to-iterator) × ((goal.iterator-loop-to).is_finite l.to-iterator)
    × ((frames_of l.company.peers ++ map mark_handed l.to-iterator ≡ frames_of l.fn.company.peers ++ map mark_handed l.fn.made.frames) × (Keeps l.fn.company.peers l.company.peers × ((heard_of l.company.peers ≡ heard_of l.fn.company.peers) × HearsOn l.fn.company.peers l.company.peers)))
