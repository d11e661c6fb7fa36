-- How a server is seen, and what of it stays while no node is called.
use Rattle.std.specs.Prelude.{◌≡◌}
use Rattle.promise_store.specs.declared.disk.Disk.{Ghosts}
use Rattle.match_links.specs.declared.links.Links.{Ghosts as OfLinks}
use Rattle.dealer_node.specs.Nodes.{Node}
use Rattle.dealer_world.specs.Viewing.{view_of}
use Rattle.serving.specs.declared.server.Server.{Server}
use Rattle.serving.specs.Served.{Served}

abbrev pub served_of : {D L : Type 0} {disk : Ghosts D} {links : OfLinks L} → Server D L disk links → Served (Node D)
served_of {links = links} server = record {
  view = view_of server.cluster;
  progress = server.desk.progress;
  waiting = server.waiting;
  passed = links.passed server.desk.links;
  shown = server.desk.shown;
  called = server.desk.last_node;
  refused = server.desk.last_fault;
  piece = server.last_piece.items;
}

-- no node is called, and nothing of a seat is kept: the cluster, what was read last, which node was called last and what refused it are as they were
pub record IsStill {D L : Type 0} {disk : Ghosts D} {links : OfLinks L} (old new : Server D L disk links) : Type 0 where
  pub cluster : new.cluster ≡ old.cluster
  pub piece : new.last_piece ≡ old.last_piece
  pub called : new.desk.last_node ≡ old.desk.last_node
  pub refused : new.desk.last_fault ≡ old.desk.last_fault
