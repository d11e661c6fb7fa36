-- What is asked of servers stays so over their turns.
use Rattle.std.proofs.Common.{List, [], refl}
use Rattle.promise_store.specs.declared.disk.Disk.{Ghosts}
use Rattle.dealer_node.specs.Nodes.{Node}
use Rattle.stations.proofs.OwnTables.{beginning_on}
use Rattle.node_service.specs.Arriving.{Incoming}
use Rattle.node_service.specs.Going.{GoesOn}
use Rattle.node_service.specs.Served.{Served}
use Rattle.joined_lines.specs.Keeping.{TurnsKeepServers}
use Rattle.joined_lines.specs.Serving.{IsServerOf}

module _ {D : Type 0} (g : Ghosts D) where
  behind : (taken : List Incoming) (old new : Served (Node D)) → GoesOn g taken old new → IsServerOf old.look old → IsServerOf new.look new
  behind taken old new goes is = record { moments = ([], refl); bots = goes.bots.stay is.bots; carries = goes.carried is.carries }

  before : (taken : List Incoming) (served old new : Served (Node D)) → GoesOn g taken old new → IsServerOf old.look served → IsServerOf new.look served
  before taken served old new goes is = record {
    moments = beginning_on served.look.moments old.look.moments new.look.moments is.moments goes.moments;
    bots = is.bots;
    carries = is.carries;
  }

  pub turns_keep_servers : TurnsKeepServers g
  turns_keep_servers = record { behind = behind; before = before }
