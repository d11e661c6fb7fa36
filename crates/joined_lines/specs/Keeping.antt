-- How what is asked of servers stays so.
use Rattle.std.specs.Prelude.{List}
use Rattle.promise_store.specs.declared.disk.Disk.{Ghosts}
use Rattle.dealer_node.specs.Nodes.{Node}
use Rattle.node_service.specs.Arriving.{Incoming}
use Rattle.node_service.specs.Going.{GoesOn}
use Rattle.node_service.specs.Served.{Served}
use Rattle.joined_lines.specs.Serving.{IsServerOf}

module _ {D : Type 0} (g : Ghosts D) where
  -- what is asked of a server holds behind each start and each turn, where it held before; and what was a server of the process by then still is one
  pub record TurnsKeepServers : Type 0 where
    pub behind : (taken : List Incoming) (old new : Served (Node D)) → GoesOn g taken old new → IsServerOf old.look old → IsServerOf new.look new
    pub before : (taken : List Incoming) (served old new : Served (Node D)) → GoesOn g taken old new → IsServerOf old.look served → IsServerOf new.look served
