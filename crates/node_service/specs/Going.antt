-- How a node's process goes on.
use Rattle.std.specs.Prelude.{◌≡◌, ◌+◌, List, [], ◌++◌, length}
use Rattle.promise_store.specs.declared.disk.Disk.{Ghosts}
use Rattle.node_wires.specs.Passages.{logged_in, seats_in, calls_in}
use Rattle.slot_log.specs.Beginnings.{IsBeginning}
use Rattle.dealer_node.specs.Nodes.{Node}
use Rattle.dealer_node.specs.Seeing.{begun_of}
use Rattle.stations.specs.Deeds.{Deed}
use Rattle.node_service.specs.Parts.{IsPartOf}
use Rattle.node_service.specs.Showing.{shown_log, LogGains}
use Rattle.node_service.specs.Handed.{frames_by}
use Rattle.node_service.specs.Bots.{KeepBots}
use Rattle.node_service.specs.Arriving.{Incoming, seats_of, peers_of, came_by}
use Rattle.node_service.specs.Company.{Hears}
use Rattle.node_service.specs.Apartness.{PutsOffApart}
use Rattle.node_service.specs.Asking.{GivesOnly, IsNoLine, IsReply}
use Rattle.node_service.specs.Crossing.{AreHeard, Carries, EndsAtLife}
use Rattle.node_service.specs.Served.{Served}
use Rattle.node_service.specs.Welcoming.{Hosts, AreLetIn}
use Rattle.node_service.specs.Logging.{IsOnce}
use Rattle.node_service.specs.Sittings.{Loosens}
use Rattle.node_service.specs.Fitting.{Fits, FitsBut}
use Rattle.node_service.specs.Seated.{AreSomebody, AreSomebodyBut}

module _ {D : Type 0} (g : Ghosts D) where
  -- it stays the process of the same node, by the same terms; it did so much more, the newest first, by as many calls as passed at its wires, and had the tables that it had, and others since: the log gained what was shown to it; the frames that these deeds
  -- sent were handed to the peers, in order, and nothing else was; the bots of seats are told the lines of their seats, off tables of its node alone, and where they begin, or are none, goes by one that it had meanwhile; and what came to the node had come: of seats over their
  -- lines, and of peers as they told it, with what was taken before, in this order and each once, and who was taken in at a seat had shown its token; of each seat nothing was left out in the middle, and who sits there is somebody to the node; what had
  -- passed over the lines of its peers has; who asks is given status lines alone; no bot is told to come again later but while the node is apart; what crosses the wires goes by peers, seats and askers, as before; and a node
  -- that was started once is still, and isn't started again
  pub record GoesOn (taken : List Incoming) (old new : Served (Node D)) : Type 0 where
    pub config : new.look.config ≡ old.look.config
    pub number : new.look.number ≡ old.look.number
    pub begun : begun_of g new.look.node ≡ begun_of g old.look.node
    pub terms : new.terms ≡ old.terms
    pub since : List Deed
    pub deeds : new.look.deeds ≡ since ++ old.look.deeds
    pub moments : IsBeginning old.look.moments new.look.moments
    pub calls : calls_in new.passed ≡ calls_in old.passed + length since
    pub log : LogGains old.log_failed new.log_failed (shown_log since) (logged_in old.passed) (logged_in new.passed)
    pub sent : new.sent ≡ old.sent ++ frames_by since
    pub bots : KeepBots old.look new.look old.bots new.bots
    pub gained : List Incoming
    pub seats : seats_in new.passed ≡ seats_in old.passed ++ seats_of gained
    pub heard : new.heard ≡ old.heard ++ peers_of gained
    pub were : AreHeard new.own new.lines gained
    pub hosts : Hosts old.guests new.guests
    pub let_in : AreLetIn new.guests gained
    pub came : IsPartOf (came_by since) (taken ++ gained)
    pub given : FitsBut taken old → Fits new
    pub somebody : AreSomebodyBut taken old → AreSomebody new
    pub hears : Hears old.own new.own old.lines new.lines
    pub asked : GivesOnly (IsReply new.look) old.askers new.askers
    pub waits : PutsOffApart old.apart new.apart old.bots new.bots
    pub carried : Carries old → Carries new
    pub once : IsOnce old → IsOnce new

  -- and nothing came meanwhile
  abbrev pub Does : List Incoming → Served (Node D) → Served (Node D) → Type 0
  Does taken old new = (goes : GoesOn taken old new) × (goes.gained ≡ [])

  -- and what came meanwhile is such
  abbrev pub GoesOnWith : (List Incoming → Type 0) → Served (Node D) → Served (Node D) → Type 0
  GoesOnWith such old new = (goes : GoesOn [] old new) × such goes.gained

  -- of what is told of peers nothing stands behind a node whose life is to be kept
  abbrev pub GoesOnToLife : Served (Node D) → Served (Node D) → Type 0
  GoesOnToLife old new = GoesOnWith (λ gained. EndsAtLife (peers_of gained)) old new

  -- nothing was done, and this was taken
  pub record Takes (taken : List Incoming) (old new : Served (Node D)) : Type 0 where
    pub look : new.look ≡ old.look
    pub started : new.started ≡ old.started
    pub terms : new.terms ≡ old.terms
    pub log_failed : new.log_failed ≡ old.log_failed
    pub sent : new.sent ≡ old.sent
    pub bots : KeepBots old.look new.look old.bots new.bots
    pub calls : calls_in new.passed ≡ calls_in old.passed
    pub log : logged_in new.passed ≡ logged_in old.passed
    pub seats : seats_in new.passed ≡ seats_in old.passed ++ seats_of taken
    pub heard : new.heard ≡ old.heard ++ peers_of taken
    pub were : AreHeard new.own new.lines taken
    pub hosts : Hosts old.guests new.guests
    pub let_in : AreLetIn new.guests taken
    pub sittings : Loosens old.sittings new.sittings
    pub somebody : AreSomebody old → AreSomebodyBut taken new
    pub hears : Hears old.own new.own old.lines new.lines
    pub asked : GivesOnly IsNoLine old.askers new.askers
    pub waits : PutsOffApart old.apart new.apart old.bots new.bots
    pub carried : Carries old → Carries new

  -- one turn after the other is as one
  abbrev pub TurnsAreOne : Type 0
  TurnsAreOne = (taken : List Incoming) (one two three : Served (Node D)) → GoesOn taken one two → GoesOn [] two three → GoesOn taken one three
