-- What is said by a connection, and by whom.
use Rattle.std.specs.Prelude.{ℕ, Bool, false, List, get_or, Option, Some, None, Result, Ok, Err}
use Rattle.node_links.specs.declared.arrived.Arrived.{Arrived}
use Rattle.node_links.specs.declared.arrived.Arrived.TheVariants as arrivals
use Rattle.node_links.specs.declared.peer_fault.PeerFault.{PeerFault}
use Rattle.node_links.specs.declared.own.Own.{Own}
use Rattle.peer_codes.specs.declared.frame.Frame.{Frame}
use Rattle.node_peers.specs.declared.link.Link.{Link}
use Rattle.node_peers.specs.declared.saying.Saying.{Saying}
use Rattle.node_peers.specs.declared.saying.Saying.TheVariants as sayings
use Rattle.node_links.specs.Talks.{Talk, Says}
use Rattle.node_peers.specs.Hearing.{Hears}

-- its node is refused, though the connection is open
abbrev pub is_away : Option Link → Bool
is_away None = false
is_away (Some link) = link.is_turned_away

-- a frame and a beat are those of the node at the other end, where the connection is open
abbrev pub saying_of : Option (Result Arrived PeerFault) → Option ℕ → Saying
saying_of None from = sayings.Waits
saying_of (Some (Err fault)) from = sayings.Fault fault
saying_of (Some (Ok (arrivals.Hello hello))) from = sayings.Hello hello
saying_of (Some (Ok (arrivals.Proved hello))) from = sayings.Proved hello
saying_of (Some (Ok arrivals.Frame)) (Some from) = sayings.Frame from
saying_of (Some (Ok arrivals.Frame)) None = sayings.Nothing
saying_of (Some (Ok (arrivals.Beat beat))) (Some from) = sayings.Beat from beat
saying_of (Some (Ok (arrivals.Beat beat))) None = sayings.Nothing
saying_of (Some (Ok (arrivals.Further further))) (Some from) = sayings.Further from further
saying_of (Some (Ok (arrivals.Further further))) None = sayings.Nothing

-- where this frame is said it came over the connection as it has to
abbrev pub SaidBy : Saying → Frame → Option Link → Type 0
SaidBy (sayings.Frame from) frame link = (own : Own) (talk : Talk) → Hears own talk link → ∥ Says own from frame talk ∥₁
SaidBy sayings.Waits frame link = Unit {0}
SaidBy sayings.Nothing frame link = Unit {0}
SaidBy (sayings.Hello hello) frame link = Unit {0}
SaidBy (sayings.Proved hello) frame link = Unit {0}
SaidBy (sayings.Beat from beat) frame link = Unit {0}
SaidBy (sayings.Further from further) frame link = Unit {0}
SaidBy (sayings.Fault fault) frame link = Unit {0}

abbrev pub SaidAt : Saying → Frame → ℕ → List (Option Link) → Type 0
SaidAt (sayings.Frame from) frame place links = (own : Own) (talks : ℕ → Talk) → ((other : ℕ) → Hears own (talks other) (get_or links other None)) → ∥ Says own from frame (talks place) ∥₁
SaidAt sayings.Waits frame place links = Unit {0}
SaidAt sayings.Nothing frame place links = Unit {0}
SaidAt (sayings.Hello hello) frame place links = Unit {0}
SaidAt (sayings.Proved hello) frame place links = Unit {0}
SaidAt (sayings.Beat from beat) frame place links = Unit {0}
SaidAt (sayings.Further from further) frame place links = Unit {0}
SaidAt (sayings.Fault fault) frame place links = Unit {0}
