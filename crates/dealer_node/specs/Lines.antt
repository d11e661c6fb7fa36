-- What a piece of a seat's bytes makes of a node that runs.
use Rattle.std.specs.Prelude.{◌≡◌, ℕ, List, Result, Ok}
use Rattle.promise_store.specs.declared.disk.Disk.{Ghosts}
use Rattle.node_rules.specs.Standings.{Standing}
use Rattle.node_rules.specs.Turns.{Turn, and_then}
use Rattle.node_rules.specs.Proposing.{closing}
use Rattle.node_rules.specs.Seats.{session_at, HearsPiece}
use Rattle.dealer_node.specs.declared.up.Up.{Up}
use Rattle.dealer_node.specs.declared.fault.NodeFault.{NodeFault}
use Rattle.dealer_node.specs.Outs.{Told}
use Rattle.dealer_node.specs.Members.{Membership, place_at}
use Rattle.dealer_node.specs.Working.{Took, Works}

module _ {D : Type 0} (g : Ghosts D) where
  -- the piece is heard, which asks nothing of the store
  pub record HearsLine (member : Membership) (s : Standing) (seat : ℕ) (piece : List ℕ) (before after : Up D) (earlier later : Told) : Type 0 where
    pub heard : Turn
    pub rule : HearsPiece (place_at member) seat piece (session_at s.sessions seat) s heard
    pub took : Took g member s (Ok heard) before after earlier later
    pub store : heard.after.store ≡ s.store

  -- and then the call is closed, however that ends
  pub record WorksLine (member : Membership) (s : Standing) (seat : ℕ) (piece : List ℕ) (before after : Up D) (earlier later : Told) (answer : Result (Unit {0}) NodeFault) : Type 0 where
    pub heard : Turn
    pub rule : HearsPiece (place_at member) seat piece (session_at s.sessions seat) s heard
    pub works : Works g member s (and_then (Ok heard) (closing (place_at member))) before after earlier later answer
