-- What passes over the lines of peers: on the wire, and as it is put down.
use Rattle.std.specs.Prelude.{◌≡◌, List, [], ◌∷◌, ◌++◌}
use Rattle.node_wires.specs.declared.line.Line.{Line}
use Rattle.node_wires.specs.declared.line.Line.TheVariants.{Peer, Caller, Seat, Guest, Asker}
use Rattle.node_wires.specs.Passages.{Passage, Began, Came, Wrote, Gave, Logged, Tried, Ended, Closed, Saw, Waited, Called}
use Rattle.node_wires.specs.declared.passages.Passages.{Passages}

abbrev pub IsPeers : Line → Type 0
IsPeers (Peer number) = Unit {0}
IsPeers (Caller place) = Unit {0}
IsPeers (Seat number) = ⊥
IsPeers (Guest place) = ⊥
IsPeers (Asker place) = ⊥

-- a passage over the line of a peer, or of one who dialled: nobody waits, nobody sees the clock, and the node isn't called
abbrev pub IsOfPeers : Passage → Type 0
IsOfPeers (Began line) = IsPeers line
IsOfPeers (Came line bytes) = IsPeers line
IsOfPeers (Wrote line bytes) = IsPeers line
IsOfPeers (Gave place seat) = ⊥
IsOfPeers (Logged text) = ⊥
IsOfPeers (Tried line way) = IsPeers line
IsOfPeers (Ended line way) = IsPeers line
IsOfPeers (Closed line) = IsPeers line
IsOfPeers (Saw moment) = ⊥
IsOfPeers (Waited most) = ⊥
IsOfPeers Called = ⊥

abbrev pub AreOfPeers : List Passage → Type 0
AreOfPeers [] = Unit {0}
AreOfPeers (p ∷ more) = IsOfPeers p × AreOfPeers more

-- the same is put behind what was put down and behind what passed over the wire, all of it over lines of peers
pub record Adds (old new wired_old wired_new : List Passage) : Type 0 where
  pub more : List Passage
  pub put_down : new ≡ old ++ more
  pub wired : wired_new ≡ wired_old ++ more
  pub of_peers : AreOfPeers more

abbrev pub Grows : Passages → Passages → List Passage → List Passage → Type 0
Grows old new wired_old wired_new = Adds old.items new.items wired_old wired_new
