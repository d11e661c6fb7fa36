-- What crosses the wires of a process goes by its peers, its seats and those who ask.
use Rattle.std.specs.Prelude.{◌≡◌, ℕ, List, [], ◌∷◌}
use Rattle.node_wires.specs.declared.line.Line.{Line}
use Rattle.node_wires.specs.declared.line.Line.TheVariants.{Guest}
use Rattle.node_wires.specs.Passages.{Passage, Began, came_over, wrote_over, calls_in}
use Rattle.peer_codes.specs.declared.frame.Frame.{Frame}
use Rattle.peer_codes.specs.declared.hello.Life.{Life}
use Rattle.std.specs.Prelude.{Some}
use Rattle.node_links.specs.declared.own.Own.{Own}
use Rattle.node_peers.specs.Adding.{IsPeers}
use Rattle.node_peers.specs.Hearing.{Told, Joins}
use Rattle.node_seats.specs.declared.seat.Seat.{Seat}
use Rattle.node_seats.specs.Telling.{AreSaid}
use Rattle.node_status.specs.declared.asker.Asker.{Asker}
use Rattle.node_status.specs.Asking.{AreAnswered}
use Rattle.node_service.specs.Arriving.{Incoming, OfSeat, OfPeer, OfJoined}
use Rattle.node_service.specs.Served.{Served}

-- ---- over the wires

-- over each line of a peer, or of one who dialled, the same came and was written as its peers put down
abbrev pub AreCarried : (passed lines : List Passage) → Type 0
AreCarried passed lines = (line : Line) → IsPeers line → (wrote_over passed line ≡ wrote_over lines line) × (came_over passed line ≡ came_over lines line)

-- so it is; what was written to each seat, with what waits for it, is what its bot was told, and what that bot asked is read off all that came over its connection; to a
-- guest of a seat nothing was written; and what was written to one who asks is a beginning of the line that he was given
pub record IsCarried (passed lines : List Passage) (bots : List Seat) (askers : List Asker) : Type 0 where
  pub peers : AreCarried passed lines
  pub said : AreSaid passed bots
  pub guests : (place : ℕ) → wrote_over passed (Guest place) ≡ []
  pub answered : AreAnswered passed askers

abbrev pub Carries : {N : Type 0} → Served N → Type 0
Carries served = IsCarried served.passed served.lines served.bots served.askers

-- so it is over wires over which nothing passed, where nothing was told, with seats and askers as they are made
abbrev pub NewWiresCarry : Type 0
NewWiresCarry = (bots : List Seat) (askers : List Asker) → AreSaid [] bots → AreAnswered [] askers → IsCarried [] [] bots askers

-- over all lines the same came and was written, and the node was called as often
pub record KeepsLines (old new : List Passage) : Type 0 where
  pub wrote : (line : Line) → wrote_over new line ≡ wrote_over old line
  pub came : (line : Line) → came_over new line ≡ came_over old line
  pub calls : calls_in new ≡ calls_in old

-- ---- what was told of peers

-- these peers told this frame, or this node, over some of their own connections
abbrev pub IsHeard : Own → List Passage → Incoming → Type 0
IsHeard own lines (OfSeat passage) = Unit {0}
IsHeard own lines (OfPeer from bytes) = ∥ ((frame : Frame) × ((frame.bytes.items ≡ bytes) × Told own lines from frame)) ∥₁
IsHeard own lines (OfJoined peer) = ∥ ((life : Life) × Joins own lines peer (Some life)) ∥₁

abbrev pub AreHeard : Own → List Passage → List Incoming → Type 0
AreHeard own lines [] = Unit {0}
AreHeard own lines (thing ∷ more) = IsHeard own lines thing × AreHeard own lines more

-- nobody is told to be there whose life is to be kept
abbrev pub HasNoLife : List Passage → Type 0
HasNoLife [] = Unit {0}
HasNoLife (Began line ∷ more) = ⊥
HasNoLife (other ∷ more) = HasNoLife more

-- behind a node whose life is to be kept nothing stands
abbrev pub EndsAtLife : List Passage → Type 0
EndsAtLife [] = Unit {0}
EndsAtLife (Began line ∷ more) = more ≡ []
EndsAtLife (other ∷ more) = EndsAtLife more
