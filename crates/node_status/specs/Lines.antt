-- The line of a node's status.
use Rattle.std.specs.Prelude.{ℕ, Bool, List, [], ◌∷◌, ◌++◌, Option, codes, decimal}
use Rattle.paxos_wire.specs.declared.ballot.Ballot.{Ballot}
use Rattle.node_status.specs.declared.status.Status.{Status}
use Rattle.node_status.specs.declared.status.PeerStatus.{PeerStatus}
use Rattle.node_status.specs.declared.status.SeatStatus.{SeatStatus}
use Rattle.node_status.specs.Texts.{yes_or_no, hand_text, promised_text, peer_text, seat_text, backlog_text, listed}

-- how far the node is
unfoldable pub play_text : (node front : ℕ) (hand : Option ℕ) (over replaying : Bool) → List ℕ
play_text node front hand over replaying =
    codes "node " ++ decimal node ++ codes " front " ++ decimal front ++ codes " hand " ++ hand_text hand ++ codes " over " ++ yes_or_no over ++ codes " replaying " ++ yes_or_no replaying

-- who leads, and who is there
unfoldable pub ballot_text : (promised : Option Ballot) (leads quorum : Bool) (peers : List PeerStatus) → List ℕ
ballot_text promised leads quorum peers =
    codes " promised " ++ promised_text promised ++ codes " leads " ++ yes_or_no leads ++ codes " quorum " ++ yes_or_no quorum ++ codes " peers " ++ listed peer_text peers

-- where the bots are, and how much there is to do; LF ends it
unfoldable pub work_text : (seats : List SeatStatus) (pending : Bool) (commands : ℕ) → List ℕ
work_text seats pending commands =
    codes " seats " ++ listed seat_text seats ++ codes " pending " ++ yes_or_no pending ++ codes " backlog " ++ listed backlog_text seats ++ codes " commands " ++ decimal commands ++ codes "/s" ++ 10 ∷ []

-- all of it
abbrev pub status_text : Status → List ℕ
status_text s = play_text s.node s.front s.hand s.over s.replaying ++ ballot_text s.promised s.leads s.quorum s.peers.now ++ work_text s.seats.now s.pending s.commands
