-- What stands in the line of a node's status.
use Rattle.std.specs.Prelude.{ℕ, zero, suc, Bool, true, false, if◌then◌else◌, List, [], ◌∷◌, ◌++◌, Option, Some, None, codes, decimal}
use Rattle.std.specs.List.{join_by}
use Rattle.paxos_wire.specs.declared.ballot.Ballot.{Ballot}
use Rattle.node_status.specs.declared.status.PeerStatus.{PeerStatus}
use Rattle.node_status.specs.declared.status.PeerStatus.TheVariants.{Present, Gone}
use Rattle.node_status.specs.declared.status.SeatStatus.{SeatStatus}
use Rattle.node_status.specs.declared.status.Sits.{Sits}
use Rattle.node_status.specs.declared.status.Sits.TheVariants.{Here, Elsewhere, Nowhere}

abbrev pub yes_or_no : Bool → List ℕ
yes_or_no true = codes "yes"
yes_or_no false = codes "no"

-- the number of a hand, or - where none was dealt
abbrev pub hand_text : Option ℕ → List ℕ
hand_text None = codes "-"
hand_text (Some hand) = decimal hand

-- ROUND.NODE, or - where nothing was promised
abbrev pub promised_text : Option Ballot → List ℕ
promised_text None = codes "-"
promised_text (Some ballot) = decimal ballot.round ++ codes "." ++ decimal ballot.node

-- N:FRONT, N:FRONT:campaigns or N:gone
abbrev pub peer_text : PeerStatus → List ℕ
peer_text (Present number front campaigns) = decimal number ++ codes ":" ++ decimal front ++ (if campaigns then codes ":campaigns" else [])
peer_text (Gone number) = decimal number ++ codes ":gone"

abbrev pub sits_text : Sits → List ℕ
sits_text Here = codes "seated"
sits_text Elsewhere = codes "elsewhere"
sits_text Nowhere = codes "away"

-- NAME:WHERE
abbrev pub seat_text : SeatStatus → List ℕ
seat_text seat = seat.name ++ codes ":" ++ sits_text seat.sits

abbrev pub backlog_text : SeatStatus → List ℕ
backlog_text seat = decimal seat.backlog

-- in front of all but the first stands a comma
abbrev pub comma_before : ℕ → List ℕ
comma_before zero = []
comma_before (suc place) = codes ","

-- all of these with commas between them; - where there are none
abbrev pub listed : {X : Type 0} → (X → List ℕ) → List X → List ℕ
listed text [] = codes "-"
listed text (x ∷ more) = join_by text (codes ",") (x ∷ more)
