-- Which lines those who ask how the node is are given.
use Rattle.std.specs.Prelude.{◌≡◌, ◌⊎◌, ℕ, ◌<◌, List, [], map}
use Rattle.node_wires.specs.declared.limits.TheConstants.{ASKERS}
use Rattle.node_status.specs.declared.asker.Asker.{Asker}
use Rattle.node_status.specs.declared.status.SeatStatus.{SeatStatus}
use Rattle.node_status.specs.declared.status.Status.{Status}
use Rattle.node_status.specs.Given.{given_at}
use Rattle.node_status.specs.Lines.{status_text}
use Rattle.stations.specs.Stations.{Look}

abbrev pub line_given : List Asker → ℕ → List ℕ
line_given askers place = (given_at askers place).line

-- at each place stands the line that stood there, or one such
abbrev pub GivesOnly : (List ℕ → Type 0) → List Asker → List Asker → Type 0
GivesOnly such old new = (place : ℕ) → place < ASKERS → (line_given new place ≡ line_given old place) ⊎ such (line_given new place)

-- there is none yet
abbrev pub IsNoLine : List ℕ → Type 0
IsNoLine line = line ≡ []

-- a line of the status of the node with this number, with the names of its match's seats
pub record IsStatusLine {N : Type 0} (look : Look N) (line : List ℕ) : Type 0 where
  pub status : Status
  pub node : status.node ≡ look.number
  pub seats : map (λ (seat : SeatStatus). seat.name) status.seats.now ≡ look.config.setting.names
  pub text : line ≡ status_text status

-- none yet, or such a line
abbrev pub IsReply : {N : Type 0} → Look N → List ℕ → Type 0
IsReply look line = (line ≡ []) ⊎ IsStatusLine look line
