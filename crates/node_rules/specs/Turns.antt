-- What a call comes to: a turn, or the reason why there is none.
use Rattle.std.specs.Prelude.{List, [], ◌++◌, Result, Ok, Err}
use Rattle.paxos_wire.specs.declared.fault.FrameFault.{FrameFault}
use Rattle.protocol_model.specs.Stores.{Store}
use Rattle.node_rules.specs.Standings.{Standing}
use Rattle.node_rules.specs.Sending.{Frame}
use Rattle.node_rules.specs.Showing.{Piece, SeatFault}

-- the standing after a call, and what it sends, shows and tells of seats
pub record Turn : Type 0 where
  pub after : Standing
  pub frames : List Frame
  -- lines and log lines, in one order
  pub shown : List Piece
  pub faults : List SeatFault

-- why a call comes to nothing
pub data Refusal : Type 0 where
  -- 90: the node is down
  Down : Refusal
  -- 93: no ballot is above all that were seen, or no slot is left
  Spent : Refusal
  -- 94: the bytes are no frame
  BadFrame : (fault : FrameFault) → Refusal
  -- 95: another command is known at the slot; the node has this store then
  Conflict : (store : Store) → Refusal
  -- 96: no hand runs at the node, so that there is nobody to play for
  NothingToAct : Refusal

-- nothing is sent, shown or told
abbrev pub still : Standing → Turn
still s = record { after = s; frames = []; shown = []; faults = [] }

-- frames are sent, and nothing is shown or told
abbrev pub sending : List Frame → Standing → Turn
sending frames s = record { after = s; frames = frames; shown = []; faults = [] }

-- one turn and behind it another
abbrev pub joined : Turn → Turn → Turn
joined first next = record {
  after = next.after;
  frames = first.frames ++ next.frames;
  shown = first.shown ++ next.shown;
  faults = first.faults ++ next.faults;
}

abbrev pub behind : Turn → Result Turn Refusal → Result Turn Refusal
behind first (Ok next) = Ok (joined first next)
behind first (Err refusal) = Err refusal

-- a turn, and then what the standing after it leads to
abbrev pub and_then : Result Turn Refusal → (Standing → Result Turn Refusal) → Result Turn Refusal
and_then (Ok first) next = behind first (next first.after)
and_then (Err refusal) next = Err refusal
