-- The rules of a node, as the table in docs/NODES.md has them: what each call comes to.
use Rattle.std.specs.Prelude.{◌≡◌, ℕ, Bool, true, false, nat_lt, ◌⊎◌, if◌then◌else◌, List, [], ◌∷◌, map, Result, Ok, Err}
use Rattle.paxos_wire.specs.declared.ballot.Ballot.{Ballot}
use Rattle.paxos_wire.specs.declared.entry.Entry.{Entry}
use Rattle.paxos_wire.specs.declared.message.Message.{Message}
use Rattle.paxos_wire.specs.declared.message.Message.TheVariants as frame
use Rattle.paxos_wire.specs.declared.fault.FrameFault.{FrameFault}
use Rattle.paxos_wire.specs.Faults.{reading}
use Rattle.protocol_model.specs.Stores.{Store}
use Rattle.node_rules.specs.Standings.{Place, Standing, started, stopped}
use Rattle.node_rules.specs.Sending.{Frame, to_others}
use Rattle.node_rules.specs.Showing.{header}
use Rattle.node_rules.specs.Turns.{Turn, Refusal, Down, Spent, BadFrame, Conflict, NothingToAct, still, and_then}
use Rattle.node_rules.specs.Calls.{Call, Start, Tick, Away, Line, Connect, Drop, Stop}
use Rattle.node_rules.specs.Calls as call
use Rattle.node_rules.specs.Learning.{counting_votes, believing, telling, asking_above}
use Rattle.node_rules.specs.Accepting.{preparing, accepting}
use Rattle.node_rules.specs.Proposing.{higher, ticking, counting_promise, hearing_refusal, closing}
use Rattle.node_rules.specs.Seats.{session_at, connecting, dropping, taking_over, ordering, HearsPiece}

-- ---- frames

-- the ballots that a message tells
abbrev pub ballots_of : Message → List Ballot
ballots_of (frame.Prepare ballot slot) = ballot ∷ []
ballots_of (frame.Promise ballot slot entries) = ballot ∷ map (λ (entry : Entry). entry.ballot) entries
ballots_of (frame.Refuse ballot slot promised) = ballot ∷ promised ∷ []
ballots_of (frame.Accept ballot slot commands) = ballot ∷ []
ballots_of (frame.Accepted ballot slot commands) = ballot ∷ []
ballots_of (frame.Chosen slot command) = []
ballots_of (frame.Ask slot) = []
ballots_of (frame.Forward command) = []

-- the greatest of a ballot and others
abbrev pub highest : Ballot → List Ballot → Ballot
highest ballot [] = ballot
highest ballot (other ∷ others) = highest (higher ballot other) others

abbrev pub seeing : Message → Standing → Standing
seeing message s = record s { seen = highest s.seen (ballots_of message) }

-- what a node does with a message of another
abbrev pub taking : Place → ℕ → Message → Standing → Result Turn Refusal
taking place from (frame.Prepare ballot slot) s = Ok (preparing from ballot slot s)
taking place from (frame.Promise ballot slot entries) s = Ok (counting_promise place from ballot slot entries s)
taking place from (frame.Refuse ballot slot promised) s = Ok (hearing_refusal promised s)
taking place from (frame.Accept ballot slot commands) s = accepting place from ballot slot commands s
taking place from (frame.Accepted ballot slot commands) s = counting_votes place from ballot slot commands s
taking place from (frame.Chosen slot command) s = believing place from slot command s
taking place from (frame.Ask slot) s = Ok (telling from slot s)
taking place from (frame.Forward command) s = Ok (taking_over place command s)

-- last in the call, after Prepare, Accept and Accepted: who speaks of a slot above the front, of commands of the first of theirs, is asked
abbrev pub asking : ℕ → Message → Standing → Turn
asking from (frame.Prepare ballot slot) s = asking_above from slot s
asking from (frame.Promise ballot slot entries) s = still s
asking from (frame.Refuse ballot slot promised) s = still s
asking from (frame.Accept ballot slot commands) s = asking_above from slot s
asking from (frame.Accepted ballot slot commands) s = asking_above from slot s
asking from (frame.Chosen slot command) s = still s
asking from (frame.Ask slot) s = still s
asking from (frame.Forward command) s = still s

abbrev pub on_message : Place → ℕ → Message → Standing → Result Turn Refusal
on_message place from message s =
    and_then (and_then (taking place from message (seeing message s)) (closing place)) (λ closed. Ok (asking from message closed))

abbrev pub on_read : Place → ℕ → Result Message FrameFault → Standing → Result Turn Refusal
on_read place from (Ok message) s = on_message place from message s
on_read place from (Err fault) s = Err (BadFrame fault)

-- ---- starts and stops

-- it asks all others for what was chosen, where it ever promised anything
abbrev pub asking_all : Place → Store → List Frame
asking_all place found = if nat_lt 0 found.promise.round then to_others place (frame.Ask 0) else []

-- a node that is down begins with the store that it found and a new log
abbrev pub starting : Place → Store → Turn
starting place found = record { after = started place found; frames = asking_all place found; shown = header place.setting ∷ []; faults = [] }

-- a node that runs goes down, and keeps its store
abbrev pub stopping : Place → Standing → Turn
stopping place s = still (stopped place s.store s.store)

-- ---- every call

-- the turn of a call, or the reason why there is none, of a node that runs
abbrev pub IsTurnUp : Place → Standing → Call → Result Turn Refusal → Type 0
IsTurnUp place s (Start found) outcome = outcome ≡ Ok (still s)
IsTurnUp place s Tick outcome = outcome ≡ and_then (ticking place s) (closing place)
IsTurnUp place s Away outcome = outcome ≡ and_then (ordering place s) (closing place)
IsTurnUp place s (call.Frame from bytes) outcome = outcome ≡ on_read place from (reading bytes) s
IsTurnUp place s (Line seat bytes) outcome =
    (heard : Turn) × HearsPiece place seat bytes (session_at s.sessions seat) s heard × (outcome ≡ and_then (Ok heard) (closing place))
IsTurnUp place s (Connect seat) outcome = outcome ≡ Ok (connecting seat s)
IsTurnUp place s (Drop seat) outcome = outcome ≡ Ok (dropping seat s)
IsTurnUp place s Stop outcome = outcome ≡ Ok (stopping place s)

-- of one that is down: it is only started, or stopped again, which its disk alone does
abbrev pub IsTurnDown : Place → Standing → Call → Result Turn Refusal → Type 0
IsTurnDown place s (Start found) outcome = ((found ≡ s.store) ⊎ (found ≡ s.begun)) × (outcome ≡ Ok (starting place found))
IsTurnDown place s Tick outcome = outcome ≡ Err Down
IsTurnDown place s Away outcome = outcome ≡ Err Down
IsTurnDown place s (call.Frame from bytes) outcome = outcome ≡ Err Down
IsTurnDown place s (Line seat bytes) outcome = outcome ≡ Err Down
IsTurnDown place s (Connect seat) outcome = outcome ≡ Err Down
IsTurnDown place s (Drop seat) outcome = outcome ≡ Err Down
IsTurnDown place s Stop outcome = outcome ≡ Ok (still s)

abbrev pub IsTurnBy : Bool → Place → Standing → Call → Result Turn Refusal → Type 0
IsTurnBy true place s call outcome = IsTurnUp place s call outcome
IsTurnBy false place s call outcome = IsTurnDown place s call outcome

-- of any node
abbrev pub IsTurn : Place → Standing → Call → Result Turn Refusal → Type 0
IsTurn place s call outcome = IsTurnBy s.up place s call outcome

-- the standing after a call whose turn this is
abbrev pub standing_after : Place → Standing → Result Turn Refusal → Standing
standing_after place s (Ok turn) = turn.after
standing_after place s (Err Down) = s
standing_after place s (Err Spent) = s
standing_after place s (Err (BadFrame fault)) = s
standing_after place s (Err (Conflict store)) = stopped place s.store store
standing_after place s (Err NothingToAct) = s

-- a failed append leaves the node down, with the append begun
abbrev pub failed : Place → Standing → Turn → Standing
failed place s turn = stopped place s.store turn.after.store
