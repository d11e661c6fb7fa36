-- Why a call is refused.
use Rattle.std.specs.Prelude.{◌≡◌, ℕ, Bool, true, false, Err}
use Rattle.paxos_wire.specs.declared.fault.FrameFault.{FrameFault}
use Rattle.paxos_wire.specs.Faults.{reading}
use Rattle.slot_log.specs.declared.command.Command.{Command}
use Rattle.protocol_model.specs.Worlds.{World}
use Rattle.node_rules.specs.Standings.{Place, Standing}
use Rattle.node_rules.specs.Turns.{Refusal, Down, Spent, BadFrame, NothingToAct}
use Rattle.node_rules.specs.Calls.{Call, Start, Tick, Away, Line, Connect, Drop, Stop}
use Rattle.node_rules.specs.Calls as call
use Rattle.node_rules.specs.Rules.{IsTurn}
use Rattle.node_rules.specs.Called.{Comes}
use Rattle.node_rules.specs.Sound.{Stands}

-- a node that runs refuses a tick, because no round or no slot is left (`LawsTick` says when), an order, because no hand runs (`LawsOrder` says when), and
-- bytes that are no frame, and nothing else
abbrev pub RefusesUp : Call → Refusal → Type 0
RefusesUp (Start found) why = ⊥
RefusesUp Tick why = why ≡ Spent
RefusesUp Away why = why ≡ NothingToAct
RefusesUp (call.Frame from bytes) why = (fault : FrameFault) × (reading bytes ≡ Err fault) × (why ≡ BadFrame fault)
RefusesUp (Line seat bytes) why = ⊥
RefusesUp (Connect seat) why = ⊥
RefusesUp (Drop seat) why = ⊥
RefusesUp Stop why = ⊥

-- one that is down refuses all but start and stop, because it is down
abbrev pub RefusesDown : Call → Refusal → Type 0
RefusesDown (Start found) why = ⊥
RefusesDown Tick why = why ≡ Down
RefusesDown Away why = why ≡ Down
RefusesDown (call.Frame from bytes) why = why ≡ Down
RefusesDown (Line seat bytes) why = why ≡ Down
RefusesDown (Connect seat) why = why ≡ Down
RefusesDown (Drop seat) why = why ≡ Down
RefusesDown Stop why = ⊥

-- of any node
abbrev pub Refuses : Bool → Call → Refusal → Type 0
Refuses true called why = RefusesUp called why
Refuses false called why = RefusesDown called why

-- so that another command is never known where one was chosen
abbrev pub RefusalsHaveReasons : Type 0
RefusalsHaveReasons =
    (own : ℕ → Command → Bool) (place : Place) (world : World) (s : Standing) (called : Call) (why : Refusal)
    → Stands own place world s → Comes place world.ever called → IsTurn place s called (Err why) → Refuses (world.nodes place.node).up called why
