-- What a turn of the server makes of its cluster.
use Rattle.std.specs.Prelude.{◌≡◌, ℕ, Option, Some, None, Result, Ok, Err, Bool, true, false, List, slice_get}
use Rattle.std.specs.Option.{ForSome}
use Rattle.dealer_kind.specs.Plans.{Plan}
use Rattle.dealer_node.specs.declared.fault.NodeFault.{NodeFault}
use Rattle.dealer_node.specs.declared.fault.NodeFault.TheVariants as fault
use Rattle.dealer_world.specs.declared.event.Event.{Event}
use Rattle.dealer_world.specs.declared.event.Event.TheVariants as event
use Rattle.dealer_world.specs.Records.{Frame}
use Rattle.dealer_world.specs.Stepping.{View}
use Rattle.dealer_world.specs.Promise.{IsForMatch}
use Rattle.serving.specs.declared.due.Due.{Due}
use Rattle.serving.specs.declared.due.Due.TheVariants as due
use Rattle.serving.specs.declared.turn.Turn.{Turn}
use Rattle.serving.specs.declared.waiting.Waiting.{Waiting}
use Rattle.serving.specs.declared.waiting.Taking.{Taking}
use Rattle.serving.specs.declared.waiting.Taking.TheVariants.{Gives, Waits, Over}
use Rattle.serving.specs.declared.turn.Turn.TheVariants as turn
use Rattle.serving.specs.declared.serve_fault.ServeFault.{ServeFault}
use Rattle.serving.specs.declared.serve_fault.ServeFault.TheVariants as serve

-- the turn that gives an event to the cluster; of a frame it names its number, and of an order the seat that is played for
abbrev pub turn_of : ℕ → ℕ → Event → Turn
turn_of number whose (event.Frame from to bytes) = turn.Delivered number
turn_of number whose (event.Line node seat bytes) = turn.Read seat
turn_of number whose (event.Tick node) = turn.Ticked node
turn_of number whose (event.Away node) = turn.Away whose node
turn_of number whose (event.Connect node seat) = turn.Seated seat node
turn_of number whose (event.Drop node seat) = turn.Gone seat
turn_of number whose (event.Stop node pick) = turn.Stopped node
turn_of number whose (event.Start node) = turn.Started node

-- a frame is that of its number among those that were sent: its sender, its receiver and all its bytes
abbrev pub IsSent : List Frame → ℕ → Event → Type 0
IsSent sent number (event.Frame from to bytes) = slice_get sent number ≡ Some (record { from = from; to = to; bytes = bytes.items })
IsSent sent number (event.Line node seat bytes) = Unit {0}
IsSent sent number (event.Tick node) = Unit {0}
IsSent sent number (event.Away node) = Unit {0}
IsSent sent number (event.Connect node seat) = Unit {0}
IsSent sent number (event.Drop node seat) = Unit {0}
IsSent sent number (event.Stop node pick) = Unit {0}
IsSent sent number (event.Start node) = Unit {0}

abbrev pub IsFrameless : Event → Type 0
IsFrameless (event.Frame from to bytes) = ⊥
IsFrameless (event.Line node seat bytes) = Unit {0}
IsFrameless (event.Tick node) = Unit {0}
IsFrameless (event.Away node) = Unit {0}
IsFrameless (event.Connect node seat) = Unit {0}
IsFrameless (event.Drop node seat) = Unit {0}
IsFrameless (event.Stop node pick) = Unit {0}
IsFrameless (event.Start node) = Unit {0}

-- what is due, as the event that does it, of a frame with its number and of an order with the seat that is played for; a seat that is awaited or read from
-- may turn out to be gone
abbrev pub IsForDue : Due → ℕ → ℕ → Event → Type 0
IsForDue (due.Stop node) number whose (event.Stop i pick) = i ≡ node
IsForDue (due.Start node) number whose (event.Start i) = i ≡ node
IsForDue (due.Tick node) number whose (event.Tick i) = i ≡ node
IsForDue (due.Away seat node) number whose (event.Away i) = (i ≡ node) × (whose ≡ seat)
IsForDue (due.Drop seat node) number whose (event.Drop i s) = (i ≡ node) × (s ≡ seat)
IsForDue (due.Await seat node) number whose (event.Connect i s) = (i ≡ node) × (s ≡ seat)
IsForDue (due.Await seat node) number whose (event.Drop i s) = (i ≡ node) × (s ≡ seat)
IsForDue (due.Read seat node) number whose (event.Line i s bytes) = (i ≡ node) × (s ≡ seat)
IsForDue (due.Read seat node) number whose (event.Drop i s) = (i ≡ node) × (s ≡ seat)
IsForDue (due.Deliver k) number whose (event.Frame from to bytes) = number ≡ k
IsForDue other number whose e = ⊥

-- what is due was taken up: by this event, or by none where all is over
abbrev pub IsTaken : Due → Option Waiting → Type 0
IsTaken what (Some waiting) = IsForDue what waiting.number waiting.seat waiting.event
IsTaken due.Over None = Unit {0}
IsTaken other None = ⊥

-- the seat that is due to be awaited or read from is the one that a turn waited for
abbrev pub IsSlow : Due → Turn → Type 0
IsSlow (due.Await seat node) (turn.Waits s i) = (s ≡ seat) × (i ≡ node)
IsSlow (due.Read seat node) (turn.Waits s i) = (s ≡ seat) × (i ≡ node)
IsSlow other t = ⊥

-- the event that was taken up, if one was
abbrev pub event_in : Taking → Option Waiting
event_in (Gives waiting) = Some waiting
event_in (Waits seat node) = None
event_in Over = None

-- what is due was taken up: by an event, by waiting for a seat that sent nothing, or by nothing where all is over
abbrev pub IsTakenUp : Due → Taking → Type 0
IsTakenUp what (Gives waiting) = IsTaken what (Some waiting)
IsTakenUp what (Waits seat node) = IsSlow what (turn.Waits seat node)
IsTakenUp what Over = IsTaken what None

-- an event of the match that may be given to the cluster as it is; a frame is one that was sent
abbrev pub IsWaiting : {N : Type 0} → View N → Waiting → Type 0
IsWaiting view waiting = IsForMatch view.config waiting.event × IsSent view.all.sent waiting.number waiting.event

-- so is the event that was taken up, if one was
abbrev pub IsOfMatch : {N : Type 0} → View N → Taking → Type 0
IsOfMatch view taking = ForSome (event_in taking) (λ waiting. IsWaiting view waiting)

-- a server goes on where the call was taken, where a frame was lost since its node is down, and where a store failed (for the first time)
abbrev pub goes_on : Event → Result (Unit {0}) NodeFault → Bool
goes_on e (Ok done) = true
goes_on (event.Frame from to bytes) (Err fault.Down) = true
goes_on e (Err (fault.Store why)) = true
goes_on e other = false

-- what refused a call, if anything did
abbrev pub fault_in : Result (Unit {0}) NodeFault → Option NodeFault
fault_in (Ok done) = None
fault_in (Err why) = Some why

-- a turn answered so after this call of a node
abbrev pub Tells : Turn → Event → Result (Unit {0}) NodeFault → Result Turn ServeFault → Type 0
Tells t e answer (Ok told) = (told ≡ t) × (goes_on e answer ≡ true)
Tells t e answer (Err (serve.Node why)) = answer ≡ Err why
Tells t e answer (Err serve.LogFailed) = goes_on e answer ≡ true
Tells t e answer (Err serve.LinkFailed) = ⊥

-- an event of what is due names a node or a seat that the match hasn't
abbrev pub IsOutside : Plan → Due → Type 0
IsOutside plan what = (whose : ℕ) × (e : Event) × IsForDue what 0 whose e × (IsForMatch plan e → ⊥)

-- want of memory comes where a link's bytes are awaited or a frame is copied
abbrev pub MayWant : Due → Type 0
MayWant (due.Await seat node) = Unit {0}
MayWant (due.Read seat node) = Unit {0}
MayWant (due.Deliver number) = Unit {0}
MayWant other = ⊥

-- how taking what is due from the links may fail: a seat's link that fails is no fault, since the seat is dropped
abbrev pub MayFail : Plan → Due → ServeFault → Type 0
MayFail plan what (serve.Node why) = (why ≡ fault.OutOfMemory) × MayWant what
MayFail plan (due.Deliver number) serve.LinkFailed = Unit {0}
MayFail plan (due.Start node) serve.LinkFailed = Unit {0}
MayFail plan other serve.LinkFailed = IsOutside plan other
MayFail plan (due.Start node) serve.LogFailed = Unit {0}
MayFail plan other serve.LogFailed = ⊥
