-- The chain of a call as far as it has come, with what it sent and showed.
use Rattle.std.proofs.Common.{◌≡◌, ℕ, ◌≤◌, ◌⊎◌, Bool, true, false, List, [], ◌++◌, Option, Result, Ok, Err, refl, sym, subst, append_assoc}
use Rattle.paxos_wire.specs.declared.ballot.Ballot.{Ballot}
use Rattle.slot_log.specs.declared.command.Command.{Command}
use Rattle.protocol_model.specs.Sets.{In}
use Rattle.protocol_model.specs.Messages.{Message, Accepted}
use Rattle.protocol_model.specs.Dealers.{Dealer}
use Rattle.protocol_model.specs.Nodes.{Node, Knows as KnowsCommands}
use Rattle.protocol_model.specs.Arrivals.{Arrival}
use Rattle.protocol_model.specs.Moves.{Shown, Chain}
use Rattle.protocol_model.specs.Worlds.{World, Reached}
use Rattle.seat_session.specs.Session.{Standing as Talk}
use Rattle.dealer_kind.specs.Kind.{dealer_of, log_of}
use Rattle.node_rules.specs.Standings.{Place, Standing, applied}
use Rattle.node_rules.specs.Turns.{Turn, Refusal, Down, Spent, BadFrame, Conflict, NothingToAct, joined, behind, and_then}
use Rattle.node_rules.specs.Being.{IsPlace, Knows}
use Rattle.node_rules.specs.Called.{Carry, CarryAll, AreShown, log_after}
use Rattle.protocol_model.proofs.Sets.{in_first}
use Rattle.node_rules.specs.Given.{Given}

-- a call of a node: the world that it finds, how often the node was started then, what it had got since, its log so far, the messages that came
-- with the call, and whether the call comes to its end, or stops in its append with nothing shown
pub record Scope : Type 0 where
  pub given : Given
  pub own : ℕ → Command → Bool
  pub place : Place
  pub world : World
  pub is_place : IsPlace own place
  pub reached : Reached (dealer_of place.setting own) place.nodes world
  pub start : ℕ
  pub had : List Message
  pub log : List ℕ
  pub messages : List Message
  pub ends : Bool

abbrev pub dealer_in : Scope → Dealer
dealer_in x = dealer_of x.place.setting x.own

pub three_in : (x : Scope) → 3 ≤ x.place.nodes
three_in x = x.given.least_nodes x.place.nodes x.is_place.few

abbrev pub first_in : Scope → Node
first_in x = x.world.nodes x.place.node

-- what seats sent, by seat, and where their sessions stand
pub record Hearing : Type 0 where
  pub bytes : ℕ → Option (List ℕ)
  pub talks : List (Option Talk)

-- the chain so far: arrivals came, seats have this to be heard, and commands were shown as far as these
pub record Path (x : Scope) (came : List Arrival) (heard : Hearing) (upto : List Command) (turn : Turn) : Type 0 where
  pub sent : List Message
  pub shown : List Shown
  pub got : List Message
  pub node : Node
  pub chain : Chain (dealer_in x) x.place.nodes x.place.node x.world.ever (first_in x) (record { sent = sent; shown = shown; came = came }) node
  pub knows : Knows (dealer_in x) x.place upto turn.after node
  pub commands : KnowsCommands node.known upto
  pub hears : node.heard ≡ heard.bytes
  pub talks : turn.after.sessions ≡ heard.talks
  pub runs : turn.after.up ≡ true
  pub begun : node.begun ≡ node.store
  pub unbegun : turn.after.begun ≡ turn.after.store
  pub starts : node.starts ≡ x.start
  pub has : node.has ≡ got ++ x.had
  pub carry : Carry x.place.nodes x.place.node turn.frames sent
  pub all : CarryAll x.place.nodes x.place.node turn.frames sent
  pub pieces : x.ends ≡ true → AreShown x.place.node x.start x.log turn.shown shown
  pub logged : x.ends ≡ true → log_after x.log turn.shown ≡ log_of x.place.setting upto
  pub unshown : x.ends ≡ false → shown ≡ []
  pub unvoted : x.ends ≡ false → (sender : ℕ) (ballot : Ballot) (slot : ℕ) (command : Command) → In (Accepted sender ballot slot command) sent → ⊥
  pub unstored : x.ends ≡ false → node.store ≡ (first_in x).store
  pub got_only : (m : Message) → In m got → In m x.messages ⊎ In m sent
  pub got_all : (m : Message) → In m x.messages → In m got

-- ---- refusals of a call

abbrev pub IsHarmless : Refusal → Type 0
IsHarmless Down = Unit {0}
IsHarmless Spent = Unit {0}
IsHarmless (BadFrame fault) = Unit {0}
IsHarmless (Conflict store) = ⊥
IsHarmless NothingToAct = Unit {0}

-- a turn that a path leads through, with all that it applies shown; or a refusal that changes nothing
abbrev pub Goes : (x : Scope) (came : List Arrival) (heard : Hearing) → Result Turn Refusal → Type 0
Goes x came heard (Ok turn) = Path x came heard (applied turn.after) turn
Goes x came heard (Err refusal) = IsHarmless refusal

-- turns in any grouping are one
pub regroup : (t u : Turn) (r : Result Turn Refusal) → behind (joined t u) r ≡ behind t (behind u r)
regroup t u (Ok v) = λ i. Ok (record {
  after = v.after;
  frames = append_assoc t.frames u.frames v.frames i;
  shown = append_assoc t.shown u.shown v.shown i;
  faults = append_assoc t.faults u.faults v.faults i;
})
regroup t u (Err e) = refl

pub then_goes : (x : Scope) (came : List Arrival) (heard : Hearing) (t : Turn) (r : Result Turn Refusal) (next : Standing → Result Turn Refusal)
    → Goes x came heard (behind t r) → ((u : Turn) → Path x came heard (applied u.after) u → Goes x came heard (behind u (next u.after)))
    → Goes x came heard (behind t (and_then r next))
then_goes x came heard t (Ok u) next goes step =
    subst (Goes x came heard) (regroup t u (next u.after)) (step (joined t u) goes)
then_goes x came heard t (Err e) next goes step = goes

-- ---- messages that are had stay so

pub has_in : (x : Scope) (came : List Arrival) (heard : Hearing) (upto : List Command) (t : Turn) (p : Path x came heard upto t) (m : Message)
    → In m x.messages → In m p.node.has
has_in x came heard upto t p m h = subst (λ (l : List Message). In m l) (sym p.has) (in_first p.got x.had m (p.got_all m h))
