-- A cluster at rest whose nodes keep the rules moves.
use Rattle.std.specs.Prelude.{◌≡◌, ℕ, ◌+◌, ◌*◌, Some, List, [], ◌∷◌, ◌++◌, length, Result, Ok}
use Rattle.std.proofs.Common.{get_or}
use Rattle.slot_log.specs.declared.command.Command.{Command}
use Rattle.slot_log.specs.declared.command.Command.TheVariants.{Deal}
use Rattle.protocol_model.specs.Sets.{In}
use Rattle.protocol_model.specs.Stores.{empty_store}
use Rattle.dealer_kind.specs.Kind.{Setting}
use Rattle.dealer_kind.specs.Plans.{Plan, IsPlan}
use Rattle.dealer_kind.specs.declared.source.Source.{Source}
use Rattle.node_rules.specs.Standings.{Place, Standing, place_of, started, stopped, front_of}
use Rattle.node_rules.specs.Sending.{Frame}
use Rattle.node_rules.specs.Showing.{Piece}
use Rattle.node_rules.specs.Turns.{Turn, Refusal}
use Rattle.node_rules.specs.Calls.{Call}
use Rattle.node_rules.specs.Rules.{IsTurn}
use Rattle.node_rules.specs.Called.{Ends, took, refused, failed, unchanged}
use Rattle.node_rules.specs.Calm.{IsLeastQuorum, Calm, Event, round}
use Rattle.node_rules.specs.CalmRound.{node_of, call_of, HasMovedOn}
use Rattle.node_rules.specs.Ways.{Movable, IsWay, HasShortWay}
use Rattle.dealer_world.specs.Unforged.{IsUnforged}
use Rattle.dealer_world.specs.Headline.{Era}
use Rattle.dealer_world.specs.RuleRuns.{State, Steps, plan_of, RunsTo}

-- the standing of a node, by its number
abbrev pub standing_at : Plan → State → ℕ → Standing
standing_at plan state node = get_or state.standings node (stopped (place_of plan node) empty_store empty_store)

-- memory and disk sufficed: the call was answered by its turn, or by a refusal of the rules
abbrev pub IsUntroubled : (place : Place) (s : Standing) (called : Call) (after : Standing) (frames : List Frame) (shown : List Piece) → Ends place s called after frames shown → Type 0
IsUntroubled place s called after frames shown (took turn rule e f g) = Unit {0}
IsUntroubled place s called after frames shown (refused refusal rule e f g) = Unit {0}
IsUntroubled place s called after frames shown (failed outcome begun up rule b e f g) = ⊥
IsUntroubled place s called after frames shown (unchanged e f g) = ⊥

-- one event of a round, given to its node, whose memory and disk sufficed
pub record TakesEvent (plan : Plan) (old : State) (event : Event) (new : State) : Type 0 where
  pub steps : Steps plan old new
  pub node : steps.node ≡ node_of event
  pub called : steps.called ≡ call_of event
  pub untroubled : IsUntroubled (place_of plan steps.node) steps.before steps.called steps.after steps.ruled.frames steps.ruled.shown steps.ruled.ends

-- events, one after another
abbrev pub TakesEvents : Plan → State → List Event → State → Type 0
TakesEvents plan old [] new = new ≡ old
TakesEvents plan old (event ∷ events) new = (between : State) × TakesEvent plan old event between × TakesEvents plan between events new

-- whatever comes of the first of these events by the rules is a turn: it isn't refused, so that 90, 93, 94 and 95 don't come
abbrev pub IsNextTaken : Plan → State → List Event → Type 0
IsNextTaken plan state [] = Unit {0}
IsNextTaken plan state (event ∷ events) =
    (outcome : Result Turn Refusal) → IsTurn (place_of plan (node_of event)) (standing_at plan state (node_of event)) (call_of event) outcome → (turn : Turn) × (outcome ≡ Ok turn)

-- no reached state is a dead end: in every run of the rules in which no frame was forged, a node that is movable with the members of a least quorum has a short
-- way; and after each beginning of each way of it no frame was forged, and the event that comes next isn't refused; and after all of the way the node's front
-- has passed the slots of the commands, each of which it knows at its own
abbrev pub NoDeadEnd : Type 0
NoDeadEnd = (setting : Setting) (n : ℕ) (before : List Era) (sources : List Source) (old new : State) (i : ℕ) (members : List ℕ) (commands : List Command)
    → RunsTo setting n before sources old → IsUnforged old.now.sent old.now.delivered
    → Movable (place_of (plan_of setting sources) i) (standing_at (plan_of setting sources) old) i members commands
    → HasShortWay (standing_at (plan_of setting sources) old) i members commands
    × ((first rest : List Event) → IsWay (standing_at (plan_of setting sources) old) i members commands (first ++ rest) → TakesEvents (plan_of setting sources) old first new
    → IsUnforged new.now.sent new.now.delivered
    × IsNextTaken (plan_of setting sources) new rest
    × (rest ≡ [] → HasMovedOn i (front_of (standing_at (plan_of setting sources) old i)) commands (standing_at (plan_of setting sources) new)))

-- in every run of the rules in which no frame was forged: where the members of a least quorum are calm for a node, after each beginning of its round no frame
-- was forged, and the event that comes next isn't refused; and after all of it the node's front has passed the slots of the commands, each of which
-- it knows at its own
abbrev pub RoundsMoveOn : Type 0
RoundsMoveOn = (setting : Setting) (n : ℕ) (before : List Era) (sources : List Source) (old new : State) (i : ℕ) (members : List ℕ) (commands : List Command) (first rest : List Event)
    → RunsTo setting n before sources old → IsUnforged old.now.sent old.now.delivered
    → Calm (place_of (plan_of setting sources) i) (standing_at (plan_of setting sources) old) i members commands
    → round (standing_at (plan_of setting sources) old) i members commands ≡ first ++ rest → TakesEvents (plan_of setting sources) old first new
    → IsUnforged new.now.sent new.now.delivered
    × IsNextTaken (plan_of setting sources) new rest
    × (rest ≡ [] → HasMovedOn i (front_of (standing_at (plan_of setting sources) old i)) commands (standing_at (plan_of setting sources) new))

-- nodes that have just been started on empty stores are at rest: each could move each least quorum to which it belongs on to its own first deal
abbrev pub FreshClustersAreCalm : Type 0
FreshClustersAreCalm = (plan : Plan) (i : ℕ) (members : List ℕ) (deal : List ℕ) → IsPlan plan → IsLeastQuorum (length plan.sources) members → In i members
    → (place_of plan i).deals 0 ≡ Some deal → length deal ≡ 2 * plan.setting.game.players + 5
    → Calm (place_of plan i) (λ node. started (place_of plan node) empty_store) i members (Deal 0 deal ∷ [])
