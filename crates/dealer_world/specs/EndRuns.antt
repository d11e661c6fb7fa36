-- Every match can be ended, in the runs of the rules.
use Rattle.std.specs.Prelude.{◌≡◌, ℕ, zero, suc, ◌+◌, ◌≤◌, ◌^◌, ◌⊎◌, List, [], ◌++◌, length, Result, Ok}
use Rattle.protocol_model.specs.Sets.{In}
use Rattle.dealer_kind.specs.Kind.{Setting}
use Rattle.dealer_kind.specs.Plans.{Plan}
use Rattle.dealer_kind.specs.declared.source.Source.{Source}
use Rattle.node_rules.specs.Standings.{place_of}
use Rattle.node_rules.specs.Turns.{Turn, Refusal}
use Rattle.node_rules.specs.Calls.{Call}
use Rattle.node_rules.specs.Rules.{IsTurn}
use Rattle.node_rules.specs.Calm.{IsLeastQuorum}
use Rattle.node_rules.specs.CalmRound.{Sent, sent_by}
use Rattle.node_rules.specs.Endings.{Help, node_helped, IsCall, MayCome, HasEnded, most_commands, front_now, most_events, MetAtMost}
use Rattle.dealer_world.specs.Unforged.{IsUnforged}
use Rattle.dealer_world.specs.Headline.{Era}
use Rattle.dealer_world.specs.RuleRuns.{State, Steps, plan_of, RunsTo}
use Rattle.dealer_world.specs.CalmRun.{standing_at, IsUntroubled}

-- an event that helps to end a match, given to its node, whose memory and disk sufficed
pub record TakesHelp (plan : Plan) (old : State) (help : Help) (new : State) : Type 0 where
  pub steps : Steps plan old new
  pub node : steps.node ≡ node_helped help
  pub called : IsCall help steps.called
  pub untroubled : IsUntroubled (place_of plan steps.node) steps.before steps.called steps.after steps.ruled.frames steps.ruled.shown steps.ruled.ends

-- whatever it comes to by the rules is a turn: it isn't refused
abbrev pub IsNeverRefused : Plan → State → Help → Type 0
IsNeverRefused plan state help =
    (called : Call) (outcome : Result Turn Refusal) → IsCall help called → IsTurn (place_of plan (node_helped help)) (standing_at plan state (node_helped help)) called outcome
    → (turn : Turn) × (outcome ≡ Ok turn)

-- the match can be ended at node i by so many events, of which these frames were sent: it has ended, or there is an event that isn't refused, and behind it, whatever
-- it made, no frame is forged, and the match can be ended by one event less
unfoldable pub CanEndRun : Plan → ℕ → List ℕ → ℕ → State → List Sent → Type 0
CanEndRun plan i members zero state sent = HasEnded (place_of plan i) (standing_at plan state i)
CanEndRun plan i members (suc more) state sent =
    HasEnded (place_of plan i) (standing_at plan state i)
    ⊎ ((help : Help) × MayCome i members sent help × IsNeverRefused plan state help
    × ((new : State) (takes : TakesHelp plan state help new) → IsUnforged new.now.sent new.now.delivered
    × CanEndRun plan i members more new (sent_by (node_helped help) takes.steps.ruled.frames ++ sent)))

-- so it is in every run of the rules in which no frame was forged
abbrev pub RunsCanEnd : Type 0
RunsCanEnd = (setting : Setting) (n : ℕ) (before : List Era) (sources : List Source) (state : State) (i : ℕ) (members : List ℕ) (round : ℕ)
    → RunsTo setting n before sources state → IsUnforged state.now.sent state.now.delivered → IsLeastQuorum (length sources) members → In i members
    → ((node : ℕ) → In node members → MetAtMost round (standing_at (plan_of setting sources) state node)) → round + most_commands setting + 2 ≤ 2 ^ 32
    → CanEndRun (plan_of setting sources) i members (most_events setting (length members) (front_now (standing_at (plan_of setting sources) state i))) state []
