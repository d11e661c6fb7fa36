-- The three cases of a member, in the runs of the rules, and the order that helps the one that awaits a bot.
use Rattle.std.specs.Prelude.{◌≡◌, ℕ, ◌<◌, true, List, length, Result, Ok}
use Rattle.paxos_wire.specs.declared.limits.TheConstants.{SLOTS}
use Rattle.protocol_model.specs.Sets.{In, put}
use Rattle.dealer_kind.specs.Kind.{Setting}
use Rattle.dealer_kind.specs.Plans.{Plan, IsPlan}
use Rattle.dealer_kind.specs.declared.source.Source.{Source}
use Rattle.node_rules.specs.Standings.{Standing, place_of, front_of}
use Rattle.node_rules.specs.Turns.{Turn, Refusal}
use Rattle.node_rules.specs.Proposing.{is_over}
use Rattle.node_rules.specs.Calls.{Away}
use Rattle.node_rules.specs.Rules.{IsTurn}
use Rattle.node_rules.specs.Cases.{HasProposal, AwaitsBot, Case}
use Rattle.dealer_world.specs.Unforged.{IsUnforged}
use Rattle.dealer_world.specs.Headline.{Era}
use Rattle.dealer_world.specs.RuleRuns.{State, plan_of, RunsTo}
use Rattle.dealer_world.specs.CalmRun.{standing_at}

-- each node of a match, whatever the nodes hold, has something to propose, or awaits a bot, or the match is over at it, as long as it has a slot at its front
abbrev pub NodesHaveCases : Type 0
NodesHaveCases = (plan : Plan) (standings : ℕ → Standing) (i : ℕ) (members : List ℕ) → IsPlan plan → i < length plan.sources → front_of (standings i) < SLOTS → Case (place_of plan i) standings i members

-- in every run of the rules in which no frame was forged: where a member that runs awaits a bot, an order that the player to act is played for isn't refused, and
-- then it has something to propose, at the front where it was
abbrev pub OrdersHelpRuns : Type 0
OrdersHelpRuns = (setting : Setting) (n : ℕ) (before : List Era) (sources : List Source) (state : State) (i : ℕ) (members : List ℕ) (outcome : Result Turn Refusal)
    → RunsTo setting n before sources state → IsUnforged state.now.sent state.now.delivered
    → ((k : ℕ) → In k members → k < length sources) → In i members → (standing_at (plan_of setting sources) state i).up ≡ true → front_of (standing_at (plan_of setting sources) state i) < SLOTS
    → AwaitsBot (place_of (plan_of setting sources) i) (standing_at (plan_of setting sources) state) i members
    → IsTurn (place_of (plan_of setting sources) i) (standing_at (plan_of setting sources) state i) Away outcome
    → (turn : Turn) × (outcome ≡ Ok turn) × (front_of turn.after ≡ front_of (standing_at (plan_of setting sources) state i))
    × (is_over (place_of (plan_of setting sources) i) turn.after ≡ is_over (place_of (plan_of setting sources) i) (standing_at (plan_of setting sources) state i))
    × HasProposal (place_of (plan_of setting sources) i) (put (standing_at (plan_of setting sources) state) i turn.after) i members
