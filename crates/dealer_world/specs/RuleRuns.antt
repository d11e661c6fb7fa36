-- Runs of a cluster whose nodes keep the rules, over all its eras.
use Rattle.std.specs.Prelude.{◌≡◌, ◌≢◌, ℕ, ◌+◌, ◌<◌, ◌≤◌, true, List, [], ◌∷◌, ◌++◌, map, length, Result, Err}
use Rattle.std.proofs.Common.{get_or, set}
use Rattle.slot_log.specs.declared.command.Command.{Command}
use Rattle.protocol_model.specs.Sets.{In, IsBeginning}
use Rattle.protocol_model.specs.Messages.{Message}
use Rattle.protocol_model.specs.Quorums.{AreChosen}
use Rattle.protocol_model.specs.Stores.{Store, empty_store}
use Rattle.protocol_model.specs.Backing.{Backs}
use Rattle.dealer_kind.specs.Kind.{Setting}
use Rattle.dealer_kind.specs.Plans.{Plan, IsPlan}
use Rattle.dealer_kind.specs.declared.source.Source.{Source}
use Rattle.node_rules.specs.Standings.{Standing, place_of, front_of, applied, stopped}
use Rattle.node_rules.specs.Calls.{Call}
use Rattle.node_rules.specs.Turns.{Turn, Refusal, Conflict}
use Rattle.node_rules.specs.Rules.{IsTurn, standing_after}
use Rattle.dealer_world.specs.Records.{Record, Frame, Arrived, no_record, said, said_by}
use Rattle.dealer_world.specs.Unforged.{IsUnforged}
use Rattle.dealer_world.specs.Headline.{Era, said_in, dealer_in, OneList}
use Rattle.dealer_world.specs.Calls.{Made, nothing_made}
use Rattle.dealer_world.specs.Views.{grown, placed_at}
use Rattle.dealer_world.specs.Behind.{EachNode}
use Rattle.dealer_world.specs.Runs.{Ruled, IsSeated, arrived_by, arrived_at}

-- what all nodes hold and know, by their numbers, and the record
pub record State : Type 0 where
  pub standings : List Standing
  pub now : Record

-- node i has just been created
abbrev pub IsCreated : Plan → ℕ → Standing → Type 0
IsCreated plan i s = s ≡ stopped (place_of plan i) empty_store empty_store

-- all nodes have just been created, and nothing is recorded
pub record IsNew (plan : Plan) (state : State) : Type 0 where
  pub count : length state.standings ≡ length plan.sources
  pub each : EachNode (IsCreated plan) 0 state.standings
  pub empty : state.now ≡ no_record

-- one call of one node by the rules: that node's standing is as after the call, and the record has grown by it
pub record Steps (plan : Plan) (old new : State) : Type 0 where
  pub node : ℕ
  pub is_node : node < length old.standings
  pub before : Standing
  pub at : get_or old.standings node before ≡ before
  pub called : Call
  pub arrived : List Arrived
  pub made : Made
  pub after : Standing
  pub ruled : Ruled (place_of plan node) before called arrived made after
  pub standings : new.standings ≡ set old.standings node after
  pub grows : new.now ≡ grown old.now node arrived made

-- how an era ends, its record, and which append each node may have begun: between two calls, or in the middle of one, of which only what arrived is
-- recorded
pub data EndsAs (plan : Plan) (old : State) (all : Record) (begun : ℕ → Store) : Type 0 where
  at_rest : all ≡ old.now → EachNode (λ i s. begun i ≡ s.begun) 0 old.standings → EndsAs plan old all begun
  in_a_call : (node : ℕ) (s : Standing) (called : Call) (outcome : Result Turn Refusal) → node < length old.standings → get_or old.standings node s ≡ s → s.up ≡ true
      → IsSeated plan.setting.game.players called → IsTurn (place_of plan node) s called outcome
      → all ≡ grown old.now node (arrived_by node (front_of s) called) nothing_made
      → begun node ≡ (standing_after (place_of plan node) s outcome).begun → EachNode (λ i other. i ≢ node → begun i ≡ other.begun) 0 old.standings
      → EndsAs plan old all begun

-- the nodes from this number on, down, with the stores that they had and these begun
abbrev pub AreReopened : Plan → (ℕ → Store) → ℕ → List Standing → List Standing → Type 0
AreReopened plan begun i [] [] = Unit {0}
AreReopened plan begun i [] (new ∷ more) = ⊥
AreReopened plan begun i (old ∷ before) [] = ⊥
AreReopened plan begun i (old ∷ before) (new ∷ more) = (new ≡ stopped (place_of plan i) old.store (begun i)) × AreReopened plan begun (i + 1) before more

abbrev pub plan_of : Setting → List Source → Plan
plan_of setting sources = record { setting = setting; sources = sources }

-- from a new cluster, one call after another, of any nodes in any order; and from any such cluster, stopped at any moment, one that is opened on what it
-- left, with any deals
pub data RunsTo (setting : Setting) (n : ℕ) : List Era → List Source → State → Type 0 where
  fresh : (sources : List Source) (state : State) → IsPlan (plan_of setting sources) → length sources ≡ n → IsNew (plan_of setting sources) state → RunsTo setting n [] sources state
  step : (before : List Era) (sources : List Source) (old state : State) → RunsTo setting n before sources old → Steps (plan_of setting sources) old state
      → RunsTo setting n before sources state
  opened : (before : List Era) (sources : List Source) (old : State) (latest : Era) (begun : ℕ → Store) (others : List Source) (state : State)
      → RunsTo setting n before sources old → EndsAs (plan_of setting sources) old latest.record_of begun → latest.sources ≡ sources
      → IsUnforged latest.record_of.sent latest.record_of.delivered
      → IsPlan (plan_of setting others) → length others ≡ n
      → AreReopened (plan_of setting others) begun 0 old.standings state.standings → state.now ≡ no_record
      → RunsTo setting n (latest ∷ before) others state

-- what node i has said by frames of this record, both stores that its next start may find back: no lower ballot is promised then, and what was accepted isn't
-- forgotten
abbrev pub IsBacked : List Frame → ℕ → Standing → Type 0
IsBacked sent i s = (frame : Frame) (message : Message) → In frame sent → frame.from ≡ i → In message (said_by frame) → Backs s.store message × Backs s.begun message

-- in every run of the rules in which no frame was forged each node's stores back all its frames
abbrev pub RunsAreBacked : Type 0
RunsAreBacked = (setting : Setting) (n : ℕ) (before : List Era) (sources : List Source) (state : State) → RunsTo setting n before sources state
    → IsUnforged state.now.sent state.now.delivered → EachNode (IsBacked state.now.sent) 0 state.standings

-- the frame goes from a node of n to another
abbrev pub IsAddressed : ℕ → Frame → Type 0
IsAddressed n frame = (frame.from < n) × (frame.to < n) × (frame.to ≢ frame.from)

-- in every run of the rules in which no frame was forged each frame goes from a node of the match to another
abbrev pub RunsSendToNodes : Type 0
RunsSendToNodes = (setting : Setting) (n : ℕ) (before : List Era) (sources : List Source) (state : State) → RunsTo setting n before sources state
    → IsUnforged state.now.sent state.now.delivered → (frame : Frame) → In frame state.now.sent → IsAddressed n frame

-- in every run of the rules in which no frame was forged, and none is by this call, the call doesn't find another command known where one was chosen
abbrev pub RunsNeverConflict : Type 0
RunsNeverConflict = (setting : Setting) (n : ℕ) (before : List Era) (sources : List Source) (state : State) (node : ℕ) (s : Standing) (called : Call) (store : Store)
    → RunsTo setting n before sources state → node < length state.standings → get_or state.standings node s ≡ s → IsSeated setting.game.players called
    → IsUnforged state.now.sent (state.now.delivered ++ map (placed_at (length state.now.sent)) (arrived_at s.up node (front_of s) called))
    → IsTurn (place_of (plan_of setting sources) node) s called (Err (Conflict store)) → ⊥

-- in every run of the rules in which no frame was forged the commands that a running node applied are chosen, each at its slot, by what was said up to now
abbrev pub RunsApplyTheChosen : Type 0
RunsApplyTheChosen = (setting : Setting) (n : ℕ) (before : List Era) (sources : List Source) (state : State) (node : ℕ) (s : Standing)
    → RunsTo setting n before sources state → node < length state.standings → get_or state.standings node s ≡ s → s.up ≡ true
    → IsUnforged state.now.sent state.now.delivered
    → AreChosen n (said_in before ++ said state.now.sent) (applied s)

-- and of two lists of commands that are chosen so the shorter one is a beginning of the longer
abbrev pub RunsChooseOneList : Type 0
RunsChooseOneList = (setting : Setting) (n : ℕ) (before : List Era) (sources : List Source) (state : State) (shorter longer : List Command)
    → RunsTo setting n before sources state → IsUnforged state.now.sent state.now.delivered
    → AreChosen n (said_in before ++ said state.now.sent) shorter → AreChosen n (said_in before ++ said state.now.sent) longer
    → length shorter ≤ length longer → IsBeginning shorter longer

-- in every run of the rules in which no frame was forged there is one list behind all that was shown, in all eras
abbrev pub RunsShowOneList : Type 0
RunsShowOneList = (setting : Setting) (n : ℕ) (before : List Era) (sources : List Source) (state : State) → RunsTo setting n before sources state
    → IsUnforged state.now.sent state.now.delivered
    → let era : Era = record { sources = sources; record_of = state.now } in OneList (dealer_in setting (era ∷ before)) n (era ∷ before)
