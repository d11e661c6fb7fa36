-- What holds of nodes in processes of their own, by what each of them did alone.
use Rattle.std.specs.Prelude.{◌≡◌, ℕ, ◌<◌, ◌≤◌, true, List, [], ◌∷◌, ◌++◌, length, map, Err}
use Rattle.slot_log.specs.declared.command.Command.{Command}
use Rattle.protocol_model.specs.Sets.{In, IsBeginning}
use Rattle.protocol_model.specs.Stores.{Store}
use Rattle.protocol_model.specs.Quorums.{AreChosen}
use Rattle.dealer_kind.specs.Kind.{Setting}
use Rattle.dealer_kind.specs.Plans.{Plan, IsPlan}
use Rattle.dealer_kind.specs.declared.source.Source.{Source}
use Rattle.node_rules.specs.Standings.{Standing, place_of, front_of, applied}
use Rattle.node_rules.specs.Calls.{Call}
use Rattle.node_rules.specs.Turns.{Conflict}
use Rattle.node_rules.specs.Rules.{IsTurn}
use Rattle.dealer_world.specs.Records.{Frame, said}
use Rattle.dealer_world.specs.Views.{placed_at}
use Rattle.dealer_world.specs.Unforged.{IsUnforged}
use Rattle.dealer_world.specs.Headline.{Era, dealer_in, OneList}
use Rattle.dealer_world.specs.Runs.{IsSeated, arrived_at}
use Rattle.dealer_world.specs.RuleRuns.{plan_of, IsBacked, IsAddressed}
use Rattle.stations.specs.Deeds.{Deed, Did, new_at, Doing, IsOrder, record_of}

-- what node i of a match did since it was created
abbrev pub DidAt : Plan → ℕ → List Deed → Standing → Type 0
DidAt plan i = Did (place_of plan i) (new_at (place_of plan i))

-- each node did what it did by the rules, knowing nothing of the others but the frames that came; there merely is what it holds
abbrev pub EachDid : Plan → (ℕ → List Deed) → Type 0
EachDid plan histories = (i : ℕ) → i < length plan.sources → ∥ ((s : Standing) × DidAt plan i (histories i) s) ∥₁

-- an order of all that was done, as by one clock, in which each frame had been sent before it came
pub record IsTrueOrder (n : ℕ) (histories : ℕ → List Deed) (all : List Doing) : Type 0 where
  pub order : IsOrder n histories all
  pub unforged : IsUnforged (record_of all).sent (record_of all).delivered

-- the processes of a match, over its one era: each node's history, and an order of all
pub record AreProcesses (setting : Setting) (sources : List Source) (histories : ℕ → List Deed) (all : List Doing) : Type 0 where
  pub plan : IsPlan (plan_of setting sources)
  pub did : EachDid (plan_of setting sources) histories
  pub order : IsTrueOrder (length sources) histories all

abbrev pub one_era : List Source → List Doing → Era
one_era sources all = record { sources = sources; record_of = record_of all }

-- one list of chosen commands is behind all lines and logs of these processes
abbrev pub ShowOneList : Setting → List Source → List Doing → Type 0
ShowOneList setting sources all = ∥ OneList (dealer_in setting (one_era sources all ∷ [])) (length sources) (one_era sources all ∷ []) ∥₁

abbrev pub ProcessesShowOneList : Type 0
ProcessesShowOneList = (setting : Setting) (sources : List Source) (histories : ℕ → List Deed) (all : List Doing) → AreProcesses setting sources histories all
    → ShowOneList setting sources all

-- what each node holds by its deeds backs all that it said by its frames
abbrev pub ProcessesAreBacked : Type 0
ProcessesAreBacked = (setting : Setting) (sources : List Source) (histories : ℕ → List Deed) (all : List Doing) → AreProcesses setting sources histories all
    → (i : ℕ) (s : Standing) → i < length sources → DidAt (plan_of setting sources) i (histories i) s → ∥ IsBacked (record_of all).sent i s ∥₁

-- each frame goes from a node of the match to another
abbrev pub ProcessesSendToNodes : Type 0
ProcessesSendToNodes = (setting : Setting) (sources : List Source) (histories : ℕ → List Deed) (all : List Doing) → AreProcesses setting sources histories all
    → (frame : Frame) → In frame (record_of all).sent → ∥ IsAddressed (length sources) frame ∥₁

-- no next call of a node, by which no frame is forged either, finds another command known where one was chosen
abbrev pub ProcessesNeverConflict : Type 0
ProcessesNeverConflict = (setting : Setting) (sources : List Source) (histories : ℕ → List Deed) (all : List Doing) → AreProcesses setting sources histories all
    → (i : ℕ) (s : Standing) (called : Call) (store : Store) → i < length sources → DidAt (plan_of setting sources) i (histories i) s → IsSeated setting.game.players called
    → IsUnforged (record_of all).sent ((record_of all).delivered ++ map (placed_at (length (record_of all).sent)) (arrived_at s.up i (front_of s) called))
    → IsTurn (place_of (plan_of setting sources) i) s called (Err (Conflict store)) → ⊥

-- each command that a running node applied is chosen, at its slot, by what all nodes said
abbrev pub ProcessesApplyTheChosen : Type 0
ProcessesApplyTheChosen = (setting : Setting) (sources : List Source) (histories : ℕ → List Deed) (all : List Doing) → AreProcesses setting sources histories all
    → (i : ℕ) (s : Standing) → i < length sources → DidAt (plan_of setting sources) i (histories i) s → s.up ≡ true
    → ∥ AreChosen (length sources) (said (record_of all).sent) (applied s) ∥₁

-- and of two lists of commands that are chosen so the shorter one is a beginning of the longer
abbrev pub ProcessesChooseOneList : Type 0
ProcessesChooseOneList = (setting : Setting) (sources : List Source) (histories : ℕ → List Deed) (all : List Doing) → AreProcesses setting sources histories all
    → (shorter longer : List Command) → AreChosen (length sources) (said (record_of all).sent) shorter → AreChosen (length sources) (said (record_of all).sent) longer
    → length shorter ≤ length longer → ∥ IsBeginning shorter longer ∥₁
