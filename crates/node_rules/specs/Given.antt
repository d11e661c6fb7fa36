-- The laws of the layers below that the laws here stand on.
use Rattle.std.proofs.Common.{◌≡◌, ℕ, ◌+◌, ◌-◌, ◌<◌, ◌≤◌, ◌⊎◌, ◌++◌, Bool, true, false, List, ◌∷◌, Some, Ok, length}
use Rattle.std.specs.Prelude.{slice_get, ◌↔◌}
use Rattle.slot_log.specs.declared.command.Command.{Command}
use Rattle.slot_log.specs.Laws.{CommandsMakeHands, FitsWithoutReason}
use Rattle.slot_log.specs.SlotLaws.{FrontIsFirstHole, SlotsEnd, OneMoreIsKnown, FrontsGoOn}
use Rattle.protocol_model.specs.Sets.{In}
use Rattle.paxos_wire.specs.declared.ballot.Ballot.{Ballot}
use Rattle.paxos_wire.specs.declared.limits.TheConstants.{NODES}
use Rattle.paxos_wire.specs.declared.message.Message.{Message as Wire}
use Rattle.paxos_wire.specs.Faults.{reading}
use Rattle.paxos_wire.specs.Fits.{HasCommands}
use Rattle.protocol_model.specs.Ballots.{Below, AtMost}
use Rattle.protocol_model.specs.Messages.{Message, Prepare, Accept, Accepted, Chosen, sender_of}
use Rattle.protocol_model.specs.Frames.{proposals, answers}
use Rattle.protocol_model.specs.CommandRuns.{proposed as proposed_each, answered as answered_each, sending_all, MayProposeEach}
use Rattle.protocol_model.specs.Votes.{is_voted, command_run_at, taking_command_run}
use Rattle.protocol_model.specs.Quorums.{IsQuorum, IsChosen, IsChosenIn}
use Rattle.protocol_model.specs.Stores.{Store, Append}
use Rattle.protocol_model.specs.Backing.{IsWithinPromise, IsAcceptedToo, Backs}
use Rattle.protocol_model.specs.Dealers.{Dealer}
use Rattle.protocol_model.specs.Nodes.{Node}
use Rattle.protocol_model.specs.Moves.{Output, both, Chain, with_store, with_sent}
use Rattle.protocol_model.specs.Worlds.{World, Reached, Run, IsAfter}
use Rattle.protocol_model.specs.Laws.{IsLeft}
use Rattle.proposer.specs.Laws as proposer
use Rattle.proposer.specs.CommandRunLaws as proposer_runs
use Rattle.learner.specs.Laws as learner
use Rattle.learner.specs.CommandRunLaws as learner_runs
use Rattle.match_log.specs.Laws.{CommandsAddToTheLog, LogsBeginWithTheirHeader}
use Rattle.seat_session.specs.Laws.{WholeLines, RunsGoOn}
use Rattle.dealer_kind.specs.Plans.{HasNodes}
use Rattle.dealer_kind.specs.Laws.{AnswersAreHeard, OrdersPlayForTheNext}

pub record Given : Type 0 where
  pub reach : (dealer : Dealer) (n i : ℕ) (first world : World) (out : Output) (node : Node)
      → Run dealer n first world → i < n → Chain dealer n i world.ever (world.nodes i) out node
      → (later : World) × Run dealer n first later × IsAfter world i out node later
  pub join : (dealer : Dealer) (n i : ℕ) (ever : List Message) (old : Node) (earlier : Output) (between : Node) (later : Output) (new : Node)
      → Chain dealer n i ever old earlier between → Chain dealer n i (earlier.sent ++ ever) between later new
      → Chain dealer n i ever old (both later earlier) new
  pub one_choice : (dealer : Dealer) (n : ℕ) (world : World) (slot : ℕ) (a b : Command)
      → Reached dealer n world → IsChosen n world.ever slot a → IsChosen n world.ever slot b → a ≡ b
  pub carried : (dealer : Dealer) (n : ℕ) (world : World) (lower greater : Ballot) (slot : ℕ) (chosen command : Command)
      → Reached dealer n world → IsChosenIn n world.ever lower slot chosen → Below lower greater → In (Accept greater slot command) world.ever → command ≡ chosen
  pub known : (dealer : Dealer) (n i : ℕ) (world : World) (slot : ℕ) (command : Command)
      → Reached dealer n world → In (slot, command) (world.nodes i).known → IsChosen n world.ever slot command
  pub told : (dealer : Dealer) (n sender : ℕ) (world : World) (slot : ℕ) (command : Command)
      → Reached dealer n world → In (Chosen sender slot command) world.ever → IsChosen n world.ever slot command
  pub answered : (dealer : Dealer) (n i : ℕ) (world : World) (slot : ℕ) (command : Command)
      → Reached dealer n world → IsChosen n (world.nodes i).has slot command → IsChosen n world.ever slot command
  pub within : (dealer : Dealer) (n i : ℕ) (world : World) (store : Store)
      → Reached dealer n world → IsLeft i (world.nodes i) store → IsWithinPromise store
  pub left : (dealer : Dealer) (n i : ℕ) (world : World) (store : Store) (message : Message)
      → Reached dealer n world → IsLeft i (world.nodes i) store → In message world.ever → sender_of message ≡ i
      → IsAcceptedToo world.ever message → Backs store message
  pub proposed : (dealer : Dealer) (n sender : ℕ) (world : World) (ballot : Ballot) (slot : ℕ) (command : Command)
      → Reached dealer n world → In (Accepted sender ballot slot command) world.ever → In (Accept ballot slot command) world.ever
  pub own_proposal : (dealer : Dealer) (n i : ℕ) (world : World) (ballot : Ballot) (first slot : ℕ) (command : Command)
      → Reached dealer n world → In (Prepare ballot first) (world.nodes i).sent → In (Accept ballot slot command) world.ever
      → In (Accept ballot slot command) (world.nodes i).sent
  -- what is read of an Accept or an Accepted has 1 to 64 commands
  pub has_commands : (bytes : List ℕ) (message : Wire) → reading bytes ≡ Ok message → HasCommands message
  -- command runs: commands for slots that follow one another
  pub command_run_votes : (dealer : Dealer) (n i : ℕ) (ever : List Message) (old : Node) (ballot : Ballot) (slot : ℕ) (commands : List Command)
      → old.up ≡ true → old.begun ≡ old.store → AtMost old.store.promise ballot
      → ((message : Message) → In message (proposals ballot slot commands) → In message old.has)
      → Chain dealer n i ever old (sending_all (answered_each i ballot slot (command_run_at old.store ballot slot commands)))
      (with_sent (with_store old (taking_command_run old.store ballot slot commands)) (answered_each i ballot slot (command_run_at old.store ballot slot commands)))
  pub command_run_append : (i : ℕ) (has : List Message) (store : Store) (ballot : Ballot) (slot : ℕ) (commands : List Command)
      → AtMost store.promise ballot → ((message : Message) → In message (proposals ballot slot commands) → In message has)
      → Append i has store (taking_command_run store ballot slot commands)
  pub command_run_stays : (store : Store) (ballot : Ballot) (slot : ℕ) (commands : List Command) (message : Message)
      → IsWithinPromise store → AtMost store.promise ballot → Backs store message → Backs (taking_command_run store ballot slot commands) message
  pub command_run_within : (store : Store) (ballot : Ballot) (slot : ℕ) (commands : List Command)
      → IsWithinPromise store → AtMost store.promise ballot → IsWithinPromise (taking_command_run store ballot slot commands)
  pub command_run_promised : (store : Store) (ballot : Ballot) (slot : ℕ) (command : Command) (later : List Command)
      → IsWithinPromise store → AtMost store.promise ballot → (taking_command_run store ballot slot (command ∷ later)).promise ≡ ballot
  pub command_run_most : (store : Store) (ballot : Ballot) (slot : ℕ) (commands : List Command) → length (command_run_at store ballot slot commands) ≤ length commands
  pub command_run_votes_at : (store : Store) (ballot : Ballot) (slot place : ℕ) (command : Command) (commands : List Command)
      → slice_get (command_run_at store ballot slot commands) place ≡ Some command
      → (taking_command_run store ballot slot commands).votes (slot + place) ≡ Some (record { ballot = ballot; command = command })
  pub command_run_leaves : (store : Store) (ballot : Ballot) (slot k : ℕ) (commands : List Command)
      → (k < slot) ⊎ (slot + length (command_run_at store ballot slot commands) ≤ k) → (taking_command_run store ballot slot commands).votes k ≡ store.votes k
  pub command_run_promise : (store : Store) (ballot : Ballot) (slot : ℕ) (commands : List Command)
      → ((taking_command_run store ballot slot commands).promise ≡ store.promise) ⊎ ((taking_command_run store ballot slot commands).promise ≡ ballot)
  pub command_run_whole : (store : Store) (ballot : Ballot) (slot : ℕ) (commands : List Command)
      → ((k : ℕ) → slot ≤ k → k < slot + length commands → is_voted store ballot k ≡ false) → command_run_at store ballot slot commands ≡ commands
  pub command_run_proposes : (dealer : Dealer) (n i : ℕ) (ever : List Message) (old : Node) (ballot : Ballot) (first slot : ℕ) (commands : List Command)
      → old.up ≡ true → In (Prepare ballot first) old.sent → ballot.node ≡ i → MayProposeEach n old.has old.sent ballot slot commands
      → Chain dealer n i ever old (sending_all (proposed_each ballot slot commands)) (with_sent old (proposed_each ballot slot commands))
  pub in_proposals : (ballot other : Ballot) (slot k : ℕ) (command : Command) (commands : List Command)
      → In (Accept other k command) (proposals ballot slot commands)
      ↔ (other ≡ ballot) × (slot ≤ k) × (k < slot + length commands) × (slice_get commands (k - slot) ≡ Some command)
  pub in_answers : (sender from : ℕ) (ballot other : Ballot) (slot k : ℕ) (command : Command) (commands : List Command)
      → In (Accepted from other k command) (answers sender ballot slot commands)
      ↔ (from ≡ sender) × (other ≡ ballot) × (slot ≤ k) × (k < slot + length commands) × (slice_get commands (k - slot) ≡ Some command)
  -- one node is no quorum, since a match has three at least
  pub one_node : (n only : ℕ) (set : ℕ → Bool) → 3 ≤ n → ((node : ℕ) → node < n → set node ≡ true → node ≡ only) → IsQuorum n set → ⊥
  pub least_nodes : (n : ℕ) → HasNodes n → 3 ≤ n
  pub most_nodes : (n : ℕ) → HasNodes n → n ≤ NODES
  -- the proposer
  pub greatest : proposer.GreatestDecides
  pub quorum : proposer.QuorumLeads
  pub alone : proposer.OnePromiseLeadsNot
  pub safe : proposer_runs.CommandRunsAreSafe
  pub ends : proposer_runs.CommandRunsEnd
  pub none_told : proposer_runs.NoneToldIsFree
  pub begin : proposer.BeginCounts
  pub begin_all : proposer.BeginCountsAll
  pub begin_marks : proposer.BeginMarks
  pub promise : proposer.PromiseCounts
  pub promise_all : proposer.PromiseCountsAll
  pub promise_marks : proposer.PromiseMarks
  pub others : proposer.OthersCount
  pub others_all : proposer.OthersCountAll
  pub others_marks : proposer.OthersMark
  pub proposal : proposer_runs.CommandRunCounts
  pub proposal_all : proposer_runs.CommandRunCountsAll
  pub proposal_marks : proposer_runs.CommandRunMarks
  pub promise_stays : proposer.PromiseStays
  -- the learner
  pub same : learner.SameIsEqual
  pub completed : learner.CompletedIsChosen
  pub new_counts : learner.NewCounts
  pub new_counts_all : learner.NewCountsAll
  pub answer_counts : learner.AnswerCounts
  pub answer_counts_all : learner.AnswerCountsAll
  pub passed_over : learner.OthersArePassedOver
  pub chosen_counts : learner.ChosenCounts
  pub chosen_counts_all : learner.ChosenCountsAll
  pub more : learner.MoreMessages
  pub nodes_stay : learner.NodesStay
  pub run_counts : learner_runs.CommandRunCounts
  pub run_counts_all : learner_runs.CommandRunCountsAll
  pub runs_known : learner_runs.CommandRunsAreKnown
  pub run_nodes : learner_runs.CommandRunNodesStay
  pub new_knows : learner.NewKnows
  pub answers_known : learner.AnswersAreKnown
  pub chosen_known : learner.ChosenAreKnown
  -- the log of slots, the match's log, and sessions
  pub hole : FrontIsFirstHole
  pub slots_end : SlotsEnd
  pub one_more : OneMoreIsKnown
  pub goes_on : FrontsGoOn
  pub adds : CommandsAddToTheLog
  pub header : LogsBeginWithTheirHeader
  pub whole : WholeLines
  pub runs_on : RunsGoOn
  pub make : CommandsMakeHands
  pub fits : FitsWithoutReason
  pub heard : AnswersAreHeard
  pub orders : OrdersPlayForTheNext
