-- What holds of the command runs that a proposer proposes.
use Rattle.std.specs.Prelude.{◌≡◌, ℕ, ◌+◌, ◌≤◌, ◌<◌, ◌⊎◌, true, false, List, [], ◌∷◌, ◌++◌, length, Option, Some, None, Ok}
use Rattle.paxos_wire.specs.declared.limits.TheConstants.{WINDOW, SLOTS}
use Rattle.paxos_wire.specs.declared.ballot.Ballot.{Ballot}
use Rattle.paxos_wire.specs.declared.entry.Entry.{Entry}
use Rattle.slot_log.specs.declared.command.Command.{Command}
use Rattle.protocol_model.specs.Sets.{In}
use Rattle.protocol_model.specs.Messages.{Message, Covers, Accept}
use Rattle.protocol_model.specs.Quorums.{IsFree}
use Rattle.protocol_model.specs.CommandRuns.{proposed, MayProposeEach}
use Rattle.proposer.specs.declared.campaign.Campaign.{Campaign}
use Rattle.proposer.specs.declared.accept_run.AcceptRun.{AcceptRun}
use Rattle.proposer.specs.Campaigns.{Proposing, has_quorum, is_proposed, greatest_told, counting, proposal_by}
use Rattle.proposer.specs.CommandRuns.{may_follow, commands_at, accept_run_of, run_by, run_of_one, with_marks, most_commands, IsBounded}
use Rattle.proposer.specs.Counted.{CountsFrom, CountsAll, MarksSent, HasQuorum}

-- ---- what is proposed

-- the own command, alone, at a slot where nothing was proposed and of which a quorum's promises tell no command
abbrev pub IsAlone : ℕ → List Message → List Message → Ballot → ℕ → Option Command → List Command → Type 0
IsAlone n has sent ballot slot own commands =
    (command : Command) × (commands ≡ command ∷ []) × (own ≡ Some command) × IsFree n has ballot slot × ((other : Command) → In (Accept ballot slot other) sent → ⊥)

-- a command run is of the campaign's ballot and begins at the slot, its slots are covered and are slots that there are, and each command is the told
-- one of the greatest ballot at its slot, or it is the own one, alone; nothing was proposed at its slots
pub record IsSafeCommandRun (n : ℕ) (has sent : List Message) (campaign : Campaign) (slot : ℕ) (own : Option Command) (made : AcceptRun) : Type 0 where
  pub ballot : made.ballot ≡ campaign.ballot
  pub begins : made.slot ≡ slot
  pub least : 1 ≤ length made.commands
  pub low : campaign.first ≤ slot
  pub high : slot + length made.commands ≤ campaign.first + WINDOW
  pub slots : slot < SLOTS → slot + length made.commands ≤ SLOTS
  pub commands : MayProposeEach n has sent campaign.ballot slot made.commands ⊎ IsAlone n has sent campaign.ballot slot own made.commands

-- whatever a campaign proposes
abbrev pub CommandRunsAreSafe : Type 0
CommandRunsAreSafe =
    (n : ℕ) (has sent : List Message) (campaign : Campaign) (slot : ℕ) (own : Option Command) (made : AcceptRun)
    → CountsFrom has campaign → MarksSent sent campaign → run_by n campaign slot own ≡ Ok (Some made) → IsSafeCommandRun n has sent campaign slot own made

-- where a quorum promised, and nothing of the ballot was sent at a slot that it covers, what there is to propose is proposed
abbrev pub LeaderProposesCommandRun : Type 0
LeaderProposesCommandRun =
    (n : ℕ) (has sent : List Message) (campaign : Campaign) (slot : ℕ) (own : Option Command)
    → CountsAll n has campaign → MarksSent sent campaign → HasQuorum n has campaign.ballot campaign.first → Covers campaign.first slot
    → ((command : Command) → In (Accept campaign.ballot slot command) sent → ⊥)
    → run_by n campaign slot own ≡ Ok (accept_run_of campaign slot (commands_at n campaign slot own))

-- where no told command may follow behind the slot, a single proposal is made
abbrev pub OneIsAProposal : Type 0
OneIsAProposal =
    (n : ℕ) (campaign : Campaign) (slot : ℕ) (own : Option Command)
    → (may_follow campaign (slot + 1) ≡ false) ⊎ (greatest_told campaign (slot + 1) n ≡ None)
    → run_by n campaign slot own ≡ run_of_one (proposal_by n campaign slot own)

-- ---- where it ends

-- the slot behind isn't covered, or there is no such slot, or something was proposed there, or none is told of it
abbrev pub Ends : ℕ → Campaign → ℕ → Type 0
Ends n campaign slot = (slot ≡ campaign.first + WINDOW) ⊎ ((SLOTS ≤ slot) ⊎ ((is_proposed campaign slot ≡ true) ⊎ (greatest_told campaign slot n ≡ None)))

-- told commands are proposed together as far as they may follow one another
abbrev pub CommandRunsEnd : Type 0
CommandRunsEnd =
    (n : ℕ) (campaign : Campaign) (slot : ℕ) (own : Option Command) (made : AcceptRun) (entry : Entry)
    → greatest_told campaign slot n ≡ Some entry → run_by n campaign slot own ≡ Ok (Some made) → Ends n campaign (slot + length made.commands)

-- where none is told of a slot that is covered, it is free
abbrev pub NoneToldIsFree : Type 0
NoneToldIsFree =
    (n : ℕ) (has : List Message) (campaign : Campaign) (slot : ℕ)
    → CountsFrom has campaign → has_quorum n campaign ≡ true → Covers campaign.first slot → greatest_told campaign slot n ≡ None → IsFree n has campaign.ballot slot

-- ---- how many commands it has

-- the bound is 1 at least
abbrev pub BoundIsLeast : Type 0
BoundIsLeast = (p : Proposing) (further : ℕ) → 1 ≤ most_commands p further

-- and 64 at most
abbrev pub BoundIsMost : Type 0
BoundIsMost = (p : Proposing) (further : ℕ) → most_commands p further ≤ WINDOW

-- no command run of now has more commands
abbrev pub BoundedNow : Type 0
BoundedNow = (p : Proposing) (further : ℕ) → IsBounded p (most_commands p further)

-- nor has one once a promise with so many entries at most was counted, or rightly passed over
abbrev pub BoundedLater : Type 0
BoundedLater =
    (p : Proposing) (further from : ℕ) (ballot : Ballot) (first : ℕ) (told : List Entry)
    → length told ≤ further → IsBounded (counting p from ballot first told) (most_commands p further)

-- ---- counts and marks are kept

-- what is proposed lets nothing be counted that didn't come
abbrev pub CommandRunCounts : Type 0
CommandRunCounts =
    (n : ℕ) (has : List Message) (campaign : Campaign) (slot : ℕ) (own : Option Command)
    → CountsFrom has campaign → CountsFrom has (with_marks campaign (run_by n campaign slot own))

-- and leaves nothing out
abbrev pub CommandRunCountsAll : Type 0
CommandRunCountsAll =
    (n : ℕ) (has : List Message) (campaign : Campaign) (slot : ℕ) (own : Option Command)
    → CountsAll n has campaign → CountsAll n has (with_marks campaign (run_by n campaign slot own))

-- what is proposed is sent, the lowest slot first, and marked
abbrev pub CommandRunMarks : Type 0
CommandRunMarks =
    (n : ℕ) (sent : List Message) (campaign : Campaign) (slot : ℕ) (own : Option Command) (made : AcceptRun)
    → run_by n campaign slot own ≡ Ok (Some made) → MarksSent sent campaign
    → MarksSent (proposed made.ballot made.slot made.commands ++ sent) (with_marks campaign (Ok (Some made)))

-- marks change neither the ballot nor its first slot
abbrev pub CommandRunStays : Type 0
CommandRunStays =
    (n : ℕ) (campaign : Campaign) (slot : ℕ) (own : Option Command)
    → ((with_marks campaign (run_by n campaign slot own)).ballot ≡ campaign.ballot) × ((with_marks campaign (run_by n campaign slot own)).first ≡ campaign.first)
