-- What holds of what a proposer counts and proposes.
use Rattle.std.specs.Prelude.{◌≡◌, ℕ, ◌≤◌, ◌⊎◌, ◌↔◌, true, false, List, ◌∷◌, Option, Some, Ok}
use Rattle.paxos_wire.specs.declared.limits.TheConstants.{NODES}
use Rattle.paxos_wire.specs.declared.ballot.Ballot.{Ballot}
use Rattle.paxos_wire.specs.declared.entry.Entry.{Entry}
use Rattle.slot_log.specs.declared.command.Command.{Command}
use Rattle.protocol_model.specs.Sets.{In}
use Rattle.protocol_model.specs.Messages.{Message, Covers, Promise, Accept as accept}
use Rattle.protocol_model.specs.Quorums.{IsFree, IsGreatestTold}
use Rattle.proposer.specs.declared.campaign.Campaign.{Campaign}
use Rattle.proposer.specs.declared.accept.Accept.{Accept}
use Rattle.proposer.specs.Campaigns.{new_campaign, has_quorum, with_promise, with_mark, greatest_told, value_of, accept_of, proposal_by}
use Rattle.proposer.specs.Counted.{CountsFrom, CountsAll, MarksSent, HasQuorum, IsGreatest}

-- of all that the counted promises tell of a slot, the entry of the greatest ballot decides
abbrev pub GreatestDecides : Type 0
GreatestDecides = (n : ℕ) (campaign : Campaign) (slot : ℕ) → IsGreatest n campaign slot (greatest_told campaign slot n)

-- a proposal is of the campaign's ballot, at one of its slots, of the told command of the greatest ballot, or where none
-- was told of the own command
pub record IsSafe (n : ℕ) (has : List Message) (campaign : Campaign) (at : ℕ) (own : Option Command) (made : Accept) : Type 0 where
  pub ballot : made.ballot ≡ campaign.ballot
  pub slot : made.slot ≡ at
  pub covered : Covers campaign.first at
  pub command : IsGreatestTold n has campaign.ballot at made.command ⊎ (IsFree n has campaign.ballot at × (own ≡ Some made.command))

-- whatever a campaign proposes
abbrev pub ProposalsAreSafe : Type 0
ProposalsAreSafe =
    (n : ℕ) (has : List Message) (campaign : Campaign) (slot : ℕ) (own : Option Command) (made : Accept)
    → CountsFrom has campaign → proposal_by n campaign slot own ≡ Ok (Some made) → IsSafe n has campaign slot own made

-- it leads exactly where more than half of the nodes' promises are had
abbrev pub QuorumLeads : Type 0
QuorumLeads =
    (n : ℕ) (has : List Message) (campaign : Campaign) → CountsFrom has campaign → CountsAll n has campaign
    → (has_quorum n campaign ≡ true) ↔ HasQuorum n has campaign.ballot campaign.first

-- one promise of three or more nodes is no quorum
abbrev pub OnePromiseLeadsNot : Type 0
OnePromiseLeadsNot =
    (n from : ℕ) (begun ballot : Ballot) (first slot : ℕ) (told : List Entry) → 3 ≤ n
    → has_quorum n (with_promise n (new_campaign begun first) from ballot slot told) ≡ false

-- where a quorum promised, and nothing of the ballot was sent at a slot that it covers, what there is to propose is proposed
abbrev pub LeaderProposes : Type 0
LeaderProposes =
    (n : ℕ) (has sent : List Message) (campaign : Campaign) (slot : ℕ) (own : Option Command)
    → CountsAll n has campaign → MarksSent sent campaign → HasQuorum n has campaign.ballot campaign.first → Covers campaign.first slot
    → ((command : Command) → In (accept campaign.ballot slot command) sent → ⊥)
    → proposal_by n campaign slot own ≡ Ok (accept_of campaign slot (value_of (greatest_told campaign slot n) own))

-- nothing is proposed twice at a slot in a ballot
abbrev pub ProposesOnce : Type 0
ProposesOnce =
    (n : ℕ) (sent : List Message) (campaign : Campaign) (slot : ℕ) (own : Option Command) (first : Accept) (other : Command)
    → MarksSent sent campaign → proposal_by n campaign slot own ≡ Ok (Some first) → In (accept first.ballot first.slot other) sent → ⊥

-- ---- the premises are kept as messages come and go

-- nothing is counted in a new ballot
abbrev pub BeginCounts : Type 0
BeginCounts = (has : List Message) (ballot : Ballot) (first : ℕ) → CountsFrom has (new_campaign ballot first)

-- no promise of a new ballot is had
abbrev pub BeginCountsAll : Type 0
BeginCountsAll =
    (n : ℕ) (has : List Message) (ballot : Ballot) (first : ℕ) → n ≤ NODES
    → ((node : ℕ) (told : List Entry) → In (Promise node ballot first told) has → ⊥) → CountsAll n has (new_campaign ballot first)

-- nothing was sent in a new ballot
abbrev pub BeginMarks : Type 0
BeginMarks =
    (sent : List Message) (ballot : Ballot) (first : ℕ)
    → ((slot : ℕ) (command : Command) → In (accept ballot slot command) sent → ⊥) → MarksSent sent (new_campaign ballot first)

-- a promise that came is counted, or rightly passed over
abbrev pub PromiseCounts : Type 0
PromiseCounts =
    (n : ℕ) (has : List Message) (campaign : Campaign) (from : ℕ) (ballot : Ballot) (first : ℕ) (told : List Entry)
    → In (Promise from ballot first told) has → CountsFrom has campaign → CountsFrom has (with_promise n campaign from ballot first told)

-- and leaves none out
abbrev pub PromiseCountsAll : Type 0
PromiseCountsAll =
    (n : ℕ) (has : List Message) (campaign : Campaign) (from : ℕ) (ballot : Ballot) (first : ℕ) (told : List Entry)
    → CountsAll n has campaign → CountsAll n (Promise from ballot first told ∷ has) (with_promise n campaign from ballot first told)

-- and changes no mark
abbrev pub PromiseMarks : Type 0
PromiseMarks =
    (n : ℕ) (sent : List Message) (campaign : Campaign) (from : ℕ) (ballot : Ballot) (first : ℕ) (told : List Entry)
    → MarksSent sent campaign → MarksSent sent (with_promise n campaign from ballot first told)

-- another message that came changes nothing
abbrev pub OthersCount : Type 0
OthersCount = (has : List Message) (campaign : Campaign) (message : Message) → CountsFrom has campaign → CountsFrom (message ∷ has) campaign

-- unless it is a promise of the ballot
abbrev pub OthersCountAll : Type 0
OthersCountAll =
    (n : ℕ) (has : List Message) (campaign : Campaign) (message : Message)
    → ((node : ℕ) (told : List Entry) → Promise node campaign.ballot campaign.first told ≡ message → ⊥)
    → CountsAll n has campaign → CountsAll n (message ∷ has) campaign

-- or, of what is sent, a proposal of the ballot
abbrev pub OthersMark : Type 0
OthersMark =
    (sent : List Message) (campaign : Campaign) (message : Message)
    → ((slot : ℕ) (command : Command) → accept campaign.ballot slot command ≡ message → ⊥)
    → MarksSent sent campaign → MarksSent (message ∷ sent) campaign

-- what is proposed is sent and marked
abbrev pub ProposalCounts : Type 0
ProposalCounts =
    (n : ℕ) (has : List Message) (campaign : Campaign) (slot : ℕ) (own : Option Command)
    → CountsFrom has campaign → CountsFrom has (with_mark campaign (proposal_by n campaign slot own))

-- which leaves no promise out
abbrev pub ProposalCountsAll : Type 0
ProposalCountsAll =
    (n : ℕ) (has : List Message) (campaign : Campaign) (slot : ℕ) (own : Option Command)
    → CountsAll n has campaign → CountsAll n has (with_mark campaign (proposal_by n campaign slot own))

-- and its slot has a mark then
abbrev pub ProposalMarks : Type 0
ProposalMarks =
    (n : ℕ) (sent : List Message) (campaign : Campaign) (slot : ℕ) (own : Option Command) (proposal : Accept)
    → proposal_by n campaign slot own ≡ Ok (Some proposal) → MarksSent sent campaign
    → MarksSent (accept proposal.ballot proposal.slot proposal.command ∷ sent) (with_mark campaign (Ok (Some proposal)))

-- counts and marks change neither the ballot nor its first slot
abbrev pub PromiseStays : Type 0
PromiseStays =
    (n : ℕ) (campaign : Campaign) (from : ℕ) (ballot : Ballot) (first : ℕ) (told : List Entry)
    → ((with_promise n campaign from ballot first told).ballot ≡ campaign.ballot) × ((with_promise n campaign from ballot first told).first ≡ campaign.first)

abbrev pub ProposalStays : Type 0
ProposalStays =
    (n : ℕ) (campaign : Campaign) (slot : ℕ) (own : Option Command)
    → ((with_mark campaign (proposal_by n campaign slot own)).ballot ≡ campaign.ballot) × ((with_mark campaign (proposal_by n campaign slot own)).first ≡ campaign.first)
