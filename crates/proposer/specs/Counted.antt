-- What a campaign's counts and marks say of the messages that its node has and sent.
use Rattle.std.specs.Prelude.{◌≡◌, ℕ, ◌≤◌, ◌<◌, Bool, true, false, List, length, Option, Some, None}
use Rattle.paxos_wire.specs.declared.limits.TheConstants.{WINDOW}
use Rattle.paxos_wire.specs.declared.ballot.Ballot.{Ballot}
use Rattle.paxos_wire.specs.declared.entry.Entry.{Entry}
use Rattle.slot_log.specs.declared.command.Command.{Command}
use Rattle.protocol_model.specs.Sets.{In}
use Rattle.protocol_model.specs.Ballots.{AtMost}
use Rattle.protocol_model.specs.Messages.{Message, Covers, Promise, Accept}
use Rattle.protocol_model.specs.Quorums.{IsQuorum}
use Rattle.proposer.specs.declared.campaign.Campaign.{Campaign}
use Rattle.proposer.specs.Campaigns.{promise_by, has_promised, has_quorum, is_proposed}

-- nothing is counted but what came: each promise that was counted is among the messages
abbrev pub CountsFrom : List Message → Campaign → Type 0
CountsFrom has campaign =
    (node : ℕ) (told : List Entry) → promise_by campaign node ≡ Some told → In (Promise node campaign.ballot campaign.first told) has

-- nothing that came is left out: while no quorum has promised, each node with a promise of the ballot and its first slot
-- among the messages is counted
pub record CountsAll (n : ℕ) (has : List Message) (campaign : Campaign) : Type 0 where
  pub places : n ≤ length campaign.promises
  pub counted : has_quorum n campaign ≡ false
      → (node : ℕ) (told : List Entry) → node < n → In (Promise node campaign.ballot campaign.first told) has → has_promised campaign node ≡ true

-- a slot is marked exactly where the ballot's proposals that were sent are
pub record MarksSent (sent : List Message) (campaign : Campaign) : Type 0 where
  pub places : length campaign.proposed ≡ WINDOW
  pub all : (slot : ℕ) (command : Command) → In (Accept campaign.ballot slot command) sent
      → Covers campaign.first slot × (is_proposed campaign slot ≡ true)
  pub only : (slot : ℕ) → Covers campaign.first slot → is_proposed campaign slot ≡ true
      → (command : Command) × In (Accept campaign.ballot slot command) sent

-- among the messages are promises of the ballot with this first slot by more than half of the n nodes
abbrev pub HasQuorum : ℕ → List Message → Ballot → ℕ → Type 0
HasQuorum n has ballot first =
    (quorum : ℕ → Bool) × IsQuorum n quorum
    × ((node : ℕ) → node < n → quorum node ≡ true → (told : List Entry) × In (Promise node ballot first told) has)

-- a promise that was counted tells of the entry at the slot
abbrev pub Tells : ℕ → Campaign → ℕ → Entry → Type 0
Tells n campaign slot entry =
    (node : ℕ) × (told : List Entry) × (node < n) × (promise_by campaign node ≡ Some told) × In entry told × (entry.slot ≡ slot)

-- the told entry of the greatest ballot; none where none is told
abbrev pub IsGreatest : ℕ → Campaign → ℕ → Option Entry → Type 0
IsGreatest n campaign slot None = (entry : Entry) → Tells n campaign slot entry → ⊥
IsGreatest n campaign slot (Some greatest) =
    Tells n campaign slot greatest × ((entry : Entry) → Tells n campaign slot entry → AtMost entry.ballot greatest.ballot)
