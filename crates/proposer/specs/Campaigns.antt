-- What a proposer holds of the ballot that it began, how promises and refusals change it, and what it proposes.
use Rattle.std.specs.Prelude.{ℕ, zero, suc, ◌+◌, ◌-◌, ◌*◌, ◌==◌, Bool, true, false, not, nat_lt, if◌then◌else◌, List, Option, Some, None, is_some, slice_index_or, slice_set, replicate, Result, Ok, Err}
use Rattle.std.specs.Option.{option_map}
use Rattle.paxos_wire.specs.declared.limits.TheConstants.{NODES, WINDOW}
use Rattle.paxos_wire.specs.declared.ballot.Ballot.{Ballot}
use Rattle.paxos_wire.specs.declared.entry.Entry.{Entry}
use Rattle.slot_log.specs.declared.command.Command.{Command}
use Rattle.protocol_model.specs.Quorums.{count}
use Rattle.proposer.specs.declared.campaign.Campaign.{Campaign}
use Rattle.proposer.specs.declared.accept.Accept.{Accept}
use Rattle.proposer.specs.declared.fault.ProposeFault.{ProposeFault}
use Rattle.proposer.specs.declared.fault.ProposeFault.TheVariants.{OutOfWindow}
use Rattle.proposer.specs.Told.{best_after}
use Rattle.paxos_wire.specs.Order.{is_below, is_same_ballot}

-- by node: what its promise tells, where it was counted
abbrev pub promise_by : Campaign → ℕ → Option (List Entry)
promise_by campaign node = slice_index_or campaign.promises node None

-- whether a command was proposed at the slot; marks stand in order of slots, from the first on
abbrev pub is_proposed : Campaign → ℕ → Bool
is_proposed campaign slot = slice_index_or campaign.proposed (slot - campaign.first) false

-- a proposer: its node, the count of nodes, and the ballot that it prepares or leads, if any, with each node's promise, where it was counted, and a mark for
-- each slot where it proposed
pub record Proposing : Type 0 where
  pub node : ℕ
  pub nodes : ℕ
  pub campaign : Option Campaign

-- ---- a ballot begins and ends

-- the node's ballot of the round after the greatest seen
abbrev pub next_ballot : ℕ → Ballot → Ballot
next_ballot node seen = record { round = seen.round + 1; node = node }

-- nothing is counted yet, the own promise neither
abbrev pub new_campaign : Ballot → ℕ → Campaign
new_campaign ballot first = record { ballot = ballot; first = first; promises = replicate NODES None; proposed = replicate WINDOW false }

-- the next ballot is begun at this slot
abbrev pub begun : Proposing → Ballot → ℕ → Proposing
begun p seen slot = record p { campaign = Some (new_campaign (next_ballot p.node seen) slot) }

-- no ballot is prepared or led
abbrev pub idle : Proposing → Proposing
idle p = record p { campaign = None }

-- a ballot above the own one was promised
abbrev pub is_outbid : Option Campaign → Ballot → Bool
is_outbid None promised = false
is_outbid (Some campaign) promised = is_below campaign.ballot promised

-- a campaign that is outbid is given up
abbrev pub refused_from : Option Campaign → Ballot → Option Campaign
refused_from campaign promised = if is_outbid campaign promised then None else campaign

-- the same of a proposer
abbrev pub refused : Proposing → Ballot → Proposing
refused p promised = record p { campaign = refused_from p.campaign promised }

-- ---- promises

-- a promise of the node was counted
abbrev pub has_promised : Campaign → ℕ → Bool
has_promised campaign node = is_some (promise_by campaign node)

-- more than half of the n nodes promised
abbrev pub has_quorum : ℕ → Campaign → Bool
has_quorum n campaign = nat_lt n (2 * count (has_promised campaign) n)

-- a quorum promised the ballot that was begun, if one was
abbrev pub leads : ℕ → Option Campaign → Bool
leads n None = false
leads n (Some campaign) = has_quorum n campaign

-- the same of a proposer
abbrev pub is_leading : Proposing → Bool
is_leading p = leads p.nodes p.campaign

-- the ballot that it prepares or leads
abbrev pub ballot_in : Proposing → Option Ballot
ballot_in p = option_map (λ campaign. campaign.ballot) p.campaign

-- a promise counts while no quorum has promised: of the own ballot and first slot, the first of its node
abbrev pub is_counted : ℕ → Campaign → ℕ → Ballot → ℕ → Bool
is_counted n campaign from ballot first =
    if has_quorum n campaign then false
    else if not (is_same_ballot ballot campaign.ballot) then false
    else if not (first == campaign.first) then false
    else not (has_promised campaign from)

-- with the promise, where it counts
abbrev pub with_promise : ℕ → Campaign → ℕ → Ballot → ℕ → List Entry → Campaign
with_promise n campaign from ballot first told =
    if is_counted n campaign from ballot first then record campaign { promises = slice_set campaign.promises from (Some told) } else campaign

abbrev pub counting_from : ℕ → Option Campaign → ℕ → Ballot → ℕ → List Entry → Option Campaign
counting_from n campaign from ballot first told = option_map (λ c. with_promise n c from ballot first told) campaign

-- the same of a proposer
abbrev pub counting : Proposing → ℕ → Ballot → ℕ → List Entry → Proposing
counting p from ballot first told = record p { campaign = counting_from p.nodes p.campaign from ballot first told }

-- ---- proposals

-- the slot is one of the 64 from the first on
abbrev pub is_covered : ℕ → ℕ → Bool
is_covered first slot = if nat_lt slot first then false else nat_lt slot (first + WINDOW)

-- the entry of the slot that has the greatest ballot, of all that the counted promises of the first n nodes tell
abbrev pub greatest_told : Campaign → ℕ → ℕ → Option Entry
greatest_told campaign slot zero = None
greatest_told campaign slot (suc n) = best_after (greatest_told campaign slot n) slot (promise_by campaign n)

-- the told command, or where none was told the own one
abbrev pub value_of : Option Entry → Option Command → Option Command
value_of None own = own
value_of (Some entry) own = Some entry.command

abbrev pub accept_of : Campaign → ℕ → Option Command → Option Accept
accept_of campaign slot None = None
accept_of campaign slot (Some command) = Some (record { ballot = campaign.ballot; slot = slot; command = command })

-- what a campaign proposes at the slot: a command where a quorum has promised, the slot is covered, nothing was proposed
-- there and there is a value
abbrev pub proposal_by : ℕ → Campaign → ℕ → Option Command → Result (Option Accept) ProposeFault
proposal_by n campaign slot own =
    if not (has_quorum n campaign) then Ok None
    else if not (is_covered campaign.first slot) then Err OutOfWindow
    else if is_proposed campaign slot then Ok None
    else Ok (accept_of campaign slot (value_of (greatest_told campaign slot n) own))

abbrev pub proposal_from : ℕ → Option Campaign → ℕ → Option Command → Result (Option Accept) ProposeFault
proposal_from n None slot own = Ok None
proposal_from n (Some campaign) slot own = proposal_by n campaign slot own

-- what a proposer proposes at the slot: nothing where no ballot was begun
abbrev pub proposal_of : Proposing → ℕ → Option Command → Result (Option Accept) ProposeFault
proposal_of p slot own = proposal_from p.nodes p.campaign slot own

-- with a mark at the slot of what is proposed
abbrev pub with_mark : Campaign → Result (Option Accept) ProposeFault → Campaign
with_mark campaign (Ok (Some accept)) = record campaign { proposed = slice_set campaign.proposed (accept.slot - campaign.first) true }
with_mark campaign (Ok None) = campaign
with_mark campaign (Err fault) = campaign

-- what is proposed is marked at its slot
abbrev pub marked_from : Option Campaign → Result (Option Accept) ProposeFault → Option Campaign
marked_from campaign proposal = option_map (λ c. with_mark c proposal) campaign

-- the same of a proposer
abbrev pub marked : Proposing → Result (Option Accept) ProposeFault → Proposing
marked p proposal = record p { campaign = marked_from p.campaign proposal }
