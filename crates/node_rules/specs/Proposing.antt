-- What a node does as a proposer: it begins ballots, counts promises, and proposes at the end of each call.
use Rattle.std.specs.Prelude.{ℕ, ◌^◌, ◌-◌, ◌==◌, ◌||◌, ◌&&◌, Bool, nat_le, if◌then◌else◌, List, Option, Some, None, Result, Ok, Err}
use Rattle.std.specs.Option.{option_map}
use Rattle.paxos_wire.specs.declared.limits.TheConstants.{SLOTS}
use Rattle.paxos_wire.specs.declared.ballot.Ballot.{Ballot}
use Rattle.paxos_wire.specs.declared.entry.Entry.{Entry}
use Rattle.paxos_wire.specs.declared.message.Message.TheVariants.{Prepare, Accept as AcceptFrame}
use Rattle.slot_log.specs.Dealer.{finished_count, is_match_over}
use Rattle.slot_log.specs.declared.command.Command.{Command}
use Rattle.slot_log.specs.declared.command.Command.TheVariants.{Deal}
use Rattle.protocol_model.specs.Stores.{promised}
use Rattle.proposer.specs.declared.accept_run.AcceptRun.{AcceptRun}
use Rattle.proposer.specs.declared.campaign.Campaign.{Campaign}
use Rattle.proposer.specs.declared.fault.ProposeFault.{ProposeFault}
use Rattle.paxos_wire.specs.Order.{is_below}
use Rattle.proposer.specs.Campaigns.{next_ballot, new_campaign, with_promise, counting_from, refused_from, leads}
use Rattle.proposer.specs.CommandRuns.{run_from_campaign, marked_run_from}
use Rattle.dealer_kind.specs.Kind.{fits}
use Rattle.node_rules.specs.Standings.{Place, Standing, applied, front_of, hands_at, with_stored, idle}
use Rattle.node_rules.specs.Sending.{to_others}
use Rattle.node_rules.specs.Turns.{Turn, Refusal, Spent, still, sending, and_then}
use Rattle.protocol_model.specs.Votes.{told_by}
use Rattle.node_rules.specs.Accepting.{voting}

-- ---- ballots

abbrev pub higher : Ballot → Ballot → Ballot
higher a b = if is_below a b then b else a

-- the greatest ballot of the frames that the node got and of its store
abbrev pub greatest_seen : Standing → Ballot
greatest_seen s = higher s.seen s.store.promise

-- the match is over by the commands that the node applied
abbrev pub is_over : Place → Standing → Bool
is_over place s = is_match_over place.setting.game place.setting.title.hands (hands_at place s)

-- no round is above those seen, or no slot is left
abbrev pub is_spent : Standing → Bool
is_spent s = (greatest_seen s).round == 2 ^ 32 - 1 || nat_le SLOTS (front_of s)

-- the node's own promise is counted first
abbrev pub prepared : Place → Ballot → Standing → Campaign
prepared place ballot s = with_promise place.nodes (new_campaign ballot (front_of s)) place.node ballot (front_of s) (told_by s.store (front_of s))

-- the ballot is promised and prepared
abbrev pub beginning : Place → Ballot → Standing → Turn
beginning place ballot s =
    sending (to_others place (Prepare ballot (front_of s)))
    (record (with_stored s (promised s.store ballot)) { campaign = Some (prepared place ballot s) })

-- a tick begins the node's ballot of the round after all that it has seen, unless the match is over
abbrev pub ticking : Place → Standing → Result Turn Refusal
ticking place s =
    if is_over place s then Ok (still s)
    else if is_spent s then Err Spent
    else Ok (beginning place (next_ballot place.node (greatest_seen s)) s)

-- ---- answers to a Prepare

-- a promise is counted
abbrev pub counting_promise : Place → ℕ → Ballot → ℕ → List Entry → Standing → Turn
counting_promise place from ballot slot told s =
    still (record s { campaign = counting_from place.nodes s.campaign from ballot slot told })

-- a ballot that is outbid is given up
abbrev pub hearing_refusal : Ballot → Standing → Turn
hearing_refusal promised s = still (record s { campaign = refused_from s.campaign promised })

-- ---- the close of a call

-- the node's own deal of the hand that is next
abbrev pub own_deal : Place → Standing → Option Command
own_deal place s =
    let hand = finished_count place.setting.game (hands_at place s) in
    option_map (Deal hand) (place.deals hand)

abbrev pub fitting : Place → Standing → Option Command → Option Command → Option Command
fitting place s None other = other
fitting place s (Some command) other = if fits place.setting (applied s) command then Some command else other

-- what the node would propose where it is free to: its own deal where it fits, and else the act that waits
abbrev pub own_value : Place → Standing → Option Command
own_value place s = fitting place s (own_deal place s) s.pending

-- the proposal goes to the others, and the node votes for it
abbrev pub proposing : Place → AcceptRun → Standing → Result Turn Refusal
proposing place made s =
    and_then (Ok (sending (to_others place (AcceptFrame made.ballot made.slot made.commands)) s)) (voting place made.ballot made.slot made.commands)

-- outside of the slots that its ballot covers the node leads no longer
abbrev pub closing_by : Place → Result (Option AcceptRun) ProposeFault → Standing → Result Turn Refusal
closing_by place (Ok (Some made)) s = proposing place made s
closing_by place (Ok None) s = Ok (still s)
closing_by place (Err fault) s = Ok (still (idle s))

-- what there is to propose at the front: the told command there with those told at the slots behind it, or where none is told there the own one, alone
abbrev pub proposal_at : Place → Standing → Result (Option AcceptRun) ProposeFault
proposal_at place s = run_from_campaign place.nodes s.campaign (front_of s) (own_value place s)

-- at the end of a call a node that leads proposes from its front on, once at a slot in a ballot
abbrev pub closing : Place → Standing → Result Turn Refusal
closing place s =
    if leads place.nodes s.campaign && nat_le SLOTS (front_of s) then Ok (still (idle s))
    else closing_by place (proposal_at place s) (record s { campaign = marked_run_from s.campaign (proposal_at place s) })
