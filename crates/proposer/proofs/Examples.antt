-- Ballots, promises and proposals, worked out.
use Rattle.std.proofs.Common.{◌≡◌, ℕ, zero, suc, ◌<◌, ◌⊎◌, inl, inr, Bool, true, false, List, [], ◌∷◌, Some, None, Ok, Err, refl, sym, ap, arith, lit<, lit≤}
use Rattle.betting.specs.declared.action.Action.TheVariants.{Fold, Call}
use Rattle.paxos_wire.specs.declared.ballot.Ballot.{Ballot}
use Rattle.paxos_wire.specs.declared.entry.Entry.{Entry}
use Rattle.slot_log.specs.declared.command.Command.{Command}
use Rattle.slot_log.specs.declared.command.Command.TheVariants.{Act}
use Rattle.protocol_model.specs.Messages.{Promise}
use Rattle.proposer.specs.declared.campaign.Campaign.{Campaign}
use Rattle.proposer.specs.declared.fault.ProposeFault.TheVariants.{OutOfWindow}
use Rattle.proposer.specs.Told.{best_in}
use Rattle.proposer.specs.Campaigns.{Proposing, next_ballot, begun, idle, refused, is_leading, ballot_in, counting, proposal_of, marked}
use Rattle.proposer.specs.Counted.{CountsFrom, CountsAll, MarksSent, HasQuorum, IsGreatest}

abbrev pub ballot : ℕ → ℕ → Ballot
ballot round node = record { round = round; node = node }

abbrev pub fold : Command
fold = Act 0 0 Fold

abbrev pub call : Command
call = Act 0 0 Call

abbrev pub entry : ℕ → Ballot → Command → Entry
entry slot b command = record { slot = slot; ballot = b; command = command }

-- ---- of the entries of a slot that of the greatest ballot, wherever it stands

pub greatest_in_the_middle : best_in None 7 (entry 7 (ballot 1 0) fold ∷ entry 7 (ballot 3 1) call ∷ entry 7 (ballot 2 2) fold ∷ []) ≡ Some (entry 7 (ballot 3 1) call)
greatest_in_the_middle = refl

pub other_slots_count_for_nothing : best_in None 7 (entry 6 (ballot 9 0) fold ∷ entry 7 (ballot 1 1) call ∷ entry 8 (ballot 9 0) fold ∷ []) ≡ Some (entry 7 (ballot 1 1) call)
other_slots_count_for_nothing = refl

-- ---- a ballot of node 1 of 3, from slot 10 on

abbrev pub new : Proposing
new = record { node = 1; nodes = 3; campaign = None }

pub ballot_after_all_seen : next_ballot 1 (ballot 4 2) ≡ ballot 5 1
ballot_after_all_seen = refl

-- the own promise is counted as that of any other
abbrev pub preparing : Proposing
preparing = counting (begun new (ballot 4 2) 10) 1 (ballot 5 1) 10 (entry 12 (ballot 2 1) fold ∷ [])

pub begun_ballot : ballot_in preparing ≡ Some (ballot 5 1)
begun_ballot = refl

-- the own promise alone is no majority of three
pub begun_leads_not : is_leading preparing ≡ false
begun_leads_not = refl

abbrev pub leading : Proposing
leading = counting preparing 2 (ballot 5 1) 10 (entry 12 (ballot 4 0) call ∷ entry 13 (ballot 1 0) call ∷ [])

pub two_of_three_lead : is_leading leading ≡ true
two_of_three_lead = refl

pub two_of_five_lead_not : is_leading (record leading { nodes = 5 }) ≡ false
two_of_five_lead_not = refl

-- three of seven nodes, the last one's own promise among them
abbrev pub of_seven : Proposing
of_seven =
    counting (counting (counting (begun (record { node = 6; nodes = 7; campaign = None }) (ballot 4 2) 10) 6 (ballot 5 6) 10 []) 0 (ballot 5 6) 10 []) 3 (ballot 5 6) 10 []

pub three_of_seven_lead_not : is_leading of_seven ≡ false
three_of_seven_lead_not = refl

pub four_of_seven_lead : is_leading (counting of_seven 5 (ballot 5 6) 10 []) ≡ true
four_of_seven_lead = refl

-- a promise of another ballot, of another first slot, or of a node a second time counts for nothing
pub other_ballot_passed_over : counting preparing 2 (ballot 4 1) 10 [] ≡ preparing
other_ballot_passed_over = refl

pub other_nodes_ballot_passed_over : counting preparing 2 (ballot 5 2) 10 [] ≡ preparing
other_nodes_ballot_passed_over = refl

pub other_first_slot_passed_over : counting preparing 2 (ballot 5 1) 11 [] ≡ preparing
other_first_slot_passed_over = refl

pub repeated_promise_passed_over : counting preparing 1 (ballot 5 1) 10 [] ≡ preparing
repeated_promise_passed_over = refl

-- so does one that comes once a quorum has promised
pub late_promise_passed_over : counting leading 0 (ballot 5 1) 10 (entry 14 (ballot 4 2) fold ∷ []) ≡ leading
late_promise_passed_over = refl

pub idle_counts_nothing : counting new 2 (ballot 5 1) 10 [] ≡ new
idle_counts_nothing = refl

-- ---- refusals

pub outbid : refused leading (ballot 5 2) ≡ idle leading
outbid = refl

-- an equal ballot, as a repeated Prepare is refused with, and a lower one change nothing
pub refused_with_the_own : refused leading (ballot 5 1) ≡ leading
refused_with_the_own = refl

pub refused_with_a_lower : refused leading (ballot 4 4) ≡ leading
refused_with_a_lower = refl

-- ---- proposals

pub no_quorum_no_proposal : proposal_of preparing 10 (Some fold) ≡ Ok None
no_quorum_no_proposal = refl

pub idle_proposes_nothing : proposal_of new 10 (Some fold) ≡ Ok None
idle_proposes_nothing = refl

pub own_where_none_is_told : proposal_of leading 10 (Some fold) ≡ Ok (Some (record { ballot = ballot 5 1; slot = 10; command = fold }))
own_where_none_is_told = refl

pub nothing_where_there_is_none : proposal_of leading 10 None ≡ Ok None
nothing_where_there_is_none = refl

-- (4, 0) is told by another node, (2, 1) stood in the own store: the greater one counts, and the own command doesn't
pub told_of_the_greatest : proposal_of leading 12 (Some fold) ≡ Ok (Some (record { ballot = ballot 5 1; slot = 12; command = call }))
told_of_the_greatest = refl

pub told_without_an_own : proposal_of leading 13 None ≡ Ok (Some (record { ballot = ballot 5 1; slot = 13; command = call }))
told_without_an_own = refl

pub last_slot_of_the_window : proposal_of leading 73 (Some fold) ≡ Ok (Some (record { ballot = ballot 5 1; slot = 73; command = fold }))
last_slot_of_the_window = refl

pub past_the_window : proposal_of leading 74 (Some fold) ≡ Err OutOfWindow
past_the_window = refl

pub below_the_window : proposal_of leading 9 (Some fold) ≡ Err OutOfWindow
below_the_window = refl

pub nothing_twice : proposal_of (marked leading (proposal_of leading 10 (Some fold))) 10 (Some call) ≡ Ok None
nothing_twice = refl

pub next_slot_is_free : proposal_of (marked leading (proposal_of leading 10 (Some fold))) 11 (Some call) ≡ Ok (Some (record { ballot = ballot 5 1; slot = 11; command = call }))
next_slot_is_free = refl

-- ---- what counts and marks say of messages

abbrev small : Campaign
small = record { ballot = ballot 5 1; first = 10; promises = None ∷ Some [] ∷ None ∷ []; proposed = true ∷ false ∷ [] }

pub counted_came : CountsFrom (Promise 1 (ballot 5 1) 10 [] ∷ []) small
counted_came zero told e = absurd (cc)
counted_came (suc zero) told e = let same : [] ≡ told = cc in inl (ap (Promise 1 (ballot 5 1) 10) (sym same))
counted_came (suc (suc zero)) told e = absurd (cc)
counted_came (suc (suc (suc node))) told e = absurd (cc)

-- a promise of another ballot is none of it
pub counted_never_came : CountsFrom (Promise 1 (ballot 4 1) 10 [] ∷ []) small → ⊥
counted_never_came h = elim (h 1 [] refl) [
  | inl same ↦ let one : ballot 5 1 ≡ ballot 4 1 = cc in absurd (omega (arith, ap (λ (b : Ballot). b.round) one))
  | inr none ↦ none
]

-- a node's promise that came is left out
pub left_out : CountsAll 3 (Promise 0 (ballot 5 1) 10 [] ∷ Promise 1 (ballot 5 1) 10 [] ∷ []) small → ⊥
left_out h = let no = h.counted refl 0 [] (lit< tt) (inl refl) in absurd (cc)

-- a mark without a proposal
pub marked_unsent : MarksSent [] small → ⊥
marked_unsent h = (h.only 10 (lit≤ tt, lit≤ tt) refl).1

-- two of three are a quorum, one is none
pub quorum_of_two : HasQuorum 3 (Promise 0 (ballot 5 1) 10 [] ∷ Promise 2 (ballot 5 1) 10 [] ∷ []) (ballot 5 1) 10
quorum_of_two = (either_end, lit< tt, promised)
  where
    either_end : ℕ → Bool
    either_end zero = true
    either_end (suc zero) = false
    either_end (suc (suc n)) = true

    promised : (node : ℕ) → node < 3 → either_end node ≡ true → (told : List Entry) × (Promise node (ballot 5 1) 10 told ≡ Promise 0 (ballot 5 1) 10 [] ⊎ (Promise node (ballot 5 1) 10 told ≡ Promise 2 (ballot 5 1) 10 [] ⊎ ⊥))
    promised zero is votes = ([], inl refl)
    promised (suc zero) is votes = absurd (cc)
    promised (suc (suc zero)) is votes = ([], inr (inl refl))
    promised (suc (suc (suc n))) is votes = absurd (omega arith)

-- the first told, which isn't of the greatest ballot, isn't the greatest
abbrev two_told : Campaign
two_told = record { ballot = ballot 5 1; first = 10; promises = Some (entry 10 (ballot 1 0) fold ∷ []) ∷ Some (entry 10 (ballot 2 0) call ∷ []) ∷ []; proposed = [] }

pub first_is_not_greatest : IsGreatest 2 two_told 10 (Some (entry 10 (ballot 1 0) fold)) → ⊥
first_is_not_greatest h =
    elim (h.1 (entry 10 (ballot 2 0) call) (1, entry 10 (ballot 2 0) call ∷ [], lit< tt, refl, inl refl, refl)) [ inl lower ↦ absurd (omega arith) | inr same ↦ let e = same.0 in absurd (omega arith) ]
