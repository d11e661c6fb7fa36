-- Calls of three nodes that deal a match of one hand, worked out.
use Rattle.std.proofs.Common.{◌≡◌, ℕ, zero, suc, true, false, List, [], ◌∷◌, Some, None, Ok, Err, Result, refl, replicate}
use Rattle.std.specs.Prelude.{codes}
use Rattle.betting.specs.declared.action.Action.TheVariants.{Fold, Call}
use Rattle.paxos_wire.specs.declared.ballot.Ballot.{Ballot}
use Rattle.paxos_wire.specs.declared.entry.Entry.{Entry}
use Rattle.paxos_wire.specs.declared.message.Message.{Message}
use Rattle.paxos_wire.specs.declared.message.Message.TheVariants.{Prepare, Promise, Refuse, Accept, Accepted, Chosen, Ask, Forward}
use Rattle.slot_log.specs.declared.command.Command.{Command}
use Rattle.slot_log.specs.declared.command.Command.TheVariants.{Deal, Act}
use Rattle.learner.specs.declared.tally.Tally.{Tally}
use Rattle.learner.specs.Learning.{new_learned}
use Rattle.learner.specs.CommandRuns.{hearing_each, chosen_each, is_refused}
use Rattle.learner.specs.Same.{is_same}
use Rattle.learner.specs.Tallies.{is_of}
use Rattle.match_log.proofs.Examples.{opened as log_opened, two_players, ten_ace, twos_threes, alice_and_bob}
use Rattle.protocol_model.specs.Dealers.{Seat, Log}
use Rattle.protocol_model.specs.Stores.{Store, empty_store, promised, voted}
use Rattle.proposer.specs.declared.campaign.Campaign.{Campaign}
use Rattle.proposer.specs.Campaigns.{leads}
use Rattle.proposer.specs.CommandRuns.{told_commands}
use Rattle.seat_session.specs.Session.{Standing as Talk, fresh, closed_by}
use Rattle.seat_session.specs.declared.phase.Phase.TheVariants.{Ready as InPlay}
use Rattle.seat_session.specs.declared.said.Said.TheVariants.{Ready, Act as Acts}
use Rattle.seat_session.specs.declared.session_fault.SessionFault.TheVariants.{BadVersion, NotCurrent}
use Rattle.dealer_kind.specs.Kind.{Setting}
use Rattle.node_rules.specs.Standings.{Place, Standing, front_of, stopped}
use Rattle.node_rules.specs.Sending.{Frame, to_first}
use Rattle.node_rules.specs.Turns.{Turn, Refusal, Down, Spent, Conflict, still, and_then}
use Rattle.node_rules.specs.Applying.{taking_all}
use Rattle.node_rules.specs.Learning.{comes_to_window, next_window, telling_from}
use Rattle.protocol_model.specs.Votes.{told_from}
use Rattle.node_rules.specs.Proposing.{ticking, closing, greatest_seen}
use Rattle.node_rules.specs.Seats.{answering, answering_all, hearing, connecting, dropping}
use Rattle.node_rules.specs.Calls.{Line}
use Rattle.node_rules.specs.Calls as call
use Rattle.node_rules.specs.Rules.{on_message, starting, stopping, IsTurn, highest}

-- opens the definitions
unfoldable pub opened : ℕ
unfolding log_opened is_same is_of to_first taking_all telling_from told_from told_commands answering_all hearing_each chosen_each is_refused
opened = 0

abbrev pub setting : Setting
setting = record { game = two_players; title = record { name = codes "m"; game = codes "l2.game"; hands = 1 }; names = alice_and_bob }

-- AhAd|KdKs/QcJc9d/5d/6s
abbrev pub aces_kings : List ℕ
aces_kings = 50 ∷ 49 ∷ 45 ∷ 47 ∷ 40 ∷ 36 ∷ 29 ∷ 13 ∷ 19 ∷ []

-- each node has a deal of its own
abbrev pub deal_by : ℕ → List ℕ
deal_by zero = ten_ace
deal_by (suc zero) = twos_threes
deal_by (suc (suc other)) = aces_kings

abbrev pub place : ℕ → Place
place node = record { setting = setting; nodes = 3; node = node; deals = λ hand. Some (deal_by node) }

abbrev pub ballot : ℕ → ℕ → Ballot
ballot round node = record { round = round; node = node }

abbrev pub dealt : ℕ → Command
dealt node = Deal 0 (deal_by node)

abbrev pub to : ℕ → Message → Frame
to node message = record { to = node; message = message }

-- the turn, where there is one
abbrev pub done : Result Turn Refusal → Turn
done (Ok turn) = turn
done (Err refusal) = still (stopped (place 0) empty_store empty_store)

-- a session that named the version
abbrev pub ready : Talk
ready = record { phase = InPlay; waiting = [] }

-- just started; node 0 has both seats
abbrev pub first : ℕ → Standing
first node = (starting (place node) empty_store).after

abbrev pub with_seats : Standing → Standing
with_seats s = record s { sessions = Some ready ∷ Some ready ∷ [] }

-- ---- starts

nothing_asked_at_first : (starting (place 0) empty_store).frames ≡ []
unfolding opened
nothing_asked_at_first = refl

header_is_logged : (starting (place 0) empty_store).shown ≡ (record { reader = Log; text = codes "# name/game/hands m l2.game 1\n" }) ∷ []
unfolding opened
header_is_logged = refl

asked_after_a_promise : (starting (place 1) (promised empty_store (ballot 1 0))).frames ≡ to 0 (Ask 0) ∷ to 2 (Ask 0) ∷ []
unfolding opened
asked_after_a_promise = refl

-- ---- a deal is chosen

abbrev pub ticked : Turn
ticked = done (and_then (ticking (place 0) (with_seats (first 0))) (closing (place 0)))

tick_prepares : ticked.frames ≡ to 1 (Prepare (ballot 1 0) 0) ∷ to 2 (Prepare (ballot 1 0) 0) ∷ []
unfolding opened
tick_prepares = refl

tick_promises : ticked.after.store.promise ≡ ballot 1 0
unfolding opened
tick_promises = refl

abbrev pub promising : Turn
promising = done (on_message (place 1) 0 (Prepare (ballot 1 0) 0) (first 1))

promise_goes_back : promising.frames ≡ to 0 (Promise (ballot 1 0) 0 []) ∷ []
unfolding opened
promise_goes_back = refl

abbrev pub promised_1 : Standing
promised_1 = record (first 1) { store = promised empty_store (ballot 1 0); begun = promised empty_store (ballot 1 0); seen = ballot 1 0 }

promise_is_stored : promising.after ≡ promised_1
unfolding opened
promise_is_stored = refl

abbrev pub leading : Turn
leading = done (on_message (place 0) 1 (Promise (ballot 1 0) 0 []) ticked.after)

leader_proposes_and_accepts : leading.frames
    ≡ to 1 (Accept (ballot 1 0) 0 (dealt 0 ∷ [])) ∷ to 2 (Accept (ballot 1 0) 0 (dealt 0 ∷ []))
    ∷ to 1 (Accepted (ballot 1 0) 0 (dealt 0 ∷ [])) ∷ to 2 (Accepted (ballot 1 0) 0 (dealt 0 ∷ [])) ∷ []
unfolding opened
leader_proposes_and_accepts = refl

-- node 0 in the lead, its own vote stored and counted
abbrev pub store_0 : Store
store_0 = voted (promised empty_store (ballot 1 0)) 0 (record { ballot = ballot 1 0; command = dealt 0 })

abbrev pub campaign_0 : Campaign
campaign_0 = record {
  ballot = ballot 1 0;
  first = 0;
  promises = Some [] ∷ Some [] ∷ None ∷ None ∷ None ∷ None ∷ None ∷ [];
  proposed = true ∷ replicate 63 false;
}

abbrev pub own_vote : Tally
own_vote = record { ballot = ballot 1 0; command = dealt 0; nodes = true ∷ false ∷ false ∷ false ∷ false ∷ false ∷ false ∷ [] }

abbrev pub leads_0 : Standing
leads_0 = record (with_seats (first 0)) {
  store = store_0;
  begun = store_0;
  campaign = Some campaign_0;
  learned = record (new_learned 3) { cells = (own_vote ∷ []) ∷ replicate 63 [] };
  seen = ballot 1 0;
}

leader_has_promises_and_mark : leading.after.campaign ≡ leads_0.campaign
unfolding opened
leader_has_promises_and_mark = refl

own_vote_is_counted : leading.after.learned ≡ leads_0.learned
unfolding opened
own_vote_is_counted = refl

own_vote_is_stored : leading.after.store.votes 0 ≡ store_0.votes 0
unfolding opened
own_vote_is_stored = refl

-- a third promise comes too late to change anything
third_promise_passed_over : (done (on_message (place 0) 2 (Promise (ballot 1 0) 0 []) leads_0)).frames ≡ []
unfolding opened
third_promise_passed_over = refl

abbrev voting : Turn
voting = done (on_message (place 1) 0 (Accept (ballot 1 0) 0 (dealt 0 ∷ [])) promised_1)

vote_is_told : voting.frames ≡ to 0 (Accepted (ballot 1 0) 0 (dealt 0 ∷ [])) ∷ to 2 (Accepted (ballot 1 0) 0 (dealt 0 ∷ [])) ∷ []
unfolding opened
vote_is_told = refl

-- node 1 voted for node 0's deal
abbrev pub voted_1 : Standing
voted_1 = record (first 1) {
  store = store_0;
  begun = store_0;
  learned = record (new_learned 3) { cells = (record own_vote { nodes = false ∷ true ∷ false ∷ false ∷ false ∷ false ∷ false ∷ [] } ∷ []) ∷ replicate 63 [] };
  seen = ballot 1 0;
}

vote_is_stored : voting.after.store.votes 0 ≡ store_0.votes 0
unfolding opened
vote_is_stored = refl

vote_is_counted : voting.after.learned ≡ voted_1.learned
unfolding opened
vote_is_counted = refl

abbrev learning : Turn
learning = done (on_message (place 0) 1 (Accepted (ballot 1 0) 0 (dealt 0 ∷ [])) leads_0)

each_seat_gets_its_line : learning.shown
    ≡ (record { reader = Seat 0; text = codes "MATCHSTATE:0:0::TdAs|" }) ∷ (record { reader = Seat 1; text = codes "MATCHSTATE:1:0::|8hTc" }) ∷ []
unfolding opened
each_seat_gets_its_line = refl

front_goes_on : front_of learning.after ≡ 1
unfolding opened
front_goes_on = refl

-- while the hand runs no deal of its own is proposed
no_deal_in_a_hand : learning.frames ≡ []
unfolding opened
no_deal_in_a_hand = refl

-- the deal is known and applied, and its votes are forgotten
abbrev pub dealt_0 : Standing
dealt_0 = record leads_0 { learned = record (new_learned 3) { log = record { below = dealt 0 ∷ []; beyond = [] } } }

deal_is_known : learning.after.learned ≡ dealt_0.learned
unfolding opened
deal_is_known = refl

-- ---- an act

abbrev forwarded : Turn
forwarded = done (on_message (place 0) 1 (Forward (Act 0 0 Fold)) dealt_0)

act_is_proposed_at_the_front : forwarded.frames
    ≡ to 1 (Accept (ballot 1 0) 1 (Act 0 0 Fold ∷ [])) ∷ to 2 (Accept (ballot 1 0) 1 (Act 0 0 Fold ∷ []))
    ∷ to 1 (Accepted (ballot 1 0) 1 (Act 0 0 Fold ∷ [])) ∷ to 2 (Accepted (ballot 1 0) 1 (Act 0 0 Fold ∷ [])) ∷ []
unfolding opened
act_is_proposed_at_the_front = refl

abbrev pub own_fold : Tally
own_fold = record { ballot = ballot 1 0; command = Act 0 0 Fold; nodes = true ∷ false ∷ false ∷ false ∷ false ∷ false ∷ false ∷ [] }

-- the act is proposed and waits still
abbrev pub waits_0 : Standing
waits_0 = record dealt_0 {
  campaign = Some (record campaign_0 { proposed = true ∷ true ∷ replicate 62 false });
  learned = record dealt_0.learned { cells = [] ∷ (own_fold ∷ []) ∷ replicate 62 [] };
  pending = Some (Act 0 0 Fold);
}

act_waits_until_it_is_applied : forwarded.after.pending ≡ Some (Act 0 0 Fold)
unfolding opened
act_waits_until_it_is_applied = refl

act_is_counted : forwarded.after.learned ≡ waits_0.learned
unfolding opened
act_is_counted = refl

abbrev folded : Turn
folded = done (on_message (place 0) 2 (Accepted (ballot 1 0) 1 (Act 0 0 Fold ∷ [])) waits_0)

-- lines first, and then the log: the hand's line and the score together
lines_then_log : folded.shown
    ≡ (record { reader = Seat 0; text = codes "MATCHSTATE:0:0:f:TdAs|" }) ∷ (record { reader = Seat 1; text = codes "MATCHSTATE:1:0:f:|8hTc" })
    ∷ (record { reader = Log; text = codes "STATE:0:f:TdAs|8hTc:5|-5:alice|bob\nSCORE:5|-5:alice|bob\n" }) ∷ []
unfolding opened
lines_then_log = refl

-- what was applied doesn't fit any more, so nothing waits
applied_act_is_forgotten : folded.after.pending ≡ None
unfolding opened
applied_act_is_forgotten = refl

-- the match is over
abbrev pub over_0 : Standing
over_0 = record dealt_0 { learned = record (new_learned 3) { log = record { below = Act 0 0 Fold ∷ dealt 0 ∷ []; beyond = [] } } }

fold_is_known : folded.after.learned ≡ over_0.learned
unfolding opened
fold_is_known = refl

-- then a tick does nothing
no_tick_after_the_match : ticking (place 0) over_0 ≡ Ok (still over_0)
unfolding opened
no_tick_after_the_match = refl

-- an act that doesn't fit doesn't wait
act_that_does_not_fit : (done (on_message (place 0) 1 (Forward (Act 0 1 Call)) dealt_0)).after.pending ≡ None
unfolding opened
act_that_does_not_fit = refl

-- a second act doesn't take the first one's place
second_act_does_not_wait : (done (on_message (place 0) 1 (Forward (Act 0 0 Call)) (record dealt_0 { pending = Some (Act 0 0 Fold) }))).after.pending ≡ Some (Act 0 0 Fold)
unfolding opened
second_act_does_not_wait = refl

-- ---- a value that was told

-- node 1 accepted node 0's deal, and tells so: node 2 proposes that deal and not its own
abbrev pub told : Entry
told = record { slot = 0; ballot = ballot 1 0; command = dealt 0 }

abbrev second_promise : Turn
second_promise = done (on_message (place 1) 2 (Prepare (ballot 2 2) 0) voted_1)

vote_is_told_with_the_promise : second_promise.frames ≡ to 2 (Promise (ballot 2 2) 0 (told ∷ [])) ∷ []
unfolding opened
vote_is_told_with_the_promise = refl

-- node 2 saw a ballot of round 1, so it begins one of round 2
abbrev ticked_2 : Turn
ticked_2 = done (and_then (ticking (place 2) (done (on_message (place 2) 0 (Prepare (ballot 1 0) 0) (first 2))).after) (closing (place 2)))

next_round : ticked_2.frames ≡ to 0 (Prepare (ballot 2 2) 0) ∷ to 1 (Prepare (ballot 2 2) 0) ∷ []
unfolding opened
next_round = refl

abbrev taken_over : Turn
taken_over = done (on_message (place 2) 1 (Promise (ballot 2 2) 0 (told ∷ [])) ticked_2.after)

told_value_is_proposed : taken_over.frames
    ≡ to 0 (Accept (ballot 2 2) 0 (dealt 0 ∷ [])) ∷ to 1 (Accept (ballot 2 2) 0 (dealt 0 ∷ []))
    ∷ to 0 (Accepted (ballot 2 2) 0 (dealt 0 ∷ [])) ∷ to 1 (Accepted (ballot 2 2) 0 (dealt 0 ∷ [])) ∷ []
unfolding opened
told_value_is_proposed = refl

-- an older proposal is refused, with the ballot that was promised
older_is_refused : (done (on_message (place 1) 0 (Accept (ballot 1 0) 0 (dealt 0 ∷ [])) (record voted_1 { store = promised store_0 (ballot 2 2) }))).frames ≡ to 0 (Refuse (ballot 1 0) 0 (ballot 2 2)) ∷ []
unfolding opened
older_is_refused = refl

-- so is a Prepare that comes again; the node that is told its own ballot leads on, told a greater one it doesn't
equal_is_refused : (done (on_message (place 1) 0 (Prepare (ballot 1 0) 0) promised_1)).frames ≡ to 0 (Refuse (ballot 1 0) 0 (ballot 1 0)) ∷ []
unfolding opened
equal_is_refused = refl

leads_on : leads 3 (done (on_message (place 0) 1 (Refuse (ballot 1 0) 0 (ballot 1 0)) leads_0)).after.campaign ≡ true
unfolding opened
leads_on = refl

outbid : (done (on_message (place 0) 1 (Refuse (ballot 1 0) 0 (ballot 1 1)) leads_0)).after.campaign ≡ None
unfolding opened
outbid = refl

-- an Accept of a promised ballot ends the node's own
votes_for_another : (done (on_message (place 0) 1 (Accept (ballot 2 1) 0 (dealt 1 ∷ [])) leads_0)).after.campaign ≡ None
unfolding opened
votes_for_another = refl

-- what is stored in a ballot stays, whatever comes in it
first_of_a_ballot_stays : (done (on_message (place 1) 0 (Accept (ballot 1 0) 0 (dealt 2 ∷ [])) voted_1)).frames
    ≡ to 0 (Accepted (ballot 1 0) 0 (dealt 0 ∷ [])) ∷ to 2 (Accepted (ballot 1 0) 0 (dealt 0 ∷ [])) ∷ []
unfolding opened
first_of_a_ballot_stays = refl

-- ---- commands for slots that follow one another

-- node 0's deal and an act behind it
abbrev pub two : List Command
two = dealt 0 ∷ Act 0 0 Fold ∷ []

-- both are voted for at once, and counted
abbrev voting_for_two : Turn
voting_for_two = done (on_message (place 1) 0 (Accept (ballot 1 0) 0 two) promised_1)

both_are_told : voting_for_two.frames ≡ to 0 (Accepted (ballot 1 0) 0 two) ∷ to 2 (Accepted (ballot 1 0) 0 two) ∷ []
unfolding opened
both_are_told = refl

second_is_stored : voting_for_two.after.store.votes 1 ≡ Some (record { ballot = ballot 1 0; command = Act 0 0 Fold })
unfolding opened
second_is_stored = refl

second_is_counted : voting_for_two.after.learned.cells
    ≡ (record own_vote { nodes = false ∷ true ∷ false ∷ false ∷ false ∷ false ∷ false ∷ [] } ∷ []) ∷ (record own_fold { nodes = false ∷ true ∷ false ∷ false ∷ false ∷ false ∷ false ∷ [] } ∷ []) ∷ replicate 62 []
unfolding opened
second_is_counted = refl

-- a node to which both are told proposes both at once, and nothing of its own behind them
abbrev taken_over_two : Turn
taken_over_two = done (on_message (place 2) 1 (Promise (ballot 2 2) 0 (told ∷ record told { slot = 1; command = Act 0 0 Fold } ∷ [])) ticked_2.after)

both_are_proposed : taken_over_two.frames
    ≡ to 0 (Accept (ballot 2 2) 0 two) ∷ to 1 (Accept (ballot 2 2) 0 two) ∷ to 0 (Accepted (ballot 2 2) 0 two) ∷ to 1 (Accepted (ballot 2 2) 0 two) ∷ []
unfolding opened
both_are_proposed = refl

both_are_voted_for : (taken_over_two.after.store.votes 0 ≡ Some (record { ballot = ballot 2 2; command = dealt 0 }))
    × (taken_over_two.after.store.votes 1 ≡ Some (record { ballot = ballot 2 2; command = Act 0 0 Fold }))
unfolding opened
both_are_voted_for = (refl, refl)

-- where the front then passes the first of them, nothing is proposed twice
nothing_twice : (done (on_message (place 2) 0 (Chosen 0 (dealt 0)) taken_over_two.after)).frames ≡ []
unfolding opened
nothing_twice = refl

-- where the second alone is told, its own deal goes alone
own_before_a_told_one : (done (on_message (place 2) 1 (Promise (ballot 2 2) 0 (record told { slot = 1; command = Act 0 0 Fold } ∷ [])) ticked_2.after)).frames
    ≡ to 0 (Accept (ballot 2 2) 0 (dealt 2 ∷ [])) ∷ to 1 (Accept (ballot 2 2) 0 (dealt 2 ∷ []))
    ∷ to 0 (Accepted (ballot 2 2) 0 (dealt 2 ∷ [])) ∷ to 1 (Accepted (ballot 2 2) 0 (dealt 2 ∷ [])) ∷ []
unfolding opened
own_before_a_told_one = refl

-- of a slot behind one of which none is told nothing is proposed yet
gap_stays : (done (on_message (place 2) 1 (Promise (ballot 2 2) 0 (told ∷ record told { slot = 2; command = Act 0 0 Fold } ∷ [])) ticked_2.after)).frames ≡ taken_over.frames
unfolding opened
gap_stays = refl

-- where the second alone is stored, the first is taken alone
abbrev second_voted : Store
second_voted = voted (promised empty_store (ballot 1 0)) 1 (record { ballot = ballot 1 0; command = Act 0 0 Fold })

first_is_taken_alone : (done (on_message (place 1) 0 (Accept (ballot 1 0) 0 two) (record promised_1 { store = second_voted; begun = second_voted }))).frames
    ≡ to 0 (Accepted (ballot 1 0) 0 (dealt 0 ∷ [])) ∷ to 2 (Accepted (ballot 1 0) 0 (dealt 0 ∷ [])) ∷ []
unfolding opened
first_is_taken_alone = refl

-- where the first is stored already, it is told alone
first_is_told_alone : (done (on_message (place 1) 0 (Accept (ballot 1 0) 0 two) voted_1)).frames
    ≡ to 0 (Accepted (ballot 1 0) 0 (dealt 0 ∷ [])) ∷ to 2 (Accepted (ballot 1 0) 0 (dealt 0 ∷ [])) ∷ []
unfolding opened
first_is_told_alone = refl

second_stays_unstored : (done (on_message (place 1) 0 (Accept (ballot 1 0) 0 two) voted_1)).after.store.votes 1 ≡ None
unfolding opened
second_stays_unstored = refl

-- the last votes for both: the front passes both, and each is applied in its turn
abbrev learning_two : Turn
learning_two = done (on_message (place 1) 0 (Accepted (ballot 1 0) 0 two) voting_for_two.after)

front_passes_both : front_of learning_two.after ≡ 2
unfolding opened
front_passes_both = refl

both_are_applied_in_order : learning_two.after.learned.log.below ≡ Act 0 0 Fold ∷ dealt 0 ∷ []
unfolding opened
both_are_applied_in_order = refl

-- those for the second slot alone apply nothing, and the first is asked for
second_waits_for_the_first : (done (on_message (place 1) 0 (Accepted (ballot 1 0) 1 (Act 0 0 Fold ∷ [])) voting_for_two.after)).frames ≡ to 0 (Ask 0) ∷ []
unfolding opened
second_waits_for_the_first = refl

-- a ballot below the promise is refused at the first slot
two_are_refused_at_the_first : (done (on_message (place 1) 0 (Accept (ballot 1 0) 0 two) (record voted_1 { store = promised store_0 (ballot 2 2) }))).frames
    ≡ to 0 (Refuse (ballot 1 0) 0 (ballot 2 2)) ∷ []
unfolding opened
two_are_refused_at_the_first = refl

-- ---- asking and telling

-- who speaks of a slot above the front is asked, last in the call
asks_for_what_it_missed : (done (on_message (place 1) 0 (Accept (ballot 1 0) 2 (dealt 0 ∷ [])) (first 1))).frames
    ≡ to 0 (Accepted (ballot 1 0) 2 (dealt 0 ∷ [])) ∷ to 2 (Accepted (ballot 1 0) 2 (dealt 0 ∷ [])) ∷ to 0 (Ask 0) ∷ []
unfolding opened
asks_for_what_it_missed = refl

-- also where it refuses
asks_where_it_refuses : (done (on_message (place 1) 0 (Prepare (ballot 1 0) 2) promised_1)).frames
    ≡ to 0 (Refuse (ballot 1 0) 2 (ballot 1 0)) ∷ to 0 (Ask 0) ∷ []
unfolding opened
asks_where_it_refuses = refl

-- a promise for a slot above the front asks for nothing
promise_asks_nothing : (done (on_message (place 1) 0 (Promise (ballot 1 0) 2 []) (first 1))).frames ≡ []
unfolding opened
promise_asks_nothing = refl

told_what_is_known : (done (on_message (place 0) 2 (Ask 0) over_0)).frames ≡ to 2 (Chosen 0 (dealt 0)) ∷ to 2 (Chosen 1 (Act 0 0 Fold)) ∷ []
unfolding opened
told_what_is_known = refl

nothing_known_from_there : (done (on_message (place 0) 2 (Ask 2) over_0)).frames ≡ []
unfolding opened
nothing_known_from_there = refl

windows : (next_window 0 ≡ 64) × (next_window 63 ≡ 64) × (next_window 64 ≡ 128)
windows = (refl, refl, refl)

comes_to_one : (comes_to_window 63 64 ≡ true) × (comes_to_window 64 64 ≡ false) × (comes_to_window 62 63 ≡ false) × (comes_to_window 3999999 4000000 ≡ false)
comes_to_one = (refl, refl, refl, refl)

-- what is told as chosen beyond the front waits for what lies between
chosen_beyond_the_front : front_of (done (on_message (place 2) 0 (Chosen 1 (Act 0 0 Fold)) (first 2))).after ≡ 0
unfolding opened
chosen_beyond_the_front = refl

chosen_closes_the_gap : front_of (done (on_message (place 2) 0 (Chosen 0 (dealt 0)) (done (on_message (place 2) 0 (Chosen 1 (Act 0 0 Fold)) (first 2))).after)).after ≡ 2
unfolding opened
chosen_closes_the_gap = refl

another_command_is_a_conflict : on_message (place 2) 0 (Chosen 1 (Act 0 0 Call)) (done (on_message (place 2) 0 (Chosen 1 (Act 0 0 Fold)) (first 2))).after
    ≡ Err (Conflict empty_store)
unfolding opened
another_command_is_a_conflict = refl

-- ---- ballots seen, and the end of them

both_ballots_of_a_refusal_count : greatest_seen (done (on_message (place 1) 0 (Refuse (ballot 1 1) 0 (ballot 7 0)) (first 1))).after ≡ ballot 7 0
unfolding opened
both_ballots_of_a_refusal_count = refl

entries_of_a_promise_count : highest (ballot 1 0) (ballot 2 2 ∷ ballot 9 1 ∷ ballot 3 0 ∷ []) ≡ ballot 9 1
entries_of_a_promise_count = refl

no_round_is_left : ticking (place 0) (record (first 0) { seen = ballot 4294967295 0 }) ≡ Err Spent
unfolding opened
no_round_is_left = refl

last_round : (done (ticking (place 0) (record (first 0) { seen = ballot 4294967294 2 }))).after.store.promise ≡ ballot 4294967295 0
unfolding opened
last_round = refl

-- ---- seats

ready_is_shown_its_line : (answering (place 0) 1 (Ok Ready) dealt_0).shown ≡ (record { reader = Seat 1; text = codes "MATCHSTATE:1:0::|8hTc" }) ∷ []
unfolding opened
ready_is_shown_its_line = refl

ready_before_the_first_deal : (answering (place 0) 1 (Ok Ready) (first 0)).shown ≡ []
unfolding opened
ready_before_the_first_deal = refl

-- node 1 promised node 0's ballot: the first act waits and goes on to node 0, and so does the second, which doesn't wait; a fault is told
abbrev two_acts : Turn
two_acts = hearing (place 1) 1 (Ok (Acts (Act 0 0 Fold)) ∷ Err NotCurrent ∷ Ok (Acts (Act 0 0 Call)) ∷ []) ready
    (record voted_1 { learned = dealt_0.learned })

acts_go_on : two_acts.frames ≡ to 0 (Forward (Act 0 0 Fold)) ∷ to 0 (Forward (Act 0 0 Call)) ∷ []
unfolding opened
acts_go_on = refl

first_act_waits : two_acts.after.pending ≡ Some (Act 0 0 Fold)
unfolding opened
first_act_waits = refl

fault_is_told : two_acts.faults ≡ (record { seat = 1; fault = NotCurrent }) ∷ []
unfolding opened
fault_is_told = refl

-- of its own ballot a node sends no act on
leader_keeps_its_acts : (answering (place 0) 1 (Ok (Acts (Act 0 0 Call))) dealt_0).frames ≡ []
unfolding opened
leader_keeps_its_acts = refl

-- nor does one that promised nothing
nobody_to_send_to : (answering (place 1) 1 (Ok (Acts (Act 0 0 Call))) (record dealt_0 { store = empty_store })).frames ≡ []
unfolding opened
nobody_to_send_to = refl

-- a fault that closes a session drops the seat
closed_is_dropped : (hearing (place 0) 1 (Err BadVersion ∷ []) (closed_by BadVersion) dealt_0).after.sessions ≡ Some ready ∷ None ∷ []
unfolding opened
closed_is_dropped = refl

connects_anew : (connecting 1 dealt_0).after.sessions ≡ Some ready ∷ Some fresh ∷ []
unfolding opened
connects_anew = refl

is_dropped : (dropping 0 dealt_0).after.sessions ≡ None ∷ Some ready ∷ []
unfolding opened
is_dropped = refl

-- bytes of a seat that isn't connected do nothing
passed_over : IsTurn (place 0) (first 0) (Line 1 (codes "VERSION:2.0.0\n")) (Ok (still (first 0)))
unfolding opened
passed_over = (still (first 0), refl, refl)

-- ---- stops

-- a node that is down takes no frame
down_takes_nothing : (outcome : Result Turn Refusal) → IsTurn (place 0) (stopping (place 0) dealt_0).after (call.Frame 1 []) outcome → outcome ≡ Err Down
down_takes_nothing outcome turn = turn

-- and shows an empty table
down_shows_nothing : (front_of (stopping (place 0) dealt_0).after ≡ 0) × ((stopping (place 0) dealt_0).after.pending ≡ None)
    × ((stopping (place 0) dealt_0).after.sessions ≡ None ∷ None ∷ [])
unfolding opened
down_shows_nothing = (refl, refl, refl)

-- its store stays
store_stays : (stopping (place 0) dealt_0).after.store.promise ≡ ballot 1 0
unfolding opened
store_stays = refl
