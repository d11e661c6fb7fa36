-- Frames as they are written byte for byte, and bytes that are none.
use Rattle.std.proofs.Common.{◌≡◌, ℕ, zero, suc, ◌+◌, length, replicate, true, false, nat_eq, lit<, lit≤, Bool, List, [], ◌∷◌, Some, None, Ok, Err, refl, rules, codes, arith, inl, inr}
use Rattle.std.specs.List.{IsDistinct}
use Rattle.std.proofs.lemmas.Map.Keys.{apart_from_distinct}
use Rattle.std.specs.Fmt.{digits}
use Rattle.betting.specs.declared.action.Action.TheVariants.{Fold, Call, Raise}
use Rattle.slot_log.specs.declared.command.Command.TheVariants.{Deal, Act, Away}
use Rattle.slot_log.specs.Range.{IsAmount, IsInRange}
use Rattle.paxos_wire.specs.declared.limits.TheConstants.{WINDOW, MOST_FRAME, MOST_SINGLE_FRAME}
use Rattle.paxos_wire.specs.declared.ballot.Ballot.{Ballot}
use Rattle.paxos_wire.specs.declared.entry.Entry.{Entry}
use Rattle.paxos_wire.specs.declared.fault.FrameFault.TheVariants.{TooShort, TooLong, BadVersion, BadKind, BadBody}
use Rattle.paxos_wire.specs.declared.message.Message.TheVariants.{Prepare, Promise, Refuse, Accept, Accepted, Chosen, Ask, Forward}
use Rattle.paxos_wire.specs.declared.version.Version.TheVariants.{Old, New}
use Rattle.paxos_wire.specs.NodeSets.{count, has, no_nodes, is_quorum}
use Rattle.paxos_wire.specs.Versions.{version_byte, nodes_in, is_version, version_of}
use Rattle.paxos_wire.specs.Fits.{IsBallot, IsSlot, AreDealt, IsCommand, MayGoOn, Rise, IsSingle, IsMessage, IsCommandRun, IsOld}
use Rattle.paxos_wire.specs.Spelling.{ballot_text, slot_text, action_text, command_text, run_text, entry_text, entries_text, frame_of, frame, old_frame, IsText}
use Rattle.paxos_wire.specs.Reading.{below_at, ballot_at, action_of, action_at, is_count, deal_of, deal_at, dealt_at, acted_at, away_at, command_at, commands_at, behind_count, proposed_at, accept_at, of_ballot_at, ask_at, forward_at, message_at, body_of}
use Rattle.paxos_wire.specs.Faults.{header_fault, fault_of, reading}
use Rattle.paxos_wire.specs.Stream.{needed, IsPartial, IsInFront, IsFaulty, Takes, IsStreamOf, Splits}
use Rattle.paxos_wire.specs.Order.{is_below, is_same_ballot}
use Rattle.paxos_wire.specs.Lines.{fault_code, fault_line, message_line}
use Rattle.paxos_wire.proofs.StreamLaws.{in_front}

-- ---- sets of nodes

abbrev three_nodes : List Bool
three_nodes = true ∷ false ∷ true ∷ false ∷ false ∷ true ∷ false ∷ []

pub third_node : has three_nodes 2 ≡ true
third_node = refl

pub second_node : has three_nodes 1 ≡ false
second_node = refl

-- there is no node 7
pub no_node_7 : has three_nodes 7 ≡ false
no_node_7 = refl

pub two_among_the_first_five : count (has three_nodes) 5 ≡ 2
two_among_the_first_five = refl

pub three_among_seven : count (has three_nodes) 7 ≡ 3
three_among_seven = refl

pub nobody_of_seven : count (has no_nodes) 7 ≡ 0
nobody_of_seven = refl

pub two_of_three : is_quorum 3 (true ∷ false ∷ true ∷ false ∷ false ∷ false ∷ false ∷ []) ≡ true
two_of_three = refl

pub two_of_four : is_quorum 4 (true ∷ false ∷ true ∷ false ∷ false ∷ false ∷ false ∷ []) ≡ false
two_of_four = refl

pub two_of_five : is_quorum 5 (true ∷ false ∷ true ∷ false ∷ false ∷ false ∷ false ∷ []) ≡ false
two_of_five = refl

pub three_of_seven : is_quorum 7 (true ∷ false ∷ true ∷ false ∷ false ∷ true ∷ false ∷ []) ≡ false
three_of_seven = refl

pub four_of_seven : is_quorum 7 (true ∷ false ∷ true ∷ false ∷ false ∷ true ∷ true ∷ []) ≡ true
four_of_seven = refl

-- nobody is no quorum, of one node either
pub none_of_one : is_quorum 1 no_nodes ≡ false
none_of_one = refl

-- ---- ballots: by round, then by node

abbrev ballot : ℕ → ℕ → Ballot
ballot round node = record { round = round; node = node }

pub later_round : is_below (ballot 1 4) (ballot 2 0) ≡ true
later_round = refl

pub same_round : is_below (ballot 2 0) (ballot 2 1) ≡ true
same_round = refl

pub not_itself : is_below (ballot 2 1) (ballot 2 1) ≡ false
not_itself = refl

pub earlier_round : is_below (ballot 2 0) (ballot 1 4) ≡ false
earlier_round = refl

pub same_node : is_same_ballot (ballot 2 1) (ballot 2 1) ≡ true
same_node = refl

pub other_node : is_same_ballot (ballot 2 1) (ballot 2 0) ≡ false
other_node = refl

-- ---- texts

abbrev pub first_ballot : Ballot
first_ballot = record { round = 1; node = 0 }

-- the cards 21331a200018061c2e, for two players
abbrev pub cards : List ℕ
cards = 33 ∷ 51 ∷ 26 ∷ 32 ∷ 0 ∷ 24 ∷ 6 ∷ 28 ∷ 46 ∷ []

pub ballot_of_round_one : ballot_text first_ballot ≡ 0 ∷ 0 ∷ 0 ∷ 1 ∷ 0 ∷ []
ballot_of_round_one = refl

pub last_slot : slot_text 3999999 ≡ 0 ∷ 61 ∷ 8 ∷ 255 ∷ []
last_slot = refl

pub fold_text : action_text Fold ≡ 0 ∷ 0 ∷ 0 ∷ 0 ∷ 0 ∷ []
fold_text = refl

pub call_text : action_text Call ≡ 1 ∷ 0 ∷ 0 ∷ 0 ∷ 0 ∷ []
call_text = refl

pub raise_text : action_text (Raise 2147483647) ≡ 2 ∷ 127 ∷ 255 ∷ 255 ∷ 255 ∷ []
raise_text = refl

pub deal_command : command_text (Deal 0 cards) ≡ 1 ∷ 0 ∷ 0 ∷ 0 ∷ 0 ∷ 9 ∷ 33 ∷ 51 ∷ 26 ∷ 32 ∷ 0 ∷ 24 ∷ 6 ∷ 28 ∷ 46 ∷ []
deal_command = refl

pub call_command : command_text (Act 0 0 Call) ≡ 2 ∷ 0 ∷ 0 ∷ 0 ∷ 0 ∷ 0 ∷ 0 ∷ 1 ∷ 0 ∷ 0 ∷ 0 ∷ 0 ∷ []
call_command = refl

pub raise_command : command_text (Act 9999 255 (Raise 300)) ≡ 2 ∷ 0 ∷ 0 ∷ 39 ∷ 15 ∷ 0 ∷ 255 ∷ 2 ∷ 0 ∷ 0 ∷ 1 ∷ 44 ∷ []
raise_command = refl

pub away_command : command_text (Away 9999 255) ≡ 3 ∷ 0 ∷ 0 ∷ 39 ∷ 15 ∷ 0 ∷ 255 ∷ []
away_command = refl

abbrev pub first_entry : Entry
first_entry = record { slot = 0; ballot = first_ballot; command = Deal 0 cards }

pub entry_of_the_deal : entry_text first_entry ≡ 0 ∷ 0 ∷ 0 ∷ 0 ∷ 0 ∷ 0 ∷ 0 ∷ 1 ∷ 0 ∷ 1 ∷ 0 ∷ 0 ∷ 0 ∷ 0 ∷ 9 ∷ 33 ∷ 51 ∷ 26 ∷ 32 ∷ 0 ∷ 24 ∷ 6 ∷ 28 ∷ 46 ∷ []
entry_of_the_deal = refl

pub no_entries : entries_text [] ≡ 0 ∷ []
no_entries = refl

pub prepare : frame (Prepare first_ballot 0) ≡ 0 ∷ 0 ∷ 0 ∷ 11 ∷ 2 ∷ 1 ∷ 0 ∷ 0 ∷ 0 ∷ 1 ∷ 0 ∷ 0 ∷ 0 ∷ 0 ∷ 0 ∷ []
unfolding frame_of
prepare = refl

pub accept : frame (Accept first_ballot 0 (Deal 0 cards ∷ [])) ≡ 0 ∷ 0 ∷ 0 ∷ 27 ∷ 2 ∷ 4 ∷ 0 ∷ 0 ∷ 0 ∷ 1 ∷ 0 ∷ 0 ∷ 0 ∷ 0 ∷ 0 ∷ 1 ∷ 1 ∷ 0 ∷ 0 ∷ 0 ∷ 0 ∷ 9 ∷ 33 ∷ 51 ∷ 26 ∷ 32 ∷ 0 ∷ 24 ∷ 6 ∷ 28 ∷ 46 ∷ []
unfolding frame_of
accept = refl

pub accepted : frame (Accepted first_ballot 0 (Act 0 0 Call ∷ [])) ≡ 0 ∷ 0 ∷ 0 ∷ 24 ∷ 2 ∷ 5 ∷ 0 ∷ 0 ∷ 0 ∷ 1 ∷ 0 ∷ 0 ∷ 0 ∷ 0 ∷ 0 ∷ 1 ∷ 2 ∷ 0 ∷ 0 ∷ 0 ∷ 0 ∷ 0 ∷ 0 ∷ 1 ∷ 0 ∷ 0 ∷ 0 ∷ 0 ∷ []
unfolding frame_of
accepted = refl

pub forward : frame (Forward (Act 0 0 Call)) ≡ 0 ∷ 0 ∷ 0 ∷ 14 ∷ 2 ∷ 8 ∷ 2 ∷ 0 ∷ 0 ∷ 0 ∷ 0 ∷ 0 ∷ 0 ∷ 1 ∷ 0 ∷ 0 ∷ 0 ∷ 0 ∷ []
unfolding frame_of
forward = refl

pub forward_of_an_away : frame (Forward (Away 0 0)) ≡ 0 ∷ 0 ∷ 0 ∷ 9 ∷ 2 ∷ 8 ∷ 3 ∷ 0 ∷ 0 ∷ 0 ∷ 0 ∷ 0 ∷ 0 ∷ []
unfolding frame_of
forward_of_an_away = refl

pub accept_of_an_away : frame (Accept first_ballot 1 (Away 0 0 ∷ [])) ≡ 0 ∷ 0 ∷ 0 ∷ 19 ∷ 2 ∷ 4 ∷ 0 ∷ 0 ∷ 0 ∷ 1 ∷ 0 ∷ 0 ∷ 0 ∷ 0 ∷ 1 ∷ 1 ∷ 3 ∷ 0 ∷ 0 ∷ 0 ∷ 0 ∷ 0 ∷ 0 ∷ []
unfolding frame_of
accept_of_an_away = refl

pub chosen_away : frame (Chosen 1 (Away 0 0)) ≡ 0 ∷ 0 ∷ 0 ∷ 13 ∷ 2 ∷ 6 ∷ 0 ∷ 0 ∷ 0 ∷ 1 ∷ 3 ∷ 0 ∷ 0 ∷ 0 ∷ 0 ∷ 0 ∷ 0 ∷ []
unfolding frame_of
chosen_away = refl

pub ask : frame (Ask 1) ≡ 0 ∷ 0 ∷ 0 ∷ 6 ∷ 2 ∷ 7 ∷ 0 ∷ 0 ∷ 0 ∷ 1 ∷ []
unfolding frame_of
ask = refl

pub chosen : frame (Chosen 1 (Act 0 0 Call)) ≡ 0 ∷ 0 ∷ 0 ∷ 18 ∷ 2 ∷ 6 ∷ 0 ∷ 0 ∷ 0 ∷ 1 ∷ 2 ∷ 0 ∷ 0 ∷ 0 ∷ 0 ∷ 0 ∷ 0 ∷ 1 ∷ 0 ∷ 0 ∷ 0 ∷ 0 ∷ []
unfolding frame_of
chosen = refl

pub refuse : frame (Refuse first_ballot 0 (record { round = 1; node = 1 })) ≡ 0 ∷ 0 ∷ 0 ∷ 16 ∷ 2 ∷ 3 ∷ 0 ∷ 0 ∷ 0 ∷ 1 ∷ 0 ∷ 0 ∷ 0 ∷ 0 ∷ 0 ∷ 0 ∷ 0 ∷ 0 ∷ 1 ∷ 1 ∷ []
unfolding frame_of
refuse = refl

-- a promise to node 2 in round 2 that tells of the deal
pub promise : frame (Promise (record { round = 2; node = 2 }) 0 (first_entry ∷ [])) ≡ 0 ∷ 0 ∷ 0 ∷ 36 ∷ 2 ∷ 2 ∷ 0 ∷ 0 ∷ 0 ∷ 2 ∷ 2 ∷ 0 ∷ 0 ∷ 0 ∷ 0 ∷ 1 ∷ 0 ∷ 0 ∷ 0 ∷ 0 ∷ 0 ∷ 0 ∷ 0 ∷ 1 ∷ 0 ∷ 1 ∷ 0 ∷ 0 ∷ 0 ∷ 0 ∷ 9 ∷ 33 ∷ 51 ∷ 26 ∷ 32 ∷ 0 ∷ 24 ∷ 6 ∷ 28 ∷ 46 ∷ []
unfolding frame_of
promise = refl

-- the frames of the old version: no count before an Accept's command
pub old_prepare : old_frame (Prepare first_ballot 0) ≡ 0 ∷ 0 ∷ 0 ∷ 11 ∷ 1 ∷ 1 ∷ 0 ∷ 0 ∷ 0 ∷ 1 ∷ 0 ∷ 0 ∷ 0 ∷ 0 ∷ 0 ∷ []
unfolding frame_of
old_prepare = refl

pub old_accept : old_frame (Accept first_ballot 0 (Deal 0 cards ∷ [])) ≡ 0 ∷ 0 ∷ 0 ∷ 26 ∷ 1 ∷ 4 ∷ 0 ∷ 0 ∷ 0 ∷ 1 ∷ 0 ∷ 0 ∷ 0 ∷ 0 ∷ 0 ∷ 1 ∷ 0 ∷ 0 ∷ 0 ∷ 0 ∷ 9 ∷ 33 ∷ 51 ∷ 26 ∷ 32 ∷ 0 ∷ 24 ∷ 6 ∷ 28 ∷ 46 ∷ []
unfolding frame_of
old_accept = refl

pub old_accepted : old_frame (Accepted first_ballot 0 (Act 0 0 Call ∷ [])) ≡ 0 ∷ 0 ∷ 0 ∷ 23 ∷ 1 ∷ 5 ∷ 0 ∷ 0 ∷ 0 ∷ 1 ∷ 0 ∷ 0 ∷ 0 ∷ 0 ∷ 0 ∷ 2 ∷ 0 ∷ 0 ∷ 0 ∷ 0 ∷ 0 ∷ 0 ∷ 1 ∷ 0 ∷ 0 ∷ 0 ∷ 0 ∷ []
unfolding frame_of
old_accepted = refl

-- the text of commands for slots that follow one another
pub no_commands : run_text [] ≡ 0 ∷ []
no_commands = refl

pub two_commands : run_text (Act 0 0 Call ∷ Away 0 1 ∷ []) ≡ 2 ∷ 2 ∷ 0 ∷ 0 ∷ 0 ∷ 0 ∷ 0 ∷ 0 ∷ 1 ∷ 0 ∷ 0 ∷ 0 ∷ 0 ∷ 3 ∷ 0 ∷ 0 ∷ 0 ∷ 0 ∷ 0 ∷ 1 ∷ []
two_commands = refl

-- a message has the frame that is written and the old one as texts, and no other
pub written_is_text : IsText (Ask 1) (0 ∷ 0 ∷ 0 ∷ 6 ∷ 2 ∷ 7 ∷ 0 ∷ 0 ∷ 0 ∷ 1 ∷ [])
unfolding frame_of
written_is_text = inl refl

pub old_is_text : IsText (Prepare first_ballot 0) (0 ∷ 0 ∷ 0 ∷ 11 ∷ 1 ∷ 1 ∷ 0 ∷ 0 ∷ 0 ∷ 1 ∷ 0 ∷ 0 ∷ 0 ∷ 0 ∷ 0 ∷ [])
unfolding frame_of
old_is_text = inr ((lit< tt, tt), refl)

pub later_version-no_text : IsText (Ask 1) (0 ∷ 0 ∷ 0 ∷ 6 ∷ 3 ∷ 7 ∷ 0 ∷ 0 ∷ 0 ∷ 1 ∷ []) → ⊥
unfolding frame_of
later_version-no_text (inl new) = absurd cc
later_version-no_text (inr old) = let same = old.1 in absurd cc

-- node 5 is none of the old version, and is one of the new
pub new_of_node_5_is_text : IsText (Prepare (ballot 1 5) 0) (0 ∷ 0 ∷ 0 ∷ 11 ∷ 2 ∷ 1 ∷ 0 ∷ 0 ∷ 0 ∷ 1 ∷ 5 ∷ 0 ∷ 0 ∷ 0 ∷ 0 ∷ [])
unfolding frame_of
new_of_node_5_is_text = inl refl

pub old_of_node_5-no_text : IsText (Prepare (ballot 1 5) 0) (0 ∷ 0 ∷ 0 ∷ 11 ∷ 1 ∷ 1 ∷ 0 ∷ 0 ∷ 0 ∷ 1 ∷ 5 ∷ 0 ∷ 0 ∷ 0 ∷ 0 ∷ []) → ⊥
unfolding frame_of
old_of_node_5-no_text (inl new) = absurd cc
old_of_node_5-no_text (inr old) = let node = old.0.0 in absurd (omega arith)

-- ---- versions

pub bytes_of_versions : (version_byte Old ≡ 1) × (version_byte New ≡ 2)
bytes_of_versions = (refl, refl)

pub versions_of_bytes : (version_of 1 ≡ Old) × (version_of 2 ≡ New)
versions_of_bytes = (refl, refl)

pub one_and_two_alone : (is_version 0 ≡ false) × (is_version 1 ≡ true) × (is_version 2 ≡ true) × (is_version 3 ≡ false)
one_and_two_alone = (refl, refl, refl, refl)

pub five_nodes_and_seven : (nodes_in Old ≡ 5) × (nodes_in New ≡ 7)
five_nodes_and_seven = (refl, refl)

-- a Refuse tells of two ballots, a Promise of one for each entry
pub refuse_of_node_4 : IsOld (Refuse (ballot 1 4) 0 (ballot 2 4))
refuse_of_node_4 = ((lit< tt, lit< tt), tt)

pub refuse_for_node_5-not_old : IsOld (Refuse (ballot 1 4) 0 (ballot 2 5)) → ⊥
refuse_for_node_5-not_old old = let node = old.0.1 in absurd (omega arith)

pub promise_of_node_5s-not_old : IsOld (Promise (ballot 2 4) 0 (record { slot = 0; ballot = ballot 1 5; command = Act 0 0 Call } ∷ [])) → ⊥
promise_of_node_5s-not_old old = let node = old.0.1.0 in absurd (omega arith)

-- ---- ranges

pub ballot_fits : IsBallot first_ballot
ballot_fits = record { first = lit≤ tt; last = lit< tt; node = lit< tt }

pub round_0-none : IsBallot (record { round = 0; node = 0 }) → ⊥
round_0-none b = let first = b.first in absurd (omega arith)

pub last_node_fits : IsBallot (record { round = 1; node = 6 })
last_node_fits = record { first = lit≤ tt; last = lit< tt; node = lit< tt }

pub node_7-none : IsBallot (record { round = 1; node = 7 }) → ⊥
node_7-none b = let node = b.node in absurd (omega arith)

pub last_slot_fits : IsSlot 3999999
last_slot_fits = lit< tt

pub slot_4000000-none : IsSlot 4000000 → ⊥
slot_4000000-none h = absurd (omega arith)

pub greatest_amount : IsAmount (Raise 2147483647)
greatest_amount = lit≤ tt

pub above_the_amount-none : IsAmount (Raise 2147483648) → ⊥
above_the_amount-none h = absurd (omega arith)

pub last_act : IsInRange (Act 9999 255 Fold)
last_act = (lit< tt, lit< tt, tt)

pub hand_10000-none : IsInRange (Deal 10000 cards) → ⊥
hand_10000-none h = absurd (omega arith)

pub index_256-none : IsInRange (Act 0 256 Fold) → ⊥
index_256-none h = let index = h.1 in absurd (omega arith)

pub cards_dealt : AreDealt cards
unfolding IsDistinct
cards_dealt = record { least = lit≤ tt; most = lit≤ tt; deal = record { count = refl; cards_of_the_pack = search rules; distinct = search rules } }

-- the ten of diamonds twice
pub repeated-none : AreDealt (33 ∷ 51 ∷ 26 ∷ 32 ∷ 0 ∷ 24 ∷ 6 ∷ 28 ∷ 33 ∷ []) → ⊥
repeated-none dealt =
    let apart : true ≡ false = apart_from_distinct nat_eq _ 0 8 0 dealt.deal.distinct (lit< tt) (lit< tt) in absurd cc

-- ten cards
pub even_count-none : AreDealt (33 ∷ 51 ∷ 26 ∷ 32 ∷ 0 ∷ 24 ∷ 6 ∷ 28 ∷ 46 ∷ 1 ∷ []) → ⊥
even_count-none dealt = let count = dealt.deal.count in absurd cc

pub deal_is_command : IsCommand (Deal 0 cards)
deal_is_command = record { numbers = lit< tt; cards = cards_dealt }

pub away_is_command : IsCommand (Away 0 0)
away_is_command = record { numbers = (lit< tt, lit< tt); cards = tt }

-- a deal for ten players
abbrev pub many_cards : List ℕ
many_cards = 0 ∷ 1 ∷ 2 ∷ 3 ∷ 4 ∷ 5 ∷ 6 ∷ 7 ∷ 8 ∷ 9 ∷ 10 ∷ 11 ∷ 12 ∷ 13 ∷ 14 ∷ 15 ∷ 16 ∷ 17 ∷ 18 ∷ 19 ∷ 20 ∷ 21 ∷ 22 ∷ 23 ∷ 51 ∷ []

pub many_cards_dealt : AreDealt many_cards
unfolding IsDistinct
many_cards_dealt = record { least = lit≤ tt; most = lit≤ tt; deal = record { count = refl; cards_of_the_pack = search rules; distinct = search rules } }

-- no frame of one command is longer than this one
pub longest_of_one : length (frame (Accept first_ballot 0 (Deal 0 many_cards ∷ []))) ≡ MOST_SINGLE_FRAME
unfolding frame_of
longest_of_one = refl

pub longest_of_one_is_message : IsMessage (Accept first_ballot 0 (Deal 0 many_cards ∷ [])) × IsSingle (Accept first_ballot 0 (Deal 0 many_cards ∷ []))
longest_of_one_is_message = (record { numbers = (ballot_fits, record { least = lit≤ tt; most = lit≤ tt; slots = lit≤ tt; each = (lit< tt, tt) }); cards = (many_cards_dealt, tt) }, refl)

-- a promise may tell of one such deal, and is longer then
pub promise_of_one : length (frame (Promise first_ballot 0 (record { slot = 0; ballot = first_ballot; command = Deal 0 many_cards } ∷ []))) ≡ 56
unfolding frame_of
promise_of_one = refl

pub promise-not_single : IsSingle (Promise first_ballot 0 []) → ⊥
promise-not_single h = h

-- and no frame is longer than that of one that tells of such a deal at each of its 64 slots
abbrev pub deals_at : ℕ → ℕ → List Entry
deals_at zero slot = []
deals_at (suc count) slot = (record { slot = slot; ballot = first_ballot; command = Deal 0 many_cards }) ∷ deals_at count (slot + 1)

pub longest : length (frame (Promise first_ballot 0 (deals_at WINDOW 0))) ≡ MOST_FRAME
unfolding frame_of
longest = refl

pub call_may_go_on : MayGoOn (Act 0 0 Call)
call_may_go_on = tt

pub away_may_go_on : MayGoOn (Away 0 0)
away_may_go_on = tt

pub deal_may_go_on-none : MayGoOn (Deal 0 cards) → ⊥
deal_may_go_on-none h = h

abbrev pub entry_at_slot : ℕ → Entry
entry_at_slot slot = record { slot = slot; ballot = first_ballot; command = Act 0 0 Call }

pub rising : Rise 5 69 (entry_at_slot 5 ∷ entry_at_slot 68 ∷ [])
rising = (lit≤ tt, lit< tt, (lit≤ tt, lit< tt, tt))

pub below_the_slot-none : Rise 5 69 (entry_at_slot 4 ∷ []) → ⊥
below_the_slot-none h = let low = h.0 in absurd (omega arith)

pub past_the_window-none : Rise 5 69 (entry_at_slot 69 ∷ []) → ⊥
past_the_window-none h = let high = h.1 in absurd (omega arith)

pub not_rising-none : Rise 5 69 (entry_at_slot 6 ∷ entry_at_slot 6 ∷ []) → ⊥
not_rising-none h = let low = h.2.0 in absurd (omega arith)

-- two commands for the last two slots
pub last_two : IsCommandRun 3999998 (Act 0 0 Call ∷ Away 0 1 ∷ [])
last_two = record { least = lit≤ tt; most = lit≤ tt; slots = lit≤ tt; each = ((lit< tt, lit< tt, tt), ((lit< tt, lit< tt), tt)) }

pub past_the_last_slot-none : IsCommandRun 3999999 (Act 0 0 Call ∷ Away 0 1 ∷ []) → ⊥
past_the_last_slot-none run = let slots = run.slots in absurd (omega arith)

pub no_command-none : IsCommandRun 0 [] → ⊥
no_command-none run = let least = run.least in absurd (omega arith)

pub commands_65-none : IsCommandRun 0 (replicate 65 (Act 0 0 Call)) → ⊥
commands_65-none run = let most = run.most in absurd (omega arith)

pub index_256_inside-none : IsCommandRun 0 (Act 0 0 Call ∷ Away 0 256 ∷ []) → ⊥
index_256_inside-none run = let index = run.each.1.0.1 in absurd (omega arith)

pub promise_is_message : IsMessage (Promise (record { round = 2; node = 2 }) 0 (first_entry ∷ []))
promise_is_message = record {
  numbers = (
    record { first = lit≤ tt; last = lit< tt; node = lit< tt },
    lit< tt,
    record { most = lit≤ tt; each = (record { slot = lit< tt; ballot = ballot_fits; command = lit< tt }, tt); rise = (lit≤ tt, lit< tt, tt) },
  );
  cards = (cards_dealt, tt);
}

pub forwarded_deal-none : IsMessage (Forward (Deal 0 cards)) → ⊥
forwarded_deal-none m = m.numbers.0

-- ---- reading

pub ballot_read : ballot_at New (0 ∷ 0 ∷ 0 ∷ 1 ∷ 4 ∷ 9 ∷ []) ≡ Some (record { round = 1; node = 4 }, 9 ∷ [])
unfolding ballot_at
ballot_read = refl

pub old_ballot_read : ballot_at Old (0 ∷ 0 ∷ 0 ∷ 1 ∷ 4 ∷ 9 ∷ []) ≡ Some (record { round = 1; node = 4 }, 9 ∷ [])
unfolding ballot_at
old_ballot_read = refl

pub old_ballot_of_node_5 : ballot_at Old (0 ∷ 0 ∷ 0 ∷ 1 ∷ 5 ∷ []) ≡ None
unfolding ballot_at
old_ballot_of_node_5 = refl

pub ballot_of_node_5 : ballot_at New (0 ∷ 0 ∷ 0 ∷ 1 ∷ 5 ∷ []) ≡ Some (record { round = 1; node = 5 }, [])
unfolding ballot_at
ballot_of_node_5 = refl

pub ballot_of_the_last_node : ballot_at New (0 ∷ 0 ∷ 0 ∷ 1 ∷ 6 ∷ []) ≡ Some (record { round = 1; node = 6 }, [])
unfolding ballot_at
ballot_of_the_last_node = refl

pub ballot_of_node_7 : ballot_at New (0 ∷ 0 ∷ 0 ∷ 1 ∷ 7 ∷ []) ≡ None
unfolding ballot_at
ballot_of_node_7 = refl

pub short_ballot : ballot_at New (0 ∷ 0 ∷ 0 ∷ 1 ∷ []) ≡ None
unfolding ballot_at
short_ballot = refl

pub slot_read : below_at 4 4000000 (0 ∷ 61 ∷ 8 ∷ 255 ∷ []) ≡ Some (3999999, [])
unfolding below_at
slot_read = refl

pub slot_above : below_at 4 4000000 (0 ∷ 61 ∷ 9 ∷ 0 ∷ []) ≡ None
unfolding below_at
slot_above = refl

pub amount_with_a_fold : command_at (2 ∷ 0 ∷ 0 ∷ 0 ∷ 0 ∷ 0 ∷ 0 ∷ 0 ∷ 0 ∷ 0 ∷ 0 ∷ 1 ∷ []) ≡ None
unfolding command_at acted_at action_at action_of below_at
amount_with_a_fold = refl

pub call_read : command_at (2 ∷ 0 ∷ 0 ∷ 0 ∷ 0 ∷ 0 ∷ 0 ∷ 1 ∷ 0 ∷ 0 ∷ 0 ∷ 0 ∷ []) ≡ Some (Act 0 0 Call, [])
unfolding command_at acted_at action_at action_of below_at
call_read = refl

pub away_read : command_at (3 ∷ 0 ∷ 0 ∷ 0 ∷ 0 ∷ 0 ∷ 0 ∷ 9 ∷ []) ≡ Some (Away 0 0, 9 ∷ [])
unfolding command_at away_at below_at
away_read = refl

pub short_away : command_at (3 ∷ 0 ∷ 0 ∷ 0 ∷ 0 ∷ 0 ∷ []) ≡ None
unfolding command_at away_at below_at
short_away = refl

pub away_of_hand_10000 : command_at (3 ∷ 0 ∷ 0 ∷ 39 ∷ 16 ∷ 0 ∷ 0 ∷ []) ≡ None
unfolding command_at away_at below_at
away_of_hand_10000 = refl

pub away_of_index_256 : command_at (3 ∷ 0 ∷ 0 ∷ 0 ∷ 0 ∷ 1 ∷ 0 ∷ []) ≡ None
unfolding command_at away_at below_at
away_of_index_256 = refl

pub fourth_kind : command_at (4 ∷ 0 ∷ 0 ∷ 0 ∷ 0 ∷ 0 ∷ 0 ∷ []) ≡ None
unfolding command_at below_at
fourth_kind = refl

pub two_commands_read : commands_at 2 (2 ∷ 0 ∷ 0 ∷ 0 ∷ 0 ∷ 0 ∷ 0 ∷ 1 ∷ 0 ∷ 0 ∷ 0 ∷ 0 ∷ 3 ∷ 0 ∷ 0 ∷ 0 ∷ 0 ∷ 0 ∷ 1 ∷ 9 ∷ []) ≡ Some (Act 0 0 Call ∷ Away 0 1 ∷ [], 9 ∷ [])
unfolding commands_at command_at acted_at action_at action_of away_at below_at
two_commands_read = refl

pub second_command_missing : commands_at 2 (3 ∷ 0 ∷ 0 ∷ 0 ∷ 0 ∷ 0 ∷ 1 ∷ []) ≡ None
unfolding commands_at command_at away_at below_at
second_command_missing = refl

pub deal_read : command_at (1 ∷ 0 ∷ 0 ∷ 0 ∷ 0 ∷ 9 ∷ 33 ∷ 51 ∷ 26 ∷ 32 ∷ 0 ∷ 24 ∷ 6 ∷ 28 ∷ 46 ∷ []) ≡ Some (Deal 0 cards, [])
unfolding command_at dealt_at deal_at deal_of below_at
deal_read = refl

pub nine_and_an_even_count : (is_count 9 ≡ true) × (is_count 10 ≡ false) × (is_count 7 ≡ false) × (is_count 27 ≡ false)
nine_and_an_even_count = (refl, refl, refl, refl)

-- ---- faults

pub two_bytes : fault_of (0 ∷ 0 ∷ []) ≡ TooShort
unfolding header_fault
two_bytes = refl

pub length_of_one : fault_of (0 ∷ 0 ∷ 0 ∷ 1 ∷ 1 ∷ []) ≡ TooShort
unfolding header_fault
length_of_one = refl

pub length_4097 : fault_of (0 ∷ 0 ∷ 16 ∷ 1 ∷ []) ≡ TooLong
unfolding header_fault
length_4097 = refl

pub length_and_no_more : fault_of (0 ∷ 0 ∷ 0 ∷ 11 ∷ []) ≡ BadBody
unfolding header_fault
length_and_no_more = refl

pub version_3 : fault_of (0 ∷ 0 ∷ 0 ∷ 2 ∷ 3 ∷ 1 ∷ []) ≡ BadVersion
unfolding header_fault
version_3 = refl

pub version_0 : fault_of (0 ∷ 0 ∷ 0 ∷ 2 ∷ 0 ∷ 1 ∷ []) ≡ BadVersion
unfolding header_fault
version_0 = refl

-- the version comes before the kind
pub version_3_of_kind_9 : fault_of (0 ∷ 0 ∷ 0 ∷ 2 ∷ 3 ∷ 9 ∷ []) ≡ BadVersion
unfolding header_fault
version_3_of_kind_9 = refl

-- and the length before the version
pub version_3_of_one_byte : fault_of (0 ∷ 0 ∷ 0 ∷ 3 ∷ 3 ∷ 1 ∷ []) ≡ BadBody
unfolding header_fault
version_3_of_one_byte = refl

pub kind_9 : fault_of (0 ∷ 0 ∷ 0 ∷ 2 ∷ 2 ∷ 9 ∷ []) ≡ BadKind
unfolding header_fault
kind_9 = refl

pub old_kind_9 : fault_of (0 ∷ 0 ∷ 0 ∷ 2 ∷ 1 ∷ 9 ∷ []) ≡ BadKind
unfolding header_fault
old_kind_9 = refl

pub no_body : reading (0 ∷ 0 ∷ 0 ∷ 2 ∷ 2 ∷ 1 ∷ []) ≡ Err BadBody
unfolding reading header_fault body_of message_at of_ballot_at ballot_at
no_body = refl

pub no_old_body : reading (0 ∷ 0 ∷ 0 ∷ 2 ∷ 1 ∷ 1 ∷ []) ≡ Err BadBody
unfolding reading header_fault body_of message_at of_ballot_at ballot_at
no_old_body = refl

pub ask_read : reading (0 ∷ 0 ∷ 0 ∷ 6 ∷ 2 ∷ 7 ∷ 0 ∷ 0 ∷ 0 ∷ 1 ∷ []) ≡ Ok (Ask 1)
unfolding reading header_fault body_of message_at ask_at below_at
ask_read = refl

pub old_ask_read : reading (0 ∷ 0 ∷ 0 ∷ 6 ∷ 1 ∷ 7 ∷ 0 ∷ 0 ∷ 0 ∷ 1 ∷ []) ≡ Ok (Ask 1)
unfolding reading header_fault body_of message_at ask_at below_at
old_ask_read = refl

pub forward_of_an_away_read : reading (0 ∷ 0 ∷ 0 ∷ 9 ∷ 2 ∷ 8 ∷ 3 ∷ 0 ∷ 0 ∷ 0 ∷ 0 ∷ 0 ∷ 0 ∷ []) ≡ Ok (Forward (Away 0 0))
unfolding reading header_fault body_of message_at forward_at command_at away_at below_at
forward_of_an_away_read = refl

-- a byte more than its index
pub byte_behind_an_away : reading (0 ∷ 0 ∷ 0 ∷ 10 ∷ 2 ∷ 8 ∷ 3 ∷ 0 ∷ 0 ∷ 0 ∷ 0 ∷ 0 ∷ 0 ∷ 0 ∷ []) ≡ Err BadBody
unfolding reading header_fault body_of message_at forward_at command_at away_at below_at
byte_behind_an_away = refl

-- an Accept with the count of its commands, and one of the old version without it
pub accept_read : reading (0 ∷ 0 ∷ 0 ∷ 19 ∷ 2 ∷ 4 ∷ 0 ∷ 0 ∷ 0 ∷ 1 ∷ 0 ∷ 0 ∷ 0 ∷ 0 ∷ 1 ∷ 1 ∷ 3 ∷ 0 ∷ 0 ∷ 0 ∷ 0 ∷ 0 ∷ 0 ∷ []) ≡ Ok (Accept first_ballot 1 (Away 0 0 ∷ []))
unfolding reading header_fault body_of message_at of_ballot_at ballot_at accept_at proposed_at behind_count commands_at command_at away_at below_at
accept_read = refl

pub old_accept_read : reading (0 ∷ 0 ∷ 0 ∷ 18 ∷ 1 ∷ 4 ∷ 0 ∷ 0 ∷ 0 ∷ 1 ∷ 0 ∷ 0 ∷ 0 ∷ 0 ∷ 1 ∷ 3 ∷ 0 ∷ 0 ∷ 0 ∷ 0 ∷ 0 ∷ 0 ∷ []) ≡ Ok (Accept first_ballot 1 (Away 0 0 ∷ []))
unfolding reading header_fault body_of message_at of_ballot_at ballot_at accept_at proposed_at behind_count commands_at command_at away_at below_at
old_accept_read = refl

pub accept_without_its_count : reading (0 ∷ 0 ∷ 0 ∷ 18 ∷ 2 ∷ 4 ∷ 0 ∷ 0 ∷ 0 ∷ 1 ∷ 0 ∷ 0 ∷ 0 ∷ 0 ∷ 1 ∷ 3 ∷ 0 ∷ 0 ∷ 0 ∷ 0 ∷ 0 ∷ 0 ∷ []) ≡ Err BadBody
unfolding reading header_fault body_of message_at of_ballot_at ballot_at accept_at proposed_at behind_count commands_at command_at below_at
accept_without_its_count = refl

pub old_accept_with_a_count : reading (0 ∷ 0 ∷ 0 ∷ 19 ∷ 1 ∷ 4 ∷ 0 ∷ 0 ∷ 0 ∷ 1 ∷ 0 ∷ 0 ∷ 0 ∷ 0 ∷ 1 ∷ 1 ∷ 3 ∷ 0 ∷ 0 ∷ 0 ∷ 0 ∷ 0 ∷ 0 ∷ []) ≡ Err BadBody
unfolding reading header_fault body_of message_at of_ballot_at ballot_at accept_at proposed_at behind_count commands_at command_at dealt_at deal_at deal_of below_at
old_accept_with_a_count = refl

pub accept_of_no_command : reading (0 ∷ 0 ∷ 0 ∷ 12 ∷ 2 ∷ 4 ∷ 0 ∷ 0 ∷ 0 ∷ 1 ∷ 0 ∷ 0 ∷ 0 ∷ 0 ∷ 0 ∷ 0 ∷ []) ≡ Err BadBody
unfolding reading header_fault body_of message_at of_ballot_at ballot_at accept_at proposed_at behind_count below_at
accept_of_no_command = refl

-- ---- streams

pub needed_for_the_length : needed (0 ∷ 0 ∷ 16 ∷ []) ≡ 4
unfolding needed
needed_for_the_length = refl

pub needed_for_4096 : needed (0 ∷ 0 ∷ 16 ∷ 0 ∷ []) ≡ 4100
unfolding needed
needed_for_4096 = refl

pub needed_for_4097 : needed (0 ∷ 0 ∷ 16 ∷ 1 ∷ []) ≡ 4
unfolding needed
needed_for_4097 = refl

pub three_bytes_wait : IsPartial (0 ∷ 0 ∷ 16 ∷ [])
unfolding needed
three_bytes_wait = lit< tt

pub length_4097_waits-none : IsPartial (0 ∷ 0 ∷ 16 ∷ 1 ∷ []) → ⊥
unfolding needed
length_4097_waits-none h = absurd (omega arith)

pub ask_in_front : IsInFront (Ask 1) (0 ∷ 0 ∷ 0 ∷ 6 ∷ 2 ∷ 7 ∷ 0 ∷ 0 ∷ 0 ∷ 1 ∷ 7 ∷ []) (7 ∷ [])
unfolding frame_of
ask_in_front = record { text = 0 ∷ 0 ∷ 0 ∷ 6 ∷ 2 ∷ 7 ∷ 0 ∷ 0 ∷ 0 ∷ 1 ∷ []; is = inl refl; whole = refl }

pub old_ask_in_front : IsInFront (Ask 1) (0 ∷ 0 ∷ 0 ∷ 6 ∷ 1 ∷ 7 ∷ 0 ∷ 0 ∷ 0 ∷ 1 ∷ 7 ∷ []) (7 ∷ [])
unfolding frame_of
old_ask_in_front = record { text = 0 ∷ 0 ∷ 0 ∷ 6 ∷ 1 ∷ 7 ∷ 0 ∷ 0 ∷ 0 ∷ 1 ∷ []; is = inr ((tt, tt), refl); whole = refl }

-- the byte behind it belongs to the rest
pub byte_left_out-none : IsInFront (Ask 1) (0 ∷ 0 ∷ 0 ∷ 6 ∷ 2 ∷ 7 ∷ 0 ∷ 0 ∷ 0 ∷ 1 ∷ 7 ∷ []) [] → ⊥
unfolding reading header_fault body_of message_at ask_at below_at needed
byte_left_out-none there =
    let fits : IsMessage (Ask 1) = record { numbers = lit< tt; cards = tt } in
    let behind = (in_front (Ask 1) (0 ∷ 0 ∷ 0 ∷ 6 ∷ 2 ∷ 7 ∷ 0 ∷ 0 ∷ 0 ∷ 1 ∷ 7 ∷ []) [] fits there).behind in absurd cc

-- one message after the other, of the one version and the other
pub both_versions_in_a_stream : IsStreamOf (Ask 1 ∷ Ask 1 ∷ []) (7 ∷ []) (0 ∷ 0 ∷ 0 ∷ 6 ∷ 1 ∷ 7 ∷ 0 ∷ 0 ∷ 0 ∷ 1 ∷ 0 ∷ 0 ∷ 0 ∷ 6 ∷ 2 ∷ 7 ∷ 0 ∷ 0 ∷ 0 ∷ 1 ∷ 7 ∷ [])
unfolding frame_of
both_versions_in_a_stream = (
  0 ∷ 0 ∷ 0 ∷ 6 ∷ 2 ∷ 7 ∷ 0 ∷ 0 ∷ 0 ∷ 1 ∷ 7 ∷ [],
  record { text = 0 ∷ 0 ∷ 0 ∷ 6 ∷ 1 ∷ 7 ∷ 0 ∷ 0 ∷ 0 ∷ 1 ∷ []; is = inr ((tt, tt), refl); whole = refl },
  (7 ∷ [], ask_in_front, refl),
)

pub message_left_out-none : IsStreamOf [] (7 ∷ []) (0 ∷ 0 ∷ 0 ∷ 6 ∷ 2 ∷ 7 ∷ 0 ∷ 0 ∷ 0 ∷ 1 ∷ 7 ∷ []) → ⊥
message_left_out-none is = absurd cc

pub frame_splits : Splits (0 ∷ 0 ∷ 0 ∷ 6 ∷ 2 ∷ 7 ∷ 0 ∷ 0 ∷ 0 ∷ 1 ∷ 0 ∷ []) (Ask 1 ∷ []) None
unfolding frame_of needed
frame_splits = record {
  rest = 0 ∷ [];
  whole = (0 ∷ [], record { text = 0 ∷ 0 ∷ 0 ∷ 6 ∷ 2 ∷ 7 ∷ 0 ∷ 0 ∷ 0 ∷ 1 ∷ []; is = inl refl; whole = refl }, refl);
  each = (record { numbers = lit< tt; cards = tt }, tt);
  ends = lit< tt;
}

-- ---- printed lines

pub accept_line : message_line (Accept (record { round = 3; node = 1 }) 7 (Deal 0 cards ∷ [])) ≡ codes "Accept (3, 1) at 7: deal of hand 0"
unfolding digits
accept_line = refl

pub forward_line : message_line (Forward (Act 0 2 (Raise 300))) ≡ codes "Forward act 2 of hand 0: raise to 300"
unfolding digits
forward_line = refl

pub away_line : message_line (Forward (Away 0 2)) ≡ codes "Forward away at act 2 of hand 0"
unfolding digits
away_line = refl

pub promise_line : message_line (Promise (record { round = 2; node = 2 }) 0 (first_entry ∷ [])) ≡ codes "Promise (2, 2) from 0: 1 accepted"
unfolding digits
promise_line = refl

pub bad_kind_line : fault_line BadKind ≡ codes "53 BadKind"
bad_kind_line = refl

pub bad_body_code : fault_code BadBody ≡ 54
bad_body_code = refl

-- a length of 4097 is at fault before any further byte
pub length_4097_faulty : IsFaulty (0 ∷ 0 ∷ 16 ∷ 1 ∷ []) TooLong
unfolding needed reading header_fault
length_4097_faulty = record {
  there = lit≤ tt;
  none = λ m rest fits there. let is = (in_front m (0 ∷ 0 ∷ 16 ∷ 1 ∷ []) rest fits there).read in absurd cc;
  first = refl;
}

pub three_bytes_faulty-none : IsFaulty (0 ∷ 0 ∷ 16 ∷ []) TooShort → ⊥
unfolding needed
three_bytes_faulty-none faulty = let there = faulty.there in absurd (omega arith)

pub piece_taken : Takes (0 ∷ []) (0 ∷ 16 ∷ []) (0 ∷ 0 ∷ 16 ∷ [])
piece_taken = inl refl

pub piece_lost-none : Takes [] (7 ∷ []) [] → ⊥
unfolding needed
piece_lost-none (inl same) = absurd cc
piece_lost-none (inr faulty) = let there = faulty.1.there in absurd (omega arith)
