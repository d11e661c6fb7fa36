-- Answers counted and commands chosen, worked out.
use Rattle.std.proofs.Common.{◌≡◌, ℕ, inl, true, false, [], ◌∷◌, Some, None, Ok, Err, refl, lit<, lit≤}
use Rattle.betting.specs.declared.action.Action.TheVariants.{Fold, Call, Raise}
use Rattle.paxos_wire.specs.declared.ballot.Ballot.{Ballot}
use Rattle.slot_log.specs.declared.command.Command.{Command}
use Rattle.slot_log.specs.declared.command.Command.TheVariants.{Deal, Act, Away}
use Rattle.slot_log.specs.declared.slot_fault.SlotFault.TheVariants.{Conflict}
use Rattle.slot_log.specs.Slots.{front, known_at}
use Rattle.protocol_model.specs.Messages.{Accepted}
use Rattle.learner.specs.Same.{is_same}
use Rattle.learner.specs.Tallies.{is_of, nodes_for, with_node, is_completed}
use Rattle.learner.specs.Learning.{Learned, new_learned, is_open, hearing, answer_to, believing, answer_to_chosen}
use Rattle.learner.specs.Counted.{CountsFrom, CountsAll}

abbrev pub ballot : ℕ → ℕ → Ballot
ballot round node = record { round = round; node = node }

abbrev pub fold : Command
fold = Act 0 0 Fold

abbrev pub call : Command
call = Act 0 0 Call

-- ---- commands

pub same_deals : is_same (Deal 0 (3 ∷ 4 ∷ [])) (Deal 0 (3 ∷ 4 ∷ [])) ≡ true
unfolding is_same
same_deals = refl

pub other_card : is_same (Deal 0 (3 ∷ 4 ∷ [])) (Deal 0 (3 ∷ 5 ∷ [])) ≡ false
unfolding is_same
other_card = refl

pub more_cards : is_same (Deal 0 (3 ∷ 4 ∷ [])) (Deal 0 (3 ∷ [])) ≡ false
unfolding is_same
more_cards = refl

pub other_amount : is_same (Act 1 2 (Raise 20)) (Act 1 2 (Raise 21)) ≡ false
unfolding is_same
other_amount = refl

pub same_turn : is_same (Away 1 2) (Away 1 2) ≡ true
unfolding is_same
same_turn = refl

pub other_turn : is_same (Away 1 2) (Away 1 3) ≡ false
unfolding is_same
other_turn = refl

-- a player who is away isn't the same as an act, whichever it stands for
pub fold_for_another : is_same (Away 0 0) fold ≡ false
unfolding is_same
fold_for_another = refl

-- ---- nodes

-- node 1 answers again
pub counted_once : with_node (ballot 1 0) call 1 (with_node (ballot 1 0) call 1 []) ≡ with_node (ballot 1 0) call 1 []
unfolding is_of is_same
counted_once = refl

pub other_ballot_apart : nodes_for (ballot 1 0) call (with_node (ballot 1 2) call 1 (with_node (ballot 1 0) call 0 [])) ≡ true ∷ false ∷ false ∷ false ∷ false ∷ false ∷ false ∷ []
unfolding is_of is_same
other_ballot_apart = refl

pub other_command_apart : nodes_for (ballot 1 0) call (with_node (ballot 1 0) fold 1 (with_node (ballot 1 0) call 0 [])) ≡ true ∷ false ∷ false ∷ false ∷ false ∷ false ∷ false ∷ []
unfolding is_of is_same
other_command_apart = refl

pub second_completes : is_completed 3 (true ∷ false ∷ false ∷ false ∷ false ∷ false ∷ false ∷ []) 2 ≡ true
second_completes = refl

pub third_completes_not : is_completed 3 (true ∷ false ∷ true ∷ false ∷ false ∷ false ∷ false ∷ []) 1 ≡ false
third_completes_not = refl

pub again_completes_not : is_completed 3 (true ∷ false ∷ false ∷ false ∷ false ∷ false ∷ false ∷ []) 0 ≡ false
again_completes_not = refl

-- ---- a learner of three nodes

abbrev pub new : Learned
new = new_learned 3

pub last_open_slot : is_open new.log 63 ≡ true
last_open_slot = refl

pub past_the_window : is_open new.log 64 ≡ false
past_the_window = refl

abbrev pub one : Learned
one = hearing new 1 (ballot 1 0) 0 call

pub one_answer_tells_nothing : answer_to new 1 (ballot 1 0) 0 call ≡ Ok None
unfolding is_of is_same
one_answer_tells_nothing = refl

pub nor_does_it_again : answer_to one 1 (ballot 1 0) 0 call ≡ Ok None
unfolding is_of is_same
nor_does_it_again = refl

pub nor_one_in_another_ballot : answer_to one 2 (ballot 2 1) 0 call ≡ Ok None
unfolding is_of is_same
nor_one_in_another_ballot = refl

pub two_answers_tell : answer_to one 2 (ballot 1 0) 0 call ≡ Ok (Some (record { slot = 0; command = call }))
unfolding is_of is_same
two_answers_tell = refl

abbrev pub two : Learned
two = hearing one 2 (ballot 1 0) 0 call

pub front_goes_on : front two.log ≡ 1
unfolding is_of is_same
front_goes_on = refl

pub known_there : known_at two.log 0 ≡ Some call
unfolding is_of is_same
known_there = refl

-- node 1's answer for slot 0 isn't one for slot 64, whose cell is the same
pub opened : is_open two.log 64 ≡ true
unfolding is_of is_same
opened = refl

pub nothing_of_slot_64 : answer_to two 0 (ballot 1 0) 64 call ≡ Ok None
unfolding is_of is_same
nothing_of_slot_64 = refl

-- what isn't open is passed over
pub passed_over : hearing new 1 (ballot 1 0) 64 call ≡ new
passed_over = refl

pub below_the_front : answer_to two 0 (ballot 1 0) 0 fold ≡ Ok None
unfolding is_of is_same
below_the_front = refl

-- ---- another command is known

abbrev pub told : Learned
told = believing new 2 fold

pub told_is_known : known_at told.log 2 ≡ Some fold
told_is_known = refl

pub told_again : answer_to_chosen told.log 2 fold ≡ Ok tt
unfolding is_same
told_again = refl

pub told_another : answer_to_chosen told.log 2 call ≡ Err Conflict
unfolding is_same
told_another = refl

pub quorum_of_another : answer_to (hearing told 0 (ballot 1 1) 2 call) 1 (ballot 1 1) 2 call ≡ Err Conflict
unfolding is_of is_same
quorum_of_another = refl

-- ---- what counts say of messages

-- node 1's answer was never sent
pub counted_never_came : CountsFrom [] one → ⊥
unfolding is_of is_same
counted_never_came h =
    h 0 (record { ballot = ballot 1 0; command = call; nodes = false ∷ true ∷ false ∷ false ∷ false ∷ false ∷ false ∷ [] })
    (record { reached = lit≤ tt; within = lit< tt; is_slot = lit< tt }) (inl refl) 1 refl

-- node 2's answer came and is left out
pub left_out : CountsAll (Accepted 2 (ballot 1 0) 0 call ∷ []) one → ⊥
unfolding is_of is_same
left_out h = let wrong : false ≡ true = h.counted 2 (ballot 1 0) 0 call (lit< tt) (record { reached = lit≤ tt; within = lit< tt; is_slot = lit< tt }) (inl refl) in absurd (cc)
