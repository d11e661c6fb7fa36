-- Answers for command runs, worked out.
use Rattle.std.proofs.Common.{◌≡◌, true, false, [], ◌∷◌, Ok, Err, refl, replicate}
use Rattle.slot_log.specs.declared.slot_fault.SlotFault.TheVariants.{Conflict}
use Rattle.slot_log.specs.Slots.{front}
use Rattle.protocol_model.specs.Messages.{Accepted}
use Rattle.learner.specs.Same.{is_same}
use Rattle.learner.specs.Tallies.{is_of}
use Rattle.learner.specs.Learning.{Learned, hearing}
use Rattle.learner.specs.CommandRuns.{hearing_each, chosen_each, is_refused, hearing_run, answer_to_run}
use Rattle.learner.specs.CommandRunLaws.{open_answers}
use Rattle.learner.proofs.Examples.{ballot, fold, call, new, two, told}

-- ---- two of three nodes answer for slots 0 and 1

abbrev asked : Learned
asked = hearing_run new 1 (ballot 1 0) 0 (call ∷ fold ∷ [])

pub first_node_tells_nothing : answer_to_run new 1 (ballot 1 0) 0 (call ∷ fold ∷ []) ≡ Ok (replicate 64 false)
unfolding is_refused hearing_each chosen_each is_of is_same
first_node_tells_nothing = refl

pub second_node_tells_both : answer_to_run asked 2 (ballot 1 0) 0 (call ∷ fold ∷ []) ≡ Ok (true ∷ true ∷ replicate 62 false)
unfolding is_refused hearing_each chosen_each is_of is_same
second_node_tells_both = refl

pub both_are_passed : front (hearing_run asked 2 (ballot 1 0) 0 (call ∷ fold ∷ [])).log ≡ 2
unfolding is_refused hearing_each is_of is_same
both_are_passed = refl

-- only the second is answered alike
pub second_slot_alone : answer_to_run asked 2 (ballot 1 0) 0 (fold ∷ fold ∷ []) ≡ Ok (false ∷ true ∷ replicate 62 false)
unfolding is_refused hearing_each chosen_each is_of is_same
second_slot_alone = refl

-- ---- slots that aren't open are passed over

-- slot 0 is below the front
pub below_the_front : hearing_run two 0 (ballot 1 0) 0 (fold ∷ call ∷ []) ≡ hearing two 0 (ballot 1 0) 1 call
unfolding is_refused hearing_each is_of is_same
below_the_front = refl

-- slot 64 is the 65th from the front on
pub past_the_window : hearing_run new 1 (ballot 1 0) 63 (call ∷ call ∷ []) ≡ hearing new 1 (ballot 1 0) 63 call
unfolding is_refused hearing_each is_of is_same
past_the_window = refl

pub open_ones : open_answers two.log 0 (ballot 1 0) 0 (fold ∷ call ∷ []) ≡ Accepted 0 (ballot 1 0) 1 call ∷ []
unfolding is_of is_same
open_ones = refl

-- ---- another command is known at the second slot, 2

abbrev doubted : Learned
doubted = hearing_run told 0 (ballot 1 1) 1 (call ∷ call ∷ [])

pub refused_at_the_second : answer_to_run doubted 1 (ballot 1 1) 1 (call ∷ call ∷ []) ≡ Err Conflict
unfolding is_refused hearing_each is_of is_same
refused_at_the_second = refl

-- nor is the first one counted
pub nothing_changes : hearing_run doubted 1 (ballot 1 1) 1 (call ∷ call ∷ []) ≡ doubted
unfolding is_refused hearing_each is_of is_same
nothing_changes = refl
